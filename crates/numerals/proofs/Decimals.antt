-- Which bytes are the decimal digits of a number.

use Rattle.std.proofs.Common.{◌≡◌, ℕ, suc, ◌+◌, ◌-◌, ◌*◌, ◌^◌, ◌<◌, ◌≤◌, List, length, get_or, take, drop, ℤ, pos, negsuc, zero, decimal, fold, sym, refl, ap, ◌∙◌, ⊎_elim, arith, rules}
use lib.Signed.{mag}
use Rattle.std.specs.Int.{IsInRange}
use Rattle.std.specs.Fmt.{signed_decimal}
use Rattle.std.proofs.lemmas.Fmt.{digits_decimal, decimal-digits_value, decimal_nonempty, decimal_digit, first_decimal, length-decimal-le, decimal_injective, signed_decimal_injective}
use Rattle.std.proofs.lemmas.Str.Parse.{IsNumeralModel, numerals_by_fold, tells_by_index, digits_value_short}
use Rattle.std.proofs.lemmas.List.{take_rest}
use Rattle.std.proofs.lemmas.Slice.{first_rest}
use Rattle.std.proofs.lemmas.Bool.{cases_lt}
use Rattle.numerals.specs.Numbers.{Small, SmallSigned, Graphic}

-- Every byte is a digit.
abbrev pub AllDigits : List ℕ → Type 0
AllDigits s = (i : ℕ) → i < length s → IsInRange 48 57 (get_or s i 0)

-- The number that digits stand for, after the number read so far.
abbrev pub read_on : ℕ → List ℕ → ℕ
read_on n s = fold (λ m d. m * 10 + (d - 48)) n s

pub own : IsNumeralModel AllDigits (read_on 0)
own = numerals_by_fold AllDigits tells_by_index read_on (search rules)

-- Digits, one to nine of them, the first of several not 0.
pub record Numeral (s : List ℕ) : Type 0 where
  pub some : 0 < length s
  pub short : length s ≤ 9
  pub digits : AllDigits s
  pub plain : 1 < length s → get_or s 0 0 ≡ 48 → ⊥

pub numeral-small : (s : List ℕ) → Numeral s → read_on 0 s < 10 ^ 9
numeral-small s h = digits_value_short own s 9 h.digits h.short

pub decimal-from-numeral : (s : List ℕ) → Numeral s → s ≡ decimal (read_on 0 s)
decimal-from-numeral s h =
    let l = numeral-small s h in
    let one : get_or s 0 0 ≡ 48 → length s ≡ 1 =
    λ e. ⊎_elim (λ (m : 1 < length s). absurd (h.plain m e)) (λ (m : length s ≤ 1). omega (arith, h.some)) (cases_lt 1 (length s)) in
    sym (decimal-digits_value own s h.digits h.some one (omega arith))

decimal-plain : (n : ℕ) → Small n → 1 < length (decimal n) → get_or (decimal n) 0 0 ≡ 48 → ⊥
decimal-plain n h l e =
    ⊎_elim (λ (m : 0 < n). omega (arith, first_decimal n m (omega arith)))
    (λ (m : n ≤ 0). omega (arith, ap length (decimal_digit n (omega arith)))) (cases_lt 0 n)

pub numeral-decimal : (n : ℕ) → Small n → Numeral (decimal n)
numeral-decimal n h =
    record {
      some = decimal_nonempty n (omega arith);
      short = length-decimal-le 9 n (omega arith) h (omega arith);
      digits = digits_decimal own n (omega arith);
      plain = decimal-plain n h;
    }

pub numeral-from-decimal : (s : List ℕ) (n : ℕ) → s ≡ decimal n → Small n → Numeral s
numeral-from-decimal s n e h = rw e (numeral-decimal n h)

-- A signed number that begins with a minus is negative, and its digits follow.
pub signed-minus : (s : List ℕ) (z : ℤ) → s ≡ signed_decimal z → SmallSigned z → get_or s 0 0 ≡ 45 →
    (n : ℕ) × (z ≡ negsuc n) × (take (length s - 1) (drop 1 s) ≡ decimal (suc n)) × Small (suc n)
signed-minus s (pos n) e h m = let d = numeral-from-decimal s n e h in let z : ⊥ = omega (arith, d.digits 0 d.some) in absurd z
signed-minus s (negsuc n) e h m = (n, refl, take_rest s 1 ∙ ap (drop 1) e, h)

pub minus-decimal : (s : List ℕ) (n : ℕ) → 0 < length s → get_or s 0 0 ≡ 45 → take (length s - 1) (drop 1 s) ≡ decimal (suc n) → s ≡ signed_decimal (negsuc n)
minus-decimal s n h m e = first_rest s 0 h ∙ cc

pub signed-some : (s : List ℕ) (z : ℤ) → s ≡ signed_decimal z → SmallSigned z → 0 < length s
signed-some s (pos n) e h = (numeral-from-decimal s n e h).some
signed-some s (negsuc n) e h = omega (arith, ap length e)

pub decimal-graphic : (n : ℕ) → Small n → Graphic (decimal n)
decimal-graphic n h i l = omega (arith, (numeral-decimal n h).digits i l)

pub signed-graphic : (z : ℤ) → SmallSigned z → Graphic (signed_decimal z)
signed-graphic (pos n) h i l = decimal-graphic n h i l
signed-graphic (negsuc n) h zero l = omega arith
signed-graphic (negsuc n) h (suc i) l = decimal-graphic (suc n) h i (omega arith)

signed-bound : (z : ℤ) → SmallSigned z → mag z < 2 ^ 63
signed-bound (pos n) h = omega arith
signed-bound (negsuc n) h = omega arith

-- No two numbers are spelled alike.
pub decimal-one : (m n : ℕ) → Small m → Small n → decimal m ≡ decimal n → m ≡ n
decimal-one m n h k e = decimal_injective m n (omega arith) (omega arith) e

pub signed-one : (y z : ℤ) → SmallSigned y → SmallSigned z → signed_decimal y ≡ signed_decimal z → y ≡ z
signed-one y z h k e = signed_decimal_injective y z (signed-bound y h) (signed-bound z k) e
