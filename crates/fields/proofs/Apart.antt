-- A field is written in one way only.

use Rattle.std.proofs.Common.{◌≡◌, ℕ, zero, suc, ◌<◌, ◌≤◌, List, Option, Some, None, MatchOption, MatchResult, ℤ, pos, negsuc, decimal, sym, ◌∙◌, arith}
use Rattle.std.specs.Fmt.{signed_decimal}
use Rattle.std.proofs.lemmas.Fmt.{decimal_injective}
use Rattle.std.specs.Option.{ok_or}
use Rattle.std.proofs.lemmas.List.{append_cancel_left}
use Rattle.lines.specs.Lines.{Free}
use Rattle.lines.proofs.Cuts.{cut-one}
use Rattle.numerals.specs.Numbers.{Small, SmallSigned, Graphic}
use Rattle.numerals.proofs.Decimals.{numeral-decimal}
use Rattle.words.specs.declared.literals.Literal.{Literal}
use Rattle.words.specs.declared.literals.Literal.TheVariants.{Fixnum, Character, Null}
use Rattle.literals.specs.Literals.{literal_text, SmallLiteral}
use Rattle.literals.specs.Spelling.{SpellingLaws}
use Rattle.fields.specs.Fields.{field_text}

-- What is known of an option, of the result that it is turned to.
pub MatchResult-from_option : {T E : Type 0} (o : Option T) (e : E) (N : Type 0) (Y : T → Type 0) → MatchOption o N Y → MatchResult (ok_or o e) Y (λ _. N)
MatchResult-from_option None e N Y h = h
MatchResult-from_option (Some x) e N Y h = h

-- Neither a space nor byte 10 stands in a number.
pub decimal-free : (b n : ℕ) → b < 45 → Small n → Free b (decimal n)
decimal-free b n h s i l e = omega (arith, (numeral-decimal n s).digits i l)

pub signed-free : (b : ℕ) (z : ℤ) → b < 45 → SmallSigned z → Free b (signed_decimal z)
signed-free b (pos n) h s i l e = decimal-free b n h s i l e
signed-free b (negsuc n) h s zero l e = omega arith
signed-free b (negsuc n) h s (suc i) l e = decimal-free b (suc n) h s i (omega arith) e

-- Neither a space nor byte 10 stands in a value.
pub literal-free : (b : ℕ) (v : Literal) → b < 45 → SmallLiteral v → Free b (literal_text v)
literal-free b (Fixnum z) h s zero l e = omega arith
literal-free b (Fixnum z) h s (suc i) l e = signed-free b z h s i (omega arith) e
literal-free b (Character n) h s zero l e = omega arith
literal-free b (Character n) h s (suc i) l e = decimal-free b n h s i (omega arith) e
literal-free b Null h s zero l e = omega arith
literal-free b Null h s (suc i) l e = omega arith

-- Neither a space nor byte 10 stands in a text that prints.
pub free-from-graphic : (b : ℕ) (s : List ℕ) → b ≤ 32 → Graphic s → Free b s
free-from-graphic b s l g i h e = omega (arith, g i h)

pub field-one : (key s v w : List ℕ) (end : ℕ) (r t : List ℕ) → Free end v → Free end w → s ≡ field_text key v end r → s ≡ field_text key w end t → (v ≡ w) × (r ≡ t)
field-one key s v w end r t f g d e =
    let u = append_cancel_left key _ _ (sym d ∙ e) in cut-one end v w r t f g (cc)

pub number-one : (key s : List ℕ) (m n : ℕ) (end : ℕ) (r t : List ℕ) → end < 45 → Small m → Small n → s ≡ field_text key (decimal m) end r → s ≡ field_text key (decimal n) end t → (m ≡ n) × (r ≡ t)
number-one key s m n end r t h a b d e =
    let p = field-one key s (decimal m) (decimal n) end r t (decimal-free end m h a) (decimal-free end n h b) d e in
    (decimal_injective m n (omega arith) (omega arith) p.0, p.1)

-- Where what follows a number is not written so, the whole is not.
pub number-then : {X : Type 0} (written : X → List ℕ) (fits : X → Type 0) (key s rest : List ℕ) (m : ℕ) →
    s ≡ field_text key (decimal m) 32 rest → Small m → ((x : X) → rest ≡ written x → fits x → ⊥) →
    (n : ℕ) (x : X) → s ≡ field_text key (decimal n) 32 (written x) → Small n → fits x → ⊥
number-then written fits key s rest m d a none n x e b f =
    none x (number-one key s m n 32 rest (written x) (omega arith) a b d e).1 f

module _ {V : Type 0} {spelling : V → List ℕ} {fits : V → Type 0} (laws : SpellingLaws spelling fits) where
  -- Neither stands in the spelling of a value.
  pub spelling-free : (b : ℕ) (v : V) → b ≤ 32 → fits v → Free b (spelling v)
  spelling-free b v l h = free-from-graphic b (spelling v) l (laws.graphic v h)

  pub value-one : (key s : List ℕ) (v w : V) (end : ℕ) (r t : List ℕ) → end ≤ 32 → fits v → fits w → s ≡ field_text key (spelling v) end r → s ≡ field_text key (spelling w) end t → (v ≡ w) × (r ≡ t)
  value-one key s v w end r t l h k d e =
      let p = field-one key s (spelling v) (spelling w) end r t (spelling-free end v l h) (spelling-free end w l k) d e in
      (laws.one v w h k p.0, p.1)

  -- Where what follows a value is not written so, the whole is not.
  pub value-then : {X : Type 0} (written : X → List ℕ) (small : X → Type 0) (key s rest : List ℕ) (v : V) →
      s ≡ field_text key (spelling v) 32 rest → fits v → ((x : X) → rest ≡ written x → small x → ⊥) →
      (w : V) (x : X) → s ≡ field_text key (spelling w) 32 (written x) → fits w → small x → ⊥
  value-then written small key s rest v d h none w x e k f =
      none x (value-one key s v w 32 rest (written x) (omega arith) h k d e).1 f
