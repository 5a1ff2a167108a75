-- Literals and their words undo each other.
use Rattle.std.proofs.Common.{◌≡◌, ℕ, ◌/◌, ◌%◌, ◌<◌, true, false, eqb, ltb, Some, None, refl, ap, inl, inr, arith}
use Rattle.std.proofs.lemmas.Bool.Decides.{nat_tests, eqb_tells}
use Rattle.words.specs.Words.{type_of, count_of, signed, data_of, fixnum_word, character_word, null_word}
use Rattle.words.specs.declared.literals.Literal.{Literal}
use Rattle.words.specs.declared.literals.Literal.TheVariants.{Fixnum, Character, Null}
use Rattle.words.specs.Literals.{literal_range, literal_word, word_of, literal_of}
use Rattle.words.proofs.Coding.{data-fits, signed-data, signed_range, data-signed}

-- The word of a literal stands for that literal.
pub literal-of-word : (l : Literal) → literal_range l ≡ true → literal_of (literal_word l) ≡ Some l
literal-of-word (Fixnum z) h =
    let f = data-fits z h in
    let t : type_of (fixnum_word (data_of z)) ≡ 1 = omega arith in
    let e : count_of (fixnum_word (data_of z)) ≡ data_of z = omega arith in
    rw (t, e) (ap (λ x. Some (Fixnum x)) (signed-data z h))
literal-of-word (Character c) h =
    let f : c < 256 = grind (arith, nat_tests) in
    let t : eqb (type_of (character_word c)) 1 ≡ false = grind (arith, nat_tests) in
    let q : character_word c / 256 ≡ 65536 = omega arith in
    let e : character_word c % 256 ≡ c = omega arith in
    rw (t, q, e) refl
literal-of-word Null h = refl

-- A fixnum word is the word of the number that its data stand for.
fixnum-back : (w : ℕ) → type_of w ≡ 1 → word_of (Fixnum (signed (count_of w))) ≡ Some w
fixnum-back w h =
    let l : count_of w < 268435456 = omega arith in
    let e : fixnum_word (count_of w) ≡ w = omega arith in
    rw (signed_range (count_of w) l, data-signed (count_of w) l, e) refl

-- A word that stands for a literal is that literal's word.
pub word-of-literal : (w : ℕ) (l : Literal) → literal_of w ≡ Some l → word_of l ≡ Some w
word-of-literal w l h = elim (eqb_tells (type_of w) 1) [
  | inl t ↦ let e : Fixnum (signed (count_of w)) ≡ l = some_same (rw t.0 at h) in rw (← e) (fixnum-back w t.1)
  | inr t ↦ elim (eqb_tells (w / 256) 65536) [
    | inl u ↦ let e : Character (w % 256) ≡ l = some_same (rw (t.0, u.0) at h) in
        let v : character_word (w % 256) ≡ w = omega (arith, u.1) in
        let f : ltb (w % 256) 256 ≡ true = grind (arith, nat_tests) in rw (← e, f, v) refl
    | inr u ↦ elim (eqb_tells w null_word) [
      | inl v ↦ let e : Null ≡ l = some_same (rw (t.0, u.0, v.0) at h) in rw (← e, v.1) refl
      | inr v ↦ let e : None ≡ Some l = rw (t.0, u.0, v.0) at h in absurd (none-some e)
    ]
  ]
]
  where
    some_same : {x y : Literal} → Some x ≡ Some y → x ≡ y
    some_same e = cc

    none-some : {x : Literal} → None ≡ Some x → ⊥
    none-some e = let z : ◌≡◌ {A = ℕ} 0 1 = cc in omega arith
