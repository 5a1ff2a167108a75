-- A text spells one line only.

use Rattle.std.proofs.Common.{◌≡◌, ℕ, ◌<◌, ◌≤◌, List, [], ◌∷◌, length, get_or, codes, decimal, sym, refl, ap, ◌∙◌, arith}
use Prim.Native.String.{String}
use Rattle.std.specs.List.{AllByRecursion}
use Rattle.words.specs.declared.literals.Literal.{Literal}
use Rattle.words.specs.declared.literals.Literal.TheVariants.{Fixnum, Character, Null}
use Rattle.fields.specs.Fields.{field_text}
use Rattle.fields.proofs.Apart.{decimal-free, literal-free, free-from-graphic, field-one}
use Rattle.lines.specs.Lines.{Free}
use Rattle.numerals.specs.Numbers.{Small}
use Rattle.numerals.proofs.Decimals.{numeral-decimal, decimal-one}
use Rattle.literals.specs.Literals.{literal_text}
use Rattle.operations.specs.Names.{name_of}
use Rattle.operations.specs.declared.Op.{Op}
use Rattle.parttext.specs.Grammar.{Value, number, literal, value_text, SmallValue, form_of, fields_text, line_text, Spells}
use Rattle.parttext.specs.declared.Line.{Line}
use Rattle.parttext.proofs.Forms.{Fields, build, build-form, keys, keys-same}
use Rattle.operations.specs.Laws.{name-one, name_graphic}
use Rattle.literals.specs.Laws.{literal-one}

-- A value of the store begins with a letter, and a number does not.
apart : (n : ℕ) (v : Literal) → Small n → decimal n ≡ literal_text v → ⊥
apart n v h e =
    let m = numeral-decimal n h in
    let d = m.digits 0 m.some in
    let f = ap (λ (u : List ℕ). get_or u 0 0) e in
    let letter : 97 ≤ get_or (literal_text v) 0 0 =
    elim v as (λ (w : Literal). 97 ≤ get_or (literal_text w) 0 0) [ Fixnum z ↦ omega arith | Character k ↦ omega arith | Null ↦ omega arith ] in
    omega arith

value-one : (v w : Value) → SmallValue v → SmallValue w → value_text v ≡ value_text w → v ≡ w
value-one (number m) (number n) h k e = ap number (decimal-one m n h k e)
value-one (number m) (literal w) h k e = absurd (apart m w h e)
value-one (literal v) (number n) h k e = absurd (apart n v k (sym e))
value-one (literal v) (literal w) h k e = ap literal (literal-one v w h k e)

value-free : (b : ℕ) (v : Value) → b < 45 → SmallValue v → Free b (value_text v)
value-free b (number n) h s = decimal-free b n h s
value-free b (literal v) h s = literal-free b v h s

-- One field after another, the same keys and the same text give the same values.
head-one : (end : ℕ) (f g : String × Value) (r t : List ℕ) → end < 45 → f.0 ≡ g.0 → SmallValue f.1 → SmallValue g.1 →
    field_text (codes f.0) (value_text f.1) end r ≡ field_text (codes g.0) (value_text g.1) end t → (f ≡ g) × (r ≡ t)
head-one end f g r t l k h j e =
    let e' = e ∙ ap (λ (s : String). field_text (codes s) (value_text g.1) end t) (sym k) in
    let p = field-one (codes f.0) (field_text (codes f.0) (value_text f.1) end r) (value_text f.1) (value_text g.1) end r t
    (value-free end f.1 l h) (value-free end g.1 l j) refl e' in
    let v = value-one f.1 g.1 h j p.0 in
    (λ i. (k i, v i), p.1)

fields-one : (fs gs : Fields) → keys fs ≡ keys gs → AllByRecursion (λ (f : String × Value). SmallValue f.1) fs → AllByRecursion (λ (f : String × Value). SmallValue f.1) gs →
    fields_text fs ≡ fields_text gs → fs ≡ gs
fields-one [] [] k h j e = refl
fields-one [] (g ∷ gs) k h j e = let z : ⊥ = omega (arith, ap length k) in absurd z
fields-one (f ∷ fs) [] k h j e = let z : ⊥ = omega (arith, ap length k) in absurd z
fields-one (f ∷ []) (g ∷ []) k h j e = let p = head-one 10 f g [] [] (omega arith) (cc) h.0 j.0 e in ap (λ (x : String × Value). x ∷ []) p.0
fields-one (f ∷ []) (g ∷ (g₂ ∷ gs)) k h j e = let z : ⊥ = omega (arith, ap length k) in absurd z
fields-one (f ∷ (f₂ ∷ fs)) (g ∷ []) k h j e = let z : ⊥ = omega (arith, ap length k) in absurd z
fields-one (f ∷ (f₂ ∷ fs)) (g ∷ (g₂ ∷ gs)) k h j e =
    let p = head-one 32 f g (fields_text (f₂ ∷ fs)) (fields_text (g₂ ∷ gs)) (omega arith) (cc) h.0 j.0 e in
    let q = fields-one (f₂ ∷ fs) (g₂ ∷ gs) (cc) h.1 j.1 p.1 in
    λ i. p.0 i ∷ q i

pub name_free : (o : Op) → Free 32 (name_of o)
name_free o = free-from-graphic 32 (name_of o) (omega arith) (name_graphic o)

-- Two lines that a text spells are one.
pub spells_one : (s : List ℕ) (c d : Line) → Spells c s → Spells d s → c ≡ d
unfolding line_text
spells_one s c d h k =
    let p = field-one (codes "op") s (name_of (form_of c).0) (name_of (form_of d).0) 32 _ _ (name_free (form_of c).0) (name_free (form_of d).0) h.0 k.0 in
    let o = name-one (form_of c).0 (form_of d).0 p.0 in
    let f = fields-one (form_of c).1 (form_of d).1 (keys-same c d o) h.1 k.1 p.1 in
    build-form c ∙ (λ i. build (o i) (f i)) ∙ sym (build-form d)
