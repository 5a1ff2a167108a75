-- Lines by their operation and the fields that follow it.

use Rattle.std.proofs.Common.{◌≡◌, ℕ, Result, get_or, sym, refl, ap, ◌∙◌, subst}
use Rattle.std.specs.Result.{IsErr}
use Rattle.std.proofs.lemmas.Result.{MatchResult-from_err}
use Prim.Native.String as text
use mathlib.Core.List as lists
use Rattle.words.specs.declared.literals.Literal.{Literal}
use Rattle.words.specs.declared.literals.Literal.TheVariants.{Null}
use Rattle.numerals.specs.Numbers.{Parses}
use Rattle.numerals.specs.declared.NoForm.{NoForm}
use Rattle.parttext.specs.Grammar.{Value, number, literal, form_of, fields_text, SmallLine}
use Rattle.parttext.specs.declared.Line.{Line}
use Rattle.parttext.specs.declared.Line.TheVariants as line
use Rattle.operations.specs.declared.Op.{Op}
use Rattle.operations.specs.declared.Op.TheVariants.{Put, List, Symbol, Vector, String, Words, Read, Write}

-- The fields of a line.
abbrev pub Fields : Type 0
Fields = lists.List (text.String × Value)

-- The number that a field's value is.
abbrev to_number : Value → ℕ
to_number (number n) = n
to_number (literal v) = 0

-- The value of the store that a field's value is.
abbrev to_literal : Value → Literal
to_literal (number n) = Null
to_literal (literal v) = v

-- The number in the field at k.
abbrev pub number_at : Fields → ℕ → ℕ
number_at fs k = to_number (get_or fs k ("", number 0)).1

-- The value of the store in the field at k.
abbrev pub literal_at : Fields → ℕ → Literal
literal_at fs k = to_literal (get_or fs k ("", number 0)).1

-- The line of an operation whose fields have these values.
abbrev pub build : Op → Fields → Line
build Put fs = line.Put (number_at fs 0) (literal_at fs 1)
build List fs = line.List (number_at fs 0) (number_at fs 1) (number_at fs 2)
build Symbol fs = line.Symbol (number_at fs 0) (number_at fs 1)
build Vector fs = line.Vector (number_at fs 0) (number_at fs 1) (number_at fs 2)
build String fs = line.String (number_at fs 0) (number_at fs 1)
build Words fs = line.Words (number_at fs 0) (number_at fs 1) (number_at fs 2)
build Read fs = line.Read (number_at fs 0) (number_at fs 1) (number_at fs 2)
build Write fs = line.Write (number_at fs 0) (number_at fs 1) (number_at fs 2)

-- A line is told by its operation and its fields.
pub build-form : (l : Line) → l ≡ build (form_of l).0 (form_of l).1
build-form (line.Put to value) = refl
build-form (line.List to car cdr) = refl
build-form (line.Symbol to name) = refl
build-form (line.Vector to count fill) = refl
build-form (line.String to count) = refl
build-form (line.Words to count access) = refl
build-form (line.Read to from at) = refl
build-form (line.Write into at value) = refl

-- The keys of fields.
abbrev pub keys : Fields → lists.List text.String
keys fs = lists.map (λ (f : text.String × Value). f.0) fs

-- Lines of one operation have the same keys.
keys-build : (o : Op) (fs gs : Fields) → keys (form_of (build o fs)).1 ≡ keys (form_of (build o gs)).1
keys-build Put fs gs = refl
keys-build List fs gs = refl
keys-build Symbol fs gs = refl
keys-build Vector fs gs = refl
keys-build String fs gs = refl
keys-build Words fs gs = refl
keys-build Read fs gs = refl
keys-build Write fs gs = refl

build-at : (o : Op) (l : Line) → (form_of l).0 ≡ o → l ≡ build o (form_of l).1
build-at o l e = subst (λ (q : Op). l ≡ build q (form_of l).1) e (build-form l)

pub keys-same : (c d : Line) → (form_of c).0 ≡ (form_of d).0 → keys (form_of c).1 ≡ keys (form_of d).1
keys-same c d e =
    let p = ap (λ (l : Line). keys (form_of l).1) (build-at (form_of d).0 c e) in
    let q = ap (λ (l : Line). keys (form_of l).1) (build-at (form_of d).0 d refl) in
    p ∙ keys-build (form_of d).0 (form_of c).1 (form_of d).1 ∙ sym q

-- Where no line of this operation is written so, no line of an operation equal to it is.
pub no_call : (o : Op) (s : lists.List ℕ) → ((fs : Fields) → s ≡ fields_text (form_of (build o fs)).1 → SmallLine (build o fs) → ⊥) →
    (q : Op) → q ≡ o → (l : Line) → s ≡ fields_text (form_of l).1 → ((form_of l).0 ≡ q) × SmallLine l → ⊥
no_call o s none q e l d h =
    let b = build-at o l (h.0 ∙ e) in
    none (form_of l).1 (d ∙ ap (λ (m : Line). fields_text (form_of m).1) b) (subst SmallLine b h.1)

-- And then no call of it is read.
pub refused : (o : Op) (s : lists.List ℕ) (q : Op) (r : Result Line NoForm) → q ≡ o → IsErr r →
    ((fs : Fields) → s ≡ fields_text (form_of (build o fs)).1 → SmallLine (build o fs) → ⊥) →
    Parses (λ l. fields_text (form_of l).1) (λ l. ((form_of l).0 ≡ q) × SmallLine l) s r
refused o s q r e err none =
    MatchResult-from_err r _ _ err
    (λ _ l d h. no_call o s none q e l d h)
