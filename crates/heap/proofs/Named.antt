-- What an admitted call names.
use Rattle.std.proofs.Common.{◌≡◌, ℕ, Bool, true, false, is_some, Some, None, Option, Ok, Err, Result, ap, sym, refl, arith}
use Rattle.answers.specs.declared.Place.{Place}
use Rattle.answers.specs.declared.Refusal.{Refusal}
use Rattle.answers.specs.declared.Refusal.TheVariants.{Foreign, Unknown, Short}
use Rattle.answers.specs.declared.TextFault.{TextFault}
use Rattle.opening.specs.Opening.{lined}
use Rattle.spaces.specs.declared.Space.{Space}
use Rattle.store.specs.Checks.{admitted}
use Rattle.heap.specs.View.{admitted_space}

-- Its refusal is that of the admission.
pub named-refused : (foreign : Option Place) (o : Option Space) (enough : Bool) (e : Refusal) → Err e ≡ admitted_space (admitted foreign (is_some o) enough) o → admitted foreign (is_some o) enough ≡ Err e
unfolding admitted
named-refused (Some p) o enough e h = let z : Foreign p ≡ e = cc in ap Err z
named-refused None None enough e h = let z : Unknown ≡ e = cc in ap Err z
named-refused None (Some s) true e h = let z : ◌≡◌ {A = ℕ} 0 1 = cc in absurd (omega arith)
named-refused None (Some s) false e h = let z : Short ≡ e = cc in ap Err z

-- What is granted is the space that there is.
pub named-granted : (foreign : Option Place) (o : Option Space) (enough : Bool) (s : Space) → Ok s ≡ admitted_space (admitted foreign (is_some o) enough) o → (admitted foreign (is_some o) enough ≡ Ok tt) × (o ≡ Some s)
unfolding admitted
named-granted (Some p) o enough s h = let z : ◌≡◌ {A = ℕ} 0 1 = cc in absurd (omega arith)
named-granted None None enough s h = let z : ◌≡◌ {A = ℕ} 0 1 = cc in absurd (omega arith)
named-granted None (Some t) true s h = let e : t ≡ s = cc in rw e (refl, refl)
named-granted None (Some t) false s h = let z : ◌≡◌ {A = ℕ} 0 1 = cc in absurd (omega arith)

-- A text is refused before any line as the admission refuses.
pub named-fault : (foreign : Option Place) (o : Option Space) (enough : Bool) (q : Result Space Refusal) (f : TextFault) → q ≡ admitted_space (admitted foreign (is_some o) enough) o → lined 0 q ≡ Err f →
    (e : Refusal) × (admitted foreign (is_some o) enough ≡ Err e) × (f ≡ record { line = 0; refusal = e })
named-fault foreign o enough (Ok s) f h l = let z : ◌≡◌ {A = ℕ} 0 1 = cc in absurd (omega arith)
named-fault foreign o enough (Err e) f h l = let z : record { line = 0; refusal = e } ≡ f = cc in (e, named-refused foreign o enough e h, sym z)
