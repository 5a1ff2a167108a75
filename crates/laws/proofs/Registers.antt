-- What a register's word tells of the value that it means.
use Rattle.std.proofs.Common.{◌≡◌, ℕ, ◌/◌, ◌<◌, true, false, eqb, ltb, ◌≢◌, Some, refl, inl, inr, arith}
use Rattle.std.proofs.lemmas.Bool.Decides.{nat_tests}
use Rattle.std.proofs.lemmas.Bool.{cases_eq, eq-eqb, ne_eqb}
use Rattle.words.specs.Words.{type_of, pointer_word, character_word, null_word, trap_word}
use Rattle.words.proofs.Coding.{type_of-pointer, type_of-fixnum, type_of-character, aligned-pointer}
use Rattle.kinds.specs.declared.kind.Class.TheVariants.{Pointer}
use Rattle.kinds.specs.Kinds.{code, kind_of, word_class}
use Rattle.graph.proofs.Shape.{code-pointer}
use Rattle.graph.specs.Graph.{Immediate, fixnum, character, null, trap, Value, plain, ref, Kind, uvector, string, bvector, symbol, list, Graph}
use Rattle.graph.specs.Shape.{Small, immediate_word}
use Rattle.graph.specs.Lawful.{class_of, immediate_class}
use Rattle.graph.specs.Calls.{is_dynamic}
use Rattle.layout.specs.Machine.{Machine, now_space}
use Rattle.layout.specs.Places.{Places, space_now, Means}
use Rattle.layout.specs.Shows.{Shown}
use Rattle.layout.proofs.Meaning.{means-ref}
use Rattle.layout.proofs.Windows.{space-below, new-narrow, now-below}
use Rattle.store.specs.Checks.{dynamic_word}
use Rattle.layout.proofs.Reading.{leads}

pub kind-code : (κ : Kind) → kind_of (code κ) ≡ Some κ
kind-code uvector = refl
kind-code string = refl
kind-code bvector = refl
kind-code symbol = refl
kind-code list = refl

-- an object is dynamic if its space code is 0 or 1
pub low-space : (now s : ℕ) → now < 2 → s ≢ 1 → ltb (now_space now s) 2 ≡ eqb s 0
low-space now s a b = elim (cases_eq s 0) [ inl e ↦ grind (arith, nat_tests) | inr d ↦ grind (arith, nat_tests) ]

-- the class of a pointer
pub pointer-class : (κ : Kind) (s x : ℕ) → s < 4 → x < 16777216 → word_class (pointer_word (code κ) s x) ≡ Some (Pointer κ)
pointer-class κ s x a b =
    let c = code-pointer κ in
    let t : type_of (pointer_word (code κ) s x) ≡ code κ = type_of-pointer (code κ) s x a b in
    let one : eqb (code κ) 1 ≡ false = ne_eqb (code κ) 1 (λ e. omega (arith, e, c)) in
    let trp : eqb (pointer_word (code κ) s x) trap_word ≡ false = ne_eqb (pointer_word (code κ) s x) trap_word (λ e. omega (arith, e, c)) in
    let nul : eqb (pointer_word (code κ) s x) null_word ≡ false = ne_eqb (pointer_word (code κ) s x) null_word (λ e. omega (arith, e, c)) in
    let chr : eqb (pointer_word (code κ) s x / 256) 65536 ≡ false = ne_eqb (pointer_word (code κ) s x / 256) 65536 (λ e. omega (arith, e, c)) in
    rw (t, one, trp, nul, chr, kind-code κ, aligned-pointer (code κ) s x) refl

pub immediate-class : (x : Immediate) → Small x → word_class (immediate_word x) ≡ Some (immediate_class x)
immediate-class (fixnum d) h = let t = type_of-fixnum d h in rw t refl
immediate-class (character c) h =
    let t : type_of (character_word c) ≡ 0 = type_of-character c h in
    let trp : eqb (character_word c) trap_word ≡ false = ne_eqb (character_word c) trap_word (λ e. omega (arith, e)) in
    let nul : eqb (character_word c) null_word ≡ false = ne_eqb (character_word c) null_word (λ e. omega (arith, e, h)) in
    let chr : eqb (character_word c / 256) 65536 ≡ true = eq-eqb (character_word c / 256) 65536 (omega (arith, h)) in
    rw (t, trp, nul, chr) refl
immediate-class null h = refl
immediate-class trap h = refl

module _ (r : ℕ) (p : Places) (m : Machine) (g : Graph) (s : Shown r p m g) (w : ℕ) where
  -- a clean word has the class of the value that it means
  pub word-class : (v : Value) → Means p false w v → word_class w ≡ Some (class_of g.objects v)
  word-class (plain x) h = rw h.0 (immediate-class x h.1)
  word-class (ref i) h =
      let a = means-ref p w i h in
      let n = s.map.range i a.0 in
      let b = space-below p m.table s.frame s.map i n in
      let c = new-narrow p m.table s.frame s.map i a.0 in
      rw (a.1, pointer-class (p.kind i) (space_now p i) (p.new i) b (omega (arith, c)), s.memory.kind_is i n) refl

  -- it points into dynamic space if the value is a dynamic object
  pub word-dynamic : (v : Value) → Means p false w v → dynamic_word w ≡ is_dynamic g.objects v
  unfolding dynamic_word
  word-dynamic (plain (fixnum d)) h = rw (h.0, type_of-fixnum d h.1) refl
  word-dynamic (plain (character c)) h = rw (h.0, type_of-character c h.1) refl
  word-dynamic (plain null) h = rw h.0 refl
  word-dynamic (plain trap) h = rw h.0 refl
  word-dynamic (ref i) h =
      let a = means-ref p w i h in
      let n = s.map.range i a.0 in
      let l = leads p m.table s.frame s.map w i h in
      rw (l.type-is, kind-code (p.kind i), l.space_is, ← s.memory.space_is i n) (low-space p.now (p.space i) (now-below p m.table s.frame s.map) (s.map.spaces i n).1)
