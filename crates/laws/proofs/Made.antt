-- An object is made, by the words.
use Rattle.std.proofs.Common.{◌≡◌, ℕ, ◌+◌, ◌-◌, ◌%◌, ◌<◌, ◌≤◌, true, false, cond, eqb, ltb, leb, List, length, get_or, Ok, Err, refl, arith}
use Rattle.std.proofs.lemmas.Bool.{le-leb}
use Rattle.words.specs.Words.{pointer_word}
use Rattle.memory.specs.Pasted.{pasted}
use Rattle.memory.proofs.Pasting.{length-pasted, pasted-inside, pasted-outside}
use Rattle.answers.specs.declared.Refusal.TheVariants.{NoRoom, Short}
use Rattle.graph.specs.Graph.{Kind}
use Rattle.graph.specs.Shape.{code}
use Rattle.graph.proofs.Shape.{code-pointer}
use Rattle.layout.specs.Machine.{Table, Machine, start, low, high, now_space, with_heap, with_register, Wrote}
use Rattle.making.specs.Make.{emplaced, target, room_for, claimed, made}

-- where the new object goes
abbrev pub site : Table → Kind → ℕ → ℕ → ℕ
site t κ s n = cond (eqb s 0) (high t (target t κ s) - n) (low t (target t κ s))

abbrev pub address : Table → Kind → ℕ → ℕ → ℕ
address t κ s n = start t (target t κ s) + site t κ s n

-- the machine after
abbrev pub machine_after : Kind → ℕ → List ℕ → ℕ → Machine → Machine
machine_after κ s xs to m =
    with_register (with_heap m (pasted m.words (address m.table κ s (length xs)) xs) (claimed κ s (site m.table κ s (length xs)) (length xs) m.table)) to
    (pointer_word (code κ % 16) (now_space m.table.now s % 4) (site m.table κ s (length xs) % 16777216))

module _ (κ : Kind) (s : ℕ) (xs : List ℕ) (to : ℕ) (m : Machine) where
  -- no room
  pub made-full : ltb (high m.table (target m.table κ s) - low m.table (target m.table κ s)) (length xs) ≡ true → made κ s xs to m ≡ (m, Err NoRoom)
  unfolding made room_for
  made-full e = rw e refl

  -- room, and the memory has it
  pub made-there : ltb (high m.table (target m.table κ s) - low m.table (target m.table κ s)) (length xs) ≡ false →
      address m.table κ s (length xs) + length xs ≤ length m.words → made κ s xs to m ≡ (machine_after κ s xs to m, Ok 0)
  unfolding made room_for emplaced
  made-there e l = rw (e, le-leb (address m.table κ s (length xs) + length xs) (length m.words) l) refl

  -- room that the memory has not
  pub made-short : ltb (high m.table (target m.table κ s) - low m.table (target m.table κ s)) (length xs) ≡ false →
      leb (address m.table κ s (length xs) + length xs) (length m.words) ≡ false → made κ s xs to m ≡ (m, Err Short)
  unfolding made room_for emplaced
  made-short e l = rw (e, l) refl

-- a block is written
pub pasted-wrote : (ws : List ℕ) (a n : ℕ) (xs : List ℕ) → length xs ≡ n → a + n ≤ length ws → Wrote ws (pasted ws a xs) a n (λ k. get_or xs k 0)
pasted-wrote ws a n xs e l = record {
  long = length-pasted ws a xs;
  inside = λ k b. pasted-inside ws a xs k (omega arith) (omega arith);
  outside = λ x h. pasted-outside ws a xs x (rw e h);
}

-- the word of a place is made of small fields
pub small-fields : (κ : Kind) (s x : ℕ) → s < 4 → x < 16777216 → pointer_word (code κ % 16) (s % 4) (x % 16777216) ≡ pointer_word (code κ) s x
small-fields κ s x a b =
    let c = code-pointer κ in
    let e : code κ % 16 ≡ code κ = omega (arith, c.1) in
    let f : s % 4 ≡ s = omega arith in
    let g : x % 16777216 ≡ x = omega arith in
    rw (e, f, g) refl
