-- The making of a store, case by case.
use Rattle.std.proofs.Common.{◌≡◌, ℕ, ◌+◌, ◌<◌, ◌≤◌, Bool, true, false, cond, ◌&&◌, leb, List, length, get_or, replicate, None, Ok, Err, sum, Result, refl, ap, ◌∙◌, inl, inr, arith}
use Rattle.std.proofs.lemmas.Bool.{cases_Bool, cond-true, cond-false, and_parts, leb-true}
use Rattle.memory.proofs.Pasting.{length-pasted}
use Rattle.answers.specs.declared.Refusal.{Refusal}
use Rattle.answers.specs.declared.Refusal.TheVariants.{OutOfBounds, Short}
use Rattle.stacks.specs.Limits.{stacks_fit}
use Rattle.layout.specs.Machine.{Machine, windows, start}
use Rattle.layout.specs.Fresh.{starts_from, fresh_machine}
use Rattle.store.specs.declared.state.Store.{Store}
use Rattle.store.specs.Checks.{admitted, long_enough}
use Rattle.store.specs.View.{rooms_of, begins_of, table_of, view}
use Rattle.promises.specs.Promise.{Depicts}
use Rattle.fresh.specs.declared.windows.Windows.{Windows}
use Rattle.fresh.specs.Windows.{lengths, windows_fit, empty_state}
use Rattle.fresh.specs.Made.{cleared, store_made}
use Rattle.fresh.proofs.Rooms.{length-lengths}
use Rattle.store.proofs.Sums.{starts-end}
use Rattle.fresh.proofs.Empty.{depicts-empty}

-- The memory has all windows, and no stack is over its limit.
abbrev pub enough : List Windows → ℕ → ℕ → ℕ → Bool
enough ws n control bindings = leb (sum (lengths ws)) n && stacks_fit control bindings

pub makes-wide : (ws : List Windows) (control bindings : ℕ) (words : List ℕ) → windows_fit ws ≡ false → (words, Err OutOfBounds) ≡ store_made ws control bindings words
unfolding store_made
makes-wide ws control bindings words e = rw e refl

pub makes-short : (ws : List Windows) (control bindings : ℕ) (words : List ℕ) → windows_fit ws ≡ true → enough ws (length words) control bindings ≡ false → (words, Err Short) ≡ store_made ws control bindings words
unfolding store_made
makes-short ws control bindings words e f = rw (e, f) refl

pub makes-fresh : (ws : List Windows) (control bindings : ℕ) (words words' : List ℕ) (m : Machine) → windows_fit ws ≡ true → enough ws (length words) control bindings ≡ true → words' ≡ cleared (sum (lengths ws)) words → m ≡ fresh_machine (lengths ws) words' → (words', Ok m) ≡ store_made ws control bindings words
unfolding store_made
makes-fresh ws control bindings words words' m e f p q = rw (e, f, q, p) refl

-- A store with these windows, and what it answers when it is asked to take a call with this memory and stacks.
module _ (ws : List Windows) (len : length ws ≡ 5) (s : Store) (new : (xs : List ℕ) → view s 0 xs ≡ fresh_machine (lengths ws) xs) (fit : windows_fit ws ≡ true) (control bindings : ℕ) (words : List ℕ) where
  abbrev answer : Result (Unit {0}) Refusal
  answer = admitted s.foreign true (long_enough (table_of s) (length words) control bindings)

  abbrev lent : Bool
  lent = enough ws (length words) control bindings

  -- The last window ends after all words.
  store-end : start (table_of s) windows ≡ sum (lengths ws)
  store-end =
      let t : starts_from (get_or (begins_of s) 0 0) (rooms_of s) ≡ starts_from 0 (lengths ws) = ap (λ (x : Machine). x.table.starts) (new words) in
      let n = length-lengths ws in rw t (starts-end (lengths ws) windows (omega arith))

  -- It takes a call exactly if it was lent enough.
  answer-is : answer ≡ cond lent (Ok tt) (Err Short)
  unfolding admitted long_enough
  answer-is = let f : s.foreign ≡ None = ap (λ (x : Machine). x.foreign) (new words) in rw (f, store-end) refl

  answer-lent : (u : Unit {0}) → Ok u ≡ answer → lent ≡ true
  answer-lent u e =
      elim (cases_Bool lent) [
        | inl t ↦ t
        | inr t ↦
            let a = e ∙ answer-is ∙ cond-false lent (Ok tt) (Err Short) t in
            let z : ◌≡◌ {A = ℕ} 0 1 = cc in absurd (omega (arith, z))
      ]

  answer-long : (u : Unit {0}) → Ok u ≡ answer → sum (lengths ws) ≤ length words
  answer-long u e = leb-true (sum (lengths ws)) (length words) (and_parts (leb (sum (lengths ws)) (length words)) (stacks_fit control bindings) (answer-lent u e)).0

  -- A refusal of that is the refusal of the making.
  pub makes-refused : (r : Refusal) → Err r ≡ answer → (words, Err r) ≡ store_made ws control bindings words
  makes-refused r e =
      elim (cases_Bool lent) [
        | inl t ↦
            let a = e ∙ answer-is ∙ cond-true lent (Ok tt) (Err Short) t in
            let z : ◌≡◌ {A = ℕ} 0 1 = cc in absurd (omega (arith, z))
        | inr t ↦
            let a = e ∙ answer-is ∙ cond-false lent (Ok tt) (Err Short) t in
            let short : r ≡ Short = cc in rw short (makes-short ws control bindings words fit t)
      ]

  -- Else the windows' words can be cleared.
  pub clears : (u : Unit {0}) → Ok u ≡ answer → length words < 0 + start (table_of s) windows → ⊥
  clears u e l = omega (arith, store-end, answer-long u e, l)

  -- With those words cleared the store is made, and shows the empty state.
  pub makes-store : (u : Unit {0}) → Ok u ≡ answer → (words' : List ℕ) → words' ≡ cleared (start (table_of s) windows) words → ((words', Ok (view s 0 words')) ≡ store_made ws control bindings words) × Depicts (view s 0 words') (empty_state ws)
  makes-store u e words' clear =
      let n = ap length clear ∙ length-pasted words 0 (replicate (start (table_of s) windows) 0) in (
        makes-fresh ws control bindings words words' (view s 0 words') fit (answer-lent u e) (rw store-end at clear) (new words'),
        depicts-empty ws len (view s 0 words') words' (new words') fit (omega (arith, n, answer-long u e)),
      )
