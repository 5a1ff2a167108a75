-- A store just made is in order, and shows the empty state.
use Rattle.std.proofs.Common.{◌≡◌, ℕ, zero, suc, ◌<◌, ◌≤◌, true, List, length, get_or, replicate, sum, sym, refl, ◌∙◌, arith}
use Rattle.std.specs.List.{AllByRecursion}
use Rattle.std.proofs.ByRecursion.{All-get_or}
use Rattle.std.proofs.lemmas.Bool.{ne_eqb}
use Rattle.kinds.specs.declared.kind.Kind.{Kind}
use Rattle.graph.specs.Shape.{index}
use Rattle.graph.proofs.Shape.{index_below}
use Rattle.layout.specs.Machine.{Machine, windows, window, room, now_space}
use Rattle.layout.specs.Ordered.{Ordered}
use Rattle.layout.specs.Fresh.{starts_from, fresh_table, fresh_machine, nowhere}
use Rattle.layout.proofs.Fresh.{get_or-all, shows-empty}
use Rattle.promises.specs.Promise.{Depicts}
use Rattle.fresh.specs.declared.windows.Windows.{Windows}
use Rattle.fresh.specs.Windows.{of_kind, lengths, windows_fit, no_windows, empty_state}
use Rattle.fresh.proofs.Rooms.{length-lengths, get_or-lengths, fit-narrow}
use Rattle.store.proofs.Sums.{starts-sum, starts-next, starts-end, sum-narrow}

pub fresh-ordered : (xs ns : List ℕ) → xs ≡ starts_from 0 ns → length ns ≡ windows → AllByRecursion (λ n. n ≤ 65536) ns → Ordered xs (replicate windows 0) ns
fresh-ordered xs ns e len small =
    λ j l.
    let low = get_or-all windows j 0 in
    let next = starts-next 0 ns j (omega arith) in
    let s = starts-sum 0 ns (suc j) 0 (omega arith) in
    let t = sum-narrow ns (suc j) small in
    let n = All-get_or (λ n. n ≤ 65536) ns j 0 (omega arith) small in
    (omega (arith, low), rw e (omega (arith, next)), rw e (omega (arith, next, n)), rw e (omega (arith, s, t, len)))

-- New objects go to the first dynamic space.
now-first : (e : ℕ) → now_space 0 e ≡ e
now-first zero = refl
now-first (suc e) = rw (ne_eqb (suc e) 0 (λ z. omega (arith, z))) refl

module _ (ws : List Windows) (len : length ws ≡ 5) where
  abbrev ns : List ℕ
  ns = lengths ws

  length-ns : length ns ≡ windows
  length-ns = let e = length-lengths ws in omega arith

  -- A window has as many words as its kind was given in that space.
  fresh-room : (κ : Kind) (e : ℕ) → e < 4 → room (fresh_table ns) (window κ e) ≡ get_or ns (window κ e) 0
  fresh-room κ e l =
      let i = index_below κ in
      let n = length-ns in
      let next = starts-next 0 ns (window κ e) (omega (arith, i, n, l)) in omega (arith, next)

  fresh-length : (κ : Kind) (e : ℕ) → e < 4 → get_or ns (window κ e) 0 ≡ get_or (of_kind (get_or ws (index κ) no_windows)) e 0
  fresh-length κ e l = let i = index_below κ in get_or-lengths ws (index κ) e no_windows (omega arith) l

  pub depicts-empty : (m : Machine) (words : List ℕ) → m ≡ fresh_machine ns words → windows_fit ws ≡ true → sum ns ≤ length words → Depicts m (empty_state ws)
  unfolding empty_state
  depicts-empty m words e fit long = rw e (record {
    shows = (
      nowhere,
      shows-empty ns words length-ns (fit-narrow ws fit) (λ κ. fresh-length κ 0 (omega arith) ∙ sym (fresh-length κ 1 (omega arith)))
          (let z = starts-end ns windows length-ns in omega (arith, z)),
    );
    used_is = λ κ f l d.
        let r = fresh-room κ f l in
        let z = get_or-all windows (window κ f) 0 in rw (now-first f) (omega (arith, r, z));
    room_is = λ κ f l d. rw (now-first f) (sym (fresh-room κ f l ∙ fresh-length κ f l));
  })
