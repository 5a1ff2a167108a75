-- The windows of a store, as its table has them.
use Rattle.std.proofs.Common.{◌≡◌, ℕ, suc, ◌+◌, ◌<◌, ◌≤◌, Bool, true, false, cond, refl, List, length, map, get_or, set, take, sym, ap, ◌∙◌, arith}
use Rattle.std.proofs.lemmas.List.{map-set, length-map, length-take, get_or-take, get_or-map}
use Rattle.std.proofs.Math.Seq.{map-set_same}
use Rattle.std.proofs.lemmas.Bool.{lt-ltb, le-ltb}
use Rattle.layout.specs.Machine.{start, room, low, high}
use Rattle.layout.specs.Ordered.{Ordered}
use Rattle.layout.specs.Fresh.{starts_from}
use Rattle.store.specs.declared.windows.Window.{Window}
use Rattle.store.specs.declared.state.Store.{Store}
use Rattle.store.specs.Windows.{holds}
use Rattle.store.specs.Checks.{in_use}
use Rattle.store.specs.View.{rooms_of, begins_of, table_of}
use Rattle.store.proofs.Sums.{length-starts, starts-next}

-- A window without words.
abbrev pub no_window : Window
no_window = record { start = 0; room = 0; low = 0; high = 0; within = (omega arith, omega arith); small = (omega arith, omega arith) }

module _ (s : Store) where
  length-rooms : length (rooms_of s) ≡ length s.windows
  length-rooms = length-map s.windows (λ (w : Window). w.room)

  -- A store has twenty windows.
  pub count-windows : length s.windows ≡ 20
  count-windows =
      let a = ap length s.laid in
      let b = length-map s.windows (λ (w : Window). w.start) in
      let c = length-take 20 (starts_from (get_or (begins_of s) 0 0) (rooms_of s)) in
      let d = length-starts (get_or (begins_of s) 0 0) (rooms_of s) in omega (arith, a, b, c, d, length-rooms)

  module _ (j : ℕ) (d : Window) (l : j < 20) where
    abbrev w : Window
    w = get_or s.windows j d

    inside : j < length s.windows
    inside = omega (arith, l, count-windows)

    pub start-of : start (table_of s) j ≡ w.start
    start-of =
        let a = get_or-take 20 (starts_from (get_or (begins_of s) 0 0) (rooms_of s)) j 0 l in
        let b = ap (λ xs. get_or xs j 0) s.laid in
        let c = get_or-map (λ (w : Window). w.start) s.windows j d 0 inside in sym a ∙ sym b ∙ c

    pub low-of : low (table_of s) j ≡ w.low
    low-of = get_or-map (λ (w : Window). w.low) s.windows j d 0 inside

    pub high-of : high (table_of s) j ≡ w.high
    high-of = get_or-map (λ (w : Window). w.high) s.windows j d 0 inside

    -- A window begins where the one before ends.
    pub end-of : start (table_of s) (suc j) ≡ w.start + w.room
    end-of =
        let n = starts-next (get_or (begins_of s) 0 0) (rooms_of s) j (omega (arith, l, count-windows, length-rooms)) in
        let r = get_or-map (λ (w : Window). w.room) s.windows j d 0 inside in omega (arith, n, r, start-of)

    pub room-of : room (table_of s) j ≡ w.room
    room-of = omega (arith, start-of, end-of)

    pub in-use-of : (x n : ℕ) → in_use (table_of s) j x n ≡ holds w x n
    unfolding in_use
    in-use-of x n = rw (lt-ltb j 20 l, room-of, low-of, high-of) refl

  pub in-use-past : (j x n : ℕ) → 20 ≤ j → in_use (table_of s) j x n ≡ false
  unfolding in_use
  in-use-past j x n l = rw (le-ltb j 20 l) refl

  -- The windows follow one another, and the cursors of each are in it.
  pub ordered : Ordered (table_of s).starts (table_of s).lows (table_of s).highs
  ordered = λ j l.
      let w = get_or s.windows j no_window in
      let a = start-of j no_window l in
      let b = end-of j no_window l in
      let c = low-of j no_window l in
      let e = high-of j no_window l in
      (omega (arith, c, e, w.within.0), omega (arith, a, b, e, w.within.1), omega (arith, a, b, w.small.0), omega (arith, b, w.small.1))

-- One window is replaced by another at the same place.
module _ (ws : List Window) (j : ℕ) (w d : Window) where
  abbrev former : Window
  former = get_or ws j d

  abbrev new : List Window
  new = set ws j w

  pub laid-still : w.start ≡ former.start → w.room ≡ former.room → map (λ (w : Window). w.start) ws ≡ take 20 (starts_from (get_or (map (λ (w : Window). w.start) ws) 0 0) (map (λ (w : Window). w.room) ws)) →
      map (λ (w : Window). w.start) new ≡ take 20 (starts_from (get_or (map (λ (w : Window). w.start) new) 0 0) (map (λ (w : Window). w.room) new))
  laid-still a b l = rw (map-set_same (λ (w : Window). w.start) ws j w d a, map-set_same (λ (w : Window). w.room) ws j w d b) l

  -- A part of it may change.
  pub changed-unless : (f : Window → ℕ) (b : Bool) (x : ℕ) → f w ≡ cond b (f former) x → map f new ≡ cond b (map f ws) (set (map f ws) j x)
  changed-unless f true x e = map-set_same f ws j w d e
  changed-unless f false x e = map-set f ws j w ∙ ap (λ y. set (map f ws) j y) e

  pub changed-if : (f : Window → ℕ) (b : Bool) (x : ℕ) → f w ≡ cond b x (f former) → map f new ≡ cond b (set (map f ws) j x) (map f ws)
  changed-if f true x e = map-set f ws j w ∙ ap (λ y. set (map f ws) j y) e
  changed-if f false x e = map-set_same f ws j w d e
