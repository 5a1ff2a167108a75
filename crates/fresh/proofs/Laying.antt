-- Windows laid out one after another.
use Rattle.std.proofs.Common.{◌≡◌, ℕ, ◌+◌, ◌<◌, List, length, map, get_or, set, take, replicate, sum, sym, ◌∙◌, inl, inr, arith}
use Rattle.std.proofs.lemmas.List.{length-set, length-map, length-replicate, length-take, get_or-map, get_or-take, get_or_default, get_or-set_same, get_or-set_other, same_lists}
use Rattle.std.proofs.lemmas.Bool.{cases_eq}
use Rattle.layout.specs.Fresh.{starts_from}
use Rattle.layout.proofs.Fresh.{get_or-all}
use Rattle.store.specs.declared.windows.Window.{Window}
use Rattle.store.proofs.Sums.{length-starts, starts-sum}
use Rattle.store.proofs.Laid.{no_window}
use Rattle.fresh.specs.Made.{LaidOut}

-- What holds of the first i elements, and of the next that is put there.
one-more : (P : ℕ → Window → Type 0) (ws : List Window) (i : ℕ) (w : Window) → i < length ws → ((j : ℕ) (d : Window) → j < i → P j (get_or ws j d)) → P i w → (j : ℕ) (d : Window) → j < i + 1 → P j (get_or (set ws i w) j d)
one-more P ws i w l h p j d m = elim (cases_eq j i) [
  | inl e ↦ rw (e, get_or-set_same ws i w d l) p
  | inr n ↦ rw (get_or-set_other ws i j w d n) (h j d (omega (arith, m, n)))
]

pub laid-more : (ws : List Window) (rooms : List ℕ) (i : ℕ) (w : Window) → i < 20 → LaidOut ws rooms i → w.start ≡ sum (take i rooms) → w.room ≡ get_or rooms i 0 → w.low ≡ 0 → w.high ≡ get_or rooms i 0 → LaidOut (set ws i w) rooms (i + 1)
laid-more ws rooms i w l h a b c e =
    let m : i < length ws = omega (arith, l, h.long) in
    record {
      long = length-set ws i w ∙ h.long;
      start = one-more (λ j x. x.start ≡ sum (take j rooms)) ws i w m h.start a;
      room = one-more (λ j x. x.room ≡ get_or rooms j 0) ws i w m h.room b;
      low = one-more (λ j x. x.low ≡ 0) ws i w m h.low c;
      high = one-more (λ j x. x.high ≡ get_or rooms j 0) ws i w m h.high e;
    }

-- What the windows are once all are laid out.
module _ (ws : List Window) (rooms : List ℕ) (h : LaidOut ws rooms 20) (n : length rooms ≡ 20) where
  map-is : (f : Window → ℕ) (ns : List ℕ) → length ns ≡ 20 → ((j : ℕ) → j < 20 → f (get_or ws j no_window) ≡ get_or ns j 0) → map f ws ≡ ns
  map-is f ns m e =
      same_lists (map f ws) ns (length-map ws f ∙ h.long ∙ sym m)
      (λ k d l.
      let b : k < 20 = omega (arith, l, length-map ws f, h.long) in
      get_or-map f ws k no_window d (omega (arith, b, h.long)) ∙ e k b ∙ get_or_default ns k 0 d (omega (arith, b, m)))

  pub rooms-laid : map (λ (w : Window). w.room) ws ≡ rooms
  rooms-laid = map-is (λ (w : Window). w.room) rooms n (λ j l. h.room j no_window l)

  pub lows-laid : map (λ (w : Window). w.low) ws ≡ replicate 20 0
  lows-laid = map-is (λ (w : Window). w.low) (replicate 20 0) (length-replicate {A = ℕ} 20 0) (λ j l. h.low j no_window l ∙ sym (get_or-all 20 j 0))

  pub highs-laid : map (λ (w : Window). w.high) ws ≡ rooms
  highs-laid = map-is (λ (w : Window). w.high) rooms n (λ j l. h.high j no_window l)

  pub first-laid : get_or (map (λ (w : Window). w.start) ws) 0 0 ≡ 0
  first-laid =
      let a = get_or-map (λ (w : Window). w.start) ws 0 no_window 0 (omega (arith, h.long)) in
      let b = h.start 0 no_window (omega arith) in a ∙ b

  pub starts-laid : map (λ (w : Window). w.start) ws ≡ take 20 (starts_from (get_or (map (λ (w : Window). w.start) ws) 0 0) rooms)
  starts-laid = rw first-laid from-first
    where
      from-first : map (λ (w : Window). w.start) ws ≡ take 20 (starts_from 0 rooms)
      from-first =
          let s = length-starts 0 rooms in
          map-is (λ (w : Window). w.start) (take 20 (starts_from 0 rooms)) (let t = length-take 20 (starts_from 0 rooms) in omega (arith, s, n, t))
          (λ j l.
          let a = h.start j no_window l in
          let b = get_or-take 20 (starts_from 0 rooms) j 0 l in
          let e = starts-sum 0 rooms j 0 (omega (arith, l, n)) in omega (arith, a, b, e))
