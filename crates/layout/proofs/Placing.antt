-- An object gets a place: where everything is then.
use Rattle.std.proofs.Common.{◌≡◌, ℕ, suc, ◌+◌, ◌-◌, ◌<◌, ◌≤◌, Bool, true, false, ◌&&◌, ltb, leb, ◌≢◌, ◌⊎◌, List, get_or, sym, refl, ap, ◌∙◌, inl, inr, arith}
use Rattle.std.proofs.lemmas.Bool.{cases_eq, cases_lt, eq-eqb, ne_eqb, true≢false}
use Rattle.std.proofs.lemmas.Bool.Decides.{nat_tests}
use Rattle.graph.specs.Graph.{Value, plain, ref, Kind}
use Rattle.graph.specs.Shape.{Want, exact, value}
use Rattle.layout.specs.Machine.{Table, Frame, windows, window, start, room, low, high, old_space, now_space, with_cursors}
use Rattle.layout.specs.Places.{Tag, gap, here, past, Places, space_now, new_window, new_address, old_address, Means, Fits, Map, upd, tagging, placing, Room}
use Rattle.layout.specs.Shows.{Filled, Steady}
use Rattle.layout.proofs.Windows.{now_space-below, now_space-new, window-below, window_same, windows-apart, now-below}

pub upd_same : {X : Type 0} (f : ℕ → X) (i : ℕ) (x : X) → upd f i x i ≡ x
unfolding upd
upd_same f i x = rw (eq-eqb i i refl) refl

pub upd_other : {X : Type 0} (f : ℕ → X) (i : ℕ) (x : X) (j : ℕ) → j ≢ i → upd f i x j ≡ f j
unfolding upd
upd_other f i x j d = rw (ne_eqb j i d) refl

pub tagging-in : (f : ℕ → Tag) (a n i k : ℕ) → k < n → tagging f a n i (a + k) ≡ here i k
unfolding tagging
tagging-in f a n i k l = let e : a + k - a ≡ k = omega arith in let b : (leb a (a + k) && ltb (a + k) (a + n)) ≡ true = grind (arith, nat_tests) in rw (b, e) refl

pub tagging-out : (f : ℕ → Tag) (a n i x : ℕ) → (x < a) ⊎ (a + n ≤ x) → tagging f a n i x ≡ f x
unfolding tagging
tagging-out f a n i x (inl l) = let b : (leb a x && ltb x (a + n)) ≡ false = grind (arith, nat_tests) in rw b refl
tagging-out f a n i x (inr l) = let b : (leb a x && ltb x (a + n)) ≡ false = grind (arith, nat_tests) in rw b refl

tagging-cases : (f : ℕ → Tag) (a n i x : ℕ) → ((a ≤ x) × (x < a + n) × (tagging f a n i x ≡ here i (x - a))) ⊎ (tagging f a n i x ≡ f x)
unfolding tagging
tagging-cases f a n i x = elim (cases_lt x a) [
  | inl l ↦ inr (tagging-out f a n i x (inl l))
  | inr l ↦ elim (cases_lt x (a + n)) [
    | inl m ↦ inl (l, m, (let b : (leb a x && ltb x (a + n)) ≡ true = grind (arith, nat_tests) in rw b refl))
    | inr m ↦ inr (tagging-out f a n i x (inr m))
  ]
]

module _ (p : Places) (t : Table) (f : Frame t) (q : Map p t) (ls hs ds : List ℕ) (i : ℕ) (κ : Kind) (s n off c : ℕ) (r : Room p t ls hs i κ s n off c) where
  abbrev j₀ : ℕ
  j₀ = window κ (now_space p.now s)

  pub space-here : now_space p.now s < 4
  space-here = now_space-below p.now s (now-below p t f q) r.known.0

  pub space-not-old : now_space p.now s ≢ old_space p.now
  space-not-old = now_space-new p.now s (now-below p t f q) r.known.1

  pub window-here : window κ (now_space p.now s) < windows
  window-here = window-below κ (now_space p.now s) space-here

  pub fits-room : off + n ≤ room t (window κ (now_space p.now s))
  fits-room = omega (arith, r.below, f.within (window κ (now_space p.now s)) window-here)

  -- an object that has a place is another one
  pub another : (j : ℕ) → p.placed j ≡ true → j ≢ i
  another j u e = true≢false (sym u ∙ ap p.placed e ∙ r.unplaced)

  -- what never changes of an object that was in use at the flip
  pub live_same : (j : ℕ) → p.live j ≡ true → (upd p.kind i κ j ≡ p.kind j) × (upd p.space i s j ≡ p.space j) × (upd p.size i n j ≡ p.size j)
  live_same j u =
      elim (cases_eq j i) [
        | inl e ↦ let k = r.kept (rw e at u) in rw (e, upd_same p.kind i κ, upd_same p.space i s, upd_same p.size i n) (sym k.0, sym k.1, sym k.2)
        | inr d ↦ (upd_other p.kind i κ j d, upd_other p.space i s j d, upd_other p.size i n j d)
      ]

  -- a placed object is the new one, or was placed
  pub placed-cases : (j : ℕ) → upd p.placed i true j ≡ true → (j ≡ i) ⊎ ((j ≢ i) × (p.placed j ≡ true))
  placed-cases j u = elim (cases_eq j i) [ inl e ↦ inl e | inr d ↦ inr (d, sym (upd_other p.placed i true j d) ∙ u) ]

  pub count-up : p.count ≤ c
  count-up = elim r.grown [ inl g ↦ omega arith | inr g ↦ omega arith ]

  pub among : i < c
  among = elim r.grown [ inl g ↦ omega arith | inr g ↦ omega arith ]

  pub known-before : (j : ℕ) → j < c → j ≢ i → j < p.count
  known-before j l d = elim r.grown [ inl g ↦ omega arith | inr g ↦ (let z : j < suc p.count = omega arith in let y : j ≢ p.count = (λ e. d (omega arith)) in omega arith) ]

  -- what was no gap is no word of the new object
  pub outside : (x : ℕ) → p.tag x ≢ gap → (x < start t (window κ (now_space p.now s)) + off) ⊎ (start t (window κ (now_space p.now s)) + off + n ≤ x)
  outside x g =
      elim (cases_lt x (start t j₀ + off)) [
        | inl l ↦ inl l
        | inr l ↦ elim (cases_lt x (start t j₀ + off + n)) [
          | inl m ↦ let e : start t j₀ + (x - start t j₀) ≡ x = omega arith in
              absurd (g (rw e at (q.gaps κ (now_space p.now s) (x - start t j₀) space-here space-not-old (omega (arith, r.above)) (omega (arith, r.below)))))
          | inr m ↦ inr m
        ]
      ]

  pub here-no-gap : (j k x : ℕ) → p.tag x ≡ here j k → p.tag x ≢ gap
  here-no-gap j k x e g = let z : ◌≡◌ {A = ℕ} 0 1 = cc in omega arith

  pub past-no-gap : (j k x : ℕ) → p.tag x ≡ past j k → p.tag x ≢ gap
  past-no-gap j k x e g = let z : ◌≡◌ {A = ℕ} 0 1 = cc in omega arith

  abbrev p' : Places
  p' = placing p t i κ s n off c

  -- where the others are
  pub new-there : (j : ℕ) → j ≢ i → new_address t (placing p t i κ s n off c) j ≡ new_address t p j
  new-there j d = rw (upd_other p.kind i κ j d, upd_other p.space i s j d, upd_other p.new i off j d) refl

  pub new-here : new_address t (placing p t i κ s n off c) i ≡ start t (window κ (now_space p.now s)) + off
  new-here = rw (upd_same p.kind i κ, upd_same p.space i s, upd_same p.new i off) refl

  pub old-there : (j : ℕ) → p.live j ≡ true → old_address t (placing p t i κ s n off c) j ≡ old_address t p j
  old-there j u = rw (live_same j u).0 refl

  -- to place an object changes no word's meaning
  pub means-placed : (d : Bool) (w : ℕ) (v : Value) → Means p d w v → Means (placing p t i κ s n off c) d w v
  means-placed d w (plain x) h = h
  means-placed d w (ref j) (inl h) = let o = another j h.0 in
      inl (rw (upd_other p.placed i true j o, upd_other p.kind i κ j o, upd_other p.space i s j o, upd_other p.new i off j o) h)
  means-placed d w (ref j) (inr h) = inr (h.0, h.1, rw (live_same j h.1).0 h.2)

  pub fits-placed : (d : Bool) (w : ℕ) (v : Want) → Fits p d w v → Fits (placing p t i κ s n off c) d w v
  fits-placed d w (exact x) h = h
  fits-placed d w (value v) h = means-placed d w v h

  pub steady-placed : (v : Value) → Steady p v → Steady (placing p t i κ s n off c) v
  steady-placed (plain x) h = tt
  steady-placed (ref j) h = let d = another j h.0 in rw (upd_other p.placed i true j d, upd_other p.space i s j d) h

  pub map-placed : Map (placing p t i κ s n off c) (with_cursors t ls hs ds)
  map-placed = record {
    now_is = q.now_is;
    range = λ j u. elim (placed-cases j u) [ inl e ↦ rw e among | inr o ↦ omega (arith, q.range j o.1, count-up) ];
    range_old = λ j u. omega (arith, q.range_old j u, count-up);
    spaces = λ j l. elim (cases_eq j i) [ inl e ↦ rw (e, upd_same p.space i s) r.known | inr d ↦ rw (upd_other p.space i s j d) (q.spaces j (known-before j l d)) ];
    some = λ j l. elim (cases_eq j i) [ inl e ↦ rw (e, upd_same p.size i n) r.some | inr d ↦ rw (upd_other p.size i n j d) (q.some j (known-before j l d)) ];
    dynamic_old = λ j u. (live_same j u).1 ∙ q.dynamic_old j u;
    inside = λ j u. elim (placed-cases j u) [
      | inl e ↦ rw (e, upd_same p.kind i κ, upd_same p.space i s, upd_same p.new i off, upd_same p.size i n) fits-room
      | inr o ↦ rw (upd_other p.kind i κ j o.0, upd_other p.space i s j o.0, upd_other p.new i off j o.0, upd_other p.size i n j o.0) (q.inside j o.1)
    ];
    inside_old = λ j u. let z = live_same j u in rw (z.0, z.2) (q.inside_old j u);
    tagged = tagged';
    tagged_old = λ j k u l. let y = live_same j u in let m : k < p.size j = (rw y.2 at l) in
        rw (old-there j u) (let z = q.tagged_old j k u m in tagging-out p.tag (start t j₀ + off) n i (old_address t p j + k) (outside (old_address t p j + k) (past-no-gap j k (old_address t p j + k) z)) ∙ z);
    back = back';
    steady_low = λ j u d. elim (placed-cases j u) [
      | inl e ↦ rw (e, upd_same p.kind i κ, upd_same p.space i s, upd_same p.new i off, upd_same p.size i n) (r.fills_low (λ z. d (rw (e, upd_same p.space i s) z)))
      | inr o ↦ rw (upd_other p.kind i κ j o.0, upd_other p.space i s j o.0, upd_other p.new i off j o.0, upd_other p.size i n j o.0)
          (let y = q.steady_low j o.1 (λ z. d (rw (upd_other p.space i s j o.0) z)) in let v = r.lows_up (new_window p j) in omega (arith, y, v))
    ];
    in_use = λ j u. elim (placed-cases j u) [
      | inl e ↦ rw (e, upd_same p.kind i κ, upd_same p.space i s, upd_same p.new i off, upd_same p.size i n) r.taken
      | inr o ↦ rw (upd_other p.kind i κ j o.0, upd_other p.space i s j o.0, upd_other p.new i off j o.0, upd_other p.size i n j o.0)
          (elim (q.in_use j o.1) [
            | inl y ↦ inl (let v = r.lows_up (new_window p j) in omega (arith, y, v))
            | inr y ↦ inr (let v = r.highs_down (new_window p j) in omega (arith, y, v))
          ])
    ];
    gaps = gaps';
  }
    where
      back' : (x j k : ℕ) → tagging p.tag (start t j₀ + off) n i x ≡ here j k → (upd p.placed i true j ≡ true) × (k < upd p.size i n j) × (x ≡ new_address t p' j + k)
      back' x j k e =
          elim (tagging-cases p.tag (start t j₀ + off) n i x) [
            | inl y ↦ let v : here i (x - (start t j₀ + off)) ≡ here j k = (sym y.2 ∙ e) in
                let a : j ≡ i = cc in let b : x - (start t j₀ + off) ≡ k = cc in
                rw (a, new-here, upd_same p.size i n) (upd_same p.placed i true, omega (arith, b, y.0, y.1), omega (arith, b, y.0))
            | inr y ↦ let z = q.back x j k (sym y ∙ e) in let d = another j z.0 in
                rw (new-there j d, upd_other p.size i n j d) (upd_other p.placed i true j d ∙ z.0, z.1, z.2)
          ]

      tagged' : (j k : ℕ) → upd p.placed i true j ≡ true → k < upd p.size i n j → tagging p.tag (start t j₀ + off) n i (new_address t p' j + k) ≡ here j k
      tagged' j k u l =
          elim (placed-cases j u) [
            | inl e ↦ rw (e, new-here) (tagging-in p.tag (start t j₀ + off) n i k (rw (e, upd_same p.size i n) at l))
            | inr o ↦ rw (new-there j o.0) (let z = q.tagged j k o.1 (rw (upd_other p.size i n j o.0) at l) in
                tagging-out p.tag (start t j₀ + off) n i (new_address t p j + k) (outside (new_address t p j + k) (here-no-gap j k (new_address t p j + k) z)) ∙ z)
          ]

      gaps' : (μ : Kind) (e x : ℕ) → e < 4 → e ≢ old_space p.now → get_or ls (window μ e) 0 ≤ x → x < get_or hs (window μ e) 0 → tagging p.tag (start t j₀ + off) n i (start t (window μ e) + x) ≡ gap
      gaps' μ e x b d l h =
          let up = r.lows_up (window μ e) in
          let down = r.highs_down (window μ e) in
          let wb = window-below μ e b in
          let wi = f.within (window μ e) wb in
          tagging-out p.tag (start t j₀ + off) n i (start t (window μ e) + x) (apart up down wb wi) ∙ q.gaps μ e x b d (omega arith) (omega arith)
        where
          apart : low t (window μ e) ≤ get_or ls (window μ e) 0 → get_or hs (window μ e) 0 ≤ high t (window μ e) → window μ e < windows → high t (window μ e) ≤ room t (window μ e) →
              (start t (window μ e) + x < start t j₀ + off) ⊎ (start t j₀ + off + n ≤ start t (window μ e) + x)
          apart up down wb wi =
              elim (cases_lt (start t (window μ e) + x) (start t j₀ + off)) [
                | inl m ↦ inl m
                | inr m ↦ elim (cases_lt (start t (window μ e) + x) (start t j₀ + off + n)) [
                  | inl k ↦
                      let y : ℕ = start t (window μ e) + x - start t j₀ in
                      let same : (window μ e ≡ j₀) × (x ≡ y) = windows-apart t f (window μ e) j₀ x y wb window-here (omega arith) (omega (arith, fits-room)) (omega arith) in
                      let a : get_or ls j₀ 0 ≤ x = (rw same.0 at l) in
                      let g : x < get_or hs j₀ 0 = (rw same.0 at h) in
                      absurd (elim r.taken [ inl z ↦ omega (arith, same.1) | inr z ↦ omega (arith, same.1) ])
                  | inr k ↦ inr k
                ]
              ]

  pub filled-placed : Filled p t → Filled (placing p t i κ s n off c) (with_cursors t ls hs ds)
  filled-placed h = record { filled = filled' }
    where
      filled' : (μ : Kind) (e x : ℕ) → e < 4 → e ≢ old_space p.now → x < get_or ls (window μ e) 0 →
          (j : ℕ) × (k : ℕ) × (upd p.placed i true j ≡ true) × (k < upd p.size i n j) × (upd p.kind i κ j ≡ μ) × (space_now p' j ≡ e) × (x ≡ upd p.new i off j + k)
      filled' μ e x b d l =
          elim (cases_lt x (low t (window μ e))) [
            | inl m ↦ let z = h.filled μ e x b d m in let o = another z.0 z.2 in (
              z.0,
              z.1,
              upd_other p.placed i true z.0 o ∙ z.2,
              rw (upd_other p.size i n z.0 o) z.3,
              upd_other p.kind i κ z.0 o ∙ z.4,
              rw (upd_other p.space i s z.0 o) z.5,
              rw (upd_other p.new i off z.0 o) z.6,
            )
            | inr m ↦ let y = r.lows_new (window μ e) x m l in let w = window_same μ κ e (now_space p.now s) b space-here y.0 in (
              i,
              x - off,
              upd_same p.placed i true,
              rw (upd_same p.size i n) (omega (arith, y.1, y.2)),
              upd_same p.kind i κ ∙ sym w.0,
              rw (upd_same p.space i s) (sym w.1),
              rw (upd_same p.new i off) (omega (arith, y.1)),
            )
          ]
