-- (a) A heap just made shows the empty graph.
use Rattle.std.proofs.Common.{◌≡◌, ℕ, zero, suc, ◌+◌, ◌<◌, ◌≤◌, Bool, true, false, leb, List, [], ◌∷◌, length, get_or, replicate, sym, refl, ◌∙◌, inl, inr, arith}
use Rattle.std.specs.List.{AllByRecursion}
use Rattle.std.proofs.lemmas.List.{length-replicate, get_or-replicate, get_or_past}
use Rattle.std.proofs.ByRecursion.{All-get_or}
use Rattle.std.proofs.lemmas.Bool.{cases_lt, false≢true}
use Rattle.words.specs.Words.{null_word}
use Rattle.graph.specs.Graph.{null, trap, Value, plain, Kind}
use Rattle.graph.specs.Shape.{index, kinds}
use Rattle.graph.specs.Lawful.{Lawful}
use Rattle.graph.proofs.Shape.{index_below}
use Rattle.layout.specs.Machine.{windows, window, start}
use Rattle.layout.specs.Places.{Places, Means}
use Rattle.layout.specs.Shows.{Row, words_where, Shown}
use Rattle.layout.specs.Fresh.{starts_from, fresh_table, fresh_machine, empty_graph, nowhere}

pub get_or-all : (n i x : ℕ) → get_or (replicate n x) i x ≡ x
get_or-all zero i x = refl
get_or-all (suc n) zero x = refl
get_or-all (suc n) (suc i) x = get_or-all n i x

-- each start is the one before and its window's length
starts-next : (a : ℕ) (ns : List ℕ) (j : ℕ) → j < length ns → get_or (starts_from a ns) (suc j) 0 ≡ get_or (starts_from a ns) j 0 + get_or ns j 0
starts-next a [] j l = absurd (omega arith)
starts-next a (n ∷ []) zero l = refl
starts-next a (n ∷ (k ∷ ns)) zero l = refl
starts-next a (n ∷ ns) (suc j) l = starts-next (a + n) ns j (omega arith)

pub row-all : (p : Places) (d : ℕ → Bool) (n w : ℕ) (v : Value) → ((e : Bool) → Means p e w v) → Row p d (replicate n w) (replicate n v)
row-all p d n w v h = record {
  long = length-replicate n w ∙ sym (length-replicate n v);
  means = λ k l. let b : k < n = (rw (length-replicate n v) at l) in rw (get_or-replicate n k w 0 b, get_or-replicate n k v (plain trap) b) (h (d k));
}

-- the empty graph
lawful-empty : Lawful empty_graph
lawful-empty = record {
  cells_known = λ i k. tt;
  cells_typed = λ i k a. absurd (omega (arith, a));
  registers_long = refl;
  registers_known = λ r. elim (cases_lt r 16) [ inl l ↦ rw (get_or-replicate 16 r (plain null) (plain trap) l) tt | inr l ↦ rw (get_or_past (replicate 16 (plain null)) r (plain trap) l) tt ];
  registers_set = λ r l. rw (get_or-replicate 16 r (plain null) (plain trap) l) refl;
  space_known = (omega arith, λ e. omega (arith, e));
}

pub shows-empty : (ns ws : List ℕ) → length ns ≡ windows → AllByRecursion (λ n. n ≤ 65536) ns → ((κ : Kind) → get_or ns (window κ 0) 0 ≡ get_or ns (window κ 1) 0) → start (fresh_table ns) windows ≤ length ws → Shown 16 nowhere (fresh_machine ns ws) empty_graph
unfolding words_where
shows-empty ns ws len small pairs long = record {
  frame = record {
    lows_long = refl;
    highs_long = len;
    froms_long = refl;
    tos_long = refl;
    rising = λ j l. omega (arith, next j l);
    twins = λ κ.
        let a = next (window κ 0) (omega (arith, index_below κ)) in
        let b = next (window κ 1) (omega (arith, index_below κ)) in
        let c = pairs κ in omega (arith, a, b, c);
    narrow = λ j l. let z = All-get_or (λ n. n ≤ 65536) ns j 0 (omega (arith, len)) small in omega (arith, next j l, z);
    apart = λ j l. omega (arith, get_or-all windows j 0);
    within = λ j l. omega (arith, next j l);
    clean_above = λ j l. omega (arith, get_or-all windows j 0);
    scanned_below = λ j l. omega (arith, get_or-all windows j 0);
    frozen_below = λ κ. omega (arith, get_or-all kinds (index κ) 0);
    which = omega arith;
  };
  map = record {
    now_is = refl;
    range = λ i u. no u;
    range_old = λ i u. no u;
    spaces = λ i l. absurd (omega (arith, l));
    some = λ i l. absurd (omega (arith, l));
    dynamic_old = λ i u. refl;
    inside = λ i u. no u;
    inside_old = λ i u. no u;
    tagged = λ i k u. no u;
    tagged_old = λ i k u. no u;
    back = λ x i k e. absurd (let z : ◌≡◌ {A = ℕ} 0 1 = cc in omega arith);
    steady_low = λ i u. no u;
    in_use = λ i u. no u;
    gaps = λ κ s x a b c d. refl;
  };
  memory = record {
    count_is = refl;
    kind_is = λ i l. absurd (omega (arith, l));
    space_is = λ i l. absurd (omega (arith, l));
    size_is = λ i l. absurd (omega (arith, l));
    long = long;
    holds = λ i k u. no u;
    holds_old = λ i k u. no u;
    forward = λ i u. no u;
  };
  rules = record {
    steady = λ i l. absurd (omega (arith, l));
    closed = λ i k l. absurd (omega (arith, l));
    frozen_is = λ i l. absurd (omega (arith, l));
    shaped = λ i l. absurd (omega (arith, l));
  };
  filled = record { filled = λ κ s x a b c. absurd (omega (arith, c, get_or-all windows (window κ s) 0)) };
  counts = record {
    copies = λ κ. get_or-all windows (window κ 0) 0;
    makes = λ κ. omega (arith, next (window κ 0) (omega (arith, index_below κ)));
    steadies = λ κ s a b. get_or-all windows (window κ s) 0;
    helds = λ κ. get_or-all kinds (index κ) 0;
  };
  roots = record {
    registers = row-all nowhere (λ k. leb 16 k) 16 null_word (plain null) (λ e. (refl, tt));
    control = record { long = refl; means = λ k l. absurd (omega (arith, l)) };
    bindings = record { long = refl; means = λ k l. absurd (omega (arith, l)) };
  };
  edits = refl;
  space = refl;
  lawful = lawful-empty;
  sound = refl;
}
  where
    next : (j : ℕ) → j < windows → start (fresh_table ns) (suc j) ≡ start (fresh_table ns) j + get_or ns j 0
    next j l = starts-next 0 ns j (omega (arith, len))

    no : {X : Type 0} → false ≡ true → X
    no e = absurd (false≢true e)
