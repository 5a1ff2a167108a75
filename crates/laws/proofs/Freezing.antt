-- Freezing, and setting the allocation space, answer as the graph does.
use Rattle.std.proofs.Common.{◌≡◌, ℕ, zero, suc, ◌+◌, ◌<◌, ◌≤◌, Bool, true, false, cond, not, ◌||◌, eqb, ltb, ◌≢◌, List, [], ◌∷◌, map, length, get_or, is_some, Some, None, Ok, sym, refl, ap, ◌∙◌, arith}
use Rattle.std.proofs.lemmas.List.{length-map}
use Rattle.std.proofs.lemmas.Bool.{eq-eqb, ne_eqb, lt-ltb}
use Rattle.kinds.specs.declared.kind.Class.TheVariants.{Pointer}
use Rattle.graph.specs.Graph.{Value, plain, ref, trap, Kind, uvector, string, bvector, symbol, list, Object, Graph, nothing}
use Rattle.graph.specs.Shape.{index, want, Shaped}
use Rattle.graph.specs.Lawful.{class_of, Known, Lawful}
use Rattle.graph.specs.Calls.{with_graph, frozen_object, frozen_all, freeze, is_space, with_space, set_space}
use Rattle.graph.proofs.Lawful.{known_more}
use Rattle.layout.specs.Machine.{Table, Machine, Frame, window, low, dirty}
use Rattle.layout.specs.Places.{Places, new_window, space_now, Map}
use Rattle.layout.specs.Shows.{Holds, Rules, Shown}
use Rattle.access.specs.Access.{read_only_lows, with_frozen, freeze_done, with_space as in_space, space_done}
use Rattle.std.proofs.lemmas.Bool.Decides.{nat_tests}
use Rattle.spaces.specs.declared.Space.TheVariants.{Dynamic, Static, ReadOnly}
use Rattle.spaces.specs.Spaces.{space_at}
use Rattle.promises.specs.Promise.{Answers, short}
use Rattle.laws.proofs.Admission.{did-done, admission-did}

frozen-at : (os : List Object) (i : ℕ) → get_or (map frozen_object os) i nothing ≡ frozen_object (get_or os i nothing)
frozen-at [] i = refl
frozen-at (o ∷ os) zero = refl
frozen-at (o ∷ os) (suc i) = frozen-at os i

frozen-long : (os : List Object) → length (map frozen_object os) ≡ length os
frozen-long os = length-map os frozen_object

want-frozen : (o : Object) (k : ℕ) → want (frozen_object o) k ≡ want o k
unfolding want
want-frozen o k = refl

lows-there : (t : Table) (κ : Kind) → get_or (read_only_lows t) (index κ) 0 ≡ low t (window κ 3)
lows-there t uvector = refl
lows-there t string = refl
lows-there t bvector = refl
lows-there t symbol = refl
lows-there t list = refl

class-frozen : (os : List Object) (v : Value) → class_of (map frozen_object os) v ≡ class_of os v
class-frozen os (plain x) = refl
class-frozen os (ref i) = ap (λ o. Pointer o.kind) (frozen-at os i)

module _ (p : Places) (m : Machine) (g : Graph) (h : Shown 16 p m g) where
  abbrev t : Table
  t = m.table

  abbrev t' : Table
  t' = (with_frozen m (read_only_lows m.table)).table

  abbrev os : List Object
  os = g.objects

  dirty-same : (l x : ℕ) → dirty t' l x ≡ dirty t l x
  unfolding dirty
  dirty-same l x = refl

  frame-frozen : Frame t'
  frame-frozen = record {
    lows_long = h.frame.lows_long;
    highs_long = h.frame.highs_long;
    froms_long = h.frame.froms_long;
    tos_long = h.frame.tos_long;
    rising = h.frame.rising;
    narrow = h.frame.narrow;
    apart = h.frame.apart;
    within = h.frame.within;
    clean_above = h.frame.clean_above;
    scanned_below = h.frame.scanned_below;
    frozen_below = λ κ. omega (arith, lows-there t κ);
    twins = h.frame.twins;
    which = h.frame.which;
  }

  map-frozen : Map p t'
  map-frozen = record {
    now_is = q.now_is;
    range = q.range;
    range_old = q.range_old;
    spaces = q.spaces;
    some = q.some;
    dynamic_old = q.dynamic_old;
    inside = q.inside;
    inside_old = q.inside_old;
    tagged = q.tagged;
    tagged_old = q.tagged_old;
    back = q.back;
    steady_low = q.steady_low;
    in_use = q.in_use;
    gaps = q.gaps;
  }
    where
      q : Map p m.table
      q = h.map

  holds-frozen : Holds p t' m.words (map frozen_object g.objects)
  holds-frozen = record {
    count_is = h.memory.count_is ∙ sym (frozen-long os);
    kind_is = λ i l. rw (frozen-at os i) (h.memory.kind_is i l);
    space_is = λ i l. rw (frozen-at os i) (h.memory.space_is i l);
    size_is = λ i l. rw (frozen-at os i) (h.memory.size_is i l);
    long = h.memory.long;
    holds = λ i k u l. rw (frozen-at os i, want-frozen (get_or os i nothing) k, dirty-same (new_window p i) (p.new i + k)) (h.memory.holds i k u l);
    holds_old = λ i k u c l. rw (frozen-at os i, want-frozen (get_or os i nothing) k) (h.memory.holds_old i k u c l);
    forward = h.memory.forward;
  }

  rules-frozen : Rules p t' (map frozen_object g.objects)
  rules-frozen = record {
    steady = h.rules.steady;
    closed = λ i k l e. rw (frozen-at os i) (h.rules.closed i k l e);
    frozen_is = λ i l e. rw (frozen-at os i) (frozen' i l e);
    shaped = λ i l. rw (frozen-at os i) (shaped' (get_or os i nothing) (h.rules.shaped i l));
  }
    where
      or-true : (b : Bool) → (b || true) ≡ true
      or-true true = refl
      or-true false = refl

      or-false : (b : Bool) → b ≡ false → (b || false) ≡ false
      or-false true e = e
      or-false false e = refl

      frozen' : (i : ℕ) → i < p.count → p.space i ≡ 3 → ((get_or os i nothing).frozen || eqb (get_or os i nothing).space 3) ≡ ltb (p.new i) (get_or (read_only_lows t) (index (p.kind i)) 0)
      frozen' i l e =
          let three : eqb (get_or os i nothing).space 3 ≡ true = eq-eqb (get_or os i nothing).space 3 (sym (h.memory.space_is i l) ∙ e) in
          let d : p.space i ≢ 0 = (λ z. omega (arith, z, e)) in
          let u = h.rules.steady i l d in
          let y = h.map.steady_low i u d in
          let sp : space_now p i ≡ 3 = (rw e refl) in
          let y' : p.new i + p.size i ≤ low t (window (p.kind i) 3) = (rw sp at y) in
          let z : p.new i < get_or (read_only_lows t) (index (p.kind i)) 0 = omega (arith, y', lows-there t (p.kind i), h.map.some i l) in
          rw (three, or-true (get_or os i nothing).frozen) (sym (lt-ltb (p.new i) (get_or (read_only_lows t) (index (p.kind i)) 0) z))

      shaped' : (o : Object) → Shaped o → Shaped (frozen_object o)
      shaped' o s = record {
        thawed = λ d. rw (ne_eqb o.space 3 d) (or-false o.frozen (s.thawed d));
        counted = s.counted;
        access_known = s.access_known;
        access_typed = s.access_typed;
        entry_small = s.entry_small;
        entry_typed = s.entry_typed;
      }

  lawful-frozen : Lawful (frozen_all g)
  lawful-frozen = record {
    cells_known = λ i k. rw (frozen-at os i) (more (get_or (get_or os i nothing).cells k (plain trap)) (h.lawful.cells_known i k));
    cells_typed = λ i k a b c. rw (frozen-at os i, class-frozen os (get_or (get_or os i nothing).cells k (plain trap)))
        (h.lawful.cells_typed i k (rw (frozen-long os) at a) (rw (frozen-at os i) at b) (rw (frozen-at os i) at c));
    registers_long = h.lawful.registers_long;
    registers_known = λ r. more (get_or g.registers r (plain trap)) (h.lawful.registers_known r);
    registers_set = λ r l. rw (class-frozen os (get_or g.registers r (plain trap))) (h.lawful.registers_set r l);
    space_known = h.lawful.space_known;
  }
    where
      more : (v : Value) → Known os v → Known (map frozen_object os) v
      more v k = known_more os (map frozen_object os) (omega (arith, frozen-long os)) v k

  pub shows-freeze : Shown 16 p (with_frozen m (read_only_lows m.table)) (frozen_all g)
  shows-freeze = record {
    frame = frame-frozen;
    map = map-frozen;
    memory = holds-frozen;
    rules = rules-frozen;
    filled = record { filled = h.filled.filled };
    counts = record { copies = h.counts.copies; makes = h.counts.makes; steadies = h.counts.steadies; helds = h.counts.helds };
    roots = h.roots;
    edits = h.edits;
    space = h.space;
    lawful = lawful-frozen;
    sound = h.sound;
  }

pub freeze-answers : (control bindings : ℕ) (m : Machine) → Answers (freeze (short m control bindings)) m (freeze_done control bindings m).0 (freeze_done control bindings m).1
unfolding freeze_done
freeze-answers control bindings m s d =
    admission-did control bindings true (λ x. (with_frozen x (read_only_lows x.table), Ok tt)) m [] tt (with_graph s (frozen_all s.graph)) s d
    (λ k e. did-done (with_frozen m (read_only_lows m.table)) tt (with_graph s (frozen_all s.graph)) s (with_frozen m (read_only_lows m.table), Ok tt) refl
    (record { shows = (d.shows.0, shows-freeze d.shows.0 m s.graph d.shows.1); used_is = d.used_is; room_is = d.room_is }))

-- the allocation space is one of the three
pub space_known : (n : ℕ) → is_some (space_at n) ≡ true → (n < 4) × (n ≢ 1)
space_known n h = numbers n (go (eqb n 0) (eqb n 2) (eqb n 3) h)
  where
    go : (a b c : Bool) → is_some (cond a (Some Dynamic) (cond b (Some Static) (cond c (Some ReadOnly) None))) ≡ true → (a || (b || c)) ≡ true
    go true b c z = refl
    go false true c z = refl
    go false false true z = refl
    go false false false z = z

    numbers : (n : ℕ) → (eqb n 0 || (eqb n 2 || eqb n 3)) ≡ true → (n < 4) × (n ≢ 1)
    numbers n z = grind (arith, nat_tests)

pub space-turned : (n : ℕ) → not (is_space n) ≡ not (is_some (space_at n))
space-turned n = ap not (go (eqb n 0) (eqb n 2) (eqb n 3))
  where
    go : (a b c : Bool) → (a || (b || c)) ≡ is_some (cond a (Some Dynamic) (cond b (Some Static) (cond c (Some ReadOnly) None)))
    go true b c = refl
    go false true c = refl
    go false false true = refl
    go false false false = refl

pub shows-space : (p : Places) (m : Machine) (g : Graph) (n : ℕ) → Shown 16 p m g → (n < 4) × (n ≢ 1) → Shown 16 p (in_space m n) (with_space g n)
shows-space p m g n h k = record {
  frame = h.frame;
  map = h.map;
  memory = h.memory;
  rules = h.rules;
  filled = h.filled;
  counts = h.counts;
  roots = h.roots;
  edits = h.edits;
  space = refl;
  lawful = record {
    cells_known = h.lawful.cells_known;
    cells_typed = h.lawful.cells_typed;
    registers_long = h.lawful.registers_long;
    registers_known = h.lawful.registers_known;
    registers_set = h.lawful.registers_set;
    space_known = k;
  };
  sound = h.sound;
}

pub space-answers : (control bindings n : ℕ) (m : Machine) → Answers (set_space (short m control bindings) n) m (space_done control bindings n m).0 (space_done control bindings n m).1
unfolding space_done
space-answers control bindings n m s d =
    rw (space-turned n) (admission-did control bindings (is_some (space_at n)) (λ x. (in_space x n, Ok tt)) m [] tt (with_graph s (with_space s.graph n)) s d
    (λ k e. did-done (in_space m n) tt (with_graph s (with_space s.graph n)) s (in_space m n, Ok tt) refl
    (record { shows = (d.shows.0, shows-space d.shows.0 m s.graph n d.shows.1 (space_known n k)); used_is = d.used_is; room_is = d.room_is })))
