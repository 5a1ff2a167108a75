-- A word that means an object opens it.
use Rattle.std.proofs.Common.{◌≡◌, ℕ, zero, suc, ◌+◌, ◌-◌, ◌/◌, ◌%◌, ◌<◌, ◌≤◌, Bool, true, false, cond, ◌&&◌, ◌||◌, eqb, ltb, leb, ◌⊎◌, List, length, get_or, None, Ok, Err, sym, refl, inl, inr, arith}
use Rattle.std.proofs.lemmas.Bool.Decides.{nat_tests}
use Rattle.std.proofs.lemmas.Bool.{cases_eq, cases_Bool, eq-eqb, ne_eqb, lt-ltb, le-ltb, true≢false}
use Rattle.words.specs.Words.{type_of, space_of, pointer_of, header_word, entries_word}
use Rattle.words.specs.Packing.{packed_count}
use Rattle.words.proofs.Coding.{access_of-entries, count_of-entries}
use Rattle.kinds.specs.Kinds.{kind_of, least, boxed, heads, size_by, accessible}
use Rattle.answers.specs.declared.Refusal.TheVariants.{WrongKind}
use Rattle.graph.specs.Graph.{Immediate, plain, ref, Kind, uvector, string, bvector, symbol, list, Object, Graph, object}
use Rattle.graph.specs.Shape.{size, head_word, want, Counted, Shaped}
use Rattle.graph.proofs.Shape.{want-head, size-boxed}
use Rattle.layout.specs.Machine.{Table, Machine, windows, window, room, low, high, dirty, word_at}
use Rattle.layout.specs.Places.{Places, new_window, new_address, Means, Fits}
use Rattle.layout.specs.Shows.{Shown}
use Rattle.layout.proofs.Meaning.{means-ref}
use Rattle.layout.proofs.Windows.{new-below, new_in}
use Rattle.layout.proofs.Reading.{leads}
use Rattle.layout.proofs.Barrier.{shows-size}
use Rattle.layout.proofs.Same.{immediate-low}
use Rattle.store.specs.Checks.{in_use}
use Rattle.objects.specs.Open.{fetched, headed, measured, located, extent, opened_with, opened}
use Rattle.laws.proofs.Registers.{kind-code}

-- what every kind has
pub counted-few : (κ : Kind) (n : ℕ) → Counted κ n → n ≤ 65534
counted-few uvector n c = omega arith
counted-few string n c = omega arith
counted-few bvector n c = omega arith
counted-few symbol n c = omega (arith, c)
counted-few list n c = omega (arith, c)

pub least-cells : (κ : Kind) (n : ℕ) → Counted κ n → least κ ≤ heads κ + cond (boxed κ) n 0
least-cells uvector n c = omega arith
least-cells string n c = omega arith
least-cells bvector n c = omega arith
least-cells symbol n c = omega (arith, c)
least-cells list n c = omega (arith, c)

pub unboxed-two : (κ : Kind) → boxed κ ≡ false → heads κ ≡ 2
unboxed-two uvector b = refl
unboxed-two string b = refl
unboxed-two bvector b = absurd (true≢false b)
unboxed-two symbol b = absurd (true≢false b)
unboxed-two list b = absurd (true≢false b)

boxed-access : (κ : Kind) (a : ℕ) → boxed κ ≡ true → accessible κ a ≡ true → a ≡ 0
boxed-access uvector a b h = absurd (true≢false (sym b))
boxed-access string a b h = absurd (true≢false (sym b))
boxed-access bvector a b h = grind (arith, nat_tests)
boxed-access symbol a b h = grind (arith, nat_tests)
boxed-access list a b h = grind (arith, nat_tests)

pub least_size : (o : Object) → Shaped o → least o.kind ≤ size o
least_size o s = let a = least-cells o.kind (length o.cells) s.counted in go (boxed o.kind) a
  where
    go : (b : Bool) → least o.kind ≤ heads o.kind + cond b (length o.cells) 0 → least o.kind ≤ heads o.kind + cond b (length o.cells) (packed_count o.access (length o.cells))
    go true a = a
    go false a = omega (arith, a)

-- words of a window that are in use
pub in-use-part : (t : Table) (j x n k : ℕ) → j < windows → x + k ≤ room t j → (x + k ≤ low t j) ⊎ (high t j ≤ x) → n ≤ k → in_use t j x n ≡ true
unfolding in_use
in-use-part t j x n k a b (inl c) l = numbers j x n k (room t j) (low t j) (high t j) a b c l
  where
    numbers : (j x n k r lo hi : ℕ) → j < 20 → x + k ≤ r → x + k ≤ lo → n ≤ k → (ltb j 20 && (leb (x + n) r && (leb (x + n) lo || leb hi x))) ≡ true
    numbers j x n k r lo hi a b c l = grind (arith, nat_tests)
in-use-part t j x n k a b (inr c) l = numbers j x n k (room t j) (low t j) (high t j) a b c l
  where
    numbers : (j x n k r lo hi : ℕ) → j < 20 → x + k ≤ r → hi ≤ x → n ≤ k → (ltb j 20 && (leb (x + n) r && (leb (x + n) lo || leb hi x))) ≡ true
    numbers j x n k r lo hi a b c l = grind (arith, nat_tests)

pub fetched-there : (ws : List ℕ) (a : ℕ) → a < length ws → fetched ws a ≡ Ok (get_or ws a 0)
fetched-there ws a l = rw (lt-ltb a (length ws) l) refl

header-leads : (n : ℕ) → n < 16777216 → header_word n / 16777216 ≡ 16
header-leads n l = omega arith

-- an immediate word opens nothing
low-kind : (c : ℕ) → c ≤ 1 → kind_of c ≡ None
low-kind zero l = refl
low-kind (suc zero) l = refl
low-kind (suc (suc c)) l = absurd (omega arith)

extent-by : (t : Table) (ws : List ℕ) (κ : Kind) (w first n : ℕ) → in_use t (window κ (space_of w)) (pointer_of w) (least κ) ≡ true → fetched ws (located t κ w) ≡ Ok first →
    headed κ first ≡ true → size_by κ first ≡ n → in_use t (window κ (space_of w)) (pointer_of w) n ≡ true → extent t ws κ w ≡ Ok n
unfolding extent
extent-by t ws κ w first n a b c d e = rw (a, b, c, d, e) refl

measured-boxed : (ws : List ℕ) (κ : Kind) (a n c x : ℕ) → boxed κ ≡ true → n ≡ heads κ + c → c ≤ 65534 → x ≡ 0 → measured ws κ a n ≡ Ok (c, x)
unfolding measured
measured-boxed ws κ a n c x b e l z =
    let d : n - heads κ ≡ c = omega arith in
    let low : ltb n (heads κ) ≡ false = le-ltb n (heads κ) (omega arith) in
    let high : ltb 65534 c ≡ false = le-ltb 65534 c (omega arith) in
    rw (b, low, d, high, z) refl

measured-packed : (ws : List ℕ) (κ : Kind) (a n c x : ℕ) → boxed κ ≡ false → n ≡ heads κ + packed_count x c → c ≤ 65534 → x < 5 → accessible κ x ≡ true →
    fetched ws (a + 1) ≡ Ok (entries_word x c) → measured ws κ a n ≡ Ok (c, x)
unfolding measured
measured-packed ws κ a n c x b e l y ac f =
    let s : x % 5 ≡ x = omega arith in
    let high : ltb 65534 c ≡ false = le-ltb 65534 c (omega arith) in
    let same : eqb n (heads κ + packed_count x c) ≡ true = eq-eqb n (heads κ + packed_count x c) e in
    rw (b, f, access_of-entries x c (omega arith), count_of-entries x c (omega arith), ac, high, s, same) refl

module _ (p : Places) (m : Machine) (g : Graph) (s : Shown 16 p m g) (w : ℕ) where
  abbrev t : Table
  t = m.table

  pub opened-none : (x : Immediate) → Means p false w (plain x) → opened m.table m.words w ≡ Err WrongKind
  unfolding opened
  opened-none x h = let k = immediate-low x h.1 in let e : type_of w ≤ 1 = (rw h.0 k) in rw (low-kind (type_of w) e) refl

  module _ (i : ℕ) (h : Means p false w (ref i)) where
    abbrev o : Object
    o = object g i

    placed : p.placed i ≡ true
    placed = (means-ref p w i h).0

    known : i < p.count
    known = s.map.range i placed

    shape : Shaped o
    shape = s.rules.shaped i known

    pub kind-there : p.kind i ≡ (object g i).kind
    kind-there = s.memory.kind_is i known

    size-there : p.size i ≡ size o
    size-there = s.memory.size_is i known

    pub located-there : located m.table (object g i).kind w ≡ new_address m.table p i
    unfolding located
    located-there = let l = leads p t s.frame s.map w i h in rw (l.space_is, l.place_is, kind-there) refl

    small : size o ≤ 65536
    small = let a = s.map.inside i placed in let b = s.frame.narrow (new_window p i) (new-below p t s.frame s.map i placed) in omega (arith, a, b, size-there)

    part : (n : ℕ) → n ≤ size o → in_use t (new_window p i) (p.new i) n ≡ true
    part n l = in-use-part t (new_window p i) (p.new i) n (p.size i) (new-below p t s.frame s.map i placed) (s.map.inside i placed) (s.map.in_use i placed) (omega (arith, l, size-there))

    -- word k of the object
    pub word-there : (k : ℕ) → k < size (object g i) → (new_address m.table p i + k < length m.words) × Fits p (dirty m.table (new_window p i) (p.new i + k)) (word_at m (new_address m.table p i + k)) (want (object g i) k)
    word-there k l = let b : k < p.size i = omega (arith, l, size-there) in (new_in p t s.frame s.map i k (length m.words) placed b s.memory.long, s.memory.holds i k placed b)

    head-there : (k : ℕ) → k < heads o.kind → k < size o → word_at m (new_address t p i + k) ≡ head_word o k
    head-there k l b = let z = (word-there k b).1 in rw (want-head o k l) at z

    some : 0 < size o
    some = omega (arith, s.map.some i known, size-there)

    first-there : new_address t p i + 0 ≡ new_address t p i
    first-there = omega arith

    pub headed-there : headed (object g i).kind (word_at m (new_address m.table p i)) ≡ true
    headed-there = elim (cases_eq (heads o.kind) 0) [
      | inl e ↦ rw (eq-eqb (heads o.kind) 0 e) refl
      | inr d ↦ (let a : word_at m (new_address t p i) ≡ header_word (size o) = (rw first-there at (head-there 0 (omega arith) some)) in
          rw (a, header-leads (size o) (omega (arith, small)), ne_eqb (heads o.kind) 0 d) refl)
    ]

    in-use-there : (n : ℕ) → n ≤ size o → in_use t (window o.kind (space_of w)) (pointer_of w) n ≡ true
    in-use-there n b = let l = leads p t s.frame s.map w i h in rw (l.space_is, l.place_is, ← kind-there) (part n b)

    pub extent-there : extent m.table m.words (object g i).kind w ≡ Ok (size (object g i))
    extent-there =
        let f : fetched m.words (located t o.kind w) ≡ Ok (word_at m (new_address t p i)) = rw located-there (fetched-there m.words (new_address t p i) (rw first-there at (word-there 0 some).0)) in
        extent-by t m.words o.kind w (word_at m (new_address t p i)) (size o) (in-use-there (least o.kind) (least_size o shape)) f headed-there (shows-size 16 p m g s i placed) (in-use-there (size o) (omega arith))

    cells-few : length o.cells ≤ 65534
    cells-few = counted-few o.kind (length o.cells) shape.counted

    -- cells and access type are read off the head
    pub measured-there : measured m.words (object g i).kind (located m.table (object g i).kind w) (size (object g i)) ≡ Ok (length (object g i).cells, (object g i).access)
    measured-there = elim (cases_Bool (boxed o.kind)) [
      | inl b ↦ measured-boxed m.words o.kind (located t o.kind w) (size o) (length o.cells) o.access b (size-boxed o b) cells-few (boxed-access o.kind o.access b shape.access_typed)
      | inr b ↦ (let two = unboxed-two o.kind b in
          let long : size o ≡ heads o.kind + packed_count o.access (length o.cells) = (rw b refl) in
          let l : 1 < size o = omega (arith, long, two) in
          let e : word_at m (new_address t p i + 1) ≡ entries_word o.access (length o.cells) = head-there 1 (omega (arith, two)) l in
          let f : fetched m.words (located t o.kind w + 1) ≡ Ok (entries_word o.access (length o.cells)) = rw (located-there, ← e) (fetched-there m.words (new_address t p i + 1) (word-there 1 l).0) in
          measured-packed m.words o.kind (located t o.kind w) (size o) (length o.cells) o.access b long cells-few shape.access_known shape.access_typed f)
    ]

    -- the object as it is opened
    pub opened-there : opened m.table m.words w ≡ Ok (opened_with m.table w (object g i).kind (length (object g i).cells, (object g i).access))
    unfolding opened
    opened-there =
        let l = leads p t s.frame s.map w i h in
        rw (l.type-is, kind-there, kind-code o.kind, extent-there, measured-there) refl
