-- Where the objects are, and what a word means.
use Rattle.std.specs.Prelude.{◌≡◌, ℕ, suc, ◌+◌, ◌-◌, ◌<◌, ◌≤◌, Bool, true, false, cond, not, ◌&&◌, ◌≢◌, ◌⊎◌, List, ◌==◌, nat_le, nat_lt, slice_index}
use Rattle.words.specs.Words.{pointer_word}
use Rattle.graph.specs.Graph.{Value, plain, ref, Kind}
use Rattle.graph.specs.Shape.{code, index, immediate_word, Small, Want, exact, value}
use Rattle.layout.specs.Machine.{Table, window, start, room, low, high, old_space, now_space}

-- Whose word an address is: word k of object i where it is now, or where it was at the flip.
pub data Tag : Type 0 where
  gap : Tag
  here : ℕ → ℕ → Tag
  past : ℕ → ℕ → Tag

-- Where the objects are: a witness that no code holds, of functions of the object's number.
pub record Places : Type 0 where
  -- The objects ever made, and what never changes of each.
  pub count : ℕ
  pub kind : ℕ → Kind
  pub space : ℕ → ℕ
  pub size : ℕ → ℕ
  -- The dynamic space that is new.
  pub now : ℕ
  -- In new, static or read-only space, and where in its window.
  pub placed : ℕ → Bool
  pub new : ℕ → ℕ
  -- In use at the flip, and where in its window it was.
  pub live : ℕ → Bool
  pub old : ℕ → ℕ
  pub tag : ℕ → Tag

-- The space code of an object's place.
abbrev pub space_now : Places → ℕ → ℕ
space_now p i = now_space p.now (p.space i)

-- The window in which an object lies now.
abbrev pub new_window : Places → ℕ → ℕ
new_window p i = window (p.kind i) (space_now p i)

-- The window in which an object lay at the flip.
abbrev pub old_window : Places → ℕ → ℕ
old_window p i = window (p.kind i) (old_space p.now)

-- The pointer word to an object where it is now.
abbrev pub new_word : Places → ℕ → ℕ
new_word p i = pointer_word (code (p.kind i)) (space_now p i) (p.new i)

-- The pointer word to an object where it was at the flip.
abbrev pub old_word : Places → ℕ → ℕ
old_word p i = pointer_word (code (p.kind i)) (old_space p.now) (p.old i)

-- The place in memory of an object's first word now.
abbrev pub new_address : Table → Places → ℕ → ℕ
new_address t p i = start t (new_window p i) + p.new i

-- The place in memory of an object's first word at the flip.
abbrev pub old_address : Table → Places → ℕ → ℕ
old_address t p i = start t (old_window p i) + p.old i

-- The word w means the value v; d says whether it may be an old pointer, which means what was there at the flip, wherever it is now.
abbrev pub Means : Places → Bool → ℕ → Value → Type 0
Means p d w (plain x) = (w ≡ immediate_word x) × Small x
Means p d w (ref i) = ((p.placed i ≡ true) × (w ≡ new_word p i)) ⊎ ((d ≡ true) × (p.live i ≡ true) × (w ≡ old_word p i))

-- a word is as it has to be
abbrev pub Fits : Places → Bool → ℕ → Want → Type 0
Fits p d w (exact x) = w ≡ x
Fits p d w (value v) = Means p d w v

-- How the objects lie in the windows. Nothing of it speaks of memory.
pub record Map (p : Places) (t : Table) : Type 0 where
  pub now_is : p.now ≡ t.now
  pub range : (i : ℕ) → p.placed i ≡ true → i < p.count
  pub range_old : (i : ℕ) → p.live i ≡ true → i < p.count
  pub spaces : (i : ℕ) → i < p.count → (p.space i < 4) × (p.space i ≢ 1)
  pub some : (i : ℕ) → i < p.count → 0 < p.size i
  pub dynamic_old : (i : ℕ) → p.live i ≡ true → p.space i ≡ 0
  pub inside : (i : ℕ) → p.placed i ≡ true → p.new i + p.size i ≤ room t (new_window p i)
  pub inside_old : (i : ℕ) → p.live i ≡ true → p.old i + p.size i ≤ room t (old_window p i)
  pub tagged : (i k : ℕ) → p.placed i ≡ true → k < p.size i → p.tag (new_address t p i + k) ≡ here i k
  pub tagged_old : (i k : ℕ) → p.live i ≡ true → k < p.size i → p.tag (old_address t p i + k) ≡ past i k
  pub back : (x i k : ℕ) → p.tag x ≡ here i k → (p.placed i ≡ true) × (k < p.size i) × (x ≡ new_address t p i + k)
  pub steady_low : (i : ℕ) → p.placed i ≡ true → p.space i ≢ 0 → p.new i + p.size i ≤ low t (new_window p i)
  pub in_use : (i : ℕ) → p.placed i ≡ true → (p.new i + p.size i ≤ low t (new_window p i)) ⊎ (high t (new_window p i) ≤ p.new i)
  pub gaps : (κ : Kind) (s x : ℕ) → s < 4 → s ≢ old_space p.now → low t (window κ s) ≤ x → x < high t (window κ s) → p.tag (start t (window κ s) + x) ≡ gap

-- a function changed at one place
unfoldable pub upd : {X : Type 0} → (ℕ → X) → ℕ → X → ℕ → X
upd f i x j = cond (j == i) x (f j)

-- The n words from a on are object i's.
unfoldable pub tagging : (ℕ → Tag) → ℕ → ℕ → ℕ → ℕ → Tag
tagging f a n i x = cond (nat_le a x && nat_lt x (a + n)) (here i (x - a)) (f x)

-- Object i, of kind κ and space s, is placed at `off` of its window, and has n words there; c objects are known.
abbrev pub placing : Places → Table → ℕ → Kind → ℕ → ℕ → ℕ → ℕ → Places
placing p t i κ s n off c = record {
  count = c;
  kind = upd p.kind i κ;
  space = upd p.space i s;
  size = upd p.size i n;
  now = p.now;
  placed = upd p.placed i true;
  new = upd p.new i off;
  live = p.live;
  old = p.old;
  tag = tagging p.tag (start t (window κ (now_space p.now s)) + off) n i;
}

-- There is room for it, and the cursors move past it.
pub record Room (p : Places) (t : Table) (ls hs : List ℕ) (i : ℕ) (κ : Kind) (s n off c : ℕ) : Type 0 where
  pub unplaced : p.placed i ≡ false
  pub grown : ((i < p.count) × (c ≡ p.count)) ⊎ ((i ≡ p.count) × (c ≡ suc p.count))
  pub kept : p.live i ≡ true → (p.kind i ≡ κ) × (p.space i ≡ s) × (p.size i ≡ n)
  pub known : (s < 4) × (s ≢ 1)
  pub some : 0 < n
  pub above : low t (window κ (now_space p.now s)) ≤ off
  pub below : off + n ≤ high t (window κ (now_space p.now s))
  pub lows_up : (l : ℕ) → low t l ≤ slice_index ls l
  pub highs_down : (l : ℕ) → slice_index hs l ≤ high t l
  pub taken : (off + n ≤ slice_index ls (window κ (now_space p.now s))) ⊎ (slice_index hs (window κ (now_space p.now s)) ≤ off)
  pub fills_low : s ≢ 0 → off + n ≤ slice_index ls (window κ (now_space p.now s))
  pub lows_new : (l x : ℕ) → low t l ≤ x → x < slice_index ls l → (l ≡ window κ (now_space p.now s)) × (off ≤ x) × (x < off + n)

-- And the words in use grow by it.
pub record Paid (p : Places) (t : Table) (ls hs : List ℕ) (i : ℕ) (κ : Kind) (s n : ℕ) : Type 0 where
  pub copies_more : (μ : Kind) → slice_index ls (window μ p.now) ≡ low t (window μ p.now) + cond (p.live i && index κ == index μ) n 0
  pub makes_more : (μ : Kind) → room t (window μ p.now) - slice_index hs (window μ p.now) ≡ (room t (window μ p.now) - high t (window μ p.now)) + cond ((not (p.live i) && s == 0) && index κ == index μ) n 0
  pub steadies_more : (μ : Kind) (e : ℕ) → 1 < e → e < 4 → slice_index ls (window μ e) ≡ low t (window μ e) + cond (s == e && index κ == index μ) n 0
