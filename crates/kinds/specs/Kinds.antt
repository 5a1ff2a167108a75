-- What a kind of object contributes.
use Rattle.std.specs.Prelude.{◌≡◌, ℕ, ◌/◌, ◌%◌, Bool, true, false, cond, not, ◌&&◌, ◌||◌, Some, None, Option, ◌==◌, nat_le, nat_lt}
use Rattle.words.specs.Words.{type_of, aligned, words_of, count_of, fixnum_word, character_word, null_word, trap_word}
use Rattle.kinds.specs.declared.kind.Kind.{Kind}
use Rattle.kinds.specs.declared.kind.Kind.TheVariants.{UVector, String, BVector, Symbol, List}
use Rattle.kinds.specs.declared.object_kind.Shape.{Shape}
use Rattle.kinds.specs.declared.object_kind.Descriptor.{Descriptor}
use Rattle.kinds.specs.declared.kind.Class.{Class}
use Rattle.kinds.specs.declared.kind.Class.TheVariants.{Fixnum, Character, Null, Unset, Pointer}

-- The type code of its pointers.
abbrev pub code : Kind → ℕ
code UVector = 3
code String = 4
code BVector = 7
code Symbol = 10
code List = 11

-- The kind whose pointers have this type code.
abbrev pub kind_of : ℕ → Option Kind
kind_of c = cond (c == 3) (Some UVector) (cond (c == 4) (Some String) (cond (c == 7) (Some BVector) (cond (c == 10) (Some Symbol) (cond (c == 11) (Some List) None))))

-- How many kinds there are, and its place among them in order of type code.
abbrev pub kinds : ℕ
kinds = 5

-- Its place among the kinds, in order of type code.
abbrev pub index : Kind → ℕ
index UVector = 0
index String = 1
index BVector = 2
index Symbol = 3
index List = 4

-- Its cells are words that hold values; else they are entries packed into words.
abbrev pub boxed : Kind → Bool
boxed UVector = false
boxed String = false
boxed BVector = true
boxed Symbol = true
boxed List = true

-- The words before its cells: a header, and in an unboxed object the access type and number of entries.
abbrev pub heads : Kind → ℕ
heads UVector = 2
heads String = 2
heads BVector = 1
heads Symbol = 0
heads List = 0

-- The words of its smallest object.
abbrev pub least : Kind → ℕ
least UVector = 2
least String = 2
least BVector = 1
least Symbol = 6
least List = 2

-- The words of an object that begins with this word.
abbrev pub size_by : Kind → ℕ → ℕ
size_by UVector w = words_of w
size_by String w = words_of w
size_by BVector w = words_of w
size_by Symbol w = 6
size_by List w = 2

-- The constants of a kind.
abbrev pub shape_of : Kind → Shape
shape_of κ = record { code = code κ; boxed = boxed κ; heads = heads κ; least = least κ }

-- Classes of words, told apart.
abbrev pub is_unset : Class → Bool
is_unset Fixnum = false
is_unset Character = false
is_unset Null = false
is_unset Unset = true
is_unset (Pointer κ) = false

-- The class of fixnums.
abbrev pub is_fixnum : Class → Bool
is_fixnum Fixnum = true
is_fixnum Character = false
is_fixnum Null = false
is_fixnum Unset = false
is_fixnum (Pointer κ) = false

-- The class of characters.
abbrev pub is_character : Class → Bool
is_character Fixnum = false
is_character Character = true
is_character Null = false
is_character Unset = false
is_character (Pointer κ) = false

-- The class of null.
abbrev pub is_null : Class → Bool
is_null Fixnum = false
is_null Character = false
is_null Null = true
is_null Unset = false
is_null (Pointer κ) = false

-- The class of pointers to objects of the kind μ.
abbrev pub is_a : Kind → Class → Bool
is_a μ Fixnum = false
is_a μ Character = false
is_a μ Null = false
is_a μ Unset = false
is_a μ (Pointer κ) = index κ == index μ

-- What may be written into a cell: a property list is null or a list, a print name a string; any other boxed cell takes all.
abbrev pub takes : Kind → ℕ → Class → Bool
takes UVector k c = is_fixnum c
takes String k c = is_character c
takes BVector k c = not (is_unset c)
takes Symbol k c = cond (k == 2) (is_null c || is_a List c) (cond (k == 3) (is_a String c) (not (is_unset c)))
takes List k c = not (is_unset c)

-- A symbol's value and definition are unset when it is made.
abbrev pub lacks : Kind → ℕ → Bool
lacks UVector k = false
lacks String k = false
lacks BVector k = false
lacks Symbol k = nat_lt k 2
lacks List k = false

-- The access types that its objects may have: a string has 8 bits an entry, a boxed object has none.
abbrev pub accessible : Kind → ℕ → Bool
accessible UVector a = nat_lt a 5
accessible String a = a == 3
accessible BVector a = a == 0
accessible Symbol a = a == 0
accessible List a = a == 0

-- The word of an entry of an unboxed object, as a value.
abbrev pub entry_word : Kind → ℕ → ℕ
entry_word UVector e = fixnum_word (count_of e)
entry_word String e = character_word (e % 256)
entry_word BVector e = fixnum_word (count_of e)
entry_word Symbol e = fixnum_word (count_of e)
entry_word List e = fixnum_word (count_of e)

-- The descriptor of a kind: its constants; and its sizes, unset cells, access types and entries are those that its numbers tell.
abbrev pub Describes : Kind → Descriptor → Type 0
Describes κ d =
    (d.shape ≡ shape_of κ) × ((w : ℕ) → size_by κ w ≡ cond (heads κ == 0) (least κ) (words_of w)) × ((k : ℕ) → lacks κ k ≡ nat_lt k d.unset)
    × ((a : ℕ) → accessible κ a ≡ (nat_le d.entries.least_access a && nat_le a d.entries.greatest_access))
    × ((e : ℕ) → entry_word κ e ≡ cond d.entries.characters (character_word (e % 256)) (fixnum_word (count_of e)))

-- The class of a word; none of a word that means nothing.
abbrev pub pointer_class : Bool → Option Kind → Option Class
pointer_class a None = None
pointer_class a (Some κ) = cond a (Some (Pointer κ)) None

-- The class of a word; none of a word that means nothing.
abbrev pub word_class : ℕ → Option Class
word_class w =
    cond (type_of w == 1) (Some Fixnum)
    (cond (w == trap_word) (Some Unset) (cond (w == null_word) (Some Null) (cond (w / 256 == 65536) (Some Character) (pointer_class (aligned w) (kind_of (type_of w))))))

-- The number that a fixnum or a character has in a packed entry.
abbrev pub entry_number : ℕ → ℕ
entry_number w = cond (type_of w == 1) (count_of w) (words_of w)
