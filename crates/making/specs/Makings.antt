-- The makings of each kind, over machines.
use Rattle.std.specs.Prelude.{ℕ, ◌+◌, ◌%◌, Bool, false, cond, ◌&&◌, ◌||◌, [], ◌∷◌, ◌++◌, replicate, Some, None, Err, Option, Result, ◌==◌, nat_le, nat_lt}
use Rattle.words.specs.Words.{null_word, trap_word, header_word, entries_word}
use Rattle.words.specs.Packing.{packed_count}
use Rattle.kinds.specs.declared.kind.Kind.{Kind}
use Rattle.kinds.specs.declared.kind.Class.{Class}
use Rattle.kinds.specs.Kinds.{is_a, word_class}
use Rattle.answers.specs.declared.Refusal.{Refusal}
use Rattle.answers.specs.declared.Refusal.TheVariants.{WrongKind, OutOfBounds, DynamicInReadOnly}
use Rattle.graph.specs.Graph.{uvector, string, bvector, symbol, list}
use Rattle.layout.specs.Machine.{Machine, register_at}
use Rattle.store.specs.Checks.{dynamic_word}
use Rattle.store.specs.Flow.{admission}
use Rattle.making.specs.Make.{made}

-- A machine refuses.
abbrev pub refused : {B : Type 0} → Machine → Refusal → Machine × Result B Refusal
refused m e = (m, Err e)

-- A list is made of what two registers hold.
unfoldable pub list_made : ℕ → ℕ → ℕ → ℕ → ℕ → Machine → Machine × Result ℕ Refusal
list_made control bindings to car cdr =
    admission control bindings (nat_le to 15 && (nat_le car 15 && nat_le cdr 15))
    (λ m. cond (m.space == 3 && (dynamic_word (register_at m car) || dynamic_word (register_at m cdr))) (refused m DynamicInReadOnly)
    (made list m.space (register_at m car ∷ register_at m cdr ∷ []) to m))

-- A class is that of pointers to strings.
abbrev pub is_string : Option Class → Bool
is_string None = false
is_string (Some c) = is_a string c

-- A word points to a string.
unfoldable pub string_word : ℕ → Bool
string_word w = is_string (word_class w)

-- A symbol is made whose print name is the string in a register.
unfoldable pub symbol_made : ℕ → ℕ → ℕ → ℕ → Machine → Machine × Result ℕ Refusal
symbol_made control bindings to name =
    admission control bindings (nat_le to 15 && nat_le name 15)
    (λ m. cond (string_word (register_at m name))
    (cond (m.space == 3 && dynamic_word (register_at m name)) (refused m DynamicInReadOnly)
    (made symbol m.space (trap_word ∷ trap_word ∷ null_word ∷ register_at m name ∷ null_word ∷ null_word ∷ []) to m)) (refused m WrongKind))

-- A vector is made of so many entries, each what a register holds.
unfoldable pub vector_made : ℕ → ℕ → ℕ → ℕ → ℕ → Machine → Machine × Result ℕ Refusal
vector_made control bindings to count fill =
    admission control bindings (nat_le to 15 && nat_le fill 15)
    (λ m. cond (nat_lt 65534 count) (refused m OutOfBounds)
    (cond (m.space == 3 && (nat_lt 0 count && dynamic_word (register_at m fill))) (refused m DynamicInReadOnly)
    (made bvector m.space ((header_word ((count + 1) % 16777216) ∷ []) ++ replicate count (register_at m fill)) to m)))

-- An unboxed object of kind κ with so many entries of an access type, all 0.
unfoldable pub packed_made : Kind → ℕ → ℕ → ℕ → Machine → Machine × Result ℕ Refusal
packed_made κ access count to m =
    cond (nat_lt 65534 count) (refused m OutOfBounds)
    (made κ m.space
    ((header_word ((packed_count (access % 5) count + 2) % 16777216) ∷ entries_word (access % 16) (count % 268435456) ∷ []) ++ replicate (packed_count (access % 5) count) 0) to m)

-- A string is made of so many characters of code 0.
unfoldable pub string_made : ℕ → ℕ → ℕ → ℕ → Machine → Machine × Result ℕ Refusal
string_made control bindings to count = admission control bindings (nat_le to 15) (packed_made string 3 count to)

-- An unboxed vector is made of so many entries of an access type.
unfoldable pub words_made : ℕ → ℕ → ℕ → ℕ → ℕ → Machine → Machine × Result ℕ Refusal
words_made control bindings to count access = admission control bindings (nat_le to 15 && nat_le access 4) (packed_made uvector access count to)
