-- The object graph: values, objects, registers, stacks.
use Rattle.std.specs.Prelude.{◌≡◌, ℕ, Bool, false, List, [], ◌∷◌, ◌++◌, slice_index_or, slice_set}
pub use Rattle.kinds.specs.declared.kind.Kind.{Kind}
pub use Rattle.kinds.specs.declared.kind.Kind.TheVariants.{UVector as uvector, String as string, BVector as bvector, Symbol as symbol, List as list}

-- A value that is no object; a fixnum is given by its 28 bits of data.
pub data Immediate : Type 0 where
  fixnum : ℕ → Immediate
  character : ℕ → Immediate
  null : Immediate
  trap : Immediate

-- What a register or cell holds: an immediate value, or a reference to the object of this number.
pub data Value : Type 0 where
  plain : Immediate → Value
  ref : ℕ → Value

-- An object: what it is, where it was made, whether it takes writes, and what it holds.
pub record Object : Type 0 where
  pub kind : Kind
  pub access : ℕ
  pub space : ℕ
  pub frozen : Bool
  pub cells : List Value

-- A symbol, and the value that its value cell had before.
pub record Binding : Type 0 where
  pub symbol : ℕ
  pub value : Value

-- All objects ever made, in the order of their making, and what holds values besides them.
pub record Graph : Type 0 where
  pub objects : List Object
  pub registers : List Value
  pub control : List Value
  pub bindings : List Binding
  pub edits : List ℕ
  pub space : ℕ

-- What an index past the end gives.
abbrev pub nothing : Object
nothing = record { kind = list; access = 0; space = 0; frozen = false; cells = [] }

-- The object of this number.
abbrev pub object : Graph → ℕ → Object
object g i = slice_index_or g.objects i nothing

-- An object with cell k replaced.
abbrev pub celled : Object → ℕ → Value → Object
celled o k v = record { kind = o.kind; access = o.access; space = o.space; frozen = o.frozen; cells = slice_set o.cells k v }

-- The graph with cell k of object i replaced.
abbrev pub put_cell : Graph → ℕ → ℕ → Value → Graph
put_cell g i k v = record { objects = slice_set g.objects i (celled (object g i) k v); registers = g.registers; control = g.control; bindings = g.bindings; edits = g.edits; space = g.space }

-- The graph with a register set.
abbrev pub put_register : Graph → ℕ → Value → Graph
put_register g r v = record { objects = g.objects; registers = slice_set g.registers r v; control = g.control; bindings = g.bindings; edits = g.edits; space = g.space }

-- The graph with one object more.
abbrev pub add_object : Graph → Object → Graph
add_object g o = record { objects = g.objects ++ o ∷ []; registers = g.registers; control = g.control; bindings = g.bindings; edits = g.edits; space = g.space }

-- An object of dynamic space.
abbrev pub dynamic : Object → Type 0
dynamic o = o.space ≡ 0
