-- The windows that a store is made with, and the state that it then is.
use Rattle.std.specs.Prelude.{ℕ, Bool, true, ◌&&◌, List, [], ◌∷◌, nat_le, slice_index, slice_index_or}
use Rattle.std.specs.List.{flat_map}
use Rattle.graph.specs.Shape.{index}
use Rattle.graph.specs.Calls.{State}
use Rattle.layout.specs.Fresh.{empty_graph}
use Rattle.fresh.specs.declared.windows.Windows.{Windows}

-- The words of a kind's windows, in order of space code: the two dynamic ones, the static and the read-only one.
abbrev pub of_kind : Windows → List ℕ
of_kind w = w.dynamic ∷ (w.dynamic ∷ (w.fixed ∷ (w.read_only ∷ [])))

-- The words of all windows, kind by kind.
unfoldable pub lengths : List Windows → List ℕ
lengths windows = flat_map of_kind windows

-- None of a kind's windows has more than 65,536 words.
abbrev pub narrow : Windows → Bool
narrow w = nat_le w.dynamic 65536 && (nat_le w.fixed 65536 && nat_le w.read_only 65536)

-- No window of any kind has more than 65,536 words.
unfoldable pub windows_fit : List Windows → Bool
windows_fit [] = true
windows_fit (w ∷ windows) = narrow w && windows_fit windows

-- Windows without a word.
abbrev pub no_windows : Windows
no_windows = record { dynamic = 0; fixed = 0; read_only = 0 }

-- The state of a store with these windows in which nothing was made: no object, every register null, no word in use.
unfoldable pub empty_state : List Windows → State
empty_state windows = record { graph = empty_graph; used = λ κ e. 0; room = λ κ e. slice_index (of_kind (slice_index_or windows (index κ) no_windows)) e }
