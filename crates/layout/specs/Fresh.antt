-- A heap just made.
use Rattle.std.specs.Prelude.{ℕ, ◌+◌, false, List, [], ◌∷◌, replicate, None}
use Rattle.words.specs.Words.{null_word}
use Rattle.graph.specs.Graph.{null, plain, list, Graph}
use Rattle.graph.specs.Shape.{kinds}
use Rattle.layout.specs.Machine.{Table, Machine, windows}
use Rattle.layout.specs.Places.{gap, Places}

-- The windows' starts, by their lengths.
abbrev pub starts_from : ℕ → List ℕ → List ℕ
starts_from a [] = a ∷ []
starts_from a (n ∷ ns) = a ∷ starts_from (a + n) ns

-- The table of windows of these lengths, with no word in use.
abbrev pub fresh_table : List ℕ → Table
fresh_table ns = record { starts = starts_from 0 ns; lows = replicate windows 0; highs = ns; froms = replicate windows 0; tos = replicate windows 0; frozen = replicate kinds 0; held = replicate kinds 0; now = 0 }

-- A machine just made with windows of these lengths.
abbrev pub fresh_machine : List ℕ → List ℕ → Machine
fresh_machine ns ws = record {
  words = ws;
  table = fresh_table ns;
  edits = [];
  space = 0;
  foreign = None;
  stacks = record { registers = replicate 16 null_word; control = []; bindings = []; control_dirty = 0; bindings_dirty = 0 };
}

-- The graph without an object: every register null, stacks and edits empty.
abbrev pub empty_graph : Graph
empty_graph = record { objects = []; registers = replicate 16 (plain null); control = []; bindings = []; edits = []; space = 0 }

-- The places of no object.
abbrev pub nowhere : Places
nowhere = record { count = 0; kind = λ _. list; space = λ _. 0; size = λ _. 0; now = 0; placed = λ _. false; new = λ _. 0; live = λ _. false; old = λ _. 0; tag = λ _. gap }
