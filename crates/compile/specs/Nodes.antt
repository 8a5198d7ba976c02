-- Nodes whose edges stand one after another.
use Rattle.std.specs.Prelude.{ℕ, ◌+◌, ◌<◌, ◌≤◌, List, map, length, get_or, take, drop}
use Rattle.diagram.specs.declared.edges.Edge.{Edge}
use Rattle.diagram.specs.Diagrams.{Node}
use Rattle.compile.specs.declared.levels.Slot.{Slot}

-- The edges of the node at a slot.
abbrev pub node_of : List Edge → Slot → Node
node_of es s = take s.count (drop s.start es)

-- The nodes at all slots.
abbrev pub nodes_in : List Edge → List Slot → List Node
nodes_in es slots = map (node_of es) slots

-- Every slot lies among the edges.
abbrev pub Within : List Edge → List Slot → Type 0
Within es slots = (k : ℕ) (s : Slot) → k < length slots → (get_or slots k s).start + (get_or slots k s).count ≤ length es
