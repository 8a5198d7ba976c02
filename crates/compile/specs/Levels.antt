-- What the levels of a diagram place hold.
use Rattle.std.specs.Prelude.{◌≡◌, ℕ, ◌+◌, ◌-◌, ◌^◌, ◌<◌, ◌≤◌, ◌≢◌, ◌⊎◌, List, [], ◌∷◌, ◌++◌, map, length, slice_index, slice_index_or}
use Rattle.policy.specs.Fields.{widths}
use Rattle.diagram.specs.Diagrams.{Node, Diagram, Runs}
use Rattle.diagram.specs.States.{total}
use Rattle.compile.specs.declared.levels.Level.{Level}
use Rattle.compile.specs.Nodes.{nodes_in}
use Rattle.compile.specs.Vectors.{items}

-- The nodes of a level, and the diagram of all levels.
abbrev pub nodes_of : Level → List Node
nodes_of L = nodes_in (items L.edges) (items L.slots)

abbrev pub diagram_of : List Level → Diagram
diagram_of Ls = map nodes_of Ls

-- Node k of the level has these edges: it was there, or is new.
pub record Shared (L M : Level) (edges : Node) (k : ℕ) : Type 0 where
  pub either : ((nodes_of M ≡ nodes_of L) × (k < length (nodes_of L)) × (slice_index_or (nodes_of L) k [] ≡ edges))
      ⊎ ((nodes_of M ≡ nodes_of L ++ edges ∷ []) × (k ≡ length (nodes_of L)) × ((j : ℕ) → j < length (nodes_of L) → slice_index_or (nodes_of L) j [] ≢ edges))

-- The level has no room for a further node with these edges.
abbrev pub Crowded : Level → Node → Type 0
Crowded L edges = (256 ≤ length (nodes_of L)) ⊎ (1024 < total (nodes_of L) + length edges)

-- A node with these edges is not there, and there is no room for it.
pub record Refused (L : Level) (edges : Node) : Type 0 where
  pub crowded : Crowded L edges
  pub fresh : (j : ℕ) → j < length (nodes_of L) → slice_index_or (nodes_of L) j [] ≢ edges

-- The edges of each node go from 0 to the last value of the field, each run as long as it can be.
abbrev pub AllRuns : ℕ → List Node → Type 0
AllRuns w nodes = (k : ℕ) → k < length nodes → Runs (2 ^ w - 1) 0 (slice_index_or nodes k [])

abbrev pub EachRuns : Diagram → Type 0
EachRuns D = (f : ℕ) → f < 5 → AllRuns (slice_index widths f) (slice_index_or D f [])

-- No level has a node.
abbrev pub AllBare : List Level → Type 0
AllBare Ls = (g : ℕ) → length (slice_index_or (diagram_of Ls) g []) ≡ 0
