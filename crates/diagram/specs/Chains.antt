-- The rows of a chain.
use Rattle.std.specs.Prelude.{ℕ, ◌+◌, List, [], ◌∷◌, ◌++◌, map}
use Rattle.diagram.specs.declared.edges.Edge.{Edge}
use Rattle.diagram.specs.Diagrams.{Node, Level, Diagram}
use Rattle.diagram.specs.Blocks.{Block, cover}
use Rattle.diagram.specs.Keys.{key}
use Rattle.store.specs.declared.row.Row.{Row}

-- the rows of the edges of one node, the first of which begins at lo
abbrev pub rows_of_edge : (Block → ℕ) → ℕ → ℕ → Node → List Row
rows_of_edge make w lo [] = []
rows_of_edge make w lo (e ∷ es) = map (λ (b : Block). record { key = make b; result = e.to }) (cover w lo e.high) ++ rows_of_edge make w (e.high + 1) es

abbrev pub rows_of_level : ℕ → ℕ → ℕ → ℕ → Level → List Row
rows_of_level side w level k [] = []
rows_of_level side w level k (n ∷ ns) = rows_of_edge (key side level k) w 0 n ++ rows_of_level side w level (k + 1) ns

-- all rows, by level, then node, then value
abbrev pub rows_from : ℕ → List ℕ → ℕ → Diagram → List Row
rows_from side ws level [] = []
rows_from side [] level (L ∷ D) = []
rows_from side (w ∷ ws) level (L ∷ D) = rows_of_level side w level 0 L ++ rows_from side ws (level + 1) D

abbrev pub chain : ℕ → List ℕ → Diagram → List Row
chain side ws D = rows_from side ws 1 D

abbrev edge : ℕ → ℕ → Edge
edge h t = record { high = h; to = t }

-- The reduced diagram of the worked rules.
abbrev pub drawn : Diagram
drawn =
    ((edge 0x09FFFFFF 0 ∷ edge 0x0AFFFFFF 1 ∷ edge 0xFFFFFFFF 0 ∷ []) ∷ [])
    ∷ ((edge 0xFFFFFFFF 0 ∷ []) ∷ (edge 0xFFFFFFFF 1 ∷ []) ∷ [])
    ∷ ((edge 65535 0 ∷ []) ∷ (edge 65535 1 ∷ []) ∷ [])
    ∷ ((edge 0 0 ∷ edge 65534 1 ∷ edge 65535 0 ∷ []) ∷ (edge 0 0 ∷ edge 79 1 ∷ edge 80 2 ∷ edge 65534 1 ∷ edge 65535 0 ∷ []) ∷ [])
    ∷ ((edge 255 1 ∷ []) ∷ (edge 16 1 ∷ edge 17 29 ∷ edge 255 1 ∷ []) ∷ (edge 5 1 ∷ edge 6 0 ∷ edge 16 1 ∷ edge 17 29 ∷ edge 255 1 ∷ []) ∷ [])
    ∷ []

abbrev pub fields : List ℕ
fields = 32 ∷ 32 ∷ 16 ∷ 16 ∷ 8 ∷ []
