-- What a place holds.
use Rattle.std.specs.Prelude.{ℕ, ◌<◌, ◌≤◌, [], length, slice_index_or}
use Rattle.policy.specs.Fields.{widths}
use Rattle.diagram.specs.Diagrams.{Diagram}
use Rattle.diagram.specs.Chains.{chain}
use Rattle.compile.specs.declared.places.Place.{Place}
use Rattle.compile.specs.Levels.{diagram_of, AllBare}

-- The diagram in a place.
abbrev pub diagram_in : Place → Diagram
diagram_in p = diagram_of p.levels

-- It is empty.
abbrev pub Bare : Place → Type 0
Bare p = AllBare p.levels

-- A chain fits when no level has over 256 nodes and it has at most 1,024 rows. How many rows it has does not
-- depend on the side.
pub record Fitting (D : Diagram) : Type 0 where
  pub nodes : (f : ℕ) → f < 5 → length (slice_index_or D f []) ≤ 256
  pub rows : length (chain 0 widths D) ≤ 1024
