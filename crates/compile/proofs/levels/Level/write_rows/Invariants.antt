use Rattle.std.proofs.Common.{◌≡◌, ◌++◌, length, drop}
use Rattle.diagram.specs.Chains.{rows_of_level}
use Rattle.compile.specs.Levels.{nodes_of}
use Rattle.compile.specs.Writing.{Measured}
use Rattle.compile.specs.Vectors.{items}
use Rattle.compile.proofs.levels.Level.write_rows.Given as goal

abbrev pub invariant-loop-node : goal.invariant-loop-node
invariant-loop-node l = (length l.lengths ≡ 256)
    × ((items l.rows) ++ rows_of_level l.first.side l.first.width l.first.level l.node (drop l.node (nodes_of l.self))
    ≡ (items l.initial.rows) ++ rows_of_level l.first.side l.first.width l.first.level 0 (nodes_of l.self))
    × Measured l.lengths l.first.width (nodes_of l.self) l.node
