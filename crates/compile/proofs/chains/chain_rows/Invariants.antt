use Rattle.std.proofs.Common.{◌≡◌, ◌+◌, ◌++◌, length, drop}
use Rattle.policy.specs.Fields.{widths}
use Rattle.diagram.specs.Chains.{rows_from, chain}
use Rattle.compile.specs.Levels.{diagram_of}
use Rattle.compile.proofs.Levelling.{Told}
use Rattle.compile.specs.Vectors.{items}
use Rattle.compile.proofs.chains.chain_rows.Given as goal

abbrev pub invariant-loop-field : goal.invariant-loop-field
invariant-loop-field l = (length l.lengths ≡ 5)
    × ((items l.rows) ++ rows_from l.side (drop l.field widths) (1 + l.field) (drop l.field (diagram_of l.levels)) ≡ chain l.side widths (diagram_of l.levels))
    × Told l.lengths (diagram_of l.levels) l.field
