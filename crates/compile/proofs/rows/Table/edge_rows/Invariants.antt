use Rattle.std.proofs.Common.{◌+◌, ◌-◌}
use Rattle.diagram.specs.Blocks.{cover}
use Rattle.compile.proofs.Filling.{Filled}
use Rattle.compile.specs.Writing.{rows_of, tiles_of}
use Rattle.compile.specs.Vectors.{items}
use Rattle.compile.proofs.rows.Table.edge_rows.Given as goal

abbrev pub invariant-loop-next : goal.invariant-loop-next
invariant-loop-next l = Filled (items l.initial.rows) (items l.rows) l.initial.lengths.bits l.lengths.bits (rows_of l.self l.edge.to (cover l.self.width l.next l.edge.high)) (tiles_of l.edge.to (cover l.self.width l.next l.edge.high))
    (rows_of l.self l.edge.to (cover l.self.width l.low l.edge.high)) (tiles_of l.edge.to (cover l.self.width l.low l.edge.high))

abbrev pub decreases-loop-next : goal.decreases-loop-next
decreases-loop-next l = l.edge.high + 1 - l.next
