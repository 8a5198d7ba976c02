use Rattle.std.proofs.Common.{drop}
use Rattle.diagram.specs.Chains.{rows_of_edge}
use Rattle.chain.specs.Tables.{tiles, table}
use Rattle.compile.specs.Writing.{key_in}
use Rattle.compile.proofs.Filling.{Filled, From}
use Rattle.compile.specs.Vectors.{items}
use Rattle.compile.proofs.rows.Table.node_rows.Given as goal

abbrev pub invariant-loop-edge : goal.invariant-loop-edge
invariant-loop-edge l = From l.self.width l.low (drop l.edge-index l.edges)
    × Filled (items l.initial.rows) (items l.rows) 0 l.lengths.bits (rows_of_edge (key_in l.self) l.self.width l.low (drop l.edge-index l.edges)) (tiles l.self.width l.low (drop l.edge-index l.edges))
    (rows_of_edge (key_in l.self) l.self.width 0 l.edges) (table l.self.width l.edges)
