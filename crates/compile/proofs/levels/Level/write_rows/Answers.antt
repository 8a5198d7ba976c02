use Rattle.std.proofs.Common.{◌≡◌, ℕ, ◌+◌, ◌<◌, ◌||◌, ◌++◌, length, subst, ap, ◌∙◌, arith}
use Rattle.std.proofs.lemmas.List.{length-set}
use Rattle.diagram.specs.Keys.{key}
use Rattle.diagram.specs.Masks.{bit}
use Rattle.chain.specs.Tables.{occurs, table}
use Rattle.diagram.specs.Chains.{rows_of_edge}
use Rattle.diagram.specs.Diagrams.{Node}
use Rattle.compile.specs.Levels.{nodes_of}
use Rattle.compile.proofs.Levelling.{part_more, part_full, level_open, measured_more}
use Rattle.compile.specs.Vectors.{items}
use Rattle.compile.proofs.Living.{zero_bit}
use Rattle.compile.proofs.levels.Level.write_rows.Goals as goal

pub returns-in_err-lengths : goal.returns-in_err-lengths
returns-in_err-lengths c =
    let t = c.args.first in
    let l : c.loop-node.node < length (nodes_of c.args.self.now) = omega (arith, c.len-node-end.ensures.count) in
    let full = subst (λ (z : Node). 1024 < length (items c.loop-node.rows) + length (rows_of_edge (key c.args.first.side c.args.first.level c.loop-node.node) c.args.first.width 0 z)) c.node.ensures c.in_err-lengths.ensures in
    rw c.from_residual.ensures
    (part_full (items c.args.rows.now) (items c.loop-node.rows) _ _ _
    (level_open (items c.args.rows.now) (items c.loop-node.rows) t.side t.width t.level c.loop-node.node (nodes_of c.args.self.now) l c.loop-node.invariant.1) full)

pub loop-node-preserved : goal.loop-node-preserved
loop-node-preserved c =
    let t = c.args.first in
    let nodes = nodes_of c.args.self.now in
    let l : c.loop-node.node < length nodes = omega (arith, c.len-node-end.ensures.count) in
    let e = c.in_ok-lengths.ensures in (
      length-set c.loop-node.lengths c.loop-node.node c.in_ok-lengths.field-0.bits ∙ c.loop-node.invariant.0,
      part_more (items c.args.rows.now) (items c.loop-node.rows) (items c.node_rows.new.rows) _ _ _
          (level_open (items c.args.rows.now) (items c.loop-node.rows) t.side t.width t.level c.loop-node.node nodes l c.loop-node.invariant.1)
          (e.added ∙ ap (λ (z : Node). items c.loop-node.rows ++ rows_of_edge (key t.side t.level c.loop-node.node) t.width 0 z) c.node.ensures),
      measured_more c.loop-node.lengths t.width c.loop-node.node c.in_ok-lengths.field-0.bits nodes (omega (arith, c.loop-node.invariant.0)) c.loop-node.invariant.2
          (subst (λ (z : Node). (n : ℕ) → bit c.in_ok-lengths.field-0.bits n ≡ occurs (table t.width z) n) c.node.ensures (λ n. e.lengths n ∙ ap (λ b. b || occurs (table t.width c.node.result.now) n) (zero_bit n))),
    )
