use Rattle.std.proofs.Common.{◌^◌, ◌≤◌, arith, pow_mono}
use Rattle.compile.proofs.Filling.{edge_at, node_more, node_full}
use Rattle.compile.specs.Vectors.{items}
use Rattle.compile.proofs.rows.Table.node_rows.Goals as goal

pub overflow_cast-low : goal.overflow_cast-low
overflow_cast-low c =
    let t = c.args.self.now in
    let e = edge_at t.width c.loop-edge.low c.loop-edge.edge-index c.args.edges.now c.loop-edge-test.true c.loop-edge.invariant.0 in
    let p : 2 ^ c.args.self.now.width ≤ 2 ^ 32 = pow_mono t.narrow in
    omega (arith, e.0, e.1)

pub edge_rows-requires : goal.edge_rows-requires
edge_rows-requires c =
    (edge_at c.args.self.now.width c.loop-edge.low c.loop-edge.edge-index c.args.edges.now c.loop-edge-test.true c.loop-edge.invariant.0).1

pub returns-in_err-lengths : goal.returns-in_err-lengths
returns-in_err-lengths c =
    rw c.from_residual.ensures
    (node_full (items c.args.rows.now) (items c.loop-edge.rows) 0 c.loop-edge.lengths.bits c.args.self.now c.args.self.now.width c.loop-edge.low c.loop-edge.edge-index
    c.args.edges.now c.loop-edge-test.true c.loop-edge.invariant.1 c.in_err-lengths.ensures)

pub loop-edge-preserved : goal.loop-edge-preserved
loop-edge-preserved c =
    let e = edge_at c.args.self.now.width c.loop-edge.low c.loop-edge.edge-index c.args.edges.now c.loop-edge-test.true c.loop-edge.invariant.0 in (
      e.2,
      node_more (items c.args.rows.now) (items c.loop-edge.rows) 0 c.loop-edge.lengths.bits c.args.self.now c.args.self.now.width c.loop-edge.low c.loop-edge.edge-index
          c.args.edges.now c.loop-edge-test.true c.loop-edge.invariant.1 (items c.edge_rows.new.rows) c.in_ok-lengths.lengths.bits c.in_ok-lengths.ensures,
    )
