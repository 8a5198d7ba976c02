use Rattle.std.proofs.Common.{◌≡◌, length, rules}
use Rattle.compile.proofs.Filling.{edge_full}
use Rattle.compile.specs.Vectors.{items}
use Rattle.compile.proofs.rows.Table.edge_rows.Goals as goal

pub returns-in_err-try_push : goal.returns-in_err-try_push
returns-in_err-try_push c =
    let b = c.next_block-block in
    let full : length (items c.loop-next.rows) ≡ 1024 = search rules in
    rw c.from_residual.ensures
    (edge_full (items c.args.rows.now) (items c.loop-next.rows) c.args.lengths.bits c.loop-next.lengths.bits c.args.self.now c.args.edge.to c.args.self.now.width c.args.low c.loop-next.next c.args.edge.high
    b.result b.ensures c.loop-next.invariant full)
