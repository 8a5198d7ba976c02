use Rattle.std.proofs.Common.{◌≡◌, length, subst, arith}
use lib.Bits.{bit_and, and_mask}
use Rattle.std.proofs.lemmas.List.{length-map}
use Rattle.compile.specs.Levels.{nodes_of, diagram_of}
use Rattle.compile.specs.Writing.{Chained}
use Rattle.compile.proofs.Compiled.{failed_unfit, long_unfit, chained_fits}
use Rattle.compile.specs.Vectors.{items}
use Rattle.compile.proofs.calls.make_chain.Goals as goal

pub returns-in_err-reduce : goal.returns-in_err-reduce
returns-in_err-reduce c = rw c.from_residual.ensures (failed_unfit c.args.lives.now.rules.now c.requires c.in_err-reduce.ensures)

pub returns-in_err-chain_rows : goal.returns-in_err-chain_rows
returns-in_err-chain_rows c =
    rw c.from_residual-in_err-chain_rows.ensures
    (long_unfit c.args.lives.now.rules.now (diagram_of c.reduce.new.levels) (bit_and c.args.side 3) c.in_ok-reduce.ensures c.in_err-chain_rows.ensures)

pub returns : goal.returns
returns c =
    let reduced = c.in_ok-reduce.ensures in
    let five : length c.reduce.new.levels ≡ 5 = omega (arith, reduced.levels, length-map c.reduce.new.levels nodes_of) in
    record {
      reduced = reduced;
      fits = chained_fits c.reduce.new.levels (items c.chain_rows.new.rows) c.chain_rows.new.lengths (bit_and c.args.side 3) five (omega (arith, c.len.ensures.value, c.len.ensures.fits)) c.in_ok-chain_rows.ensures;
      chained = subst (λ s. Chained (items c.chain_rows.new.rows) c.chain_rows.new.lengths s (diagram_of c.reduce.new.levels)) (and_mask c.args.side 2) c.in_ok-chain_rows.ensures;
      count = c.len.ensures.value;
    }
