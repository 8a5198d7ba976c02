use Rattle.compile.proofs.Living.{start_live}
use Rattle.compile.proofs.Lacking.{least_all}
use Rattle.compile.proofs.gaps.least_header.Goals as goal

pub returns : goal.returns
returns c =
    let lives = c.args.lives.now in
    least_all lives.rules.now c.args.target c.least.result (start_live lives.rules.now lives.few) c.least.ensures.found
