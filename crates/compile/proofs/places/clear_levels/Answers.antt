use Rattle.std.proofs.Common.{◌∙◌, arith}
use Rattle.std.proofs.lemmas.List.{length-set}
use Rattle.compile.proofs.Levelling.{emptied}
use Rattle.compile.proofs.places.clear_levels.Goals as goal

pub loop-level-preserved : goal.loop-level-preserved
loop-level-preserved c = (
  length-set c.loop-level.levels c.loop-level.level-index c.clear.new.self ∙ c.loop-level.invariant.0,
  emptied c.loop-level.levels c.loop-level.level-index c.clear.new.self (omega (arith, c.loop-level.invariant.0)) c.clear.ensures c.loop-level.invariant.1,
)
