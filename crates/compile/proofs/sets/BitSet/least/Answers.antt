use Rattle.std.proofs.Common.{rules}
use Rattle.compile.proofs.Living.{least_before, least_is}
use Rattle.compile.proofs.sets.BitSet.least.Goals as goal

pub returns-clause-before : goal.returns-clause-before
returns-clause-before c = least_before c.args.self.bits (search rules)

pub returns-clause-is : goal.returns-clause-is
returns-clause-is c = least_is c.args.self.bits (search rules)
