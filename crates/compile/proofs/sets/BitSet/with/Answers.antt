use Rattle.std.proofs.Common.{sym, subst, arith}
use lib.Bits.{bit_or}
use Rattle.std.proofs.lemmas.Nat.{one_shl}
use Rattle.diagram.specs.Masks.{With}
use Rattle.diagram.proofs.Masking.{or_bit}
use Rattle.compile.proofs.sets.BitSet.with.Goals as goal

pub returns : goal.returns
returns c =
    subst (λ z. With c.args.self.bits c.args.n (bit_or c.args.self.bits z)) (sym (one_shl c.args.n 64 (omega arith)))
    (or_bit c.args.self.bits c.args.n)
