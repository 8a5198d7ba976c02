use Rattle.std.proofs.Common.{◌/◌, ◌%◌, arith}
use Rattle.service.specs.Laws.{new_of_code, code_missing}
use Rattle.service.proofs.kind.ServiceClassKind.from_code.Goals as goal

pub returns-then-known : goal.returns-then-known
returns-then-known c =
    new_of_code (c.args.code / 4) (c.args.code % 4) c.args.code c.new.result c.new.ensures (omega arith) (omega arith) (omega arith)

pub returns-else-known : goal.returns-else-known
returns-else-known c = code_missing c.args.code (λ x e. omega (arith, x.few, x.low))
