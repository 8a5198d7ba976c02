use Rattle.std.proofs.Common.{refl}
use Rattle.card.proofs.runs.run_look_up.Goals as goal

pub returns-in-Ok : goal.returns-in-Ok
returns-in-Ok g c =
    let ticket = c.in-Ok.ensures.ticket in
    record { one = c.in-Ok.ensures.call c.args.place; call = refl; filed = cc (c.put.ensures, ticket) }

pub returns-in-Err : goal.returns-in-Err
returns-in-Err g c = record { one = c.in-Err.ensures.call c.args.place; call = refl; filed = refl }
