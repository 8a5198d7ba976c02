use Rattle.std.proofs.lemmas.Result.{err_from_is_err_and}
use Rattle.sheet.proofs.Fields.{next_field, field_fails, no_more}
use Rattle.sheet.proofs.reader.Reader.numbers.Goals as goal

pub returns-in_err-destination : goal.returns-in_err-destination
returns-in_err-destination c =
    let q = err_from_is_err_and c.from_residual-in_err-destination.result c.from_residual-in_err-destination.ensures.1 in
    rw (q.1, q.2) (next_field _ _ c.in_ok-source.ensures (field_fails _ _ c.in_err-destination.ensures))

pub returns-in_err-source_port : goal.returns-in_err-source_port
returns-in_err-source_port c =
    let q = err_from_is_err_and c.from_residual-in_err-source_port.result c.from_residual-in_err-source_port.ensures.1 in
    rw (q.1, q.2) (next_field _ _ c.in_ok-source.ensures (next_field _ _ c.in_ok-destination.ensures (field_fails _ _ c.in_err-source_port.ensures)))

pub returns-in_err-destination_port : goal.returns-in_err-destination_port
returns-in_err-destination_port c =
    let q = err_from_is_err_and c.from_residual-in_err-destination_port.result c.from_residual-in_err-destination_port.ensures.1 in
    rw (q.1, q.2) (next_field _ _ c.in_ok-source.ensures (next_field _ _ c.in_ok-destination.ensures (next_field _ _ c.in_ok-source_port.ensures (field_fails _ _ c.in_err-destination_port.ensures))))

pub returns-in_err-protocol : goal.returns-in_err-protocol
returns-in_err-protocol c =
    let q = err_from_is_err_and c.from_residual-in_err-protocol.result c.from_residual-in_err-protocol.ensures.1 in
    rw (q.1, q.2) (next_field _ _ c.in_ok-source.ensures (next_field _ _ c.in_ok-destination.ensures (next_field _ _ c.in_ok-source_port.ensures (next_field _ _ c.in_ok-destination_port.ensures (field_fails _ _ c.in_err-protocol.ensures)))))

pub returns : goal.returns
returns c =
    next_field _ _ c.in_ok-source.ensures
    (next_field _ _ c.in_ok-destination.ensures (next_field _ _ c.in_ok-source_port.ensures (next_field _ _ c.in_ok-destination_port.ensures (next_field _ _ c.in_ok-protocol.ensures (no_more _ _)))))
