use Rattle.std.proofs.Common.{◌≡◌}
use Rattle.sheet.proofs.Turns.{Turn}
use Rattle.sheet.proofs.lines.read_lines.Given as goal

abbrev pub invariant-loop-count : goal.invariant-loop-count
invariant-loop-count g l =
    record { sheet : l.reader.sheet.now ≡ l.sheet; turn : Turn g.F.LineForm.says l.sheet l.initial.places l.places l.count l.reader.at }
