use Rattle.std.proofs.Common.{ap}
use Rattle.sheet.specs.Calls.{seen}
use Rattle.sheet.specs.Readings.{address_at}
use Rattle.sheet.proofs.Fields.{ranged_whole}
use Rattle.sheet.proofs.Walks.{then_, address_number}
use Rattle.sheet.proofs.reader.Reader.address.Goals as goal

pub returns-in_ok-length-in-Number : goal.returns-in_ok-length-in-Number
returns-in_ok-length-in-Number c =
    ranged_whole address_at c.args.field c.begin-start.ensures.began
    (address_number c.in_ok-next.ensures (ap seen c.in-Number.is) c.value-first.ensures (then_ _ _ _ _ c.in_ok-second-in-Number.ensures c.in_ok-length-in-Number.ensures))
    c.begin-start.ensures.start c.block.ensures c.ok_or.ensures.value
