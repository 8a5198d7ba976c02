use Rattle.sheet.specs.Headers.{header_at}
use Rattle.sheet.specs.Meaning.{HeaderLine}
use Rattle.sheet.proofs.HeadersRead.{headers_found, headers_only}
use Rattle.sheet.proofs.MeansRead.{settled, single_meaning}
use Rattle.sheet.proofs.headers.read_headers.Goals as goal

pub returns : goal.returns
returns c =
    let a = c.read_sheet.ensures in
    record {
      answers = a;
      settles = settled HeaderLine header_at c.args.sheet.now c.args.places.now c.read_sheet.new.places c.read_sheet.result headers_found headers_only a;
      one = single_meaning HeaderLine header_at headers_found c.args.sheet.now;
    }
