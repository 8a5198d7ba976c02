use Rattle.sheet.specs.Meaning.{Line}
use Rattle.sheet.specs.Sheets.{coded, line_at}
use Rattle.sheet.proofs.MeansRead.{Worded, kind_worded, settled, single_meaning, rules_found, rules_only}
use Rattle.sheet.proofs.Refused.{refused_rightly}
use Rattle.sheet.proofs.sheets.read_rules.Goals as goal

pub returns : goal.returns
returns g c =
    let code = coded g.K.Kind.of_word g.K.Kind.code_of in
    let worded : Worded code = kind_worded g.K.Kind.of_word g.K.Kind.code_of g.K.Kind.word_of g.met.K.Kind.word_alone g.met.K.Kind.proper in
    let a = c.read_sheet.ensures in
    record {
      answers = a;
      settles = settled (Line code) (line_at code) c.args.sheet.now c.args.places.now c.read_sheet.new.places c.read_sheet.result (rules_found code worded) (rules_only code) a;
      refusals = refused_rightly code c.args.sheet.now c.args.places.now c.read_sheet.new.places c.read_sheet.result a;
      one = single_meaning (Line code) (line_at code) (rules_found code worded) c.args.sheet.now;
    }
