use Rattle.std.proofs.Common.{Some, None, sym, refl, inl, inr, arith}
use Rattle.std.proofs.lemmas.Result.{err_from_is_err_and}
use Rattle.policy.specs.Fields.{widths, Fit}
use Rattle.policy.specs.Rules.{FirstMet, NoneMet}
use Rattle.policy.specs.Shapes.{Coded}
use Rattle.policy.specs.Refusals.{header_asks, list_number}
use Rattle.policy.proofs.Asked.{list_refused, list_passed}
use Rattle.policy.proofs.Firsts.{first_told, decided, undecided, none_not_some}
use Rattle.policy.proofs.plain.first_rule.Goals as goal

pub returns-in_err-check_list : goal.returns-in_err-check_list
returns-in_err-check_list g c =
    let p = err_from_is_err_and c.from_residual.result c.from_residual.ensures.1 in
    let h = c.in_err-check_list.ensures in
    rw (p.1, p.2)
    (record {
      asked = list_refused (Coded g.K.Kind.of_code) c.args.rules.now (header_asks c.args.rules.now c.args.header.now.numbers)
          (list_number c.in_err-check_list.field-0.0) h.asked;
      answers = h.names;
      told = first_told;
    })

pub returns-then-not-fits : goal.returns-then-not-fits
returns-then-not-fits g c =
    record {
      asked = list_passed (Coded g.K.Kind.of_code) c.args.rules.now (header_asks c.args.rules.now c.args.header.now.numbers) (Some 12)
          c.in_ok-check_list.ensures.asked (inr (c.fits.ensures.otherwise c.if-not-fits.true, refl));
      answers = tt;
      told = first_told;
    }

pub returns-then-meets : goal.returns-then-meets
returns-then-meets g c =
    let met = sym c.if-meets.ensures in
    let first : FirstMet c.args.rules.now c.args.header.now.numbers c.loop-i.i =
    record { within = c.loop-i-test.true; met = met; before = c.loop-i.invariant } in
    let fit : Fit widths c.args.header.now.numbers = c.fits.ensures.yes c.if-not-fits.false in
    record {
      asked = list_passed (Coded g.K.Kind.of_code) c.args.rules.now (header_asks c.args.rules.now c.args.header.now.numbers) None
          c.in_ok-check_list.ensures.asked (inl (fit, inl ((c.loop-i.i, c.loop-i-test.true, met), refl)));
      answers = record { first = first; code = refl; decided = decided c.args.rules.now c.args.header.now.numbers c.loop-i.i first };
      told = first_told;
    }

pub returns : goal.returns
returns g c =
    let fit : Fit widths c.args.header.now.numbers = c.fits.ensures.yes c.if-not-fits.false in
    let none : NoneMet c.args.rules.now c.args.header.now.numbers = λ j l. c.loop-i.invariant j (omega arith) in
    record {
      asked = list_passed (Coded g.K.Kind.of_code) c.args.rules.now (header_asks c.args.rules.now c.args.header.now.numbers) (Some 13)
          c.in_ok-check_list.ensures.asked (inl (fit, inr (none_not_some c.args.rules.now c.args.header.now.numbers none, refl)));
      answers = undecided c.args.rules.now c.args.header.now.numbers none;
      told = first_told;
    }
