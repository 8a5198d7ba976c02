use Rattle.std.proofs.Common.{sym, refl, arith, ◌∙◌}
use Rattle.store.proofs.Fronts.{hit, miss}
use Rattle.store.proofs.flat.FlatStoreStore.search.Goals as goal

pub returns-in_err-i-clause-searched : goal.returns-in_err-i-clause-searched
returns-in_err-i-clause-searched c =
    let s = c.args.self.now in
    record {
      answer = c.from_residual.ensures ∙ sym (miss s.cells.now s.count (omega (arith, s.fits)) c.args.key c.in_err-i.ensures);
      rows = refl;
      capacity = refl;
      tally = omega arith;
    }

pub returns-clause-searched : goal.returns-clause-searched
returns-clause-searched c =
    let s = c.args.self.now in
    let p = c.in_ok-i.ensures in
    record {
      answer = sym (hit s.cells.now s.count (omega (arith, s.fits)) c.args.key c.in_ok-i.i p.within p.has p.before);
      rows = refl;
      capacity = refl;
      tally = omega arith;
    }
