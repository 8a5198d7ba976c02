use Rattle.std.proofs.Common.{◌-◌, ◌≤◌, min, length, get_or, refl, ap, inl, inr, arith}
use Rattle.std.proofs.lemmas.List.{length-set, length-take-le, drop-set-lt}
use Rattle.store.specs.Rows.{blank}
use Rattle.store.specs.Finds.{found_some}
use Rattle.store.proofs.Fronts.{hit, miss, fewer_apart, left_long, erase_apart, erase_finds}
use Rattle.store.proofs.flat.FlatStoreStore.erase.Goals as goal

pub returns-in_default-clause-erased : goal.returns-in_default-clause-erased
returns-in_default-clause-erased c =
    let s = c.args.self.now in
    let h = miss s.cells.now s.count (omega (arith, s.fits)) c.args.key c.in_default.ensures in
    record { asked = inr ((λ held. held h), refl); effect = refl }

pub invariant_of-self : goal.invariant_of-self
invariant_of-self c =
    let s = c.args.self.now in
    record { fits = omega (arith, s.fits); apart = fewer_apart s.cells.now s.count (omega (arith, s.fits)) s.apart (s.count - 1) (omega arith); counts = s.counts }

pub invariant_of-self-2 : goal.invariant_of-self-2
invariant_of-self-2 c =
    let s = c.args.self.now in
    let fits : s.count ≤ length s.cells.now = omega (arith, s.fits) in
    record { fits = simp length-set (omega (arith, s.fits)); apart = erase_apart s.cells.now s.count fits s.apart c.in-Some.i c.in-Some.ensures.within; counts = s.counts }

pub returns-clause-erased : goal.returns-clause-erased
returns-clause-erased c =
    let s = c.args.self.now in
    let cs = s.cells.now in
    let i = c.in-Some.i in
    let p = c.in-Some.ensures in
    let fits : s.count ≤ length cs = omega (arith, s.fits) in
    let h = hit cs s.count fits c.args.key i p.within p.has p.before in
    record {
      asked = inl (found_some _ _ h, refl);
      effect =
          record {
            finds = erase_finds cs s.count fits s.apart i p.within c.args.key p.has;
            held = omega (arith, p.within, left_long cs s.count fits s.apart i p.within, length-take-le s.count cs fits);
            capacity = ap (λ j. min j 4096) (length-set cs i (get_or cs (s.count - 1) blank));
            tally = refl;
          };
    }

pub returns-clause-frame : goal.returns-clause-frame
returns-clause-frame c =
    let s = c.args.self.now in
    let cs = s.cells.now in
    ap (λ ds. (s.cells.ghost_name, ds)) (drop-set-lt 4096 cs c.in-Some.i (get_or cs (s.count - 1) blank) (omega (arith, c.in-Some.ensures.within, s.fits)))
