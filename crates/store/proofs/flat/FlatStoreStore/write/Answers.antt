use Rattle.std.proofs.Common.{◌<◌, ◌≤◌, min, length, take, sym, refl, ap, inl, inr, arith}
use Rattle.std.proofs.lemmas.List.{length-set, length-take-le, drop-set-lt}
use Rattle.store.specs.Finds.{found_some}
use Rattle.store.proofs.Fronts.{hit, miss, after_long, write_apart, write_finds, some_case, none_case}
use Rattle.store.proofs.flat.FlatStoreStore.write.Goals as goal

pub returns-then-is_some-clause-written : goal.returns-then-is_some-clause-written
returns-then-is_some-clause-written c =
    let s = c.args.self.now in
    let f = some_case c.position.result _ _ c.position.ensures (sym c.if-is_some.ensures) in
    let h = hit s.cells.now s.count (omega (arith, s.fits)) c.args.row.key f.0 f.1.within f.1.has f.1.before in
    record { asked = inr (found_some _ _ h, refl); effect = refl }

pub returns-then-n-usable-clause-written : goal.returns-then-n-usable-clause-written
returns-then-n-usable-clause-written c =
    let s = c.args.self.now in
    let m = none_case c.position.result _ _ c.position.ensures (sym c.if-is_some.ensures) in
    let fits : s.count ≤ length s.cells.now = omega (arith, s.fits) in
    let full : length (take s.count s.cells.now) < min (length s.cells.now) 4096 → ⊥ = λ l. omega (arith, length-take-le s.count s.cells.now fits) in
    record { asked = inl (miss s.cells.now s.count fits c.args.row.key m, inr (full, refl)); effect = refl }

pub invariant_of-self : goal.invariant_of-self
invariant_of-self c =
    let s = c.args.self.now in
    let m = none_case c.position.result _ _ c.position.ensures (sym c.if-is_some.ensures) in
    let fits : s.count ≤ length s.cells.now = omega (arith, s.fits) in
    let room : s.count < length s.cells.now = omega arith in
    let new = miss s.cells.now s.count fits c.args.row.key m in
    record { fits = simp length-set (omega arith); apart = write_apart s.cells.now s.count fits s.apart c.args.row room new; counts = s.counts }

pub returns-clause-written : goal.returns-clause-written
returns-clause-written c =
    let s = c.args.self.now in
    let x = c.args.row in
    let m = none_case c.position.result _ _ c.position.ensures (sym c.if-is_some.ensures) in
    let fits : s.count ≤ length s.cells.now = omega (arith, s.fits) in
    let room : s.count < length s.cells.now = omega arith in
    let new = miss s.cells.now s.count fits x.key m in
    let long = length-take-le s.count s.cells.now fits in
    record {
      asked = inl (new, inl (omega arith, refl));
      effect =
          record {
            finds = write_finds s.cells.now s.count fits s.apart x room new;
            held = omega (arith, after_long s.cells.now s.count fits s.apart x room new);
            capacity = ap (λ i. min i 4096) (length-set s.cells.now s.count x);
            tally = refl;
          };
    }

pub returns-clause-frame : goal.returns-clause-frame
returns-clause-frame c =
    let s = c.args.self.now in ap (λ ds. (s.cells.ghost_name, ds)) (drop-set-lt 4096 s.cells.now s.count c.args.row (omega arith))
