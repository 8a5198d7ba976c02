use Rattle.std.proofs.Common.{◌≡◌, ◌<◌, length, set, is_some, Option, None, ap, ◌∙◌, arith}
use Rattle.std.proofs.lemmas.List.{get_or-set_same, get_or-set_other, drop-set-lt}
use Rattle.store.specs.declared.row.Row.{Row}
use Rattle.hash_store.specs.Cells.{cell_at}
use Rattle.hash_store.proofs.Moves.{finish}
use Rattle.hash_store.proofs.shift.remove.Goals as goal

pub returns : goal.returns
returns c =
    let ds = c.settle-hole.new.cells in
    let hole = c.settle-hole.result in
    let e = c.settle-hole.ensures in
    let hl : hole < length ds = omega (arith, e.below) in
    let same : ◌≡◌ {A = Option Row} (cell_at (set ds hole None) hole) None = get_or-set_same ds hole None None hl in
    record {
      beyond = drop-set-lt 4096 ds hole None (omega (arith, e.below)) ∙ e.beyond;
      removed =
          λ r.
          finish (cell_at c.args.cells.now) (cell_at ds) (cell_at (set ds hole None)) c.args.m c.args.i hole (e.settled r)
          (ap is_some same) (λ x ne. get_or-set_other ds hole x None None ne);
    }
