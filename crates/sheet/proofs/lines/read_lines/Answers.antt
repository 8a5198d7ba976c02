use Rattle.std.proofs.Common.{◌≡◌, length, ap, ◌∙◌, arith}
use Rattle.std.proofs.lemmas.Result.{err_from_is_err_and}
use Rattle.faults.specs.declared.Position.{Position}
use Rattle.sheet.proofs.Turns.{exit_clean, exit_place, exit_feed, exit_line, again}
use Rattle.sheet.proofs.lines.read_lines.Goals as goal

pub returns-then-is_at_end : goal.returns-then-is_at_end
returns-then-is_at_end g c =
    let len = ap length c.loop-count.invariant.sheet in
    exit_clean c.loop-count.invariant.turn (omega arith) c.loop-count.auto.places (omega (arith, c.if-is_at_end.ensures))

pub returns-then-not-has_feed : goal.returns-then-not-has_feed
returns-then-not-has_feed g c =
    let len = ap length c.loop-count.invariant.sheet in
    exit_feed c.loop-count.invariant.turn (omega arith) c.loop-count.auto.places _ _ _ (c.begin_line.ensures.sheet ∙ c.loop-count.invariant.sheet) c.begin_line.ensures.at c.begin_line.ensures.line
    (omega (arith, c.if-is_at_end.ensures)) (omega arith) c.if-not-has_feed.ensures

pub returns-in_err-places : goal.returns-in_err-places
returns-in_err-places g c =
    let len = ap length c.loop-count.invariant.sheet in
    let q = err_from_is_err_and c.from_residual.result c.from_residual.ensures.1 in
    rw (q.1, q.2)
    (exit_line c.loop-count.invariant.turn (omega arith) c.loop-count.auto.places _ _ _ (c.begin_line.ensures.sheet ∙ c.loop-count.invariant.sheet) c.begin_line.ensures.at c.begin_line.ensures.line
    (omega (arith, c.if-is_at_end.ensures)) (omega arith) _ c.if-not-has_feed.ensures c.in_err-places.ensures.told)

pub loop-count-preserved : goal.loop-count-preserved
loop-count-preserved g c =
    let len = ap length c.loop-count.invariant.sheet in
    record {
      sheet = c.line.ensures.sheet ∙ c.begin_line.ensures.sheet ∙ c.loop-count.invariant.sheet;
      turn = again c.loop-count.invariant.turn (omega arith) c.loop-count.auto.places _ _ _ (c.begin_line.ensures.sheet ∙ c.loop-count.invariant.sheet) c.begin_line.ensures.at c.begin_line.ensures.line
          (omega (arith, c.if-is_at_end.ensures)) (omega arith) _ _ c.if-not-has_feed.ensures c.in_ok-places.ensures.told;
    }

pub returns-then-is_at_end-2 : goal.returns-then-is_at_end-2
returns-then-is_at_end-2 g c =
    let len = ap length c.loop-count.invariant.sheet in
    let full : c.loop-count.count ≡ c.min-most.result = omega arith in
    rw (← full) (exit_clean c.loop-count.invariant.turn (omega arith) c.loop-count.auto.places (omega (arith, c.if-is_at_end-2.ensures)))

pub returns-else-is_at_end-2 : goal.returns-else-is_at_end-2
returns-else-is_at_end-2 g c =
    let len = ap length c.loop-count.invariant.sheet in
    let full : c.loop-count.count ≡ c.min-most.result = omega arith in
    rw (← full, ap (λ (p : Position). p.at) c.position.ensures) (exit_place c.loop-count.invariant.turn (omega arith) c.loop-count.auto.places (omega arith) (omega (arith, c.if-is_at_end-2.ensures)))
