use Rattle.std.proofs.Common.{rules, ℕ, MatchOption, Option, Some, ◌≡◌}
use Rattle.hash_store.specs.Cells.{cell_at, Passed, Stops}
use Rattle.hash_store.proofs.Rounds.{either}
use Rattle.hash_store.proofs.probe.stop.Goals as goal

pub returns : goal.returns
returns c =
    let f = cell_at c.args.cells.now in
    let q = c.args.key in
    let h = c.home-h.result in
    let r = c.or_else.result in
    let second : MatchOption c.scan.result (MatchOption r (Passed f q 0 h) (λ i. Stops f q 0 h i)) (λ i. ◌≡◌ {A = Option ℕ} r (Some i)) = search rules in
    either f c.args.m q h c.home-h.ensures.below c.home-h.ensures.home c.scan.result r c.scan.ensures second
