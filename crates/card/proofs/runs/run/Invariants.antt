use Rattle.std.proofs.Common.{◌≡◌, ◌≤◌, length, take, vec_items, vec_len, vec_capacity}
use Rattle.card.specs.Runs.{all_filed, Went}
use Rattle.card.proofs.runs.run.Given as goal

abbrev pub invariant-loop-call : goal.invariant-loop-call
invariant-loop-call g l = record {
  logged : vec_len l.log ≡ l.call-index;
  room : length l.calls ≤ vec_capacity l.log;
  went : Went g.S.Store.contents g.S.Store.frame l.initial.card (take l.call-index l.calls) (vec_items l.log) l.card;
  filed : l.tickets ≡ all_filed l.initial.card.number l.initial.tickets (vec_items l.log);
  numbered : l.card.number ≡ l.initial.card.number;
}
