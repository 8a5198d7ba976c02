use Rattle.std.proofs.Common.{◌≡◌, take}
use Rattle.store_client.specs.Uses.{Alike, AnsweredAlike}
use Rattle.store_client.proofs.agree.Given as goal

abbrev pub invariant-loop-call : goal.invariant-loop-call
invariant-loop-call g l = record {
  left_frame : g.A.Store.frame l.a ≡ g.A.Store.frame l.initial.a;
  right_frame : g.B.Store.frame l.b ≡ g.B.Store.frame l.initial.b;
  alike : Alike (g.A.Store.contents l.initial.a) (g.B.Store.contents l.initial.b) → Alike (g.A.Store.contents l.a) (g.B.Store.contents l.b);
  answered : AnsweredAlike (g.A.Store.contents l.initial.a) (g.B.Store.contents l.initial.b) (take l.call-index l.calls) (g.A.Store.contents l.a) (g.B.Store.contents l.b);
}
