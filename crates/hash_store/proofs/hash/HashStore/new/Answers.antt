use Rattle.std.proofs.Common.{rules, arith, length-append, length-drop, length, replicate, None, List, ◌≡◌, ◌∙◌, sym, ap, min, ◌++◌, drop, Option}
use Rattle.std.proofs.lemmas.List.{length-take-le}
use Rattle.std.proofs.lemmas.Slice.{drop-append-drop}
use Rattle.store.specs.declared.row.Row.{Row}
use Rattle.hash_store.proofs.Probes.{sound_none, cleared}
use Rattle.hash_store.proofs.Cuts.{in_order}
use Rattle.hash_store.proofs.hash.HashStore.new.Goals as goal

pub invariant_of-result : goal.invariant_of-result
invariant_of-result c =
    let cs = c.args.cells.now in
    let ys : List (Option Row) = c.fill.new.self in
    let k = c.min-used.result in
    let long : length ys ≡ k = c.fill.ensures.len ∙ length-take-le k cs (omega arith) in
    let e : ys ≡ replicate (length ys) None = c.fill.ensures.after (λ y k. search rules) ∙ ap (λ n. replicate n None) (sym c.fill.ensures.len) in
    let m : min (length (ys ++ drop k cs)) 4096 ≡ k = omega (arith, length-append ys (drop k cs), length-drop k cs) in
    record { in_order = sound_none _ _ (λ j l. cleared (drop k cs) ys j e (omega (arith, long, m))); counts = omega arith }

pub returns-clause-beyond : goal.returns-clause-beyond
returns-clause-beyond c =
    let cs = c.args.cells.now in
    drop-append-drop c.min-used.result cs c.fill.new.self 4096 (omega arith) (c.fill.ensures.len ∙ length-take-le c.min-used.result cs (omega arith))

pub returns-clause-sound : goal.returns-clause-sound
returns-clause-sound c = in_order _
