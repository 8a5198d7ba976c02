use Rattle.std.proofs.Common.{◌≡◌, ℕ, Bool, false, List, ◌++◌, codes, decimal, Decides, sym, ap, ◌∙◌}
use Rattle.std.proofs.lemmas.Slice.Eq.{slice_eq-Decides, strip_prefix_is}
use Rattle.std.proofs.lemmas.List.{append_cancel_left}
use Rattle.std.proofs.lemmas.Option.{MatchOption-at_some, MatchOption-at_none}
use Rattle.std.proofs.lemmas.Bool.{both_ways}
use Rattle.policy.specs.declared.verdict.Verdict.TheVariants.{Accept, Discard, Reject}
use Rattle.policy.specs.Verdicting.{word_found, word_of_no_verdict}
use Rattle.policy.proofs.verdict.VerdictKind.from_word.Goals as goal
use Rattle.std.proofs.lemmas.Bool.Decides.{Decides-eqb}

-- A test that failed, of bytes that a slice holds.
differs : {xs ys zs : List ℕ} (r : Bool) → Decides r (xs ≡ ys) → ys ≡ zs → r ≡ false → xs ≡ zs → ⊥
differs r d same e p = both_ways r e (d.1 (p ∙ sym same))

pub returns-then-eq : goal.returns-then-eq
returns-then-eq c = word_found c.args.bytes.now Accept (sym ((slice_eq-Decides Decides-eqb _ _ _ c.eq.ensures).0 c.if-eq.true ∙ c.as_slice.ensures))

pub returns-then-eq-2 : goal.returns-then-eq-2
returns-then-eq-2 c = word_found c.args.bytes.now Discard (sym ((slice_eq-Decides Decides-eqb _ _ _ c.eq-2.ensures).0 c.if-eq-2.true ∙ c.as_slice-2.ensures))

pub returns-in_err-strip_prefix : goal.returns-in_err-strip_prefix
returns-in_err-strip_prefix c =
    let other = MatchOption-at_none _ _ c.in_err-strip_prefix.was (strip_prefix_is Decides-eqb c.args.bytes.now (codes "reject-") c.strip_prefix.result c.strip_prefix.ensures.cases) in
    c.from_residual.ensures
    ∙ word_of_no_verdict c.args.bytes.now
    (differs c.eq.result (slice_eq-Decides Decides-eqb _ _ _ c.eq.ensures) c.as_slice.ensures c.if-eq.false)
    (differs c.eq-2.result (slice_eq-Decides Decides-eqb _ _ _ c.eq-2.ensures) c.as_slice-2.ensures c.if-eq-2.false)
    (λ reason e. other (decimal reason.n) e)

pub returns : goal.returns
returns c =
    let front = MatchOption-at_some _ _ c.in_ok-strip_prefix.field-0 c.in_ok-strip_prefix.was (strip_prefix_is Decides-eqb c.args.bytes.now (codes "reject-") c.strip_prefix.result c.strip_prefix.ensures.cases) in
    word_found c.args.bytes.now (Reject c.in_ok-reason.reason)
    (ap (λ (ds : List ℕ). codes "reject-" ++ ds) c.in_ok-reason.ensures ∙ sym front)

pub returns-in_err-reason : goal.returns-in_err-reason
returns-in_err-reason c =
    let front = MatchOption-at_some _ _ c.in_ok-strip_prefix.field-0 c.in_ok-strip_prefix.was (strip_prefix_is Decides-eqb c.args.bytes.now (codes "reject-") c.strip_prefix.result c.strip_prefix.ensures.cases) in
    c.from_residual-in_err-reason.ensures
    ∙ word_of_no_verdict c.args.bytes.now
    (differs c.eq.result (slice_eq-Decides Decides-eqb _ _ _ c.eq.ensures) c.as_slice.ensures c.if-eq.false)
    (differs c.eq-2.result (slice_eq-Decides Decides-eqb _ _ _ c.eq-2.ensures) c.as_slice-2.ensures c.if-eq-2.false)
    (λ reason e. c.in_err-reason.ensures reason (append_cancel_left (codes "reject-") (decimal reason.n) c.in_ok-strip_prefix.field-0.now (sym e ∙ front)))
