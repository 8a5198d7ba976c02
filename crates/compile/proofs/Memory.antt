-- What stands in the memory of known live rules.
use Rattle.std.proofs.Common.{◌≡◌, ℕ, ◌<◌, ◌≤◌, ◌⊎◌, List, length, get_or, set, Some, None, Option, IfSome, is_some, true, sym, ap, ◌∙◌, inl, inr, arith}
use Rattle.std.specs.Option.{unwrap_or}
use Rattle.std.proofs.lemmas.Bool.{cases_eq, cases_lt, true≢false}
use Rattle.std.proofs.lemmas.List.{get_or-set_same, get_or-set_other, set_past}
use Rattle.compile.specs.declared.caches.Known.{Known}
use Rattle.compile.specs.Builds.{Holds}

-- An entry that stands in the memory after a write is the one that was written, or stood there before.
pub held_set : (ms : List (Option Known)) (i : ℕ) (new e : Known) → Holds (set ms i (Some new)) e → (e ≡ new) ⊎ Holds ms e
held_set ms i new e held = go (cases_eq held.0 i) (cases_lt i (length ms))
  where
    at : (j : ℕ) → j ≡ held.0 → get_or (set ms i (Some new)) j None ≡ Some e
    at j q = ap (λ n. get_or (set ms i (Some new)) n None) q ∙ held.1

    go : (held.0 ≡ i) ⊎ (held.0 ≡ i → ⊥) → (i < length ms) ⊎ (length ms ≤ i) → (e ≡ new) ⊎ Holds ms e
    go (inl q) (inl l) =
        let z : ◌≡◌ {A = Option Known} (Some new) (Some e) = sym (get_or-set_same ms i (Some new) None l) ∙ at i (sym q) in
        inl (sym (ap (λ (o : Option Known). unwrap_or o new) z))
    go (inl q) (inr l) = inr (held.0, ap (λ (xs : List (Option Known)). get_or xs held.0 None) (sym (set_past ms i (Some new) l)) ∙ held.1)
    go (inr n) l = inr (held.0, sym (get_or-set_other ms i held.0 (Some new) None n) ∙ held.1)

-- Where every place is empty, there is no entry.
pub no_entry : (ms : List (Option Known)) → ((i : ℕ) → get_or ms i None ≡ None) → (e : Known) → Holds ms e → ⊥
no_entry ms none e held =
    let q : ◌≡◌ {A = Option Known} None (Some e) = sym (none held.0) ∙ held.1 in
    let z : ◌≡◌ {A = ℕ} 0 1 = ap (λ (o : Option Known). elim o [ None ↦ 0 | Some x ↦ 1 ]) q in
    omega arith

-- What is so of a value that is there.
pub some_at : (o : Option ℕ) (P : ℕ → Type 0) → is_some o ≡ true → IfSome o P → (k : ℕ) × P k
some_at None P e h = absurd (true≢false (sym e))
some_at (Some k) P e h = (k, h)
