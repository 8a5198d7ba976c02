-- A string whose node is known already is done with all that goes on from it.
use Rattle.std.proofs.Common.{ℕ, ◌<◌, List, length, drop, Option, sym, subst, inl, inr, arith}
use Rattle.diagram.specs.Diagrams.{Diagram, walk, Begins, Before}
use Rattle.diagram.specs.States.{nodes, Means, State, Built}
use Rattle.diagram.proofs.Strings.{before_append}
use Rattle.diagram.proofs.Steady.{grows_refl}
use Rattle.diagram.proofs.Ranges.{lead}

pub skip_built : (ws : List ℕ) (d : List ℕ → Option ℕ) (D : Diagram) (p : List ℕ) (k : ℕ) → length p < length ws
    → State ws d D (λ q. Before q p) → k < nodes D (length p) → Means ws d D k p → Built ws d D D p k
skip_built ws d D p k l S lk m =
    record {
      state = record {
        levels = S.levels;
        has = λ q b lq o. elim o [
          | inl a ↦ S.has q b lq a
          | inr t ↦
              let u = lead ws d D (λ q. Before q p) S p k lk m t.0 (subst (λ (z : List ℕ). Begins ws z) t.1 b) (subst (λ (z : List ℕ). length z < length ws) t.1 lq) in (
                walk (drop (length p) D) k t.0,
                subst (λ (z : List ℕ). walk (drop (length p) D) k t.0 < nodes D (length z)) (sym t.1) u.0,
                subst (λ (z : List ℕ). Means ws d D (walk (drop (length p) D) k t.0) z) (sym t.1) u.1,
              )
        ];
        from = λ g j lg lj. let u = S.from g j lg lj in (u.0, u.1, u.2, inl u.3, u.4);
        order = λ q i b lq o li mi j lj. elim o [
          | inl a ↦ let u = S.order q i b lq a li mi j lj in (u.0, u.1, u.2, inl u.3, u.4, u.5)
          | inr t ↦
              let u = S.from (length q) j lq (omega arith) in
              (u.0, u.1, u.2, inl u.3, subst (λ (z : List ℕ). Before u.0 z) (sym t.1) (before_append u.0 p t.0 u.3), u.4)
        ];
        apart = S.apart;
        runs = S.runs;
        closed = S.closed;
      };
      grows = grows_refl ws D;
      there = λ _. lk;
      means = m;
    }
