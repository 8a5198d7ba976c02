-- From the start of a node to its end.
use Rattle.std.proofs.Common.{◌≡◌, ℕ, ◌-◌, ◌^◌, ◌<◌, ◌≢◌, ◌⊎◌, List, [], ◌∷◌, ◌++◌, length, get_or, drop, Some, Option, sym, refl, ap, ◌∙◌, subst, inl, inr, arith, length-append, length-drop}
use Rattle.std.proofs.lemmas.List.{append-nil}
use Rattle.diagram.specs.Diagrams.{Node, Diagram, walk, Begins, Before}
use Rattle.diagram.specs.States.{nodes, Means, State, append1, Grows, Upto, Built}
use Rattle.diagram.proofs.Strings.{before_append, before_split, before_lower, begins_value}
use Rattle.diagram.proofs.Steady.{grows_refl, grows_trans, append_grows, nodes_here}
use Rattle.diagram.proofs.Steps.{Made, made_means, share_step, append_step}
use Rattle.diagram.proofs.Ranges.{state_iff}

-- no value is below 0
pub begin : (ws : List ℕ) (d : List ℕ → Option ℕ) (D : Diagram) (p : List ℕ)
    → State ws d D (λ q. Before q p) → State ws d D (λ q. Before q (p ++ 0 ∷ []))
begin ws d D p S =
    state_iff ws d D (λ q. Before q p) (λ q. Before q (p ++ 0 ∷ []))
    (λ q b l o. before_append q p (0 ∷ []) o)
    (λ q b l o. elim (before_split q p 0 o) [ inl a ↦ a | inr t ↦ absurd (omega (arith, t.3)) ])
    S

-- a whole header is no string of a level
pub leaf : (ws : List ℕ) (d : List ℕ → Option ℕ) (D : Diagram) (p : List ℕ) → length p ≡ length ws
    → State ws d D (λ q. Before q p) → State ws d D (Upto p)
leaf ws d D p e S =
    state_iff ws d D (λ q. Before q p) (Upto p)
    (λ q b l o. inl o)
    (λ q b l o. elim o [ inl a ↦ a | inr t ↦ absurd (omega (arith, ap length t.1, length-append p t.0)) ])
    S

pub leaf_built : (ws : List ℕ) (d : List ℕ → Option ℕ) (D : Diagram) (p : List ℕ) (k : ℕ) → length p ≡ length ws
    → State ws d D (λ q. Before q p) → d p ≡ Some k → Built ws d D D p k
leaf_built ws d D p k e S c =
    record {
      state = leaf ws d D p e S;
      grows = grows_refl ws D;
      there = λ l. absurd (omega arith);
      means = λ h g. only h (g.1 ∙ length-drop (length p) ws);
    }
  where
    only : (h : List ℕ) → length h ≡ length ws - length p → d (p ++ h) ≡ Some (walk (drop (length p) D) k h)
    only [] l = ap d (append-nil p) ∙ c
    only (x ∷ h) l = absurd (omega arith)

-- after the last value of the field: all that goes on from p is done, and p itself is not
after : (ws : List ℕ) (p r : List ℕ) (n : ℕ) → length r ≡ length p → Before r (p ++ n ∷ []) → Before r p
after ws p r n e b = elim (before_split r p n b)
    [ inl a ↦ a | inr t ↦ absurd (omega (arith, ap length t.2, length-append p (t.0 ∷ t.1))) ]

-- and then p is done too
whole : (ws : List ℕ) (d : List ℕ → Option ℕ) (D : Diagram) (p : List ℕ)
    → State ws d D (λ q. Before q (p ++ 2 ^ get_or ws (length p) 0 ∷ []) ⊎ (q ≡ p)) → State ws d D (Upto p)
whole ws d D p S =
    state_iff ws d D (λ q. Before q (p ++ 2 ^ get_or ws (length p) 0 ∷ []) ⊎ (q ≡ p)) (Upto p)
    (λ q b l o. elim o [
      | inl a ↦ elim (before_split q p (2 ^ get_or ws (length p) 0) a) [ inl c ↦ inl c | inr t ↦ inr (t.0 ∷ t.1, t.2) ]
      | inr e ↦ inr ([], e ∙ sym (append-nil p))
    ])
    (λ q b l o. elim o [
      | inl a ↦ inl (before_append q p (2 ^ get_or ws (length p) 0 ∷ []) a)
      | inr t ↦ back q b t.0 t.1
    ])
    S
  where
    back : (q : List ℕ) → Begins ws q → (s : List ℕ) → q ≡ p ++ s → Before q (p ++ 2 ^ get_or ws (length p) 0 ∷ []) ⊎ (q ≡ p)
    back q b [] e = inr (e ∙ append-nil p)
    back q b (x ∷ s) e =
        inl (subst (λ (z : List ℕ). Before z (p ++ 2 ^ get_or ws (length p) 0 ∷ [])) (sym e)
        (before_lower p x (2 ^ get_or ws (length p) 0) s [] (begins_value ws p x s (subst (λ (z : List ℕ). Begins ws z) e b))))

pub share_built : (ws : List ℕ) (d : List ℕ → Option ℕ) (C D : Diagram) (p : List ℕ) (k : ℕ) (node : Node)
    → Begins ws p → length p < length ws
    → State ws d D (λ q. Before q (p ++ 2 ^ get_or ws (length p) 0 ∷ [])) → Grows ws C D
    → Made ws d D p node → k < nodes D (length p) → get_or (get_or D (length p) []) k [] ≡ node → Built ws d C D p k
share_built ws d C D p k node b l S G M lk e =
    let m : Means ws d D k p = made_means ws d D D p node k M l (omega (arith, S.levels)) e refl in
    record {
      state = whole ws d D p (share_step ws d D (λ q. Before q (p ++ 2 ^ get_or ws (length p) 0 ∷ [])) S p b l (λ r e o. after ws p r (2 ^ get_or ws (length p) 0) e o) k lk m);
      grows = G;
      there = λ _. lk;
      means = m;
    }

pub append_built : (ws : List ℕ) (d : List ℕ → Option ℕ) (C D : Diagram) (p : List ℕ) (node : Node)
    → Begins ws p → length p < length ws
    → State ws d D (λ q. Before q (p ++ 2 ^ get_or ws (length p) 0 ∷ [])) → Grows ws C D
    → Made ws d D p node → ((k : ℕ) → k < nodes D (length p) → get_or (get_or D (length p) []) k [] ≢ node)
    → Built ws d C (append1 D (length p) node) p (nodes D (length p))
append_built ws d C D p node b l S G M fresh =
    let l_d : length p < length D = omega (arith, S.levels) in
    let a = append_step ws d D (λ q. Before q (p ++ 2 ^ get_or ws (length p) 0 ∷ [])) S p b l (λ r e o. after ws p r (2 ^ get_or ws (length p) 0) e o) node M fresh in
    record {
      state = whole ws d (append1 D (length p) node) p a.0;
      grows = grows_trans ws C D (append1 D (length p) node) G (append_grows ws D (length p) node l_d S.closed);
      there = λ _. omega (arith, nodes_here D (length p) node l_d);
      means = a.1;
    }

-- nothing is done, and nothing is there
pub empty_state : (ws : List ℕ) (d : List ℕ → Option ℕ) (D : Diagram) → length D ≡ length ws → ((g : ℕ) → nodes D g ≡ 0)
    → State ws d D (λ q. Before q [])
empty_state ws d D e z =
    record {
      levels = e;
      has = λ q b l o. absurd o;
      from = λ g k l m. absurd (omega (arith, z g));
      order = λ q k b l o. absurd o;
      apart = λ g j k l lj lk. absurd (omega (arith, z g));
      runs = λ g k l m. absurd (omega (arith, z g));
      closed = λ g k x l m. absurd (omega (arith, z g));
    }
