-- A diagram in the making that is too big: so is every reduced one.
use Rattle.std.proofs.Common.{◌≡◌, ℕ, zero, suc, ◌+◌, ◌-◌, ◌^◌, ◌<◌, ◌≤◌, ◌⊎◌, List, [], ◌∷◌, ◌++◌, length, get_or, drop, Some, Option, sym, refl, ap, ◌∙◌, subst, inl, inr, append_assoc, arith, length-append}
use Rattle.std.proofs.lemmas.Bool.{cases_order}
use Rattle.diagram.specs.Diagrams.{Node, Level, Diagram, next, walk, Runs, Begins, Header, Before, Reduced}
use Rattle.diagram.specs.States.{nodes, State, Upto, total, Big}
use Rattle.diagram.specs.Drafts.{Partial}
use Rattle.diagram.proofs.Unique.{next_first, next_later, runs_top, runs_high, walk_more, begins_more}
use Rattle.diagram.proofs.Fronts.{Down, front_more, front_same, target}

before_trans : (r q p : List ℕ) → Before r q → Before q p → Before r p
before_trans r [] p a b = absurd a
before_trans r (y ∷ q) [] a b = absurd b
before_trans [] (y ∷ q) (z ∷ p) a b = absurd a
before_trans (x ∷ r) (y ∷ q) (z ∷ p) a b =
    elim a [
      | inl l ↦ elim b [ inl m ↦ inl (omega arith) | inr m ↦ inl (omega (arith, m.0)) ]
      | inr l ↦ elim b [ inl m ↦ inl (omega (arith, l.0)) | inr m ↦ inr (l.0 ∙ m.0, before_trans r q p l.1 m.1) ]
    ]

before_front : (r p s : List ℕ) → Before r (p ++ s) → Before r p ⊎ ((t : List ℕ) × (r ≡ p ++ t))
before_front r [] s b = inr (r, refl)
before_front [] (y ∷ p) s b = absurd b
before_front (x ∷ r) (y ∷ p) s b =
    elim b [
      | inl l ↦ inl (inl l)
      | inr h ↦ elim (before_front r p s h.1) [
        | inl c ↦ inl (inr (h.0, c))
        | inr c ↦ inr (c.0, λ i. h.0 i ∷ c.1 i)
      ]
    ]

pub down_before : (p : List ℕ) → Down (λ q. Before q p)
down_before p q r o e b = before_trans r q p b o

pub down_upto : (p : List ℕ) → Down (Upto p)
down_upto p q r o e b = elim o [
  | inl a ↦ inl (before_trans r q p b a)
  | inr t ↦ before_front r p t.0 (subst (λ (z : List ℕ). Before r z) t.1 b)
]

total_front : (A B : Level) → length A ≤ length B → ((k : ℕ) → k < length A → get_or A k [] ≡ get_or B k []) → total A ≤ total B
total_front [] B l e = omega arith
total_front (a ∷ A) [] l e = absurd (omega arith)
total_front (a ∷ A) (b ∷ B) l e =
    let ih : total A ≤ total B = total_front A B (omega arith) (λ k m. e (suc k) (omega arith)) in
    let h : length a ≡ length b = ap length (e zero (omega arith)) in
    omega arith

pub total_member : (A : Level) (k : ℕ) → k < length A → length (get_or A k []) ≤ total A
total_member [] k l = absurd (omega arith)
total_member (a ∷ A) zero l = omega arith
total_member (a ∷ A) (suc k) l = let ih : length (get_or A k []) ≤ total A = total_member A k (omega arith) in omega arith

pub total_push : (A : Level) (n : Node) → total (A ++ n ∷ []) ≡ total A + length n
total_push [] n = omega arith
total_push (a ∷ A) n = let ih : total (A ++ n ∷ []) ≡ total A + length n = total_push A n in omega arith

pub runs_length : (t u lo : ℕ) (a b : Node) → Runs t lo a → Runs u lo b → t ≤ u
    → ((x : ℕ) → lo ≤ x → x ≤ t → next a x ≡ next b x) → length a ≤ length b
runs_length t u lo [] b r s l h = absurd r
runs_length t u lo (e ∷ a) [] r s l h = absurd s
runs_length t u lo (e ∷ []) (f ∷ b) r s l h = omega arith
runs_length t u lo (e ∷ (k ∷ a)) (f ∷ []) r s l h =
    let le : e.high + 1 ≤ t = runs_top t (e.high + 1) (k ∷ a) r.2 in
    let me : e.high + 1 ≤ k.high = runs_high t (e.high + 1) k a r.2 in
    let p : e.to ≡ f.to = sym (next_first e (k ∷ a) lo r.0) ∙ h lo (omega arith) (omega arith) ∙ next_first f [] lo s.0 in
    let v : k.to ≡ f.to = sym (next_first k a (e.high + 1) me) ∙ sym (next_later e (k ∷ a) (e.high + 1) (omega arith))
    ∙ h (e.high + 1) (omega arith) le ∙ next_first f [] (e.high + 1) (omega arith) in
    absurd (r.1 (p ∙ sym v))
runs_length t u lo (e ∷ (k ∷ a)) (f ∷ (g ∷ b)) r s l h =
    let le : e.high + 1 ≤ t = runs_top t (e.high + 1) (k ∷ a) r.2 in
    let me : e.high + 1 ≤ k.high = runs_high t (e.high + 1) k a r.2 in
    let mf : f.high + 1 ≤ g.high = runs_high u (f.high + 1) g b s.2 in
    let p : e.to ≡ f.to = sym (next_first e (k ∷ a) lo r.0) ∙ h lo (omega arith) (omega arith) ∙ next_first f (g ∷ b) lo s.0 in
    elim (cases_order e.high f.high) [
      | inl q ↦
          let s2 : Runs u (e.high + 1) (g ∷ b) = subst (λ n. Runs u (n + 1) (g ∷ b)) (sym q) s.2 in
          let ih : length (k ∷ a) ≤ length (g ∷ b)
          = runs_length t u (e.high + 1) (k ∷ a) (g ∷ b) r.2 s2 l
          (λ x m n. sym (next_later e (k ∷ a) x (omega arith)) ∙ h x (omega arith) n ∙ next_later f (g ∷ b) x (omega arith)) in
          omega arith
      | inr w ↦ elim w [
        | inl m ↦
            let v : k.to ≡ f.to = sym (next_first k a (e.high + 1) me) ∙ sym (next_later e (k ∷ a) (e.high + 1) (omega arith))
            ∙ h (e.high + 1) (omega arith) le ∙ next_first f (g ∷ b) (e.high + 1) (omega arith) in
            absurd (r.1 (p ∙ sym v))
        | inr m ↦
            let v : e.to ≡ g.to = sym (next_first e (k ∷ a) (f.high + 1) (omega arith)) ∙ h (f.high + 1) (omega arith) (omega arith)
            ∙ next_later f (g ∷ b) (f.high + 1) (omega arith) ∙ next_first g b (f.high + 1) mf in
            absurd (s.1 (sym p ∙ v))
      ]
    ]

-- a big diagram in the making
pub big_front : (ws : List ℕ) (d : List ℕ → Option ℕ) (D : Diagram) (p : List ℕ) → State ws d D (Upto p) → Big ws D
    → (E : Diagram) → Reduced ws d E → Big ws E
big_front ws d D p S b E R =
    let more : nodes D b.0 ≤ nodes E b.0 = front_more ws d D E (Upto p) S (down_upto p) R b.0 b.1 in (
      b.0,
      b.1,
      elim b.2 [
        | inl n ↦ inl (omega arith)
        | inr n ↦ inr (let t : total (get_or D b.0 []) ≤ total (get_or E b.0 [])
            = total_front (get_or D b.0 []) (get_or E b.0 []) more (λ k l. front_same ws d D E (Upto p) S (down_upto p) R b.0 k b.1 l) in omega arith)
      ],
    )

-- a node in the making with too many edges
pub big_draft : (ws : List ℕ) (d : List ℕ → Option ℕ) (D : Diagram) (p r : List ℕ) (top : ℕ) (node : Node)
    → State ws d D (λ q. Before q r) → Begins ws p → length p < length ws → top < 2 ^ get_or ws (length p) 0
    → Partial ws d D p (suc top) node → 1024 < length node → (E : Diagram) → Reduced ws d E → Big ws E
big_draft ws d D p r top node S b l lt P w E R =
    let k : ℕ = walk E 0 p in
    let lk : walk E 0 p < nodes E (length p) = R.within p b l in
    let le : length node ≤ length (get_or (get_or E (length p) []) (walk E 0 p) [])
    = runs_length top (2 ^ get_or ws (length p) 0 - 1) 0 node (get_or (get_or E (length p) []) (walk E 0 p) []) (P.runs top refl) (R.edges (length p) (walk E 0 p) l lk) (omega arith)
    (λ x lo hi.
    let fx : x < 2 ^ get_or ws (length p) 0 = omega arith in
    let ln : length (p ++ x ∷ []) ≡ suc (length p) = length-append p (x ∷ []) ∙ (omega arith) in
    target ws d D E (λ q. Before q r) S (down_before r) R p (next node x) x (begins_more ws p x b l fx) ln
    (λ h c. ap d (append_assoc p (x ∷ []) h) ∙ P.decides x h (omega arith) (subst (λ n. Header (drop n ws) h) ln c)
    ∙ ap (λ n. Some (walk (drop n D) (next node x) h)) (sym ln))
    (λ n. P.inside x n (omega arith))
    ∙ walk_more E 0 p x (omega (arith, R.levels))) in
    let t : length (get_or (get_or E (length p) []) (walk E 0 p) []) ≤ total (get_or E (length p) []) = total_member (get_or E (length p) []) (walk E 0 p) lk in
    (length p, l, inr (omega arith))
