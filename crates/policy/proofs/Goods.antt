-- Good ranges, field by field.
use Rattle.std.proofs.Common.{◌≡◌, ℕ, zero, suc, ◌<◌, List, [], ◌∷◌, length, get_or, arith}
use Rattle.policy.specs.declared.rules.Range.{Range}
use Rattle.policy.specs.declared.shapes.Shape.{Shape}
use Rattle.policy.specs.Shapes.{GoodRange, GoodRanges}

pub good_each : (ws : List ℕ) (ss : List Shape) (rs : List Range) (s : Shape) (r : Range)
    → length ss ≡ length ws → length rs ≡ length ws
    → ((k : ℕ) → k < length ws → GoodRange (get_or ws k 0) (get_or ss k s) (get_or rs k r)) → GoodRanges ws ss rs
good_each [] [] [] s r a b f = tt
good_each [] [] (y ∷ rs) s r a b f = absurd (omega arith)
good_each [] (x ∷ ss) rs s r a b f = absurd (omega arith)
good_each (w ∷ ws) [] rs s r a b f = absurd (omega arith)
good_each (w ∷ ws) (x ∷ ss) [] s r a b f = absurd (omega arith)
good_each (w ∷ ws) (x ∷ ss) (y ∷ rs) s r a b f =
    (f zero (omega arith), good_each ws ss rs s r (omega arith) (omega arith) (λ k l. f (suc k) (omega arith)))

pub good_at : (ws : List ℕ) (ss : List Shape) (rs : List Range) (s : Shape) (r : Range) → GoodRanges ws ss rs
    → (k : ℕ) → k < length ws → GoodRange (get_or ws k 0) (get_or ss k s) (get_or rs k r)
good_at [] ss rs s r g k l = absurd (omega arith)
good_at (w ∷ ws) [] rs s r g k l = absurd g
good_at (w ∷ ws) (x ∷ ss) [] s r g k l = absurd g
good_at (w ∷ ws) (x ∷ ss) (y ∷ rs) s r g zero l = g.0
good_at (w ∷ ws) (x ∷ ss) (y ∷ rs) s r g (suc k) l = good_at ws ss rs s r g.1 k (omega arith)

-- There is a range for each width.
pub good_length : (ws : List ℕ) (ss : List Shape) (rs : List Range) → GoodRanges ws ss rs → length rs ≡ length ws
good_length [] [] [] g = omega arith
good_length [] [] (y ∷ rs) g = absurd g
good_length [] (x ∷ ss) rs g = absurd g
good_length (w ∷ ws) [] rs g = absurd g
good_length (w ∷ ws) (x ∷ ss) [] g = absurd g
good_length (w ∷ ws) (x ∷ ss) (y ∷ rs) g = let ih = good_length ws ss rs g.1 in omega arith
