-- Strings of values in their order.
use Rattle.std.proofs.Common.{◌≡◌, ℕ, ◌^◌, ◌<◌, ◌≤◌, ◌⊎◌, List, [], ◌∷◌, ◌++◌, length, get_or, drop, refl, inl, inr, arith}
use Rattle.std.proofs.lemmas.Bool.{cases_eq}
use Rattle.diagram.specs.Diagrams.{Begins, Before}

pub before_append : (q p t : List ℕ) → Before q p → Before q (p ++ t)
before_append q [] t b = absurd b
before_append [] (y ∷ p) t b = absurd b
before_append (x ∷ q) (y ∷ p) t b =
    elim b [ inl l ↦ inl l | inr h ↦ inr (h.0, before_append q p t h.1) ]

-- before a string with one more value: before the string, or it goes on with a lower value
pub before_split : (q p : List ℕ) (y : ℕ) → Before q (p ++ y ∷ [])
    → Before q p ⊎ ((z : ℕ) × (s : List ℕ) × (q ≡ p ++ z ∷ s) × (z < y))
before_split [] [] y b = absurd b
before_split (x ∷ q) [] y b = elim b [ inl l ↦ inr (x, q, refl, l) | inr h ↦ absurd h.1 ]
before_split [] (w ∷ p) y b = absurd b
before_split (x ∷ q) (w ∷ p) y b =
    elim b [
      | inl l ↦ inl (inl l)
      | inr h ↦ elim (before_split q p y h.1) [
        | inl c ↦ inl (inr (h.0, c))
        | inr c ↦ inr (c.0, c.1, (λ i. h.0 i ∷ c.2 i), c.3)
      ]
    ]

pub before_lower : (p : List ℕ) (z y : ℕ) (s t : List ℕ) → z < y → Before (p ++ z ∷ s) (p ++ y ∷ t)
before_lower [] z y s t l = inl l
before_lower (x ∷ p) z y s t l = inr (refl, before_lower p z y s t l)

-- what comes before a string comes before it with a value raised
pub before_raise : (r p : List ℕ) (x y : ℕ) (s : List ℕ) → Before r (p ++ x ∷ s) → x ≤ y → Before r (p ++ y ∷ s)
before_raise [] [] x y s b l = absurd b
before_raise (z ∷ r) [] x y s b l =
    elim b [
      | inl m ↦ inl (omega arith)
      | inr h ↦ elim (cases_eq z y) [
        | inl e ↦ inr (e, h.1)
        | inr n ↦ inl (omega (arith, h.0))
      ]
    ]
before_raise [] (w ∷ p) x y s b l = absurd b
before_raise (z ∷ r) (w ∷ p) x y s b l =
    elim b [ inl m ↦ inl m | inr h ↦ inr (h.0, before_raise r p x y s h.1 l) ]

-- parts of a string that begins the fields
pub begins_parts : (ws q h : List ℕ) → Begins ws (q ++ h) → Begins ws q × Begins (drop (length q) ws) h
begins_parts ws [] h b = (tt, b)
begins_parts [] (x ∷ q) h b = absurd b
begins_parts (w ∷ ws) (x ∷ q) h b = ((b.0, (begins_parts ws q h b.1).0), (begins_parts ws q h b.1).1)

pub begins_join : (ws q h : List ℕ) → Begins ws q → Begins (drop (length q) ws) h → Begins ws (q ++ h)
begins_join ws [] h b c = c
begins_join [] (x ∷ q) h b c = absurd b
begins_join (w ∷ ws) (x ∷ q) h b c = (b.0, begins_join ws q h b.1 c)

pub begins_short : (ws q : List ℕ) → Begins ws q → length q ≤ length ws
begins_short ws [] b = omega arith
begins_short [] (x ∷ q) b = absurd b
begins_short (w ∷ ws) (x ∷ q) b = let ih : length q ≤ length ws = begins_short ws q b.1 in omega arith

-- the value after the front fits its field
pub begins_value : (ws p : List ℕ) (x : ℕ) (s : List ℕ) → Begins ws (p ++ x ∷ s) → x < 2 ^ get_or ws (length p) 0
begins_value [] [] x s b = absurd b
begins_value (w ∷ ws) [] x s b = b.0
begins_value [] (y ∷ p) x s b = absurd b
begins_value (w ∷ ws) (y ∷ p) x s b = begins_value ws p x s b.1

pub begins_change : (ws p : List ℕ) (x y : ℕ) (s : List ℕ) → Begins ws (p ++ x ∷ s) → y < 2 ^ get_or ws (length p) 0 → Begins ws (p ++ y ∷ s)
begins_change [] [] x y s b l = absurd b
begins_change (w ∷ ws) [] x y s b l = (l, b.1)
begins_change [] (z ∷ p) x y s b l = absurd b
begins_change (w ∷ ws) (z ∷ p) x y s b l = (b.0, begins_change ws p x y s b.1 l)
