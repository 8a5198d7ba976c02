-- What a line says.
use Rattle.std.specs.Prelude.{ℕ, List, [], ◌∷◌}
use Rattle.policy.specs.declared.rules.Range.{Range}
use Rattle.faults.specs.declared.Spot.{Spot}
use Rattle.sheet.specs.Forms.{Read, got, fault}
use Rattle.sheet.specs.Readings.{address_at, port_at, protocol_at}

abbrev pub spot : ℕ → ℕ → Spot
spot l f = record { line = l; field = f }

-- One field, and what follows it.
abbrev pub and_then : {A B : Type 0} → Read A → (A → ℕ → Read B) → Read B
and_then (got x to) f = f x to
and_then (fault e) f = fault e

-- The five ranges of line l, which begins at byte `at`.
abbrev pub ranges_at : List ℕ → ℕ → ℕ → Read (List Range)
ranges_at s l at =
    and_then (address_at s (spot l 1) at) (λ a b.
    and_then (address_at s (spot l 2) b) (λ c d.
    and_then (port_at s (spot l 3) d) (λ e f.
    and_then (port_at s (spot l 4) f) (λ g h.
    and_then (protocol_at s (spot l 5) h) (λ i j.
    got (a ∷ c ∷ e ∷ g ∷ i ∷ []) j)))))
