-- What a history of calls and answers says. The newest event stands first.
use Rattle.std.specs.Prelude.{ℕ, zero, suc, ◌+◌, ◌-◌, Bool, cond, List, [], ◌∷◌, ◌++◌, take, Some, None, Option, ◌==◌}
use Rattle.store.specs.declared.row.Row.{Row}
use Rattle.card.specs.declared.states.SideState.{SideState}
use Rattle.card.specs.declared.states.SideState.TheVariants.{Free, SetAside}
use Rattle.card.specs.declared.events.Event.{Event}
use Rattle.card.specs.declared.events.Event.TheVariants.{SideRead, SeatRead, Cleared, Began, Refused}
use Rattle.card.specs.Views.{Begun, View, Right, searches_of}

abbrev pub History : Type 0
History = List Event

-- The chain of a side: that of the list last loaded there, empty before. No call loads a list yet.
abbrev pub chain_at : History → ℕ → List Row
chain_at [] s = []
chain_at (e ∷ h) s = chain_at h s

-- The rows of a side in the store: those written less those cleared.
abbrev pub held_at : History → ℕ → ℕ
held_at [] s = 0
held_at (SideRead t x n ∷ h) s = held_at h s
held_at (SeatRead k n ∷ h) s = held_at h s
held_at (Cleared t ∷ h) s = cond (s == t) (held_at h s - 1) (held_at h s)
held_at (Began k a i ∷ h) s = held_at h s
held_at (Refused c r ∷ h) s = held_at h s

-- The state of a side.
abbrev pub state_at : History → ℕ → SideState
state_at [] s = Free
state_at (SideRead t x n ∷ h) s = state_at h s
state_at (SeatRead k n ∷ h) s = state_at h s
state_at (Cleared t ∷ h) s = cond (s == t) (cond (held_at h s == 1) Free SetAside) (state_at h s)
state_at (Began k a i ∷ h) s = state_at h s
state_at (Refused c r ∷ h) s = state_at h s

-- The side in force: the one last switched to. No call switches yet.
abbrev pub current_at : History → Option ℕ
current_at [] = None
current_at (e ∷ h) = current_at h

-- A look-up that begins while a side is in force.
abbrev pub begun_on : Option ℕ → Option Begun
begun_on None = None
begun_on (Some s) = Some (record { side = s; searches = 0 })

-- The open look-up of a seat.
abbrev pub open_at : History → ℕ → Option Begun
open_at [] k = None
open_at (SideRead t x n ∷ h) k = open_at h k
open_at (SeatRead j n ∷ h) k = open_at h k
open_at (Cleared t ∷ h) k = open_at h k
open_at (Began j a i ∷ h) k = cond (k == j) (begun_on (current_at h)) (open_at h k)
open_at (Refused c r ∷ h) k = open_at h k

-- What the calls and answers so far tell. Whether the store was empty at building is told beside them.
abbrev pub seen : Bool → History → View
seen usable h = record { usable = usable; state = state_at h; held = held_at h; seat = open_at h; current = current_at h }

-- Each answer was the one called for by what came before it.
abbrev pub AllRight : Bool → History → Type 0
AllRight usable [] = Unit {0}
AllRight usable (e ∷ h) = Right (seen usable h) e × AllRight usable h

-- f 0, then f 1 and so on, up to f (n - 1).
abbrev pub all_to : (ℕ → List Row) → ℕ → List Row
all_to f zero = []
all_to f (suc n) = all_to f n ++ f n

-- The rows that the card has in the store: of each side the first of its chain, as many as it holds.
abbrev pub rows_at : History → List Row
rows_at h = all_to (λ s. take (held_at h s) (chain_at h s)) 3

-- f 0 + .. + f (n - 1).
abbrev pub sum_to : (ℕ → ℕ) → ℕ → ℕ
sum_to f zero = 0
sum_to f (suc n) = sum_to f n + f n

-- The searches told by the answers of look-ups that ended or were given up. No call does either yet.
abbrev pub told_before : History → ℕ
told_before [] = 0
told_before (e ∷ h) = told_before h

-- The searches told, those of open look-ups by their seats.
abbrev pub told_at : History → ℕ
told_at h = told_before h + sum_to (λ k. searches_of (open_at h k)) 8
