-- The questions of each call, and what its answer tells.
use Rattle.std.specs.Prelude.{◌≡◌, ℕ, ◌<◌, Bool, true, Some, None, Option}
use Rattle.questions.specs.Asking.{ask, accept}
use Rattle.policy.specs.Fields.{widths, Fit}
use Rattle.card.specs.declared.states.SideState.{SideState}
use Rattle.card.specs.declared.states.SideState.TheVariants.{SetAside}
use Rattle.card.specs.declared.events.Call.{Call}
use Rattle.card.specs.declared.events.Call.TheVariants.{ReadSide, ReadSeat, Clear, LookUp}
use Rattle.card.specs.declared.events.Event.{Event}
use Rattle.card.specs.declared.events.Event.TheVariants.{SideRead, SeatRead, Cleared, Began, Refused}
use Rattle.card.specs.Refusals.{number}

-- An open look-up: the side in force when it began, and its searches so far.
pub record Begun : Type 0 where
  pub side : ℕ
  pub searches : ℕ

-- What questions are asked about. A card shows it, and the calls and answers so far tell it.
pub record View : Type 0 where
  -- the store was empty when the card was built
  pub usable : Bool
  -- the state of a side, and how many rows of its chain the store holds
  pub state : ℕ → SideState
  pub held : ℕ → ℕ
  -- the open look-up of a seat
  pub seat : ℕ → Option Begun
  -- the side in force
  pub current : Option ℕ

-- An open look-up began on this side.
abbrev pub On : Option Begun → ℕ → Type 0
On None s = ⊥
On (Some b) s = b.side ≡ s

-- There is something.
abbrev pub Given : {A : Type 0} → Option A → Type 0
Given None = ⊥
Given (Some x) = Unit {0}

-- The questions of each call, in their order.
abbrev pub asks : View → Call → Option ℕ → Type 0
asks v (ReadSide s) = ask 20 (v.usable ≡ true) (ask 21 (s < 3) accept)
asks v (ReadSeat k) = ask 20 (v.usable ≡ true) (ask 21 (k < 8) accept)
asks v (Clear s) =
    ask 20 (v.usable ≡ true) (ask 21 (s < 3) (ask 26 (v.state s ≡ SetAside) (ask 27 ((k : ℕ) → On (v.seat k) s → ⊥) accept)))
asks v (LookUp k a i) =
    ask 20 (v.usable ≡ true) (ask 21 (k < 8) (ask 22 (v.seat k ≡ None) (ask 24 (Given v.current) (ask 12 (Fit widths a.numbers) accept))))

-- The call of an event.
abbrev pub call_of : Event → Call
call_of (SideRead s x n) = ReadSide s
call_of (SeatRead k n) = ReadSeat k
call_of (Cleared s) = Clear s
call_of (Began k a i) = LookUp k a i
call_of (Refused c r) = c

-- The number that the call of an event was refused with.
abbrev pub refused_with : Event → Option ℕ
refused_with (SideRead s x n) = None
refused_with (SeatRead k n) = None
refused_with (Cleared s) = None
refused_with (Began k a i) = None
refused_with (Refused c r) = Some (number r)

-- The searches of a seat: 0 where it is free.
abbrev pub searches_of : Option Begun → ℕ
searches_of None = 0
searches_of (Some b) = b.searches

-- What an answer tells is so.
abbrev pub Tells : View → Event → Type 0
Tells v (SideRead s x n) = (x ≡ v.state s) × (n ≡ v.held s)
Tells v (SeatRead k n) = n ≡ searches_of (v.seat k)
Tells v (Cleared s) = Unit {0}
Tells v (Began k a i) = Unit {0}
Tells v (Refused c r) = Unit {0}

-- An answer is the one called for: the call is refused exactly by its first question answered no, and
-- what is told is so.
pub record Right (v : View) (e : Event) : Type 0 where
  pub asked : asks v (call_of e) (refused_with e)
  pub told : Tells v e
