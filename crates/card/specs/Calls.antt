-- One call on a card: the card before, the call with its answer, and the card after.
use Rattle.std.specs.Prelude.{◌≡◌, ℕ, ◌+◌, ◌-◌, ◌*◌, cond, Some, None, vec_items, Option, Result, ◌==◌, slice_index_or, slice_set}
use Rattle.store.specs.declared.row.StoreRefusal.{StoreRefusal}
use Rattle.store.specs.Rows.{key_at}
use Rattle.store.specs.Meaning.{Contents, Erased}
use Rattle.policy.specs.declared.fields.Header.{Header}
use Rattle.card.specs.declared.states.SideState.{SideState}
use Rattle.card.specs.declared.states.Change.{Change}
use Rattle.card.specs.declared.states.Change.TheVariants.{Clear, ClearLast}
use Rattle.card.specs.declared.cards.Side.{Side}
use Rattle.card.specs.declared.cards.Walk.{Walk}
use Rattle.card.specs.declared.cards.Card.{Card}
use Rattle.card.specs.declared.events.Event.{Event}
use Rattle.card.specs.declared.events.Event.TheVariants.{SideRead, SeatRead, Cleared, Began, Refused}
use Rattle.card.specs.States.{becomes}
use Rattle.card.specs.Sides.{fresh}
use Rattle.card.specs.Views.{Begun, View, Right}

-- The side of a number.
abbrev pub side_of : {S : Type 0} → Card S → ℕ → Side
side_of c s = slice_index_or c.sides s fresh

-- The open look-up of a seat.
abbrev pub begun : Option Walk → Option Begun
begun None = None
begun (Some w) = Some (record { side = w.side; searches = w.searches })

-- What a card shows.
abbrev pub shown : {S : Type 0} → Card S → View
shown c = record {
  usable = c.usable;
  state = λ s. (side_of c s).state;
  held = λ s. (side_of c s).held;
  seat = λ k. begun (slice_index_or c.seats k None);
  current = c.current;
}

-- Clearing one of so many rows.
abbrev pub clearing : ℕ → Change
clearing n = cond (n == 1) ClearLast Clear

-- A side lost the last of its rows in the store, and the store that row; nothing else changed.
pub record OneCleared {S : Type 0} (contents : S → Contents) (c : Card S) (s : ℕ) (d : Card S) : Type 0 where
  pub state : SideState
  pub taken : Some state ≡ becomes (clearing (side_of c s).held) (side_of c s).state
  pub sides : d.sides ≡ slice_set c.sides s (record { state = state; held = (side_of c s).held - 1 })
  pub answer : Result (Unit {0}) StoreRefusal
  pub erased : Erased (contents c.store) (key_at (vec_items c.rows) (s * 1024 + ((side_of c s).held - 1))) answer (contents d.store)
  pub number : d.number ≡ c.number
  pub usable : d.usable ≡ c.usable
  pub seats : d.seats ≡ c.seats
  pub current : d.current ≡ c.current
  pub rows : d.rows ≡ c.rows

-- A seat was taken for a header on the side in force, with no search made; nothing else changed.
pub record OneBegun {S : Type 0} (c : Card S) (k : ℕ) (a : Header) (d : Card S) : Type 0 where
  pub side : ℕ
  pub in_force : c.current ≡ Some side
  pub seats : d.seats ≡ slice_set c.seats k (Some (record { side = side; header = a; searches = 0 }))
  pub number : d.number ≡ c.number
  pub store : d.store ≡ c.store
  pub usable : d.usable ≡ c.usable
  pub sides : d.sides ≡ c.sides
  pub current : d.current ≡ c.current
  pub rows : d.rows ≡ c.rows

-- What changed. A reading and a refused call change nothing.
abbrev pub Changed : {S : Type 0} → (S → Contents) → Card S → Event → Card S → Type 0
Changed contents c (SideRead s x n) d = d ≡ c
Changed contents c (SeatRead k n) d = d ≡ c
Changed contents c (Cleared s) d = OneCleared contents c s d
Changed contents c (Began k a i) d = OneBegun c k a d
Changed contents c (Refused call r) d = d ≡ c

-- One call on a card: its answer is the one called for, what changed, and that what no call of the store
-- changes stays as it was.
pub record OneCall {S F : Type 0} (contents : S → Contents) (frame : S → F) (c : Card S) (e : Event) (d : Card S) : Type 0 where
  pub right : Right (shown c) e
  pub changed : Changed contents c e d
  pub framed : frame d.store ≡ frame c.store
