-- What is printed of states, refusals, calls and events.
use Rattle.std.specs.Prelude.{ℕ, List, ◌++◌, codes, decimal}
use Rattle.card.specs.declared.states.SideState.{SideState}
use Rattle.card.specs.declared.states.SideState.TheVariants.{Free, Loading, Ready, InForce, SetAside}
use Rattle.card.specs.declared.refusals.Refusal.{Refusal}
use Rattle.card.specs.declared.refusals.Refusal.TheVariants.{HeaderTooWide, StoreNotEmpty, OutOfRange, NotFree, NothingInForce, NotSetAside, LookupOpen}
use Rattle.card.specs.declared.events.Call.{Call}
use Rattle.card.specs.declared.events.Call.TheVariants.{ReadSide, ReadSeat, Clear, LookUp}
use Rattle.card.specs.declared.events.Event.{Event}
use Rattle.card.specs.declared.events.Event.TheVariants.{SideRead, SeatRead, Cleared, Began, Refused}
use Rattle.card.specs.Refusals.{number}

abbrev pub state_text : SideState → List ℕ
state_text Free = codes "free"
state_text Loading = codes "loading"
state_text Ready = codes "ready"
state_text InForce = codes "in force"
state_text SetAside = codes "set aside"

abbrev pub refusal_text : Refusal → List ℕ
refusal_text HeaderTooWide = codes "a number of the header does not fit its field"
refusal_text StoreNotEmpty = codes "the store was not empty when the card was built"
refusal_text OutOfRange = codes "there is no such side or seat"
refusal_text NotFree = codes "the seat is taken"
refusal_text NothingInForce = codes "no list is in force"
refusal_text NotSetAside = codes "the side is not set aside"
refusal_text LookupOpen = codes "an open look-up began on the side"

abbrev pub call_text : Call → List ℕ
call_text (ReadSide side) = codes "read side " ++ decimal side
call_text (ReadSeat seat) = codes "read seat " ++ decimal seat
call_text (Clear side) = codes "clear a row of side " ++ decimal side
call_text (LookUp seat header place) = codes "look a header up in seat " ++ decimal seat

-- What the call answered.
abbrev pub event_text : Event → List ℕ
event_text (SideRead side state rows) = state_text state ++ codes ", " ++ decimal rows ++ codes " rows in the store"
event_text (SeatRead seat searches) = decimal searches ++ codes " searches so far"
event_text (Cleared side) = codes "done"
event_text (Began seat header place) = codes "begun, its ticket is in place " ++ decimal place ++ codes " of the box"
event_text (Refused call refusal) = codes "refused with " ++ decimal (number refusal) ++ codes ", " ++ refusal_text refusal
