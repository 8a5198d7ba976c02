-- How the states of a side change.
use Rattle.std.specs.Prelude.{ℕ, Bool, cond, ◌||◌, Some, None, Option, ◌==◌}
use Rattle.card.specs.declared.states.SideState.{SideState}
use Rattle.card.specs.declared.states.SideState.TheVariants.{Free, Loading, Ready, InForce, SetAside}
use Rattle.card.specs.declared.states.Change.{Change}
use Rattle.card.specs.declared.states.Change.TheVariants.{Load, Write, WriteLast, Switch, Retire, GiveUp, GiveUpEmpty, Clear, ClearLast}

-- A number for each state, to tell them apart by.
abbrev pub rank : SideState → ℕ
rank Free = 0
rank Loading = 1
rank Ready = 2
rank InForce = 3
rank SetAside = 4

abbrev pub is : SideState → SideState → Bool
is a b = rank a == rank b

-- A change is taken under a condition, and then leads to a state.
abbrev pub taken : Bool → SideState → Option SideState
taken b s = cond b (Some s) None

-- Which state takes a change, and what it becomes: a free side is loaded, a loading one is written and
-- ready with its last row, a ready one is put in force, the one in force is set aside when another takes
-- its place, a load that is given up is set aside or, where no row was written, free, and a side set
-- aside is free when its last row is cleared.
abbrev pub becomes : Change → SideState → Option SideState
becomes Load s = taken (is s Free) Loading
becomes Write s = taken (is s Loading) Loading
becomes WriteLast s = taken (is s Loading) Ready
becomes Switch s = taken (is s Ready) InForce
becomes Retire s = taken (is s InForce) SetAside
becomes GiveUp s = taken (is s Loading || is s Ready) SetAside
becomes GiveUpEmpty s = taken (is s Loading) Free
becomes Clear s = taken (is s SetAside) SetAside
becomes ClearLast s = taken (is s SetAside) Free
