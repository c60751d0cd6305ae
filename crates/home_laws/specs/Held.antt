-- What is held: a freed section leaves it at once, and signs are told only for what is in it. Assumes nothing.
use Rattle.std.specs.Prelude.{◌≡◌, ℕ, true, false, length}
use Rattle.messages.specs.declared.yard.Engine.{Engine}
use Rattle.messages.specs.declared.yard.Section.{Section}
use Rattle.messages.specs.declared.message.Act.TheVariants as act
use Rattle.messages.specs.declared.message.Call.{Call}
use Rattle.messages.specs.declared.message.Sign.{Sign}
use Rattle.engine_state.specs.declared.state.Event.TheVariants as event
use Rattle.engine_state.specs.declared.state.State.{State}
use Rattle.engine_state.specs.State.{made}
use Rattle.engine_state.specs.Calls.{holds_of}
use Rattle.home.specs.declared.home.Home.{Home}
use Rattle.home.specs.Home.{at}
use Rattle.home.specs.Queries.{holds_at}
use Rattle.home.specs.Inputs.{waits_of}

-- a section that is being freed is held no more
abbrev pub FreedIsNotHeld : Type 0
FreedIsNotHeld = (x : State) (c : Call) → length x.stored.kept.words ≡ 16 → c.act ≡ act.Free → holds_of (made x c) c.section ≡ false

-- a waiter is told only of one that holds what it waits for, and the sign that this one shows
abbrev pub ToldOfWhatIsHeld : Type 0
ToldOfWhatIsHeld =
    (h : Home) (e : Engine) (s : Section) (count : ℕ) (told : Sign) → (waits_of h e s count).1 ≡ event.Noted told →
    (holds_at h told.by s ≡ true) × (told.sign ≡ (at h told.by).signs.shown)
