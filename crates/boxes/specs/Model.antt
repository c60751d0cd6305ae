-- What a box stands for: its sections and last calls, and its engines. Assumes nothing.
use Rattle.messages.specs.declared.yard.BoxNumber.{BoxNumber}
use Rattle.messages.specs.declared.yard.Yard.{Yard}
use Rattle.keeper.specs.Model as keeper
use Rattle.home.specs.declared.home.Home.{Home}
use Rattle.home.specs.Home.{fresh_home}
use Rattle.boxes.specs.declared.signal_box.SignalBox.{SignalBox}

pub record State : Type 0 where
  pub keeper : keeper.State
  pub home : Home

abbrev pub state_of : SignalBox → State
state_of b = record { keeper = keeper.model_of b.keeper; home = b.home }

-- a box of which there is no record yet
abbrev pub fresh : Yard → BoxNumber → State
fresh y n = record { keeper = keeper.fresh; home = fresh_home y n }

abbrev pub with_keeper : State → keeper.State → State
with_keeper b k = record { keeper = k; home = b.home }

abbrev pub with_home : State → Home → State
with_home b h = record { keeper = b.keeper; home = h }
