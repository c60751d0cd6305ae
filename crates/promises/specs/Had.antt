-- Who is said to have a section has it. Assumes nothing.
use Rattle.std.specs.Prelude.{◌≡◌, ℕ, List, Some}
use Rattle.messages.specs.declared.yard.BoxNumber.{BoxNumber}
use Rattle.messages.specs.declared.yard.Engine.{Engine}
use Rattle.messages.specs.declared.yard.Section.{Section}
use Rattle.messages.specs.declared.message.Act.TheVariants as act
use Rattle.messages.specs.declared.message.Message.TheVariants as message
use Rattle.journal.specs.declared.output.Output.TheVariants as output
use Rattle.world.specs.declared.step.Step.{Step}
use Rattle.world.specs.World.{Answer, Makes, World}
use Rattle.world.specs.Runs.{Reached, Run, SaidIn, Says, Taken, holder_in}

-- Whoever is said to have a section has it, until its home sends that it frees it.
abbrev pub AlwaysHad : Type 0
AlwaysHad = (w u v : World) (s : Step) (a : Answer) (e : Engine) (place : Section) (steps : List Taken) → Reached w → Makes w s (u, a) → Says a (output.Had e place)
    → Run u steps v → ((n : ℕ) (b : BoxNumber) → SaidIn steps (output.Send b (message.Call (record { act = act.Free; engine = e; section = place; number = n }))) → ⊥)
    → (holder_in w place ≡ Some e.0) × (holder_in v place ≡ Some e.0)
