-- What a box makes of messages for its sections. Assumes nothing.
use Rattle.std.specs.Prelude.{ℕ, Bool, cond, ◌&&◌, ◌==◌}
use Rattle.messages.specs.declared.yard.BoxNumber.{BoxNumber}
use Rattle.messages.specs.declared.yard.Engine.{Engine}
use Rattle.messages.specs.declared.yard.Section.{Section}
use Rattle.messages.specs.declared.message.Call.{Call}
use Rattle.messages.specs.Holder.{Holder}
use Rattle.messages.specs.declared.message.Message.TheVariants as message
use Rattle.messages.specs.declared.message.Record.TheVariants as journal
use Rattle.messages.specs.declared.message.Refusal.TheVariants as refusal
use Rattle.sections.specs.Table.{change_number_at, holder_at}
use Rattle.messages.specs.declared.message.Answer.{Answer}
use Rattle.keeper.specs.declared.Verdict.{Verdict}
use Rattle.keeper.specs.declared.Verdict.TheVariants as verdict
use Rattle.keeper.specs.Model as keeper
use Rattle.keeper.specs.Calls.{call_of}
use Rattle.keeper.specs.Homes.{told_of}
use Rattle.keeper.specs.Words.{holder_of}
use Rattle.home.specs.Home.{is_home}
use Rattle.journal.specs.declared.output.Output.TheVariants as output
use Rattle.boxes.specs.Log.{Log, recorded, said, sent, each}
use Rattle.messages.specs.Homes.{home_of}
use Rattle.boxes.specs.Model.{State, with_keeper}

-- turned away: nothing changes but what is said
abbrev pub refused : State → Log → State × Log
refused b l = (b, said l (output.Refused refusal.Malformed))

-- a section of this box, and a message from the engine's home
abbrev pub for_us : State → BoxNumber → Engine → Section → Bool
for_us b from e s = s.keeper.0 == b.home.number.0 && is_home b.home.yard from e

-- the change of a section, to one box if that is a home concerned
abbrev pub change_to : State → Section → Holder → ℕ → ℕ → Log → Log
change_to b s h change n l =
    cond (told_of b.home.yard n b.keeper.table s.place) (sent l (record { 0 = n }) (message.Change (record { section = s; holder = h; change = change }))) l

-- the change of a section, to all homes concerned by their numbers
abbrev pub changes_of : State → Section → Holder → ℕ → Log → Log
changes_of b s h change l = each (λ n. change_to b s h change n) b.home.yard.boxes l

abbrev pub answered : State → Call → Answer → Log → Log
answered b c a l =
    sent l (home_of b.home.yard c.engine) (message.Answer c.engine c.number a)

-- what a verdict on a call gives, in its order
abbrev pub ruled_log : State → Call → Verdict → Log → Log
ruled_log b c verdict.Malformed l = said l (output.Refused refusal.Malformed)
ruled_log b c verdict.PassedOver l = said l (output.Refused refusal.WrongCall)
ruled_log b c (verdict.Again a) l = answered b c a (said l (output.Refused refusal.WrongCall))
ruled_log b c (verdict.AtLimit a) l = answered b c a (said l (output.Refused refusal.Exhausted))
ruled_log b c (verdict.Refused r a) l = answered b c a (said (recorded l (journal.Kept c)) (output.Refused r))
ruled_log b c (verdict.Done a) l = answered b c a (recorded l (journal.Kept c))
ruled_log b c (verdict.PassedOn a) l = changes_of b c.section a.holder a.change (answered b c a (recorded l (journal.Kept c)))

abbrev pub ruled : State → Call → keeper.State × Verdict → Log → State × Log
ruled b c p l = (with_keeper b p.0, ruled_log (with_keeper b p.0) c p.1 l)

-- a call, from the engine's home
abbrev pub called_at : State → BoxNumber → Call → Log → State × Log
called_at b from c l = cond (for_us b from c.engine c.section) (ruled b c (call_of b.keeper c) l) (refused b l)

-- who has a section, and of which change
abbrev pub which_at : State → BoxNumber → Engine → Section → Log → State × Log
which_at b from e s l =
    cond (for_us b from e s)
    (b, sent l from (message.Change (record { section = s; holder = holder_of (holder_at b.keeper.table s.place); change = change_number_at b.keeper.table s.place })))
    (refused b l)
