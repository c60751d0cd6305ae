-- Reminders record nothing, so the commit leaves the file as it is.
use Rattle.std.proofs.Common.{rules, ◌≡◌, ap, ◌∙◌}
use Rattle.journal.specs.Effect.{records_of}
use Rattle.boxes.specs.Handle.{reminders_of}
use Rattle.boxes.specs.Log.{Log, log_of, none}
use Rattle.box_run.proofs.Bytes.{kept_whole, none_recorded}
use Rattle.box_run.proofs.coming_up.opening.say_reminders.Goals as goal

pub returns-clause-kept : goal.returns-clause-kept
returns-clause-kept g c = λ xs h.
    let log : log_of c.in_ok-gather.field-0 ≡ reminders_of c.args.state.now.home none = search rules in
    kept_whole (g.F.File.holds c.commit.new.file) xs (records_of c.in_ok-gather.field-0) c.commit.result
    (ap (λ (l : Log). l.records) log ∙ none_recorded c.args.state.now.home) (c.commit.ensures.stored xs h)
