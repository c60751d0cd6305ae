use Rattle.std.proofs.Common.{ℕ, ◌+◌, length, take, refl, ap, ◌∙◌}
use Rattle.messages.specs.Journal.{written}
use Rattle.journal.specs.Memory.{held_by}
use Rattle.journal.proofs.Stopping.{restarted}
use Rattle.journal.proofs.after_stop.restart.Goals as goal

pub returns : goal.returns
returns c rs others all more held synced =
    restarted c.args.yard rs others c.args.keep _ _ (held_by c.stop.new.self) _ c.open.result all more
    (c.stop.ensures.bytes ∙ (ap (λ (n : ℕ). take (n + c.args.keep) (held_by c.args.file.now)) synced ∙ ap (take (length (written rs) + c.args.keep)) held))
    (c.open.ensures.reads _ _ (refl, refl)) (c.open.ensures.leaves _ _ (refl, refl))
