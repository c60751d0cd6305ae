use Rattle.journal.proofs.Stopping as stopping
use Rattle.journal.proofs.promises.opened_twice.Goals as goal

pub returns : goal.returns
returns c = stopping.opened_twice
