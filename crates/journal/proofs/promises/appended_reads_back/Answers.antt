use Rattle.journal.proofs.Stopping as stopping
use Rattle.journal.proofs.promises.appended_reads_back.Goals as goal

pub returns : goal.returns
returns c = stopping.appended_reads_back
