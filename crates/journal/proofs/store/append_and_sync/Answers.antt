use Rattle.std.proofs.lemmas.Result.{MatchResult-from_err}
use Rattle.journal.proofs.Storing.{unwritten}
use Rattle.journal.proofs.store.append_and_sync.Goals as goal

pub returns-in_err-bytes-clause-stored : goal.returns-in_err-bytes-clause-stored
returns-in_err-bytes-clause-stored g c = λ xs n h.
    MatchResult-from_err c.from_residual.result _ _ c.from_residual.ensures.0
    (λ _. unwritten (g.F.File.holds c.args.file.now) xs _ n (g.met.F.File.within c.args.file.now xs n h) h)
