-- every row is idle
use Rattle.std.proofs.Common.{refl}
use Rattle.sections.proofs.Sound.{empty_sound}
use Rattle.sections.proofs.Sections.new.Goals as goal

pub invariant_of-result-3 : goal.invariant_of-result-3
invariant_of-result-3 c = record { whole = refl; apart = empty_sound.apart }
