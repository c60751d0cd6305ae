-- The engines so far are written.
-- Assumes nothing.
use Rattle.std.proofs.Common.{◌++◌, take, vec_items}
use Rattle.std.specs.Prelude.{codes}
use Rattle.std.specs.List.{flat_map}
use Rattle.std.specs.Fmt.{HasWritten, IsPlainFormatter, decimal}
use Rattle.ring_search.proofs.RingDisplay.fmt.Given as goal

abbrev pub invariant-loop-e : goal.invariant-loop-e
invariant-loop-e g l =
    IsPlainFormatter l.initial.f → HasWritten g.W.Write.write_str_gives l.initial.f (flat_map (λ e. codes " " ++ decimal e) (take l.e-index (vec_items l.self.engines))) l.f
