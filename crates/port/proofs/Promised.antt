-- The promises of a step, from the theorems over every world that steps lead to.
use Rattle.std.proofs.Common.{ℕ, ◌⊎◌, List, [], ◌∷◌, inl, inr}
use Rattle.messages.specs.declared.yard.Engine.{Engine}
use Rattle.journal.specs.declared.output.Output.{Output}
use Rattle.journal.specs.declared.output.Output.TheVariants as output
use Rattle.world.specs.declared.step.Step.{Step}
use Rattle.world.specs.World.{Answer, Makes, World}
use Rattle.world.specs.Runs.{Highest, IsTold, OneOf, Reached, Ring, SaidIn, Says, nothing}
use Rattle.promises.proofs.Dictionary.{to_mem}
use Rattle.promises.proofs.Having.{had}
use Rattle.promises.proofs.InTurn.{each_in_turn}
use Rattle.promises.proofs.Told.{ring_stays, told_first}
use Rattle.port.specs.Promise.{Promised, RingFrom}
use Rattle.port.proofs.Found.{ring_found}
use Rattle.port.proofs.Reach.{step_on}

-- where none had been told the ring is there still
still_there : (w u : World) (ring : List ℕ) → ((j : ℕ) → OneOf j ring → IsTold w j → ⊥) → Ring u ring ⊎ ((j : ℕ) × OneOf j ring × IsTold w j) → Ring u ring
still_there w u ring none (inl h) = h
still_there w u ring none (inr h) = absurd (none h.0 h.1 h.2)

-- one that is told stands in a ring before and after the step, and from it that ring is found
told_found : (w u : World) (s : Step) (a : Answer) (i : Engine) → Reached w → Makes w s (u, a) → Says a (output.GiveBack i) →
    (others : List ℕ) × RingFrom w i others × RingFrom u i others × Highest w (i.0 ∷ others) i.0 × ((j : ℕ) → OneOf j (i.0 ∷ others) → IsTold w j → ⊥)
told_found w u s a i r m says =
    let t = told_first w u s a i r m says in
    let later = still_there w u (i.0 ∷ t.0) t.3 (ring_stays w u s a (i.0 ∷ t.0) r m t.1) in
    (t.0, (t.1, ring_found w r i t.0 t.1), (later, ring_found u (step_on w u s a r m) i t.0 later), t.2, t.3)

-- in no steps nothing is said
none_said : {o : Output} → SaidIn [] o → ⊥
none_said said = elim (to_mem [] said.1) [ ]

pub step_promised : (w u : World) (s : Step) (a : Answer) → Reached w → Makes w s (u, a) → Promised w u a
step_promised w u s a r m =
    record {
      told = λ i says. told_found w u s a i r m says;
      stays = λ ring h. ring_stays w u s a ring r m h;
      first = λ p. (each_in_turn w u s a p r m).0;
      had = λ e p says. had w u u s a e p [] r m says nothing (λ n b said. elim (none_said said) [ ]);
    }
