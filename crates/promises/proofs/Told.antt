-- Whoever is told stands in a ring, is its highest and alone; a ring stays; who is said to have a section has it: from the model to the world.
use Rattle.std.proofs.Common.{◌≡◌, ℕ, ◌<◌, ◌≤◌, Bool, true, false, ltb, ◌⊎◌, List, [], ◌∷◌, length, take, Ok, Err, sym, refl, ap, ◌∙◌, subst, inl, inr, le_refl, arith}
use mathlib.Core.List.Memᴰ
use mathlib.Core.List.{Memᴰ}
use Rattle.std.proofs.lemmas.Bool.{cond_both}
use Rattle.messages.specs.declared.yard.BoxNumber.{BoxNumber}
use Rattle.messages.specs.declared.yard.Engine.{Engine}
use Rattle.messages.specs.declared.yard.Yard.{Yard}
use Rattle.journal.specs.declared.output.Output.{Output}
use Rattle.journal.specs.declared.output.Output.TheVariants as output
use Rattle.boxes.specs.declared.signal_box.Input.TheVariants as input
use Rattle.messages.specs.Homes.{home_of}
use Rattle.world.specs.declared.step.Step.{Step}
use Rattle.world.specs.declared.step.Step.TheVariants as step
use Rattle.world.specs.Station.{Restarts, Station, delivered_at, handled_at}
use Rattle.world.specs.World.{Answer, Either, Envelope, Makes, World, at_box, carried, carried_cut, is_box, is_sent, message_at, said, station_at, turned_away, with_message}
use Rattle.world.specs.Runs as worlds
use Rattle.world.specs.Runs.{Highest, IsTold, OneOf, Reached, Says, own_in}
use Rattle.yard.specs.Yard as model
use Rattle.yard.specs.Yard.{Along, Finds, Queued, leaving, more, one, waiting}
use Rattle.yard.proofs.Places.{Placed, holder_after, in_after, queued_not_freeing, same_holder, waiting≢leaving}
use Rattle.yard.proofs.Views.{Moved}
use Rattle.yard.proofs.Rounds.{along_queued, alone, highest, real}
use Rattle.promises.specs.Rings.{RingStays, ToldInARing}
use Rattle.promises.proofs.Dictionary.{from_mem, own_of, ring_numbered, ring_of_model, ring_of_world, sound_in, to_mem, told_of_model, told_of_world}
use Rattle.promises.proofs.Shapes.{WorldIn, makes_in, reached_in}
use Rattle.promises.proofs.Whole.{AllMeant, AnswerMeant, IsRun, Meant, Modelled, reached_modelled, step_is_run}

-- what was said was meant
meant_at : (z : model.Yard) (os : List Output) (o : Output) → AllMeant z os → Memᴰ o os → Meant z o
meant_at z [] o h k = elim k [ ]
meant_at z (x ∷ os) o h (Memᴰ.head q) = subst (λ (p : Output). Meant z p) (sym q) h.0
meant_at z (x ∷ os) o h (Memᴰ.tail k) = meant_at z os o h.1 k

pub says_meant : (z : model.Yard) (a : Answer) (o : Output) → AnswerMeant z a → Says a o → Meant z o
says_meant z (Err r) o h s = absurd s
says_meant z (Ok a) o h s = meant_at z a.2 o h (to_mem a.2 s)

module _ (w : World) (z : model.Yard) (i : WorldIn w) (m : Modelled w z) where
  -- one that finds in the model stands in a ring of the world, which begins with it
  pub finder_told : (e j s : ℕ) → Finds z e j s → (others : List ℕ) × worlds.Ring w (e ∷ others) × Highest w (e ∷ others) e × ((l : ℕ) → OneOf l (e ∷ others) → IsTold w l → ⊥)
  finder_told e j s f =
      let r = real w.yard.engines z m.reach e j s f in
      let is : List ℕ = j ∷ r.0 in
      let ring = ring_of_model w z i m e is r.1 in (
        is,
        ring,
        (from_mem (e ∷ is) (Memᴰ.head refl), λ l o. top l (ring_numbered w z i m e is ring l o) (Memᴰ.cases_cons (to_mem (e ∷ is) o))),
        λ l o t. untold l (told_of_world w z i m l t) (Memᴰ.cases_cons (to_mem (e ∷ is) o)),
      )
    where
      ring-is : model.Ring z e (j ∷ (real w.yard.engines z m.reach e j s f).0)
      ring-is = (real w.yard.engines z m.reach e j s f).1

      top : (l : ℕ) → l < w.yard.engines → (l ≡ e) ⊎ Memᴰ l (j ∷ (real w.yard.engines z m.reach e j s f).0) → own_in w l ≤ own_in w e
      top l lt (inl q) = subst (λ (k : ℕ). own_in w l ≤ own_in w k) q (le_refl (own_in w l))
      top l lt (inr k) =
          let h = highest w.yard.engines z m.reach e j s f (j ∷ (real w.yard.engines z m.reach e j s f).0) ring-is l k in
          let a = own_of w z i m l lt in
          let b = own_of w z i m e (ring_numbered w z i m e _ (ring_of_model w z i m e _ ring-is) e (from_mem _ (Memᴰ.head refl))) in
          omega arith

      untold : (l : ℕ) → ((t : ℕ) × (model.mode z l ≡ leaving t) × model.Queued z l t) → (l ≡ e) ⊎ Memᴰ l (j ∷ (real w.yard.engines z m.reach e j s f).0) → ⊥
      untold l t (inl q) = waiting≢leaving f.1.1 (subst (λ (k : ℕ). model.mode z k ≡ leaving t.0) q t.1)
      untold l t (inr k) = (alone w.yard.engines z m.reach e j s f _ ring-is l k).0 t.0 t.1

pub told_first : (w u : World) (s : Step) (a : Answer) (i : Engine) → Reached w → Makes w s (u, a) → Says a (output.GiveBack i) →
    (others : List ℕ) × worlds.Ring w (i.0 ∷ others) × Highest w (i.0 ∷ others) i.0 × ((j : ℕ) → OneOf j (i.0 ∷ others) → IsTold w j → ⊥)
told_first w u s a i reached makes says =
    let p = reached_modelled w reached in
    let k = reached_in w reached in
    let r = step_is_run w p.0 k p.1 s (u, a) makes in
    let f = says_meant p.0 a (output.GiveBack i) r.meant says in
    finder_told w p.0 k p.1 i.0 f.0 f.1 f.2

pub told_in_a_ring : ToldInARing
told_in_a_ring w u s a i reached makes says = let t = told_first w u s a i reached makes says in (i.0 ∷ t.0, t.1, t.2, t.3)

-- one step later, what the ring's engines wait for: or one of them had been told
module _ (engines : ℕ) (z u : model.Yard) (p : Placed engines z) (moved : (s : ℕ) → Moved engines z s (u.section s)) where
  -- one that waits for another that stands in a queue itself waits for it still, unless it had been told
  wait_stays : (x j : ℕ) → model.WaitsFor z x j → ((t : ℕ) × Queued z j t) → model.WaitsFor u x j ⊎ ((s : ℕ) × (model.mode z x ≡ leaving s) × Queued z x s)
  wait_stays x j (s, q, h) (t, k) =
      elim (holder_after (moved s) h) [
        | inl hold ↦
            elim (in_after (moved s) q) [
              | inl there ↦ inl (s, there, hold)
              | inr other ↦
                  elim other [
                    | inl got ↦ absurd (queued_not_freeing p k (subst (λ (i : ℕ). model.mode z i ≡ model.freeing s) (same_holder got.1.1 h) got.1.2))
                    | inr left ↦ inr (s, left, q)
                  ]
            ]
        | inr freed ↦ absurd (queued_not_freeing p k freed)
      ]

  -- the same along a way of waits to one that stands in a queue
  along_stays : {x k : ℕ} {xs : List ℕ} → Along z x xs k → ((t : ℕ) × Queued z k t) → Along u x xs k ⊎ ((l s : ℕ) × Memᴰ l (x ∷ xs) × (model.mode z l ≡ leaving s) × Queued z l s)
  along_stays {x = x} {k = k} (one w) q = elim (wait_stays x k w q) [ inl v ↦ inl (one v) | inr v ↦ inr (x, v.0, Memᴰ.head refl, v.1, v.2) ]
  along_stays {x = x} {k = k} (more {j = j} w way) q =
      elim (wait_stays x j w (along_queued way)) [
        | inl v ↦ elim (along_stays way q) [ inl rest ↦ inl (more v rest) | inr told ↦ inr (told.0, told.1, Memᴰ.tail told.2, told.3, told.4) ]
        | inr v ↦ inr (x, v.0, Memᴰ.head refl, v.1, v.2)
      ]

pub step_ring : (w u : World) (z : model.Yard) (a : Answer) (i : WorldIn w) (m : Modelled w z) (k : WorldIn u) → (r : IsRun z (u, a)) → w.yard ≡ u.yard → (ring : List ℕ) → worlds.Ring w ring →
    worlds.Ring u ring ⊎ ((j : ℕ) × OneOf j ring × IsTold w j)
step_ring w u z a i m k r y [] h = absurd h
step_ring w u z a i m k r y (x ∷ xs) h =
    let ring = ring_of_world w z i m x xs h in
    let e : ℕ = u.yard.engines in
    let p : Placed e z = subst (λ (v : Yard). Placed v.engines z) y (sound_in w z i m).places in
    elim (along_stays e z r.now p r.moved ring.0 (along_queued ring.0)) [
      | inl way ↦ inl (ring_of_model u r.now k r.modelled x xs (way, ring.1))
      | inr told ↦ inr (told.0, from_mem (x ∷ xs) told.2, told_of_model w z i m told.0 told.1 told.3 told.4)
    ]

-- no step changes the yard
at_box_yard : (w : World) (n : BoxNumber) (f : Station → Station × List Output) → w.yard ≡ (at_box w n f).0.yard
unfolding at_box
at_box_yard w n f = cond_both (is_box w n) _ _ (λ (r : World × Answer). w.yard ≡ r.0.yard) (λ _. refl) (λ _. refl)

message_yard : (w : World) (k : ℕ) (f : Envelope → World × Answer) → ((e : Envelope) → w.yard ≡ (f e).0.yard) → w.yard ≡ (with_message w k f).0.yard
unfolding with_message
message_yard w k f h = cond_both (is_sent w k) _ _ (λ (r : World × Answer). w.yard ≡ r.0.yard) (λ _. h (message_at w k)) (λ _. refl)

pub same_yard : (w : World) (s : Step) (r : World × Answer) → Makes w s r → w.yard ≡ r.0.yard
same_yard w (step.Take e s) r q = at_box_yard w (home_of w.yard e) (handled_at (input.Take e s)) ∙ ap (λ (x : World × Answer). x.0.yard) (sym q)
same_yard w (step.Free e s) r q = at_box_yard w (home_of w.yard e) (handled_at (input.Free e s)) ∙ ap (λ (x : World × Answer). x.0.yard) (sym q)
same_yard w (step.Deliver k) r q =
    message_yard w k (carried w) (λ e. at_box_yard w e.to (delivered_at e.from e.bytes)) ∙ ap (λ (x : World × Answer). x.0.yard) (sym q)
same_yard w (step.Cut k l) r q =
    message_yard w k (carried_cut w l)
    (λ e. cond_both (ltb l (length e.bytes)) _ _ (λ (x : World × Answer). w.yard ≡ x.0.yard) (λ _. at_box_yard w e.to (delivered_at e.from (take l e.bytes))) (λ _. refl)) ∙
    ap (λ (x : World × Answer). x.0.yard) (sym q)
same_yard w (step.Second n) r q = at_box_yard w n (handled_at input.Second) ∙ ap (λ (x : World × Answer). x.0.yard) (sym q)
same_yard w (step.Stop n) r q = go (is_box w n) q
  where
    go : (t : Bool) → Either t ((p : Station × List Output) × Restarts w.yard n (station_at w n) p × (r ≡ said w n p)) (r ≡ turned_away w) → w.yard ≡ r.0.yard
    go true (p, k, e) = ap (λ (x : World × Answer). x.0.yard) (sym e)
    go false e = ap (λ (x : World × Answer). x.0.yard) (sym e)

pub ring_stays : RingStays
ring_stays w u s a ring reached makes h =
    let p = reached_modelled w reached in
    let k = reached_in w reached in
    step_ring w u p.0 a k p.1 (makes_in w s (u, a) k makes) (step_is_run w p.0 k p.1 s (u, a) makes) (same_yard w s (u, a) makes) ring h
