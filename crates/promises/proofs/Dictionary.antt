-- What is read of a world is the same in the model that has it: who has a section and who waits, rings, own signs, and who was told.
use Rattle.std.specs.Prelude.{None, Some}
use Rattle.std.proofs.Common.{◌≡◌, ℕ, ◌<◌, ◌≤◌, List, [], ◌∷◌, sym, refl, ap, ◌∙◌, subst, inl, inr, arith}
use mathlib.Core.List.Memᴰ
use mathlib.Core.List.{Memᴰ}
use Rattle.std.proofs.lemmas.List.{get_or_past}
use Rattle.std.proofs.lemmas.Bool.{cases_lt}
use Rattle.messages.specs.declared.yard.Section.{Section}
use Rattle.messages.specs.declared.message.Act.TheVariants as act
use Rattle.messages.specs.Range.{SectionIn}
use Rattle.sections.specs.Table.{Holder}
use Rattle.sections.specs.Table as table
use Rattle.signs.specs.Signs as whom
use Rattle.engine_state.specs.declared.state.Mode.{Mode}
use Rattle.engine_state.specs.declared.state.Mode.TheVariants as mode
use Rattle.home.specs.Queries.{engine}
use Rattle.box_laws.proofs.Homes.{everywhere}
use Rattle.world.specs.Station.{Station, fresh_station}
use Rattle.world.specs.World.{World}
use Rattle.world.specs.Runs as worlds
use Rattle.world.specs.Runs.{Apart, IsTold, OneOf, engine_in, holder_in, own_in, queue_in, table_in}
use Rattle.yard.specs.Yard as model
use Rattle.yard.specs.Yard.{Along, Distinct, Queued, by, leaving, more, one}
use Rattle.yard.proofs.Places.{About, busy_numbered}
use Rattle.yard.proofs.Sound.{Sound, sound}
use Rattle.refinement.specs.Placed.{holder_by, mode_by, number_of}
use Rattle.refinement.proofs.View.{EngineAs, ModeIn, SectionAs, last_at}
use Rattle.promises.proofs.Shapes.{WorldIn}
use Rattle.promises.proofs.Whole.{Modelled, boxes_of}

-- one of a list
pub to_mem : {A : Type 0} {x : A} (xs : List A) → OneOf x xs → Memᴰ x xs
to_mem {A} {x} xs (before, after, q) = subst (λ (ys : List A). Memᴰ x ys) (sym q) (Memᴰ.append_right before (Memᴰ.head refl))

pub from_mem : {A : Type 0} {x : A} (xs : List A) → Memᴰ x xs → OneOf x xs
from_mem [] m = elim m [ ]
from_mem (y ∷ ys) (Memᴰ.head e) = ([], ys, rw e)
from_mem {A} (y ∷ ys) (Memᴰ.tail m) = let r = from_mem ys m in (y ∷ r.0, r.1, ap (λ (zs : List A). y ∷ zs) r.2)

-- all different
pub distinct_of : (is : List ℕ) → Apart is → Distinct is
distinct_of [] d = tt
distinct_of (i ∷ is) d = (λ m. d.0 (from_mem is m), distinct_of is d.1)

pub apart_of : (is : List ℕ) → Distinct is → Apart is
apart_of [] d = tt
apart_of (i ∷ is) d = (λ m. d.0 (to_mem is m), apart_of is d.1)

-- a holder read back
by_holder : (h : Holder) (j : ℕ) → holder_by h ≡ by j → h ≡ Some j
by_holder None j q = absurd (let z : ◌≡◌ {A = ℕ} 0 1 = cc in omega arith)
by_holder (Some i) j q = ap Some (same q)
  where
    same : by i ≡ by j → i ≡ j
    same e = cc

module _ (w : World) (z : model.Yard) (i : WorldIn w) (m : Modelled w z) where
  -- what the model has is sound
  pub sound_in : Sound w.yard.engines z
  sound_in = sound m.reach

  -- a section of the yard is the same in both
  pub section_as : (s : Section) → SectionIn w.yard s → SectionAs (table.place_at (table_in w s.keeper) s.place) (z.section (number_of s))
  section_as s k = m.holds.sections s.keeper.0 s.place k.0 k.1

  -- read past the tables nobody waits
  no_section : (s : Section) → w.yard.boxes ≤ s.keeper.0 → queue_in w s ≡ []
  no_section s ge =
      ap (λ (t : Station). table.queue_at t.state.keeper.table s.place) (get_or_past w.stations s.keeper.0 (fresh_station w.yard s.keeper) (let c = i.count in omega arith)) ∙
      ap (λ (t : table.Section). t.queue) (everywhere 64 table.idle s.place)

  no_place : (s : Section) → s.keeper.0 < w.yard.boxes → 64 ≤ s.place → queue_in w s ≡ []
  no_place s lt ge =
      ap (λ (t : table.Section). t.queue) (get_or_past (table_in w s.keeper) s.place table.idle (let c = (i.stations s.keeper lt).shape.table in omega arith))

  nobody : {x : ℕ} (q : List ℕ) → q ≡ [] → OneOf x q → ⊥
  nobody {x} q e o = elim (subst (λ (p : List ℕ). Memᴰ x p) e (to_mem q o)) [ ]

  -- a section in whose queue one stands is one of the yard
  pub queue_in_yard : {x : ℕ} (s : Section) → OneOf x (queue_in w s) → SectionIn w.yard s
  queue_in_yard s o =
      elim (cases_lt s.keeper.0 w.yard.boxes) [
        | inr ge ↦ absurd (nobody (queue_in w s) (no_section s ge) o)
        | inl lt ↦ elim (cases_lt s.place 64) [ inr ge ↦ absurd (nobody (queue_in w s) (no_place s lt ge) o) | inl less ↦ (lt, less) ]
      ]

  -- who stands in a queue
  pub queued_of : {x : ℕ} (s : Section) → OneOf x (queue_in w s) → Queued z x (number_of s)
  queued_of {x} s o = subst (λ (q : List ℕ). Memᴰ x q) (sym (section_as s (queue_in_yard s o)).queue) (to_mem (queue_in w s) o)

  pub queue_of_model : {x : ℕ} (s : Section) → SectionIn w.yard s → Queued z x (number_of s) → OneOf x (queue_in w s)
  queue_of_model {x} s k q = from_mem (queue_in w s) (subst (λ (p : List ℕ). Memᴰ x p) (section_as s k).queue q)

  -- who has a section
  pub holder_of_world : {x : ℕ} (s : Section) → SectionIn w.yard s → holder_in w s ≡ Some x → model.holder z (number_of s) ≡ by x
  holder_of_world s k q = (section_as s k).holder ∙ ap holder_by q

  pub holder_of_model : {x : ℕ} (s : Section) → SectionIn w.yard s → model.holder z (number_of s) ≡ by x → holder_in w s ≡ Some x
  holder_of_model {x} s k q = by_holder (holder_in w s) x (sym (section_as s k).holder ∙ q)

  -- an engine of the yard is the same in both
  pub engine_as : (e : ℕ) → e < w.yard.engines → EngineAs w.yard (λ b. last_at (boxes_of w) b e) (engine_in w (engine e)) z e
  engine_as e lt = m.holds.engines e lt

  pub own_of : (e : ℕ) → e < w.yard.engines → own_in w e ≡ model.own z e
  own_of e lt = ap (λ (x : model.Engine). x.own) (sym (engine_as e lt).same)

  -- who waits is an engine of the yard
  pub queued_numbered : (x s : ℕ) → Queued z x s → x < w.yard.engines
  queued_numbered x s q = busy_numbered sound_in.places x s (sound_in.places.about x s q)

  -- a section in whose queue one stands in the model is one of the yard
  pub section_of_queue : (x s : ℕ) → Queued z x s → (t : Section) × SectionIn w.yard t × (number_of t ≡ s)
  section_of_queue x s q =
      let a = engine_as x (queued_numbered x s q) in
      go (engine_in w (engine x)).stored.mode (engine_in w (engine x)).signs.wait a.within
      (subst (λ (e : model.Engine). About s e.mode) a.same (sound_in.places.about x s q))
    where
      go : (o : Mode) (v : whom.Wait) → ModeIn w.yard o v → About s (mode_by o v) → (t : Section) × SectionIn w.yard t × (number_of t ≡ s)
      go mode.Idle v k a = absurd a
      go (mode.Called act.Take t n) v k a = (t, k, a)
      go (mode.Called act.Free t n) v k a = absurd a
      go (mode.Called act.GiveUp t n) v k a = (t, k, a)
      go (mode.Waiting t c) None k a = absurd a
      go (mode.Waiting t c) (Some j) k a = (t, k.0, a)

  -- WAITS
  pub waits_of_world : {x j : ℕ} → worlds.WaitsFor w x j → model.WaitsFor z x j
  waits_of_world (s, o, h) = (number_of s, queued_of s o, holder_of_world s (queue_in_yard s o) h)

  pub waits_of_model : {x j : ℕ} → model.WaitsFor z x j → worlds.WaitsFor w x j
  waits_of_model {x} {j} (s, q, h) =
      let t = section_of_queue x s q in
      (t.0, queue_of_model t.0 t.1 (subst (λ (n : ℕ). Queued z x n) (sym t.2) q), holder_of_model t.0 t.1 (ap (model.holder z) t.2 ∙ h))

  pub waiter_numbered : {x j : ℕ} → model.WaitsFor z x j → x < w.yard.engines
  waiter_numbered {x} (s, q, h) = queued_numbered x s q

  -- RINGS
  pub along_of_world : (x : ℕ) (xs : List ℕ) (k : ℕ) → worlds.Chain w x xs k → Along z x xs k
  along_of_world x [] k c = one (waits_of_world c)
  along_of_world x (j ∷ js) k c = more (waits_of_world c.0) (along_of_world j js k c.1)

  pub chain_of_model : {x k : ℕ} {xs : List ℕ} → Along z x xs k → worlds.Chain w x xs k
  chain_of_model (one n) = waits_of_model n
  chain_of_model (more n t) = (waits_of_model n, chain_of_model t)

  pub ring_of_world : (x : ℕ) (xs : List ℕ) → worlds.Ring w (x ∷ xs) → model.Ring z x xs
  ring_of_world x xs r = (along_of_world x xs x r.1, distinct_of (x ∷ xs) r.0)

  pub ring_of_model : (x : ℕ) (xs : List ℕ) → model.Ring z x xs → worlds.Ring w (x ∷ xs)
  ring_of_model x xs r = (apart_of (x ∷ xs) r.1, chain_of_model r.0)

  -- whoever is on a walk is an engine of the yard
  pub along_numbered : {x k j : ℕ} {xs : List ℕ} → Along z x xs k → Memᴰ j (x ∷ xs) → j < w.yard.engines
  along_numbered (one n) (Memᴰ.head e) = rw e (waiter_numbered n)
  along_numbered (one n) (Memᴰ.tail o) = elim o [ ]
  along_numbered (more n t) (Memᴰ.head e) = rw e (waiter_numbered n)
  along_numbered (more n t) (Memᴰ.tail o) = along_numbered t o

  pub ring_numbered : (x : ℕ) (xs : List ℕ) → worlds.Ring w (x ∷ xs) → (j : ℕ) → OneOf j (x ∷ xs) → j < w.yard.engines
  ring_numbered x xs r j o = along_numbered (ring_of_world x xs r).0 (to_mem (x ∷ xs) o)

  -- WHO WAS TOLD
  pub told_of_world : (x : ℕ) → IsTold w x → (s : ℕ) × (model.mode z x ≡ leaving s) × Queued z x s
  told_of_world x (s, n, q, o) =
      let p = queued_of s o in
      (number_of s, ap (λ (e : model.Engine). e.mode) (engine_as x (queued_numbered x (number_of s) p)).same ∙ ap (λ (u : Mode). mode_by u (engine_in w (engine x)).signs.wait) q, p)

  pub told_of_model : (x s : ℕ) → model.mode z x ≡ leaving s → Queued z x s → IsTold w x
  told_of_model x s q p =
      let a = engine_as x (queued_numbered x s p) in
      go (engine_in w (engine x)).stored.mode (engine_in w (engine x)).signs.wait refl a.within (sym (ap (λ (e : model.Engine). e.mode) a.same) ∙ q)
    where
      go : (o : Mode) (v : whom.Wait) → (engine_in w (engine x)).stored.mode ≡ o → ModeIn w.yard o v → mode_by o v ≡ leaving s → IsTold w x
      go mode.Idle v e k f = absurd (let n : ◌≡◌ {A = ℕ} 0 1 = cc in omega arith)
      go (mode.Called act.Take t n) v e k f = absurd (let n : ◌≡◌ {A = ℕ} 0 1 = cc in omega arith)
      go (mode.Called act.Free t n) v e k f = absurd (let n : ◌≡◌ {A = ℕ} 0 1 = cc in omega arith)
      go (mode.Called act.GiveUp t n) v e k f = (t, n, e, queue_of_model t k (subst (λ (r : ℕ). Queued z x r) (sym (same f)) p))
        where
          same : {a b : ℕ} → leaving a ≡ leaving b → a ≡ b
          same g = cc
      go (mode.Waiting t c) None e k f = absurd (let n : ◌≡◌ {A = ℕ} 0 1 = cc in omega arith)
      go (mode.Waiting t c) (Some j) e k f = absurd (let n : ◌≡◌ {A = ℕ} 0 1 = cc in omega arith)
