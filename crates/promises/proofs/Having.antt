-- Who is said to have a section asked or waited for it, so isn't freeing it; and as long as it sends no free its mode doesn't become freeing, so it has it.
use Rattle.std.specs.Prelude.{None, Some}
use Rattle.std.proofs.Common.{◌≡◌, ℕ, ◌<◌, List, [], ◌∷◌, sym, refl, ap, ◌∙◌, subst, inl, inr, arith}
use Rattle.messages.specs.declared.yard.Engine.{Engine}
use Rattle.messages.specs.declared.yard.Section.{Section}
use Rattle.messages.specs.declared.yard.Yard.{Yard}
use Rattle.messages.specs.declared.message.Act.TheVariants as act
use Rattle.messages.specs.declared.message.Message.TheVariants as message
use Rattle.messages.specs.Range.{SectionIn}
use Rattle.journal.specs.declared.output.Output.{Output}
use Rattle.journal.specs.declared.output.Output.TheVariants as output
use Rattle.signs.specs.Signs as whom
use Rattle.engine_state.specs.declared.state.Mode.{Mode}
use Rattle.engine_state.specs.declared.state.Mode.TheVariants as mode
use Rattle.world.specs.declared.step.Step.{Step}
use Rattle.world.specs.World.{Answer, Makes, World}
use Rattle.world.specs.Runs as worlds
use Rattle.world.specs.Runs.{SaidIn, Says, Taken, engine_in, holder_in, nothing, then}
use Rattle.yard.specs.Yard as model
use Rattle.yard.specs.Yard.{by}
use Rattle.yard.proofs.Places.{holder_after}
use Rattle.refinement.specs.Placed.{mode_by, number_of}
use Rattle.refinement.proofs.PlacesSet.{same_section_lem}
use Rattle.refinement.proofs.View.{ModeIn}
use Rattle.promises.specs.Had.{AlwaysHad}
use Rattle.promises.proofs.Calling.{Wants}
use Rattle.promises.proofs.Dictionary.{engine_as, holder_of_model}
use Rattle.promises.proofs.Shapes.{WorldIn, makes_in, reached_in}
use Rattle.promises.proofs.Stepping.{call_is_said, mode_of, step_shows}
use Rattle.promises.proofs.Told.{same_yard, says_meant}
use Rattle.promises.proofs.Whole.{Modelled, reached_modelled, step_is_run}

-- sections of the yard differ by their numbers
same_number : (y : Yard) (s t : Section) → SectionIn y s → SectionIn y t → number_of s ≡ number_of t → s ≡ t
same_number y s t i k q =
    let a = i.1 in
    let b = k.1 in
    same_section_lem (omega arith) (omega arith)

-- one that asks or waits for a section: it is of the yard, and isn't being freed
wanted_in : (y : Yard) (s : Section) (m : Mode) (v : whom.Wait) → ModeIn y m v → Wants s m → SectionIn y s
wanted_in y s mode.Idle v i k = absurd k
wanted_in y s (mode.Called act.Take t n) v i k = subst (SectionIn y) k i
wanted_in y s (mode.Called act.Free t n) v i k = absurd k
wanted_in y s (mode.Called act.GiveUp t n) v i k = absurd k
wanted_in y s (mode.Waiting t c) v i k = subst (SectionIn y) k i.0

wanted_kept : (s : Section) (m : Mode) (v : whom.Wait) (n : ℕ) → Wants s m → mode_by m v ≡ model.freeing n → ⊥
wanted_kept s mode.Idle v n k q = k
wanted_kept s (mode.Called act.Take t c) v n k q = let z : ◌≡◌ {A = ℕ} 0 1 = cc in omega arith
wanted_kept s (mode.Called act.Free t c) v n k q = k
wanted_kept s (mode.Called act.GiveUp t c) v n k q = k
wanted_kept s (mode.Waiting t c) None n k q = let z : ◌≡◌ {A = ℕ} 0 1 = cc in omega arith
wanted_kept s (mode.Waiting t c) (Some j) n k q = let z : ◌≡◌ {A = ℕ} 0 1 = cc in omega arith

-- one that frees a section in the model has called so at its home
freeing_called : (y : Yard) (s : Section) (m : Mode) (v : whom.Wait) → SectionIn y s → ModeIn y m v → mode_by m v ≡ model.freeing (number_of s) → (n : ℕ) × (m ≡ mode.Called act.Free s n)
freeing_called y s mode.Idle v i k q = absurd (let z : ◌≡◌ {A = ℕ} 0 1 = cc in omega arith)
freeing_called y s (mode.Called act.Take t c) v i k q = absurd (let z : ◌≡◌ {A = ℕ} 0 1 = cc in omega arith)
freeing_called y s (mode.Called act.Free t c) v i k q = (c, ap (λ (r : Section). mode.Called act.Free r c) (same_number y t s k i (same q)))
  where
    same : {a b : ℕ} → model.freeing a ≡ model.freeing b → a ≡ b
    same g = cc
freeing_called y s (mode.Called act.GiveUp t c) v i k q = absurd (let z : ◌≡◌ {A = ℕ} 0 1 = cc in omega arith)
freeing_called y s (mode.Waiting t c) None i k q = absurd (let z : ◌≡◌ {A = ℕ} 0 1 = cc in omega arith)
freeing_called y s (mode.Waiting t c) (Some j) i k q = absurd (let z : ◌≡◌ {A = ℕ} 0 1 = cc in omega arith)

-- one has a section in the model and isn't freeing it
pub record Has (w : World) (z : model.Yard) (e : Engine) (s : Section) : Type 0 where
  pub place : SectionIn w.yard s
  pub one : e.0 < w.yard.engines
  pub holder : model.holder z (number_of s) ≡ by e.0
  pub kept : model.mode z e.0 ≡ model.freeing (number_of s) → ⊥

abbrev free_of : Engine → Section → ℕ → Output
free_of e s n = output.Send s.keeper (message.Call (record { act = act.Free; engine = e; section = s; number = n }))

module _ (w : World) (z : model.Yard) (i : WorldIn w) (m : Modelled w z) (e : Engine) (place : Section) where
  mode_as : e.0 < w.yard.engines → model.mode z e.0 ≡ mode_by (mode_of w e) (engine_in w e).signs.wait
  mode_as lt = ap (λ (x : model.Engine). x.mode) (engine_as w z i m e.0 lt).same

  -- whoever frees it in the model has called so
  frees : SectionIn w.yard place → e.0 < w.yard.engines → model.mode z e.0 ≡ model.freeing (number_of place) → (n : ℕ) × (mode_of w e ≡ mode.Called act.Free place n)
  frees k lt q = freeing_called w.yard place (mode_of w e) (engine_in w e).signs.wait k (engine_as w z i m e.0 lt).within (sym (mode_as lt) ∙ q)

  -- whoever has called so frees it in the model
  freed : e.0 < w.yard.engines → (n : ℕ) → mode_of w e ≡ mode.Called act.Free place n → model.mode z e.0 ≡ model.freeing (number_of place)
  freed lt n q = mode_as lt ∙ ap (λ (o : Mode). mode_by o (engine_in w e).signs.wait) q

-- a step in which no free is sent
pub has_on : (w : World) (z : model.Yard) (i : WorldIn w) (m : Modelled w z) (e : Engine) (place : Section) (s : Step) (u : World) (a : Answer) → (made : Makes w s (u, a)) → ((n : ℕ) → Says a (free_of e place n) → ⊥) → Has w z e place →
    Has u (step_is_run w z i m s (u, a) made).now e place
has_on w z i m e place s u a made unsaid h =
    let r = step_is_run w z i m s (u, a) made in
    let y = same_yard w s (u, a) made in
    let k = makes_in w s (u, a) i made in
    let in-yard : SectionIn u.yard place = subst (λ (v : Yard). SectionIn v place) y h.place in
    let one_of : e.0 < u.yard.engines = subst (λ (v : Yard). e.0 < v.engines) y h.one in
    record {
      place = in-yard;
      one = one_of;
      holder = elim (holder_after (r.moved (number_of place)) h.holder) [ inl q ↦ q | inr q ↦ absurd (h.kept q) ];
      kept = λ q.
          let f = frees u r.now k r.modelled e place in-yard one_of q in
          elim (call_is_said w i s u a made e act.Free place f.0 f.1) [
            | inl old ↦ h.kept (freed w z i m e place h.one f.0 old)
            | inr new ↦ unsaid f.0 new.0
          ];
    }

said_first : {t : Taken} {more : List Taken} {o : Output} → Says t.answer o → SaidIn (t ∷ more) o
said_first {t} {more} k = (t, ([], more, refl), k)

said_later : {t : Taken} {more : List Taken} {o : Output} → SaidIn more o → SaidIn (t ∷ more) o
said_later {t} (x, (before, after, q), k) = (x, (t ∷ before, after, ap (λ (xs : List Taken). t ∷ xs) q), k)

-- and so along a run
pub has_along : {w v : World} {steps : List Taken} (z : model.Yard) (i : WorldIn w) (m : Modelled w z) (e : Engine) (place : Section) → worlds.Run w steps v → ((n : ℕ) → SaidIn steps (free_of e place n) → ⊥) → Has w z e place →
    holder_in v place ≡ Some e.0
has_along {w} z i m e place nothing unsaid h = holder_of_model w z i m place h.place h.holder
has_along {w} z i m e place (then {u = u} {s = s} {a = a} made more) unsaid h =
    has_along (step_is_run w z i m s (u, a) made).now (makes_in w s (u, a) i made) (step_is_run w z i m s (u, a) made).modelled e place more (λ n k. unsaid n (said_later k))
    (has_on w z i m e place s u a made (λ n k. unsaid n (said_first k)) h)

-- at the moment when it is said
pub has_then : (w : World) (z : model.Yard) (i : WorldIn w) (m : Modelled w z) (e : Engine) (place : Section) (s : Step) (u : World) (a : Answer) → (made : Makes w s (u, a)) → Says a (output.Had e place) →
    (holder_in w place ≡ Some e.0) × Has u (step_is_run w z i m s (u, a) made).now e place
has_then w z i m e place s u a made says =
    let r = step_is_run w z i m s (u, a) made in
    let y = same_yard w s (u, a) made in
    let k = makes_in w s (u, a) i made in
    let was : model.holder z (number_of place) ≡ by e.0 = says_meant z a (output.Had e place) r.meant says in
    let h = (step_shows w i s (u, a) made).had e place says in
    let one_of : e.0 < u.yard.engines = subst (λ (v : Yard). e.0 < v.engines) y h.0 in
    let in-yard : SectionIn u.yard place = wanted_in u.yard place (mode_of u e) (engine_in u e).signs.wait (engine_as u r.now k r.modelled e.0 one_of).within h.1 in
    let kept : model.mode r.now e.0 ≡ model.freeing (number_of place) → ⊥ = λ q. wanted_kept place (mode_of u e) (engine_in u e).signs.wait (number_of place) h.1 (sym (mode_as u r.now k r.modelled e place one_of) ∙ q) in (
      holder_of_model w z i m place (subst (λ (v : Yard). SectionIn v place) (sym y) in-yard) was,
      record {
        place = in-yard;
        one = one_of;
        holder =
            elim r.kind [
              | inl q ↦ ap (λ (f : ℕ → model.Section). (f (number_of place)).holder) q ∙ was
              | inr q ↦ elim (holder_after (r.moved (number_of place)) was) [ inl o ↦ o | inr o ↦ absurd (kept (ap (λ (f : ℕ → model.Engine). (f e.0).mode) q ∙ o)) ]
            ];
        kept = kept;
      },
    )

pub had : AlwaysHad
had w u v s a e place steps reached made says run unsaid =
    let p = reached_modelled w reached in
    let i = reached_in w reached in
    let h = has_then w p.0 i p.1 e place s u a made says in
    (h.0, has_along (step_is_run w p.0 i p.1 s (u, a) made).now (makes_in w s (u, a) i made) (step_is_run w p.0 i p.1 s (u, a) made).modelled e place run (λ n k. unsaid n place.keeper k) h.1)
