-- Each input of a box is a run of the model, from what is known of one step of a home and of a keeper.
use Rattle.std.proofs.Common.{◌≡◌, ℕ, ◌<◌, Bool, true, false, cond, eqb, ◌⊎◌, List, [], ◌++◌, sym, refl, ap, ◌∙◌, subst, inl, inr}
use mathlib.Core.Path.{fun_ext}
use Rattle.std.proofs.lemmas.Bool.{eq-eqb, ne_eqb, cases_eq}
use Rattle.messages.specs.declared.yard.Yard as sizes
use Rattle.engine_state.specs.declared.state.Event.{Event}
use Rattle.engine_state.specs.declared.state.Event.TheVariants as event
use Rattle.engine_state.specs.declared.state.State.{State}
use Rattle.boxes.specs.Log.{Log, none}
use Rattle.boxes.specs.Emit.{emit_of}
use Rattle.boxes.specs.Model.{State as Box, with_home}
use Rattle.boxes.specs.Handle.{happened}
use Rattle.home.specs.Queries.{holds_at}
use Rattle.home_laws.specs.Steps as homes
use Rattle.yard.specs.Yard as model
use Rattle.yard.specs.Yard.{put, by, Reach, Run, still}
use Rattle.yard.proofs.Sound.{run_on, reach_on}
use Rattle.yard.proofs.Views.{Moved, unmoved}
use Rattle.refinement.proofs.View.{Boxes, As, EventTrue, HomeStep, MayCome, Sized, True, state_in}
use Rattle.refinement.proofs.Telling.{AllTrue, Going, Stays, all_stay, put_here}
use Rattle.refinement.proofs.Emitting.{HeldIsHad, emit_going}
use Rattle.refinement.proofs.Sizing.{home_sized}

-- what is known of one step of a home
abbrev pub HomeLaw : sizes.Yard → Type 0
HomeLaw y = (bs : Boxes) (z : model.Yard) (n : ℕ) → Reach y.engines z → n < y.boxes → Sized y n (bs n) → As y bs z → (i : homes.Input) → MayCome y bs z i → HomeStep y bs z n i

abbrev pub HeldLaw : sizes.Yard → Type 0
HeldLaw y = (bs : Boxes) (z : model.Yard) (n : ℕ) → n < y.boxes → Sized y n (bs n) → As y bs z → HeldIsHad (bs n) z

-- a box changed twice is changed once; put back as it was nothing changes
pub put_twice : (n : ℕ) (a b : Box) (bs : Boxes) → put n a (put n b bs) ≡ put n a bs
put_twice n a b bs = fun_ext (λ k. go k (eqb k n))
  where
    go : (k : ℕ) (t : Bool) → cond t a (cond t b (bs k)) ≡ cond t a (bs k)
    go k true = refl
    go k false = refl

pub put_back : (n : ℕ) (bs : Boxes) → put n (bs n) bs ≡ bs
put_back n bs = fun_ext (λ k. elim (cases_eq k n) [ inl q ↦ rw (eq-eqb k n q) (ap bs (sym q)) | inr q ↦ rw (ne_eqb k n q) ])

-- nothing has been done yet
abbrev pub going_start : (y : sizes.Yard) (bs : Boxes) (z : model.Yard) (n : ℕ) → As y bs z → Going y bs z n (bs n) none
going_start y bs z n a =
    record {
      acts = [];
      now = z;
      run = still;
      holds = subst (λ (cs : Boxes). As y cs z) (sym (put_back n bs)) a;
      stays = λ from m t h. subst (λ (cs : Boxes). True y cs z from m) (sym (put_back n bs)) h;
      outputs = tt;
      sections = refl;
    }

-- one step of a home, as it changes the boxes from bs to cs
record Stepped (y : sizes.Yard) (bs cs : Boxes) (z : model.Yard) (e : Event) : Type 0 where
  acts : List model.Act
  now : model.Yard
  run : Run y.engines z acts now
  holds : As y cs now
  stays : Stays y bs z cs now
  event : EventTrue y z (state_in y cs) now e
  sections : now.section ≡ z.section

stepped : (y : sizes.Yard) (bs : Boxes) (z : model.Yard) (n : ℕ) (b : Box) (i : homes.Input) → HomeStep y (put n b bs) z n i →
    Stepped y (put n b bs) (put n (with_home b (homes.step_of b.home i).0) bs) z (homes.step_of b.home i).1
stepped y bs z n b i h =
    subst (λ (ds : Boxes). Stepped y (put n b bs) ds z (homes.step_of b.home i).1) (put_twice n (with_home b (homes.step_of b.home i).0) b bs)
    (subst (λ (a : Box). Stepped y (put n b bs) (put n (with_home a (homes.step_of a.home i).0) (put n b bs)) z (homes.step_of a.home i).1) (put_here n b bs)
    (record { acts = h.acts; now = h.now; run = h.run; holds = h.holds; stays = h.stays; event = h.event; sections = h.sections }))

-- an event that tells nobody to give back
abbrev pub Quiet : Event → Type 0
Quiet event.PassedOver = Unit {0}
Quiet (event.Refused r) = Unit {0}
Quiet (event.RefusedBy r) = Unit {0}
Quiet (event.Had e s) = Unit {0}
Quiet event.Closed = Unit {0}
Quiet (event.Called c) = Unit {0}
Quiet (event.Found c) = ⊥
Quiet (event.Began start) = Unit {0}
Quiet (event.Heard e s) = Unit {0}
Quiet (event.Noted telling) = Unit {0}

pub quiet_based : (y : sizes.Yard) (z u : model.Yard) → u.section ≡ z.section → (x : ℕ → State) (v : model.Yard) (e : Event) → Quiet e → EventTrue y u x v e → EventTrue y z x v e
quiet_based y z u q x v event.PassedOver k h = h
quiet_based y z u q x v (event.Refused r) k h = h
quiet_based y z u q x v (event.RefusedBy r) k h = h
quiet_based y z u q x v (event.Had e s) k h = rw q at h
quiet_based y z u q x v event.Closed k h = h
quiet_based y z u q x v (event.Called c) k h = h
quiet_based y z u q x v (event.Found c) k h = elim k [ ]
quiet_based y z u q x v (event.Began start) k h = h
quiet_based y z u q x v (event.Heard e s) k h = h
quiet_based y z u q x v (event.Noted telling) k h = h

-- an input that has been handled: a run of the model, and all that was and is said is true
pub record Handled (y : sizes.Yard) (bs : Boxes) (z : model.Yard) (n : ℕ) (p : Box × Log) : Type 0 where
  pub acts : List model.Act
  pub now : model.Yard
  pub run : Run y.engines z acts now
  pub holds : As y (put n p.0 bs) now
  pub stays : Stays y bs z (put n p.0 bs) now
  pub outputs : AllTrue y z n (put n p.0 bs) now p.1.outputs
  -- a home changes no section, and a keeper no engine
  pub kind : (now.section ≡ z.section) ⊎ (now.engine ≡ z.engine)
  pub moved : (s : ℕ) → Moved y.engines z s (now.section s)

pub handled : (y : sizes.Yard) (bs : Boxes) (z : model.Yard) (n : ℕ) (b : Box) (l : Log) → Going y bs z n b l → Handled y bs z n (b, l)
handled y bs z n b l g = record { acts = g.acts; now = g.now; run = g.run; holds = g.holds; stays = g.stays; outputs = g.outputs; kind = inl g.sections; moved = λ s. rw g.sections unmoved }

module _ (y : sizes.Yard) (law : HomeLaw y) (held : HeldLaw y) (bs : Boxes) (z : model.Yard) (n : ℕ) (reach : Reach y.engines z) (in-yard : n < y.boxes) where
  held_now : (b : Box) (u : model.Yard) → Sized y n b → As y (put n b bs) u → u.section ≡ z.section → HeldIsHad b z
  held_now b u s a q j p h =
      rw q at (held (put n b bs) u n in-yard (subst (λ (c : Box). Sized y n c) (sym (put_here n b bs)) s) a j p
      (subst (λ (c : Box). holds_at c.home j p ≡ true) (sym (put_here n b bs)) h))

  step_of_lem : (b : Box) (l : Log) → Sized y n b → (g : Going y bs z n b l) (i : homes.Input) → MayCome y (put n b bs) g.now i →
      Stepped y (put n b bs) (put n (with_home b (homes.step_of b.home i).0) bs) g.now (homes.step_of b.home i).1
  step_of_lem b l s g i m =
      stepped y bs g.now n b i
      (law (put n b bs) g.now n (reach_on reach g.run) in-yard (subst (λ (c : Box). Sized y n c) (sym (put_here n b bs)) s) g.holds i m)

  -- an input at the home of a box that an input is on its way through
  pub home_going : (b : Box) (l : Log) → Sized y n b → (g : Going y bs z n b l) (i : homes.Input) → MayCome y (put n b bs) g.now i →
      ((x : ℕ → State) (u : model.Yard) → EventTrue y g.now x u (homes.step_of b.home i).1 → EventTrue y z x u (homes.step_of b.home i).1) →
      Going y bs z n (with_home b (homes.step_of b.home i).0) (emit_of (homes.step_of b.home i).0 (homes.step_of b.home i).1 l)
  home_going b l s g i m based =
      let t = step_of_lem b l s g i m in
      let c : Box = with_home b (homes.step_of b.home i).0 in
      emit_going y bs z n c in-yard (held_now c t.now (home_sized y n b s i) t.holds (t.sections ∙ g.sections)) l (homes.step_of b.home i).1
      (record {
        acts = t.acts ++ g.acts;
        now = t.now;
        run = run_on g.run t.run;
        holds = t.holds;
        stays = λ from k to h. t.stays from k to (g.stays from k to h);
        outputs = all_stay y z n (put n b bs) (put n c bs) g.now t.now t.stays l.outputs g.outputs;
        sections = t.sections ∙ g.sections;
      })
      (based (state_in y (put n c bs)) t.now t.event)

  -- one input at the home
  pub home_handled : As y bs z → Sized y n (bs n) → (i : homes.Input) → MayCome y bs z i → Handled y bs z n (happened (bs n) (homes.step_of (bs n).home i) none)
  home_handled a s i m =
      handled y bs z n (with_home (bs n) (homes.step_of (bs n).home i).0) (emit_of (homes.step_of (bs n).home i).0 (homes.step_of (bs n).home i).1 none)
      (home_going (bs n) none s (going_start y bs z n a) i (subst (λ (cs : Boxes). MayCome y cs z i) (sym (put_back n bs)) m) (λ x u h. h))
