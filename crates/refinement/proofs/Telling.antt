-- What a box says while an input is handled: each message that it sends is true, and a sign that it tells is an act of the model.
use Rattle.std.specs.Prelude.{None, Some}
use Rattle.std.proofs.Common.{◌≡◌, ℕ, zero, suc, ◌<◌, Bool, true, false, cond, List, [], ◌∷◌, ◌++◌, sym, refl, ap, ◌∙◌}
use mathlib.Core.List.{Memᴰ}
use Rattle.messages.specs.declared.yard.BoxNumber.{BoxNumber}
use Rattle.messages.specs.declared.yard.Engine.{Engine}
use Rattle.messages.specs.declared.yard.Section.{Section}
use Rattle.messages.specs.declared.yard.Yard as sizes
use Rattle.messages.specs.declared.message.Message.{Message}
use Rattle.messages.specs.declared.message.Message.TheVariants as message
use Rattle.messages.specs.declared.message.Record.{Record}
use Rattle.journal.specs.declared.output.Output.{Output}
use Rattle.journal.specs.declared.output.Output.TheVariants as output
use Rattle.boxes.specs.Log.{Log, recorded, said, sent, each}
use Rattle.boxes.specs.Emit.{tell_noted, tell_of, tells_of}
use Rattle.boxes.specs.Model.{State as Box}
use Rattle.home.specs.Noted.{Noted}
use Rattle.home.specs.Queries.{engine, holds_at, note_at}
use Rattle.std.proofs.lemmas.Bool.{eq-eqb}
use Rattle.yard.specs.Yard as model
use Rattle.yard.specs.Yard.{put, by, HasBegun, Told, Finds, Run, then, tells, after}
use Rattle.refinement.specs.Placed.{number_of}
use Rattle.refinement.proofs.View.{Boxes, As, True, ToABox, state_in}
use Rattle.refinement.proofs.Same.{engine_same}

-- what a box says is true; z: the yard when the input came; bs, u: the boxes and the yard now
abbrev pub OutputTrue : sizes.Yard → model.Yard → ℕ → Boxes → model.Yard → Output → Type 0
OutputTrue y z n bs u (output.Send to m) = ToABox y m × True y bs u (record { 0 = n }) m
OutputTrue y z n bs u (output.Had e s) = model.holder z (number_of s) ≡ by e.0
OutputTrue y z n bs u (output.GiveBack e) = (j s : ℕ) × Finds z e.0 j s
OutputTrue y z n bs u (output.GivingBack e) = Unit {0}
OutputTrue y z n bs u (output.Refused r) = Unit {0}

abbrev pub AllTrue : sizes.Yard → model.Yard → ℕ → Boxes → model.Yard → List Output → Type 0
AllTrue y z n bs u [] = Unit {0}
AllTrue y z n bs u (o ∷ os) = OutputTrue y z n bs u o × AllTrue y z n bs u os

pub all_said : (y : sizes.Yard) (z : model.Yard) (n : ℕ) (bs : Boxes) (u : model.Yard) (os : List Output) (o : Output) → AllTrue y z n bs u os → OutputTrue y z n bs u o →
    AllTrue y z n bs u (os ++ o ∷ [])
all_said y z n bs u [] o h k = (k, tt)
all_said y z n bs u (x ∷ os) o h k = (h.0, all_said y z n bs u os o h.1 k)

-- what is true of messages stays true, and so does what was said
abbrev pub Stays : sizes.Yard → Boxes → model.Yard → Boxes → model.Yard → Type 0
Stays y bs z cs u = (from : BoxNumber) (m : Message) → ToABox y m → True y bs z from m → True y cs u from m

output_stays : (y : sizes.Yard) (z : model.Yard) (n : ℕ) (bs cs : Boxes) (u v : model.Yard) → Stays y bs u cs v → (o : Output) → OutputTrue y z n bs u o → OutputTrue y z n cs v o
output_stays y z n bs cs u v k (output.Send to m) h = (h.0, k (record { 0 = n }) m h.0 h.1)
output_stays y z n bs cs u v k (output.Had e s) h = h
output_stays y z n bs cs u v k (output.GiveBack e) h = h
output_stays y z n bs cs u v k (output.GivingBack e) h = h
output_stays y z n bs cs u v k (output.Refused r) h = h

pub all_stay : (y : sizes.Yard) (z : model.Yard) (n : ℕ) (bs cs : Boxes) (u v : model.Yard) → Stays y bs u cs v → (os : List Output) → AllTrue y z n bs u os → AllTrue y z n cs v os
all_stay y z n bs cs u v k [] h = h
all_stay y z n bs cs u v k (o ∷ os) h = (output_stays y z n bs cs u v k o h.0, all_stay y z n bs cs u v k os h.1)

-- an input on its way through a box, which is b now and has logged l: a run of the model, and all that was and is said is true
pub record Going (y : sizes.Yard) (bs : Boxes) (z : model.Yard) (n : ℕ) (b : Box) (l : Log) : Type 0 where
  pub acts : List model.Act
  pub now : model.Yard
  pub run : Run y.engines z acts now
  pub holds : As y (put n b bs) now
  pub stays : Stays y bs z (put n b bs) now
  pub outputs : AllTrue y z n (put n b bs) now l.outputs
  pub sections : now.section ≡ z.section

-- one sign told
told_grows : (y : sizes.Yard) (bs : Boxes) (z : model.Yard) (x c s j : ℕ) → Stays y bs z bs (after z (tells x c s j))
told_grows y bs z x c s j from (message.Call d) t h = h
told_grows y bs z x c s j from (message.Answer e n answer) t h = h
told_grows y bs z x c s j from (message.Change news) t h = h
told_grows y bs z x c s j from (message.WhichChange e p) t h = h
told_grows y bs z x c s j from (message.Sign telling) t h = Memᴰ.tail h
told_grows y bs z x c s j from (message.Waits waiting) t h = h

as_told : (y : sizes.Yard) (bs : Boxes) (z : model.Yard) (x c s j : ℕ) → As y bs z → As y bs (after z (tells x c s j))
as_told y bs z x c s j a =
    record {
      sections = a.sections;
      engines = λ e h. engine_same z (after z (tells x c s j)) refl y _ _ e refl (a.engines e h);
      notes = a.notes;
    }

module _ (y : sizes.Yard) (bs : Boxes) (z : model.Yard) (n : ℕ) (b : Box) where
  -- a record, and something said that is true
  abbrev pub going-recorded : (l : Log) (r : Record) → Going y bs z n b l → Going y bs z n b (recorded l r)
  going-recorded l r g =
      record { acts = g.acts; now = g.now; run = g.run; holds = g.holds; stays = g.stays; outputs = g.outputs; sections = g.sections }

  pub going_said : (l : Log) (o : Output) (g : Going y bs z n b l) → OutputTrue y z n (put n b bs) g.now o → Going y bs z n b (said l o)
  going_said l o g h =
      record {
        acts = g.acts;
        now = g.now;
        run = g.run;
        holds = g.holds;
        stays = g.stays;
        outputs = all_said y z n (put n b bs) g.now l.outputs o g.outputs h;
        sections = g.sections;
      }

  -- a sign told: the teller has the section that the other began to wait for, and shows the sign
  pub going_told : (l : Log) (to : BoxNumber) (x : Engine) (c : ℕ) (j : Engine) (v s : ℕ) (g : Going y bs z n b l) →
      HasBegun g.now x.0 c s → model.holder g.now s ≡ by j.0 → model.shown g.now j.0 ≡ v → Going y bs z n b (sent l to (message.Sign (record { to = x; count = c; by = j; sign = v })))
  going_told l to x c j v s g h k q =
      let more = told_grows y (put n b bs) g.now x.0 c s j.0 in
      record {
        acts = tells x.0 c s j.0 ∷ g.acts;
        now = after g.now (tells x.0 c s j.0);
        run = then g.run (tells x.0 c s j.0) (h, k);
        holds = as_told y (put n b bs) g.now x.0 c s j.0 g.holds;
        stays = λ from m t i. more from m t (g.stays from m t i);
        outputs =
            all_said y z n (put n b bs) (after g.now (tells x.0 c s j.0)) l.outputs (output.Send to (message.Sign (record { to = x; count = c; by = j; sign = v })))
            (all_stay y z n (put n b bs) (put n b bs) g.now (after g.now (tells x.0 c s j.0)) more l.outputs g.outputs)
            (tt, Memᴰ.head (ap (λ (w : ℕ). record { to = x.0; count = c; teller = j.0; sign = w }) (sym q)));
        sections = g.sections;
      }

  -- a step for each number below m
  pub each_going : (f : ℕ → Log → Log) → ((m : ℕ) (l : Log) → Going y bs z n b l → Going y bs z n b (f m l)) → (m : ℕ) (l : Log) → Going y bs z n b l → Going y bs z n b (each f m l)
  unfolding each
  each_going f k zero l g = g
  each_going f k (suc m) l g = k m (each f m l) (each_going f k m l g)

pub put_here : {A : Type 0} (n : ℕ) (b : A) (bs : ℕ → A) → put n b bs n ≡ b
put_here n b bs = rw (eq-eqb n n refl)

-- the sign that one of ours shows, told to all that are noted as waiting for what it holds
module _ (y : sizes.Yard) (bs : Boxes) (z : model.Yard) (n : ℕ) (b : Box) (in-yard : n < y.boxes) (j : Engine) (v : ℕ) (one_of_lem : j.0 < y.engines)
    (shows : (state_in y (put n b bs) j.0).signs.shown ≡ v) (held : (s : Section) → holds_at b.home j s ≡ true → model.holder z (number_of s) ≡ by j.0) where
  shown_now : (l : Log) (g : Going y bs z n b l) → model.shown g.now j.0 ≡ v
  shown_now l g = ap (λ (e : model.Engine). e.shown) (g.holds.engines j.0 one_of_lem).same ∙ shows

  tell_if : (l : Log) (to : BoxNumber) (x c : ℕ) (s : Section) (t : Bool) → holds_at b.home j s ≡ t → (g : Going y bs z n b l) → HasBegun g.now x c (number_of s) →
      Going y bs z n b (cond t (sent l to (message.Sign (record { to = engine x; count = c; by = j; sign = v }))) l)
  tell_if l to x c s true q g h = going_told y bs z n b l to (engine x) c j v (number_of s) g h (rw g.sections (held s q)) (shown_now l g)
  tell_if l to x c s false q g h = g

  tell_noted_lem : (l : Log) (x : ℕ) (m : Noted) → note_at b.home (engine x) ≡ m → Going y bs z n b l → Going y bs z n b (tell_noted b.home j v (engine x) m l)
  tell_noted_lem l x None q g = g
  tell_noted_lem l x (Some seen) q g =
      tell_if l _ x seen.count seen.section (holds_at b.home j seen.section) refl g
      (g.holds.notes n x seen.section seen.count in-yard (ap (λ (a : Box). note_at a.home (engine x)) (put_here n b bs) ∙ q))

  pub tells_going : (l : Log) → Going y bs z n b l → Going y bs z n b (tells_of b.home j v l)
  tells_going l g = each_going y bs z n b (λ x. tell_of b.home j v (engine x)) (λ x k i. tell_noted_lem k x (note_at b.home (engine x)) refl i) b.home.yard.engines l g
