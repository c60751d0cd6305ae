-- Every step of the world is a run of the model, and the world stays as the model has it. By induction on the run every reached world is.
use Rattle.std.proofs.Common.{◌≡◌, ℕ, zero, suc, ◌-◌, ◌<◌, Bool, true, false, cond, ltb, leb, ◌⊎◌, List, [], ◌∷◌, ◌++◌, length, get_or, take, set, Ok, Err, sym, refl, ap, ◌∙◌, subst, inl, inr, arith}
use mathlib.Core.Path.{fun_ext}
use Rattle.std.proofs.lemmas.List.{append-nil, get_or-set_same, get_or-set_other}
use Rattle.std.proofs.lemmas.Bool.{and_parts, cases_eq, cond_both, eq-eqb, ltb-true, ne_eqb}
use Rattle.std.specs.List.{flat_map}
use Rattle.messages.specs.declared.yard.BoxNumber.{BoxNumber}
use Rattle.messages.specs.declared.yard.Engine.{Engine}
use Rattle.messages.specs.declared.yard.Section.{Section}
use Rattle.messages.specs.declared.yard.Yard.{Yard}
use Rattle.messages.specs.declared.message.Refusal.TheVariants as refusal
use Rattle.messages.specs.declared.message.Message.{Message}
use Rattle.messages.specs.declared.message.Message.TheVariants as message
use Rattle.messages.specs.Range.{MessageIn}
use Rattle.messages.specs.Journal.{written}
use Rattle.messages.specs.Table.{bytes_of}
use Rattle.journal.specs.declared.output.Output.{Output}
use Rattle.journal.specs.declared.output.Output.TheVariants as output
use Rattle.boxes.specs.declared.signal_box.Input.TheVariants as input
use Rattle.messages.specs.Homes.{home_of}
use Rattle.boxes.specs.Handle.{handle_of, delivered_of, reminder_for, reminders_of}
use Rattle.boxes.specs.Keeping.{refused}
use Rattle.boxes.specs.Log.{Log, each, none}
use Rattle.boxes.specs.Log.{said as logged}
use Rattle.boxes.specs.Model.{State, fresh}
use Rattle.home.specs.declared.home.Home.{Home}
use Rattle.home.specs.Queries.{engine, giving_back_at}
use Rattle.box_laws.proofs.Logs.{AllSaid, SaysIn}
use Rattle.box_laws.proofs.Shape.{InShape}
use Rattle.world.specs.Station.{Restarts, Station, committed, delivered_at, fresh_station, handled_at, opened_as}
use Rattle.world.specs.World.{Answer, Either, Envelope, Makes, World, at_box, box_at, empty, turned_away, carried, carried_cut, is_box, is_sent, message_at, with_message, said, sent_by, station_at}
use Rattle.world.specs.declared.step.Step.{Step}
use Rattle.world.specs.declared.step.Step.TheVariants as step
use Rattle.world.specs.Runs as worlds
use Rattle.world.specs.Runs.{Reached, Taken, nothing, then}
use Rattle.yard.specs.Yard as model
use Rattle.yard.specs.Yard.{Finds, Reach, Run, by, put, still}
use Rattle.yard.proofs.Sound.{reach_on}
use Rattle.yard.proofs.Views.{Moved, unmoved}
use Rattle.refinement.specs.Placed.{number_of}
use Rattle.refinement.proofs.View.{As, Boxes, Sized, ToABox, True}
use Rattle.refinement.proofs.Telling.{AllTrue, OutputTrue, Stays, all_said}
use Rattle.refinement.proofs.Handling.{Handled}
use Rattle.refinement.proofs.Receiving.{refused_handled}
use Rattle.refinement.proofs.Starting.{fresh_as, fresh_boxes}
use Rattle.refinement.proofs.Stopping.{Reopened, stop_as, stop_stays}
use Rattle.refinement.proofs.Laws.{free_is_run, message_is_run, second_is_run, take_is_run}
use Rattle.promises.proofs.Blank.{fresh_blank, open_blank}
use Rattle.promises.proofs.Shapes.{EnvelopeIn, WorldIn, cut_is, delivered_in, delivered_is, empty_in, fresh_anywhere, handled_in, is_box_lem, makes_in, message_in, opened_in, restart_is}

-- the boxes of a world, by number
abbrev pub boxes_of : World → Boxes
boxes_of w b = (station_at w (box_at b)).state

-- a message that was sent is in range and true
abbrev pub SentTrue : Yard → Boxes → model.Yard → Envelope → Type 0
SentTrue y bs z e = (m : Message) × MessageIn y m × (e.bytes ≡ bytes_of m) × True y bs z e.from m

abbrev pub AllSentTrue : Yard → Boxes → model.Yard → List Envelope → Type 0
AllSentTrue y bs z [] = Unit {0}
AllSentTrue y bs z (e ∷ es) = SentTrue y bs z e × AllSentTrue y bs z es

-- a world is as the model has it
pub record Modelled (w : World) (z : model.Yard) : Type 0 where
  pub reach : Reach w.yard.engines z
  pub holds : As w.yard (boxes_of w) z
  pub sent : AllSentTrue w.yard (boxes_of w) z w.sent

-- what is said of engines is true in the model before the step
abbrev pub Meant : model.Yard → Output → Type 0
Meant z (output.Send to m) = Unit {0}
Meant z (output.Had e s) = model.holder z (number_of s) ≡ by e.0
Meant z (output.GiveBack e) = (j s : ℕ) × Finds z e.0 j s
Meant z (output.GivingBack e) = Unit {0}
Meant z (output.Refused r) = Unit {0}

abbrev pub AllMeant : model.Yard → List Output → Type 0
AllMeant z [] = Unit {0}
AllMeant z (o ∷ os) = Meant z o × AllMeant z os

abbrev pub AnswerMeant : model.Yard → Answer → Type 0
AnswerMeant z (Err r) = Unit {0}
AnswerMeant z (Ok a) = AllMeant z a.2

-- a step of the world is a run of the model
pub record IsRun (z : model.Yard) (r : World × Answer) : Type 0 where
  pub acts : List model.Act
  pub now : model.Yard
  pub run : Run r.0.yard.engines z acts now
  pub modelled : Modelled r.0 now
  pub meant : AnswerMeant z r.1
  -- no section changed, or no engine
  pub kind : (now.section ≡ z.section) ⊎ (now.engine ≡ z.engine)
  -- what became of each section
  pub moved : (s : ℕ) → Moved r.0.yard.engines z s (now.section s)

meant_output : (y : Yard) (z : model.Yard) (n : ℕ) (bs : Boxes) (u : model.Yard) (o : Output) → OutputTrue y z n bs u o → Meant z o
meant_output y z n bs u (output.Send to m) h = tt
meant_output y z n bs u (output.Had e s) h = h
meant_output y z n bs u (output.GiveBack e) h = h
meant_output y z n bs u (output.GivingBack e) h = tt
meant_output y z n bs u (output.Refused r) h = tt

all_meant : (y : Yard) (z : model.Yard) (n : ℕ) (bs : Boxes) (u : model.Yard) (os : List Output) → AllTrue y z n bs u os → AllMeant z os
all_meant y z n bs u [] h = tt
all_meant y z n bs u (o ∷ os) h = (meant_output y z n bs u o h.0, all_meant y z n bs u os h.1)

-- a call in range is to a box of the yard
to_a_box : (y : Yard) (m : Message) → MessageIn y m → ToABox y m
to_a_box y (message.Call c) h = h.1.0
to_a_box y (message.Answer e n answer) h = tt
to_a_box y (message.Change news) h = tt
to_a_box y (message.WhichChange e s) h = tt
to_a_box y (message.Sign telling) h = tt
to_a_box y (message.Waits waiting) h = tt

sent_stays : (y : Yard) (bs cs : Boxes) (z u : model.Yard) → Stays y bs z cs u → (es : List Envelope) → AllSentTrue y bs z es → AllSentTrue y cs u es
sent_stays y bs cs z u s [] h = tt
sent_stays y bs cs z u s (e ∷ es) h = ((h.0.0, h.0.1, h.0.2, s e.from h.0.0 (to_a_box y h.0.0 h.0.1) h.0.3), sent_stays y bs cs z u s es h.1)

sent_append : (y : Yard) (bs : Boxes) (z : model.Yard) (es fs : List Envelope) → AllSentTrue y bs z es → AllSentTrue y bs z fs → AllSentTrue y bs z (es ++ fs)
sent_append y bs z [] fs h k = k
sent_append y bs z (e ∷ es) fs h k = (h.0, sent_append y bs z es fs h.1 k)

sent_one : (y : Yard) (z : model.Yard) (n : BoxNumber) (bs : Boxes) (u : model.Yard) (o : Output) → SaysIn y o → OutputTrue y z n.0 bs u o → AllSentTrue y bs u (sent_by n o)
sent_one y z n bs u (output.Send to m) i h = ((m, i.1, refl, h.1), tt)
sent_one y z n bs u (output.Had e s) i h = tt
sent_one y z n bs u (output.GiveBack e) i h = tt
sent_one y z n bs u (output.GivingBack e) i h = tt
sent_one y z n bs u (output.Refused r) i h = tt

sent_all : (y : Yard) (z : model.Yard) (n : BoxNumber) (bs : Boxes) (u : model.Yard) (os : List Output) → AllSaid y os → AllTrue y z n.0 bs u os → AllSentTrue y bs u (flat_map (sent_by n) os)
sent_all y z n bs u [] i h = tt
sent_all y z n bs u (o ∷ os) i h = sent_append y bs u (sent_by n o) (flat_map (sent_by n) os) (sent_one y z n bs u o i.0 h.0) (sent_all y z n bs u os i.1 h.1)

-- the boxes after one has changed
boxes_after : (w : World) (n : BoxNumber) (s : Station) (es : List Envelope) → n.0 < length w.stations →
    put n.0 s.state (boxes_of w) ≡ boxes_of (record { yard = w.yard; stations = set w.stations n.0 s; sent = es })
boxes_after w n s es lt =
    fun_ext (λ b. elim (cases_eq b n.0) [
      | inl q ↦ rw (eq-eqb b n.0 q, q) (ap (λ (t : Station). t.state) (sym (get_or-set_same w.stations n.0 s (fresh_station w.yard n) lt)))
      | inr q ↦ rw (ne_eqb b n.0 q) (ap (λ (t : Station). t.state) (sym (get_or-set_other w.stations n.0 b s (fresh_station w.yard (box_at b)) q)))
    ])

-- a box in shape has tables of their sizes
pub sized_of : (y : Yard) (n : ℕ) (b : State) → InShape y n b → Sized y n b
sized_of y n b i =
    record { yard = i.yard; number = i.number; signs = i.signs; stored = i.stored; known = i.known; notes = i.notes; table = i.table; calls = i.calls }

module _ (w : World) (z : model.Yard) (i : WorldIn w) (m : Modelled w z) where
  -- what a box made of an input, stored and said
  said_is_run : (n : BoxNumber) → n.0 < w.yard.boxes → (file : List ℕ) (p : State × Log) → AllSaid w.yard p.1.outputs → Handled w.yard (boxes_of w) z n.0 p →
      IsRun z (said w n (committed file p))
  said_is_run n lt file p in_range h =
      let y : Yard = w.yard in
      let s : Station = (committed file p).0 in
      let es : List Envelope = w.sent ++ flat_map (sent_by n) p.1.outputs in
      let cs : Boxes = put n.0 p.0 (boxes_of w) in
      let same : cs ≡ boxes_of (said w n (committed file p)).0 = boxes_after w n s es (let c = i.count in omega arith) in
      record {
        acts = h.acts;
        now = h.now;
        run = h.run;
        modelled = record {
          reach = reach_on m.reach h.run;
          holds = subst (λ (ds : Boxes). As y ds h.now) same h.holds;
          sent =
              subst (λ (ds : Boxes). AllSentTrue y ds h.now es) same
              (sent_append y cs h.now w.sent (flat_map (sent_by n) p.1.outputs) (sent_stays y (boxes_of w) cs z h.now h.stays w.sent m.sent)
              (sent_all y z n cs h.now p.1.outputs in_range h.outputs));
        };
        meant = all_meant y z n.0 cs h.now p.1.outputs h.outputs;
        kind = h.kind;
        moved = h.moved;
      }

  -- nothing changes
  still_is_run : (a : Answer) → AnswerMeant z a → IsRun z (w, a)
  still_is_run a h = record { acts = []; now = z; run = still; modelled = m; meant = h; kind = inl refl; moved = λ s. unmoved }

  sized_at : (n : BoxNumber) → n.0 < w.yard.boxes → Sized w.yard n.0 (boxes_of w n.0)
  sized_at n lt = sized_of w.yard n.0 (boxes_of w n.0) (i.stations n lt).shape

  -- a step at a box, if there is one
  at_box_run : (n : BoxNumber) (f : Station → Station × List Output) → (n.0 < w.yard.boxes → IsRun z (said w n (f (station_at w n)))) → IsRun z (at_box w n f)
  unfolding at_box
  at_box_run n f go =
      cond_both (is_box w n) _ _ (λ (r : World × Answer). IsRun z r) (λ is. go (is_box_lem w n i is)) (λ _. still_is_run (Err refusal.Malformed) tt)

  take_run : (n : BoxNumber) (e : Engine) (s : Section) → IsRun z (at_box w n (handled_at (input.Take e s)))
  take_run n e s =
      at_box_run n (handled_at (input.Take e s))
      (λ lt. said_is_run n lt (station_at w n).file (handle_of (station_at w n).state (input.Take e s) none)
      (handled_in w.yard n (station_at w n) (input.Take e s) (i.stations n lt) tt).1
      (take_is_run w.yard (boxes_of w) z n.0 m.reach lt m.holds (sized_at n lt) e s))

  free_run : (n : BoxNumber) (e : Engine) (s : Section) → IsRun z (at_box w n (handled_at (input.Free e s)))
  free_run n e s =
      at_box_run n (handled_at (input.Free e s))
      (λ lt. said_is_run n lt (station_at w n).file (handle_of (station_at w n).state (input.Free e s) none)
      (handled_in w.yard n (station_at w n) (input.Free e s) (i.stations n lt) tt).1
      (free_is_run w.yard (boxes_of w) z n.0 m.reach lt m.holds (sized_at n lt) e s))

  second_run : (n : BoxNumber) → IsRun z (at_box w n (handled_at input.Second))
  second_run n =
      at_box_run n (handled_at input.Second)
      (λ lt. said_is_run n lt (station_at w n).file (handle_of (station_at w n).state input.Second none)
      (handled_in w.yard n (station_at w n) input.Second (i.stations n lt) tt).1
      (second_is_run w.yard (boxes_of w) z n.0 m.reach lt m.holds (sized_at n lt)))

  -- the message of a number is true
  true_at : (es : List Envelope) (k : ℕ) (d : Envelope) → AllSentTrue w.yard (boxes_of w) z es → k < length es → SentTrue w.yard (boxes_of w) z (get_or es k d)
  true_at [] k d h lt = absurd (omega arith)
  true_at (e ∷ es) zero d h lt = h.0
  true_at (e ∷ es) (suc k) d h lt = true_at es k d h.1 (omega arith)

  pub message_true : (k : ℕ) → is_sent w k ≡ true → SentTrue w.yard (boxes_of w) z (message_at w k)
  message_true k is = true_at w.sent (k - 1) _ m.sent (ltb-true (k - 1) (length w.sent) (and_parts (leb 1 k) (ltb (k - 1) (length w.sent)) is).1)

  -- what arrives whole is received
  arrives : (n : BoxNumber) → n.0 < w.yard.boxes → (from : BoxNumber) → from.0 < w.yard.boxes → (d : Message) → MessageIn w.yard d → True w.yard (boxes_of w) z from d →
      IsRun z (said w n (delivered_at from (bytes_of d) (station_at w n)))
  arrives n lt from f d in_range t =
      let s : Station = station_at w n in
      let q = delivered_is w.yard n.0 s.state from d none (i.stations n lt).shape in_range in
      said_is_run n lt s.file (delivered_of s.state from (bytes_of d) none) (delivered_in w.yard n s from d (i.stations n lt) f in_range).1
      (subst (λ (p : State × Log). Handled w.yard (boxes_of w) z n.0 p) (sym q)
      (message_is_run w.yard (boxes_of w) z n.0 m.reach lt m.holds (sized_at n lt) from f d in_range t))

  carried_run : (e : Envelope) → EnvelopeIn w.yard e → SentTrue w.yard (boxes_of w) z e → IsRun z (carried w e)
  carried_run e k t =
      at_box_run e.to (delivered_at e.from e.bytes)
      (λ lt. subst (λ (xs : List ℕ). IsRun z (said w e.to (delivered_at e.from xs (station_at w e.to)))) (sym t.2) (arrives e.to lt e.from k.from t.0 t.1 t.3))

  with_message_run : (k : ℕ) (f : Envelope → World × Answer) → (is_sent w k ≡ true → IsRun z (f (message_at w k))) → IsRun z (with_message w k f)
  unfolding with_message
  with_message_run k f go = cond_both (is_sent w k) _ _ (λ (r : World × Answer). IsRun z r) go (λ _. still_is_run (Err refusal.Malformed) tt)

  deliver_run : (k : ℕ) → IsRun z (with_message w k (carried w))
  deliver_run k = with_message_run k (carried w) (λ is. carried_run (message_at w k) (message_in w k i is) (message_true k is))

  -- what arrives cut is turned away
  cut_arrives : (n : BoxNumber) → n.0 < w.yard.boxes → IsRun z (said w n (station_at w n, output.Refused refusal.Malformed ∷ []))
  cut_arrives n lt =
      let s : Station = station_at w n in
      subst (λ (xs : List ℕ). IsRun z (said w n (record { state = s.state; file = xs }, output.Refused refusal.Malformed ∷ []))) (append-nil s.file)
      (said_is_run n lt s.file (refused s.state none) (tt, tt) (refused_handled w.yard (boxes_of w) z n.0 m.holds))

  cut_run : (k l : ℕ) → IsRun z (with_message w k (carried_cut w l))
  cut_run k l = with_message_run k (carried_cut w l) (λ is. short (message_at w k) (message_in w k i is))
    where
      short : (e : Envelope) → EnvelopeIn w.yard e → IsRun z (carried_cut w l e)
      short e ei =
          cond_both (ltb l (length e.bytes)) _ _ (λ (r : World × Answer). IsRun z r)
          (λ less. at_box_run e.to (delivered_at e.from (take l e.bytes))
          (λ lt. subst (λ (p : Station × List Output). IsRun z (said w e.to p)) (sym (ap (λ (xs : List ℕ). delivered_at e.from (take l xs) (station_at w e.to)) ei.bytes ∙ cut_is w.yard e.to (station_at w e.to) e.from ei.message l (i.stations e.to lt).shape ei.fine
          (subst (λ (xs : List ℕ). l < length xs) ei.bytes (ltb-true l (length e.bytes) less))))
          (cut_arrives e.to lt)))
          (λ _. still_is_run (Err refusal.Malformed) tt)

  -- a stop is no act of the model
  reminders_true : (bs : Boxes) (n : ℕ) (h : Home) (k : ℕ) (l : Log) → AllTrue w.yard z n bs z l.outputs → AllTrue w.yard z n bs z (each (λ e. reminder_for h (engine e)) k l).outputs
  unfolding each
  reminders_true bs n h zero l a = a
  reminders_true bs n h (suc k) l a = go (each (λ e. reminder_for h (engine e)) k l) (giving_back_at h (engine k)) (reminders_true bs n h k l a)
    where
      go : (j : Log) (t : Bool) → AllTrue w.yard z n bs z j.outputs → AllTrue w.yard z n bs z (cond t (logged j (output.GivingBack (engine k))) j).outputs
      go j true b = all_said w.yard z n bs z j.outputs (output.GivingBack (engine k)) b tt
      go j false b = b

  opened_run : (n : BoxNumber) → (lt : n.0 < w.yard.boxes) → IsRun z (said w n (opened_as (i.stations n lt).kept.records (i.stations n lt).kept.opened))
  opened_run n lt =
      let k = (i.stations n lt).kept in
      let b : State = k.opened in
      let blank = open_blank 0 k.records (fresh w.yard n) b k.opens (fresh_blank w.yard n) in
      let r : Reopened (boxes_of w n.0) b = record { keeper = k.same.keeper; signs = k.same.signs; stored = k.same.stored; known = blank.0; notes = blank.1 } in
      said_is_run n lt (written k.records) (b, reminders_of b.home none) (opened_in w.yard n (station_at w n) (i.stations n lt)).1
      (record {
        acts = [];
        now = z;
        run = still;
        holds = stop_as w.yard (boxes_of w) z n.0 b r m.holds;
        stays = stop_stays w.yard (boxes_of w) z n.0 b r;
        outputs = reminders_true (put n.0 b (boxes_of w)) n.0 b.home b.home.yard.engines none tt;
        kind = inl refl;
        moved = λ s. unmoved;
      })

  stop_run : (n : BoxNumber) (r : World × Answer) (t : Bool) → is_box w n ≡ t →
      Either t ((p : Station × List Output) × Restarts w.yard n (station_at w n) p × (r ≡ said w n p)) (r ≡ turned_away w) → IsRun z r
  stop_run n r true is (p, restarts, q) =
      let lt = is_box_lem w n i is in
      subst (λ (x : World × Answer). IsRun z x) (sym (q ∙ ap (said w n) (restart_is w.yard n (station_at w n) (i.stations n lt) p restarts))) (opened_run n lt)
  stop_run n r false is q = subst (λ (x : World × Answer). IsRun z x) (sym q) (still_is_run (Err refusal.Malformed) tt)

  -- EVERY STEP OF THE WORLD IS A RUN OF THE MODEL
  pub step_is_run : (s : Step) (r : World × Answer) → Makes w s r → IsRun z r
  step_is_run (step.Take e s) r q = subst (λ (x : World × Answer). IsRun z x) (sym q) (take_run (home_of w.yard e) e s)
  step_is_run (step.Free e s) r q = subst (λ (x : World × Answer). IsRun z x) (sym q) (free_run (home_of w.yard e) e s)
  step_is_run (step.Deliver k) r q = subst (λ (x : World × Answer). IsRun z x) (sym q) (deliver_run k)
  step_is_run (step.Cut k l) r q = subst (λ (x : World × Answer). IsRun z x) (sym q) (cut_run k l)
  step_is_run (step.Second n) r q = subst (λ (x : World × Answer). IsRun z x) (sym q) (second_run n)
  step_is_run (step.Stop n) r q = stop_run n r (is_box w n) refl q

-- the world in which nothing has happened is the model's start
empty_boxes : (y : Yard) → fresh_boxes y ≡ boxes_of (empty y)
empty_boxes y = fun_ext (λ b. ap (λ (s : Station). s.state) (sym (fresh_anywhere y b)))

pub empty_modelled : (y : Yard) → Modelled (empty y) model.start
empty_modelled y =
    record {
      reach = ([], still);
      holds = subst (λ (bs : Boxes). As y bs model.start) (empty_boxes y) (fresh_as y y.sizes.3);
      sent = tt;
    }

pub run_modelled : {w u : World} {steps : List Taken} → worlds.Run w steps u → WorldIn w → (z : model.Yard) → Modelled w z → (v : model.Yard) × Modelled u v
run_modelled nothing i z m = (z, m)
run_modelled (then {w = w} {u = u} {s = s} {a = a} made more) i z m = let r = step_is_run w z i m s (u, a) made in run_modelled more (makes_in w s (u, a) i made) r.now r.modelled

-- EVERY REACHED WORLD IS AS THE MODEL HAS IT
pub reached_modelled : (w : World) → Reached w → (z : model.Yard) × Modelled w z
reached_modelled w (y, steps, run) = run_modelled run (empty_in y) model.start (empty_modelled y)
