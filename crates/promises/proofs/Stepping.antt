-- Every step of the world: a mode that became a call was said, and whoever is said to have a section asks or waits for it at its home.
use Rattle.std.proofs.Common.{◌≡◌, ℕ, ◌%◌, ◌<◌, Bool, true, false, ltb, ◌⊎◌, List, [], ◌∷◌, length, get_or, take, set, Ok, Err, sym, refl, ap, ◌∙◌, subst, inl, inr, arith}
use Rattle.std.proofs.lemmas.List.{get_or-set_same, get_or-set_other}
use Rattle.std.proofs.lemmas.Bool.{cases_eq, cond_both, ltb-true}
use Rattle.messages.specs.declared.yard.BoxNumber.{BoxNumber}
use Rattle.messages.specs.declared.yard.Engine.{Engine}
use Rattle.messages.specs.declared.yard.Section.{Section}
use Rattle.messages.specs.declared.message.Act.{Act}
use Rattle.messages.specs.declared.message.Act.TheVariants as act
use Rattle.messages.specs.declared.message.Message.TheVariants as message
use Rattle.messages.specs.declared.message.Refusal.{Refusal}
use Rattle.messages.specs.declared.message.Refusal.TheVariants as refusal
use Rattle.messages.specs.Journal.{written}
use Rattle.journal.specs.declared.output.Output.{Output}
use Rattle.journal.specs.declared.output.Output.TheVariants as output
use Rattle.engine_state.specs.declared.state.Mode.{Mode}
use Rattle.engine_state.specs.declared.state.Mode.TheVariants as mode
use Rattle.boxes.specs.declared.signal_box.Input.{Input}
use Rattle.boxes.specs.declared.signal_box.Input.TheVariants as input
use Rattle.messages.specs.Homes.{home_of}
use Rattle.boxes.specs.Handle.{delivered_of, handle_of, reminders_of}
use Rattle.boxes.specs.Log.{Log, none}
use Rattle.boxes.specs.Model.{State}
use Rattle.world.specs.declared.step.Step.{Step}
use Rattle.world.specs.declared.step.Step.TheVariants as step
use Rattle.world.specs.Station.{Restarts, Station, committed, delivered_at, fresh_station, handled_at}
use Rattle.world.specs.World.{Answer, Either, Envelope, Makes, World, at_box, box_at, carried, carried_cut, is_box, is_sent, message_at, said, station_at, turned_away, with_message}
use Rattle.world.specs.Runs.{Says, engine_in}
use Rattle.refinement.proofs.View.{Sized}
use Rattle.promises.proofs.Calling.{Wants, mode_at}
use Rattle.promises.proofs.Sayings.{Fine, From, Spoken, all_at, cut_spoken, handled_spoken, opened_spoken, received_spoken}
use Rattle.promises.proofs.Dictionary.{from_mem, to_mem}
use Rattle.promises.proofs.Shapes.{EnvelopeIn, WorldIn, cut_is, delivered_is, is_box_lem, message_in, restart_is}
use Rattle.promises.proofs.Whole.{sized_of}

-- the mode that is stored of an engine at its home
abbrev pub mode_of : World → Engine → Mode
mode_of w e = (engine_in w e).stored.mode

abbrev pub SaidAs : Answer → ℕ → Mode → Type 0
SaidAs (Err r) k m = ⊥
SaidAs (Ok a) k m = From a.2 k m

-- what a step shows: each mode is as it was or was said, and who is said to have a section asks or waits for it
pub record Shows (w : World) (r : World × Answer) : Type 0 where
  pub modes : (e : Engine) → (mode_of r.0 e ≡ mode_of w e) ⊎ SaidAs r.1 e.0 (mode_of r.0 e)
  pub had : (e : Engine) (s : Section) → Says r.1 (output.Had e s) → (e.0 < w.yard.engines) × Wants s (mode_of r.0 e)

module _ (w : World) (i : WorldIn w) where
  still_shows : (r : Refusal) → Shows w (w, Err r)
  still_shows r = record { modes = λ e. inl refl; had = λ e s k. absurd k }

  -- a box's new state, and what it said
  said_shows : (n : BoxNumber) → n.0 < w.yard.boxes → (q : Station × List Output) → Spoken w.yard n.0 (station_at w n).state (q.0.state, record { records = []; outputs = q.1 }) → Shows w (said w n q)
  said_shows n lt q k =
      record {
        modes = λ e. elim (cases_eq (e.0 % w.yard.boxes) n.0) [
          | inl p ↦
              subst (λ (o : Mode). (o ≡ mode_of w e) ⊎ From q.1 e.0 o) (sym (here e p))
              (subst (λ (o : Mode). (mode_at q.0.state.home e.0 ≡ o) ⊎ From q.1 e.0 (mode_at q.0.state.home e.0)) (sym (was e p)) (k.modes e.0))
          | inr p ↦ inl (ap (λ (s : Station). mode_at s.state.home e.0) (get_or-set_other w.stations n.0 (e.0 % w.yard.boxes) q.0 (fresh_station w.yard (home_of w.yard e)) p))
        ];
        had = λ e s o.
            let f = all_at (Fine w.yard n.0 (mode_at q.0.state.home)) q.1 (output.Had e s) k.had (to_mem q.1 o) in
            (f.0, subst (λ (o : Mode). Wants s o) (sym (here e f.1)) f.2);
      }
    where
      at_in : List Station → ℕ → Station
      at_in xs j = get_or xs j (fresh_station w.yard (box_at j))

      here : (e : Engine) → e.0 % w.yard.boxes ≡ n.0 → mode_of (said w n q).0 e ≡ mode_at q.0.state.home e.0
      here e p =
          ap (λ (j : ℕ). mode_at (at_in (set w.stations n.0 q.0) j).state.home e.0) p ∙
          ap (λ (s : Station). mode_at s.state.home e.0) (get_or-set_same w.stations n.0 q.0 (fresh_station w.yard n) (let c = i.count in omega arith))

      was : (e : Engine) → e.0 % w.yard.boxes ≡ n.0 → mode_of w e ≡ mode_at (station_at w n).state.home e.0
      was e p = ap (λ (j : ℕ). mode_at (at_in w.stations j).state.home e.0) p

  committed_shows : (n : BoxNumber) → n.0 < w.yard.boxes → (file : List ℕ) (p : State × Log) → Spoken w.yard n.0 (station_at w n).state p → Shows w (said w n (committed file p))
  committed_shows n lt file p k = said_shows n lt (committed file p) (record { modes = k.modes; had = k.had })

  sized_here : (n : BoxNumber) → n.0 < w.yard.boxes → Sized w.yard n.0 (station_at w n).state
  sized_here n lt = sized_of w.yard n.0 (station_at w n).state (i.stations n lt).shape

  at_box_shows : (n : BoxNumber) (f : Station → Station × List Output) → (n.0 < w.yard.boxes → Shows w (said w n (f (station_at w n)))) → Shows w (at_box w n f)
  unfolding at_box
  at_box_shows n f go = cond_both (is_box w n) _ _ (λ (r : World × Answer). Shows w r) (λ is. go (is_box_lem w n i is)) (λ _. still_shows refusal.Malformed)

  handled_shows : (n : BoxNumber) (j : Input) → Shows w (at_box w n (handled_at j))
  handled_shows n j =
      at_box_shows n (handled_at j)
      (λ lt. committed_shows n lt (station_at w n).file (handle_of (station_at w n).state j none) (handled_spoken w.yard n.0 (station_at w n).state (sized_here n lt) j))

  with_message_shows : (k : ℕ) (f : Envelope → World × Answer) → (is_sent w k ≡ true → Shows w (f (message_at w k))) → Shows w (with_message w k f)
  unfolding with_message
  with_message_shows k f go = cond_both (is_sent w k) _ _ (λ (r : World × Answer). Shows w r) go (λ _. still_shows refusal.Malformed)

  carried_shows : (e : Envelope) → EnvelopeIn w.yard e → Shows w (carried w e)
  carried_shows e k =
      at_box_shows e.to (delivered_at e.from e.bytes)
      (λ lt.
      let s : Station = station_at w e.to in
      committed_shows e.to lt s.file (delivered_of s.state e.from e.bytes none)
      (subst (λ (p : State × Log). Spoken w.yard e.to.0 s.state p)
      (sym (ap (λ (xs : List ℕ). delivered_of s.state e.from xs none) k.bytes ∙ delivered_is w.yard e.to.0 s.state e.from k.message none (i.stations e.to lt).shape k.fine))
      (received_spoken w.yard e.to.0 s.state (sized_here e.to lt) e.from k.message)))

  cut_shows : (l : ℕ) (e : Envelope) → EnvelopeIn w.yard e → Shows w (carried_cut w l e)
  cut_shows l e k =
      cond_both (ltb l (length e.bytes)) _ _ (λ (r : World × Answer). Shows w r)
      (λ less. at_box_shows e.to (delivered_at e.from (take l e.bytes))
      (λ lt. subst (λ (p : Station × List Output). Shows w (said w e.to p))
      (sym (ap (λ (xs : List ℕ). delivered_at e.from (take l xs) (station_at w e.to)) k.bytes ∙ cut_is w.yard e.to (station_at w e.to) e.from k.message l (i.stations e.to lt).shape k.fine
      (subst (λ (xs : List ℕ). l < length xs) k.bytes (ltb-true l (length e.bytes) less))))
      (said_shows e.to lt (station_at w e.to, output.Refused refusal.Malformed ∷ []) (cut_spoken w.yard e.to.0 (station_at w e.to).state (sized_here e.to lt)))))
      (λ _. still_shows refusal.Malformed)

  stop_shows : (n : BoxNumber) (r : World × Answer) (t : Bool) → is_box w n ≡ t →
      Either t ((p : Station × List Output) × Restarts w.yard n (station_at w n) p × (r ≡ said w n p)) (r ≡ turned_away w) → Shows w r
  stop_shows n r true is (p, restarts, q) =
      let lt = is_box_lem w n i is in
      let k = (i.stations n lt).kept in
      subst (λ (x : World × Answer). Shows w x) (sym (q ∙ ap (said w n) (restart_is w.yard n (station_at w n) (i.stations n lt) p restarts)))
      (committed_shows n lt (written k.records) (k.opened, reminders_of k.opened.home none) (opened_spoken w.yard n.0 (station_at w n).state (sized_here n lt) k.opened k.same.stored))
  stop_shows n r false is q = subst (λ (x : World × Answer). Shows w x) (sym q) (still_shows refusal.Malformed)

  pub step_shows : (s : Step) (r : World × Answer) → Makes w s r → Shows w r
  step_shows (step.Take e s) r q = subst (λ (x : World × Answer). Shows w x) (sym q) (handled_shows (home_of w.yard e) (input.Take e s))
  step_shows (step.Free e s) r q = subst (λ (x : World × Answer). Shows w x) (sym q) (handled_shows (home_of w.yard e) (input.Free e s))
  step_shows (step.Deliver k) r q = subst (λ (x : World × Answer). Shows w x) (sym q) (with_message_shows k (carried w) (λ is. carried_shows (message_at w k) (message_in w k i is)))
  step_shows (step.Cut k l) r q = subst (λ (x : World × Answer). Shows w x) (sym q) (with_message_shows k (carried_cut w l) (λ is. cut_shows l (message_at w k) (message_in w k i is)))
  step_shows (step.Second n) r q = subst (λ (x : World × Answer). Shows w x) (sym q) (handled_shows n input.Second)
  step_shows (step.Stop n) r q = stop_shows n r (is_box w n) refl q

-- a call of an engine at its home after a step was its call before, or was sent; and a giving up was printed too
pub call_is_said : (w : World) → WorldIn w → (s : Step) (u : World) (a : Answer) → Makes w s (u, a) → (e : Engine) (b : Act) (p : Section) (n : ℕ) → mode_of u e ≡ mode.Called b p n →
    (mode_of w e ≡ mode.Called b p n) ⊎
    (Says a (output.Send p.keeper (message.Call (record { act = b; engine = e; section = p; number = n }))) × (b ≡ act.GiveUp → Says a (output.GiveBack e)))
call_is_said w i s u a makes e b p n is =
    elim ((step_shows w i s (u, a) makes).modes e) [
      | inl q ↦ inl (sym q ∙ is)
      | inr q ↦ inr (go a (subst (λ (m : Mode). SaidAs a e.0 m) is q))
    ]
  where
    go : (c : Answer) → SaidAs c e.0 (mode.Called b p n) →
        Says c (output.Send p.keeper (message.Call (record { act = b; engine = e; section = p; number = n }))) × (b ≡ act.GiveUp → Says c (output.GiveBack e))
    go (Err r) k = absurd k
    go (Ok c) k = (from_mem c.2 k.0, λ g. from_mem c.2 (k.1 g))
