-- A refusal said first at one box, carried to the world: the others stand as they were.
use Rattle.std.proofs.Common.{◌≡◌, ℕ, ◌<◌, Bool, true, false, ◌&&◌, ◌||◌, eqb, List, [], ◌∷◌, ◌++◌, get_or, sym, refl, ap, ◌∙◌, subst, inl, inr}
use Rattle.std.proofs.lemmas.List.{append-nil, get_or-set_other}
use Rattle.std.proofs.lemmas.Bool.{both_ways, cases_eq, cond_both}
use Rattle.messages.specs.declared.yard.BoxNumber.{BoxNumber}
use Rattle.messages.specs.declared.message.Act.{Act}
use Rattle.messages.specs.declared.message.Act.TheVariants as act
use Rattle.messages.specs.declared.message.Message.{Message}
use Rattle.messages.specs.declared.message.Message.TheVariants as message
use Rattle.messages.specs.declared.message.Refusal.{Refusal}
use Rattle.messages.specs.Holder.{Holder}
use Rattle.messages.specs.declared.message.Reply.{Reply}
use Rattle.messages.specs.declared.message.Reply.TheVariants as reply
use Rattle.messages.specs.declared.yard.Engine.{Engine}
use Rattle.messages.specs.Table.{act_byte, bytes_of, four, two}
use Rattle.journal.specs.declared.output.Output.{Output}
use Rattle.journal.specs.declared.output.Output.TheVariants as output
use Rattle.boxes.specs.declared.signal_box.Input.{Input}
use Rattle.boxes.specs.declared.signal_box.Input.TheVariants as input
use Rattle.messages.specs.Homes.{home_of}
use Rattle.boxes.specs.Log.{Log, none}
use Rattle.boxes.specs.Model.{State}
use Rattle.boxes.specs.Handle.{delivered_of, received_of}
use Rattle.box_laws.specs.Away.{IsReply, IsReport, LineAway}
use Rattle.box_laws.proofs.Away.{free_away, message_away, take_away}
use Rattle.world.specs.Station.{Station, committed, delivered_at, fresh_station, handled_at}
use Rattle.world.specs.World.{Answer, Envelope, World, at_box, box_at, carried, deliver_of, is_box, is_sent, message_at, said, station_at, with_message}
use Rattle.world.specs.Runs.{table_in}
use Rattle.promises.specs.Steps.{SameSectionsAndEngines, AlwaysTurnedAway, TurnedAwayBy}
use Rattle.promises.proofs.Shapes.{EnvelopeIn, WorldIn, delivered_is, message_in, reached_in}
use Rattle.promises.proofs.Stops.{refused_said, station_said}

-- A LINE
abbrev Unchanged : World → Refusal → World × Answer → Type 0
Unchanged w q r = TurnedAwayBy r.1 q → r.0 ≡ w

line_away : (w : World) (n : BoxNumber) (j : Input) (q : Refusal) → LineAway (station_at w n).state j → Unchanged w q (at_box w n (handled_at j))
unfolding at_box
line_away w n j q away =
    cond_both (is_box w n) _ _ (Unchanged w q)
    (λ _ (first : _).
    let is = away (q, first.0, first.1) in
    ap (λ (z : World × Answer). z.0)
    (ap (λ (p : State × Log). said w n (committed (station_at w n).file p)) is.1 ∙
    ap (λ (xs : List ℕ). said w n (record { state = (station_at w n).state; file = xs }, output.Refused is.0 ∷ [])) (append-nil (station_at w n).file) ∙
    refused_said w n is.0))
    (λ _ _. refl)

-- A MESSAGE: that it is a report shows in its bytes
abbrev is_refused : Reply → Bool
is_refused reply.Done = false
is_refused reply.Waits = false
is_refused (reply.Refused r) = true

abbrev is_report : Message → Bool
is_report (message.Call c) = false
is_report (message.Answer e n a) = is_refused a.reply
is_report (message.Change news) = true
is_report (message.WhichChange e s) = false
is_report (message.Sign telling) = false
is_report (message.Waits waiting) = false

abbrev report_bytes : List ℕ → Bool
report_bytes xs = eqb (get_or xs 0 0) 5 || (eqb (get_or xs 0 0) 4 && eqb (get_or xs 6 0) 0)

act_bytes : (a : Act) (xs : List ℕ) → report_bytes (act_byte a ∷ xs) ≡ false
act_bytes act.Take xs = refl
act_bytes act.Free xs = refl
act_bytes act.GiveUp xs = refl

answer_bytes : (e : Engine) (n : ℕ) (r : Reply) (h : Holder) (c : ℕ) → report_bytes (bytes_of (message.Answer e n (record { reply = r; holder = h; change = c }))) ≡ is_refused r
answer_bytes e n reply.Done h c = refl
answer_bytes e n reply.Waits h c = refl
answer_bytes e n (reply.Refused r) h c = refl

is_refused_lem : (r : Reply) → IsReply r → is_refused r ≡ true
is_refused_lem reply.Done i = absurd i
is_refused_lem reply.Waits i = absurd i
is_refused_lem (reply.Refused r) i = refl

refused_is : (r : Reply) → is_refused r ≡ true → IsReply r
refused_is reply.Done q = absurd (both_ways false refl q)
refused_is reply.Waits q = absurd (both_ways false refl q)
refused_is (reply.Refused r) q = tt

report_bytes_lem : (m : Message) → report_bytes (bytes_of m) ≡ is_report m
report_bytes_lem (message.Call c) = act_bytes c.act (c.engine.0 ∷ two c.section ++ four c.number)
report_bytes_lem (message.Answer e n a) = answer_bytes e n a.reply a.holder a.change
report_bytes_lem (message.Change news) = refl
report_bytes_lem (message.WhichChange e s) = refl
report_bytes_lem (message.Sign telling) = refl
report_bytes_lem (message.Waits waiting) = refl

is_report_lem : (m : Message) → IsReport m → is_report m ≡ true
is_report_lem (message.Call c) i = absurd i
is_report_lem (message.Answer e n a) i = is_refused_lem a.reply i
is_report_lem (message.Change news) i = refl
is_report_lem (message.WhichChange e s) i = absurd i
is_report_lem (message.Sign telling) i = absurd i
is_report_lem (message.Waits waiting) i = absurd i

report_is : (m : Message) → is_report m ≡ true → IsReport m
report_is (message.Call c) q = absurd (both_ways false refl q)
report_is (message.Answer e n a) q = refused_is a.reply q
report_is (message.Change news) q = tt
report_is (message.WhichChange e s) q = absurd (both_ways false refl q)
report_is (message.Sign telling) q = absurd (both_ways false refl q)
report_is (message.Waits waiting) q = absurd (both_ways false refl q)

same_report : (m x : Message) → bytes_of m ≡ bytes_of x → IsReport m → IsReport x
same_report m x q i = report_is x (sym (report_bytes_lem x) ∙ ap report_bytes (sym q) ∙ report_bytes_lem m ∙ is_report_lem m i)

-- what is read of a box after something was said at one, where that one kept its sections and its engines
kept_said : (w : World) (to : BoxNumber) (p : Station × List Output) → WorldIn w → to.0 < w.yard.boxes → p.0.state.keeper.table ≡ table_in w to → p.0.state.home ≡ (station_at w to).state.home → SameSectionsAndEngines w (said w to p).0
kept_said w to p i lt table home n =
    elim (cases_eq n.0 to.0) [
      | inl q ↦
          subst (λ (k : ℕ). (table_in (said w to p).0 (box_at k) ≡ table_in w (box_at k)) × ((station_at (said w to p).0 (box_at k)).state.home ≡ (station_at w (box_at k)).state.home)) (sym q)
          (ap (λ (s : Station). s.state.keeper.table) (station_said w to p i lt) ∙ table, ap (λ (s : Station). s.state.home) (station_said w to p i lt) ∙ home)
      | inr q ↦
          let same : station_at (said w to p).0 n ≡ station_at w n = get_or-set_other w.stations to.0 n.0 p.0 (fresh_station w.yard n) q in
          (ap (λ (s : Station). s.state.keeper.table) same, ap (λ (s : Station). s.state.home) same)
    ]

abbrev Away : World → Refusal → World × Answer → Type 0
Away w q r = TurnedAwayBy r.1 q → SameSectionsAndEngines w r.0

carried_away : (w : World) (e : Envelope) (x : Message) (q : Refusal) → WorldIn w → EnvelopeIn w.yard e → e.bytes ≡ bytes_of x → (IsReport x → ⊥) → Away w q (carried w e)
unfolding at_box
carried_away w e x q i ei same no-report =
    cond_both (is_box w e.to) _ _ (Away w q)
    (λ _ (first : _).
    let s = station_at w e.to in
    let st = i.stations e.to ei.to in
    let is : delivered_of s.state e.from e.bytes none ≡ received_of s.state e.from ei.message none =
    ap (λ (xs : List ℕ). delivered_of s.state e.from xs none) ei.bytes ∙ delivered_is w.yard e.to.0 s.state e.from ei.message none st.shape ei.fine in
    let away = message_away s.state e.from ei.message st.shape.calls st.shape.table (λ r. no-report (same_report ei.message x (sym ei.bytes ∙ same) r))
    (q, first.0, ap (λ (p : State × Log). p.1.outputs) (sym is) ∙ first.1) in
    kept_said w e.to (delivered_at e.from e.bytes s) i ei.to (ap (λ (p : State × Log). p.0.keeper.table) is ∙ away.0) (ap (λ (p : State × Log). p.0.home) is ∙ away.1))
    (λ _ _ n. (refl, refl))

deliver_away : (w : World) (m : ℕ) (x : Message) (q : Refusal) → WorldIn w → (message_at w m).bytes ≡ bytes_of x → (IsReport x → ⊥) → Away w q (deliver_of w m)
unfolding with_message
deliver_away w m x q i same no-report =
    cond_both (is_sent w m) _ _ (Away w q) (λ is. carried_away w (message_at w m) x q i (message_in w m i is) same no-report) (λ _ _ n. (refl, refl))

pub turned_away : AlwaysTurnedAway
turned_away w u a q reached first = (
  λ e s makes. subst (Unchanged w q) (sym makes) (line_away w (home_of w.yard e) (input.Take e s) q (take_away (station_at w (home_of w.yard e)).state e s)) first,
  λ e s makes. subst (Unchanged w q) (sym makes) (line_away w (home_of w.yard e) (input.Free e s) q (free_away (station_at w (home_of w.yard e)).state e s)) first,
  λ m x makes same no-report. subst (Away w q) (sym makes) (deliver_away w m x q (reached_in w reached) same no-report) first,
)
