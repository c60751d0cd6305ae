-- A file in shape settles what its box comes up as; and a cut message is no message.
use Rattle.std.proofs.Common.{◌≡◌, ℕ, ◌<◌, Bool, ltb, ◌⊎◌, List, [], ◌∷◌, ◌++◌, length, take, Ok, Err, sym, refl, ap, ◌∙◌, subst, inl, inr, arith}
use Rattle.std.proofs.lemmas.List.{append-nil, get_or-set_same, flat_map_more, set-get_or}
use Rattle.std.proofs.lemmas.Bool.{cond_both, ltb-true}
use Rattle.std.specs.List.{flat_map}
use Rattle.messages.specs.declared.yard.BoxNumber.{BoxNumber}
use Rattle.messages.specs.declared.message.Refusal.{Refusal}
use Rattle.messages.specs.declared.message.Refusal.TheVariants as refusal
use Rattle.messages.specs.Table.{bytes_of}
use Rattle.home.specs.declared.home.Home.{Home}
use Rattle.home.specs.Queries.{engine, giving_back_at}
use Rattle.journal.specs.declared.output.Output.{Output}
use Rattle.journal.specs.declared.output.Output.TheVariants as output
use Rattle.boxes.specs.Log.{Log, none}
use Rattle.boxes.specs.Handle.{reminder_for, reminders_of}
use Rattle.box_laws.proofs.Logs.{each_keeps}
use Rattle.world.specs.declared.step.Step.TheVariants as step
use Rattle.world.specs.Station.{Restarts, Station, delivered_at, fresh_station, opened_as}
use Rattle.world.specs.World.{Answer, Either, Envelope, Makes, Stops, World, at_box, cut_of, is_box, is_sent, message_at, said, sent_by, station_at, turned_away, with_message}
use Rattle.promises.specs.Steps.{CutChangesNothing, SameAfterAStop, StoredAsBefore}
use Rattle.promises.proofs.Shapes.{EnvelopeIn, StationIn, WorldIn, cut_is, is_box_lem, message_in, opened_file, reached_in, restart_is, restarts}

-- what was sent before one more word, and with it
pub joined_push : (n : BoxNumber) (os : List Output) (o : Output) → flat_map (sent_by n) (os ++ o ∷ []) ≡ flat_map (sent_by n) os ++ sent_by n o
joined_push n os o = sym (flat_map_more (sent_by n) [] os o)

-- reminders send nothing
reminders_send : (n : BoxNumber) (h : Home) → flat_map (sent_by n) (reminders_of h none).outputs ≡ []
reminders_send n h =
    each_keeps Silent (λ k. reminder_for h (engine k)) h.yard.engines
    (λ k z lt q. cond_both (giving_back_at h (engine k)) _ _ Silent (λ _. joined_push n z.outputs (output.GivingBack (engine k)) ∙ append-nil (flat_map (sent_by n) z.outputs) ∙ q) (λ _. q)) none refl
  where
    Silent : Log → Type 0
    Silent l = flat_map (sent_by n) l.outputs ≡ []

-- the box at which something was said, read afterwards
pub station_said : (w : World) (n : BoxNumber) (p : Station × List Output) → WorldIn w → n.0 < w.yard.boxes → station_at (said w n p).0 n ≡ p.0
station_said w n p i lt = get_or-set_same w.stations n.0 p.0 (fresh_station w.yard n) (let c = i.count in omega arith)

pub same_after_a_stop : SameAfterAStop
same_after_a_stop w n reached is = ((r.0, r.1, comes-up), stays)
  where
    i : WorldIn w
    i = reached_in w reached

    lt : n.0 < w.yard.boxes
    lt = is_box_lem w n i is

    st : StationIn w.yard n (station_at w n)
    st = i.stations n lt

    up : Station × List Output
    up = opened_as st.kept.records st.kept.opened

    r : World × Answer
    r = said w n up

    Way : World × Answer → Type 0
    Way z = (p : Station × List Output) × Restarts w.yard n (station_at w n) p × (z ≡ said w n p)

    comes-up : Stops w n (r.0, r.1)
    comes-up = subst (λ (t : Bool). Either t (Way r) (r ≡ turned_away w)) (sym is) (up, restarts w.yard n (station_at w n) st, refl)

    settled : (z : World × Answer) → Stops w n z → z ≡ r
    settled z stops =
        let way : Way z = subst (λ (t : Bool). Either t (Way z) (z ≡ turned_away w)) is stops in
        way.2 ∙ ap (said w n) (restart_is w.yard n (station_at w n) st way.0 way.1)

    at_up : station_at r.0 n ≡ up.0
    at_up = station_said w n up i lt

    stays : (u : World) (a : Answer) → Makes w (step.Stop n) (u, a) → StoredAsBefore w u n
    stays u a makes =
        let same : u ≡ r.0 = ap (λ (z : World × Answer). z.0) (settled (u, a) makes) in
        let here : station_at u n ≡ up.0 = ap (λ (z : World). station_at z n) same ∙ at_up in (
          ap (λ (z : Station). z.state.keeper) here ∙ st.kept.same.keeper,
          ap (λ (z : Station). z.state.home.signs) here ∙ st.kept.same.signs,
          ap (λ (z : Station). z.state.home.stored) here ∙ st.kept.same.stored,
          ap (λ (z : Station). z.file) here ∙ opened_file st.kept.records st.kept.opened ∙ sym st.kept.file,
          ap (λ (z : World). z.sent) same ∙ ap (λ (es : List Envelope). w.sent ++ es) (reminders_send n st.kept.opened.home) ∙ append-nil w.sent,
        )

-- a box that says nothing but a refusal, and is as it was: so is the world
pub refused_said : (w : World) (n : BoxNumber) (q : Refusal) → said w n (station_at w n, output.Refused q ∷ []) ≡ (w, Ok (n, length w.sent, output.Refused q ∷ []))
refused_said w n q =
    ap (λ (xs : List Station). (record { yard = w.yard; stations = xs; sent = w.sent ++ [] }, Ok (n, length w.sent, output.Refused q ∷ []))) (set-get_or w.stations n.0 (fresh_station w.yard n)) ∙
    ap (λ (es : List Envelope). (record { yard = w.yard; stations = w.stations; sent = es }, Ok (n, length w.sent, output.Refused q ∷ []))) (append-nil w.sent)

-- nothing changed, and it was turned away before it came to a box, or by the box it was for
abbrev Nothing : World → BoxNumber → World × Answer → Type 0
Nothing w to r = (r.0 ≡ w) × ((r.1 ≡ Err refusal.Malformed) ⊎ (r.1 ≡ Ok (to, length w.sent, output.Refused refusal.Malformed ∷ [])))

cut_at : (w : World) (k : ℕ) (e : Envelope) → WorldIn w → EnvelopeIn w.yard e → k < length e.bytes → Nothing w e.to (at_box w e.to (delivered_at e.from (take k e.bytes)))
unfolding at_box
cut_at w k e i ei short =
    cond_both (is_box w e.to) _ _ (Nothing w e.to)
    (λ is.
    let st = i.stations e.to (is_box_lem w e.to i is) in
    let less : k < length (bytes_of ei.message) = subst (λ (xs : List ℕ). k < length xs) ei.bytes short in
    let refused : delivered_at e.from (take k e.bytes) (station_at w e.to) ≡ (station_at w e.to, output.Refused refusal.Malformed ∷ []) =
    ap (λ (xs : List ℕ). delivered_at e.from (take k xs) (station_at w e.to)) ei.bytes ∙ cut_is w.yard e.to (station_at w e.to) e.from ei.message k st.shape ei.fine less in
    let all = ap (said w e.to) refused ∙ refused_said w e.to refusal.Malformed in
    (ap (λ (z : World × Answer). z.0) all, inr (ap (λ (z : World × Answer). z.1) all)))
    (λ _. (refl, inl refl))

cut_message : (w : World) (m k : ℕ) → WorldIn w → Nothing w (message_at w m).to (cut_of w m k)
unfolding with_message
cut_message w m k i =
    cond_both (is_sent w m) _ _ (Nothing w (message_at w m).to)
    (λ is. cond_both (ltb k (length (message_at w m).bytes)) _ _ (Nothing w (message_at w m).to) (λ short. cut_at w k (message_at w m) i (message_in w m i is) (ltb-true k (length (message_at w m).bytes) short)) (λ _. (refl, inl refl)))
    (λ _. (refl, inl refl))

pub cut_changes_nothing : CutChangesNothing
cut_changes_nothing w u m n a reached makes = subst (Nothing w (message_at w m).to) (sym makes) (cut_message w m n (reached_in w reached))
