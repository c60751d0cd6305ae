-- Every world that steps lead to is in shape: each box, its file, and every message ever sent. By induction on the run.
use Rattle.std.specs.Prelude.{None}
use Rattle.std.proofs.Common.{◌≡◌, ℕ, zero, suc, ◌-◌, ◌<◌, Bool, true, false, ltb, leb, List, [], ◌∷◌, ◌++◌, length, get_or, take, drop, set, None, Ok, Option, Result, sym, refl, ap, ◌∙◌, subst, inl, inr, arith, length-set}
use Rattle.std.proofs.lemmas.List.{append_assoc, append-nil, get_or_append_left, get_or_past, get_or_push, get_or-set_other, get_or-set_same, length-drop, length_push, take-append-drop}
use Rattle.std.proofs.lemmas.Bool.{and_parts, cases_eq, cases_lt, cond_both, ltb-true}
use Rattle.std.specs.List.{flat_map}
use Rattle.std.specs.Option.{ok_or}
use Rattle.messages.specs.declared.yard.BoxNumber.{BoxNumber}
use Rattle.messages.specs.declared.yard.Yard.{Yard}
use Rattle.messages.specs.declared.message.Message.{Message}
use Rattle.messages.specs.declared.message.Record.{Record}
use Rattle.messages.specs.declared.message.Refusal.TheVariants as refusal
use Rattle.messages.specs.Journal.{AllIn, written}
use Rattle.messages.specs.Range.{MessageIn}
use Rattle.messages.specs.Reading.{message_of}
use Rattle.messages.specs.Table.{bytes_of, record_bytes}
use Rattle.messages.proofs.Back.{reads_back}
use Rattle.messages.proofs.Cuts.{cut_refused}
use Rattle.messages.proofs.Fronts.{one_list}
use Rattle.journal.specs.declared.output.Output.{Output}
use Rattle.journal.specs.declared.output.Output.TheVariants as output
use Rattle.boxes.specs.declared.signal_box.Input.{Input}
use Rattle.boxes.specs.declared.signal_box.Input.TheVariants as input
use Rattle.boxes.specs.Log.{Log, none}
use Rattle.messages.specs.Homes.{home_of}
use Rattle.boxes.specs.Model.{State, fresh}
use Rattle.boxes.specs.Handle.{decoded_of, delivered_of, handle_of, received_of}
use Rattle.boxes.specs.Opening.{open_from}
use Rattle.box_laws.specs.Runs.{SameStored}
use Rattle.box_laws.proofs.Logs.{AllSaid, SaysIn, records_append}
use Rattle.box_laws.proofs.Shape.{InShape, IsLine, Shaped, shape_fresh, shape_handled, shape_received}
use Rattle.box_laws.proofs.Replay.{Backed, Whole, backed_none, replay_delivered, replay_handled, replay_on, same_refl}
use Rattle.box_laws.proofs.Opened.{reminders_in, reminders_records, shape_opened}
use Rattle.world.specs.declared.step.Step.{Step}
use Rattle.world.specs.declared.step.Step.TheVariants as step
use Rattle.world.specs.Station.{Restarts, Station, committed, delivered_at, fresh_station, handled_at, opened_as}
use Rattle.world.specs.World.{Answer, Either, Envelope, Makes, World, at_box, box_at, carried, carried_cut, empty, fresh_stations, is_box, is_sent, message_at, said, sent_by, station_at, turned_away, with_message}
use Rattle.world.specs.Runs.{Reached, Run, Taken, nothing, then}

-- what a box's file has: records in range that, read back, make what is stored of the box
pub record FileIn (y : Yard) (n : BoxNumber) (s : Station) : Type 0 where
  pub records : List Record
  pub all : AllIn y records
  pub file : s.file ≡ written records
  pub opened : State
  pub opens : open_from 0 records (fresh y n) ≡ Ok opened
  pub same : SameStored opened s.state

-- a box of the yard with its file
pub record StationIn (y : Yard) (n : BoxNumber) (s : Station) : Type 0 where
  pub shape : InShape y n.0 s.state
  pub kept : FileIn y n s

-- a message that was sent: in range, from and to boxes of the yard
pub record EnvelopeIn (y : Yard) (e : Envelope) : Type 0 where
  pub message : Message
  pub fine : MessageIn y message
  pub bytes : e.bytes ≡ bytes_of message
  pub from : e.from.0 < y.boxes
  pub to : e.to.0 < y.boxes

abbrev pub AllSent : Yard → List Envelope → Type 0
AllSent y [] = Unit {0}
AllSent y (e ∷ es) = EnvelopeIn y e × AllSent y es

-- a world in shape
pub record WorldIn (w : World) : Type 0 where
  pub count : length w.stations ≡ w.yard.boxes
  pub stations : (n : BoxNumber) → n.0 < w.yard.boxes → StationIn w.yard n (station_at w n)
  pub sent : AllSent w.yard w.sent

-- ONE BOX
written_append : (rs qs : List Record) → written (rs ++ qs) ≡ written rs ++ written qs
written_append [] qs = refl
written_append (r ∷ rs) qs = ap (λ (xs : List ℕ). record_bytes r ++ xs) (written_append rs qs) ∙ sym (append_assoc (record_bytes r) (written rs) (written qs))

whole_of : (y : Yard) (n : ℕ) (b : State) → InShape y n b → Whole b.keeper
whole_of y n b i = (i.calls, i.table)

-- what came of an input that keeps the shape and is backed by its records, stored
committed_in : (y : Yard) (n : BoxNumber) (s : Station) (p : State × Log) (i : StationIn y n s) → Shaped y n.0 p → Backed i.kept.opened p → StationIn y n (committed s.file p).0
committed_in y n s p i shape backed =
    let back = replay_on 0 i.kept.records (fresh y n) i.kept.opened p i.kept.opens backed in
    record {
      shape = shape.0;
      kept = record {
        records = i.kept.records ++ p.1.records;
        all = records_append y i.kept.records p.1.records i.kept.all shape.1.0;
        file = ap (λ (xs : List ℕ). xs ++ written p.1.records) i.kept.file ∙ sym (written_append i.kept.records p.1.records);
        opened = back.0;
        opens = back.1;
        same = back.2;
      };
    }

pub handled_in : (y : Yard) (n : BoxNumber) (s : Station) (j : Input) → StationIn y n s → IsLine j → StationIn y n (handled_at j s).0 × AllSaid y (handled_at j s).1
handled_in y n s j i line =
    let shape = shape_handled y n.0 s.state j none i.shape line (tt, tt) in (
      committed_in y n s (handle_of s.state j none) i shape
          (replay_handled i.kept.opened s.state j none (whole_of y n.0 s.state i.shape) (backed_none i.kept.opened s.state i.kept.same)),
      shape.1.1,
    )

-- bytes of a message in range are received as that message
pub delivered_is : (y : Yard) (n : ℕ) (b : State) (from : BoxNumber) (m : Message) (l : Log) → InShape y n b → MessageIn y m → delivered_of b from (bytes_of m) l ≡ received_of b from m l
delivered_is y n b from m l i mi =
    ap (λ (o : Option Message). decoded_of b from (ok_or o refusal.Malformed) l) (ap (λ (z : Yard). message_of z (bytes_of m)) i.yard ∙ reads_back y m mi)

pub delivered_in : (y : Yard) (n : BoxNumber) (s : Station) (from : BoxNumber) (m : Message) → StationIn y n s → from.0 < y.boxes → MessageIn y m →
    StationIn y n (delivered_at from (bytes_of m) s).0 × AllSaid y (delivered_at from (bytes_of m) s).1
delivered_in y n s from m i lt mi =
    let shape : Shaped y n.0 (delivered_of s.state from (bytes_of m) none) = subst (Shaped y n.0) (sym (delivered_is y n.0 s.state from m none i.shape mi)) (shape_received y n.0 s.state from m none i.shape lt mi (tt, tt)) in (
      committed_in y n s (delivered_of s.state from (bytes_of m) none) i shape
          (replay_delivered i.kept.opened s.state from (bytes_of m) none (whole_of y n.0 s.state i.shape) (backed_none i.kept.opened s.state i.kept.same)),
      shape.1.1,
    )

-- a cut message is turned away, and nothing of the box changes
pub cut_is : (y : Yard) (n : BoxNumber) (s : Station) (from : BoxNumber) (m : Message) (k : ℕ) → InShape y n.0 s.state → MessageIn y m → k < length (bytes_of m) →
    delivered_at from (take k (bytes_of m)) s ≡ (s, output.Refused refusal.Malformed ∷ [])
cut_is y n s from m k i mi short =
    let none_read : message_of s.state.home.yard (take k (bytes_of m)) ≡ None =
    ap (λ (z : Yard). message_of z (take k (bytes_of m))) i.yard ∙
    cut_refused y m (take k (bytes_of m)) (drop k (bytes_of m)) mi (take-append-drop k (bytes_of m)) (λ q. let z = length-drop k (bytes_of m) in let e : length (drop k (bytes_of m)) ≡ 0 = ap length q in omega arith) in
    ap (λ (o : Option Message). committed s.file (decoded_of s.state from (ok_or o refusal.Malformed) none)) none_read ∙
    ap (λ (xs : List ℕ). (record { state = s.state; file = xs }, output.Refused refusal.Malformed ∷ [])) (append-nil s.file)

-- a stop: what the box comes up as is settled by its file
pub restart_is : (y : Yard) (n : BoxNumber) (s : Station) (i : StationIn y n s) (p : Station × List Output) → Restarts y n s p → p ≡ opened_as i.kept.records i.kept.opened
restart_is y n s i p (rs, rest, b, holds, opens, is) =
    let one = one_list y s.file rs i.kept.records rest [] holds (i.kept.all, append-nil (written i.kept.records) ∙ sym i.kept.file, tt) in
    let both : Ok b ≡ Ok i.kept.opened = sym opens ∙ ap (λ (qs : List Record). open_from 0 qs (fresh y n)) one.0 ∙ i.kept.opens in
    is ∙ ap (λ (qs : List Record). opened_as qs b) one.0 ∙ ap (λ (z : State). opened_as i.kept.records z) (same_ok b i.kept.opened both)
  where
    same_ok : (c d : State) → ◌≡◌ {A = Result State ℕ} (Ok c) (Ok d) → c ≡ d
    same_ok c d q = cc

pub restarts : (y : Yard) (n : BoxNumber) (s : Station) (i : StationIn y n s) → Restarts y n s (opened_as i.kept.records i.kept.opened)
restarts y n s i = (i.kept.records, [], i.kept.opened, (i.kept.all, append-nil (written i.kept.records) ∙ sym i.kept.file, tt), i.kept.opens, refl)

pub opened_file : (rs : List Record) (b : State) → (opened_as rs b).0.file ≡ written rs
opened_file rs b = ap (λ (qs : List Record). written rs ++ written qs) (reminders_records b.home none) ∙ append-nil (written rs)

pub opened_in : (y : Yard) (n : BoxNumber) (s : Station) (i : StationIn y n s) → StationIn y n (opened_as i.kept.records i.kept.opened).0 × AllSaid y (opened_as i.kept.records i.kept.opened).1
opened_in y n s i = (
  record {
    shape = shape_opened y n i.kept.records i.kept.opened s.state i.shape i.kept.opens i.kept.same;
    kept = record {
      records = i.kept.records;
      all = i.kept.all;
      file = opened_file i.kept.records i.kept.opened;
      opened = i.kept.opened;
      opens = i.kept.opens;
      same = same_refl i.kept.opened;
    };
  },
  (reminders_in y i.kept.opened.home none (tt, tt)).1,
)

-- ALL BOXES
sent_append : (y : Yard) (es fs : List Envelope) → AllSent y es → AllSent y fs → AllSent y (es ++ fs)
sent_append y [] fs a b = b
sent_append y (e ∷ es) fs a b = (a.0, sent_append y es fs a.1 b)

-- what a box says in range is sent in range
sent_by_lem : (y : Yard) (n : BoxNumber) → n.0 < y.boxes → (o : Output) → SaysIn y o → AllSent y (sent_by n o)
sent_by_lem y n lt (output.Send to m) i = (record { message = m; fine = i.1; bytes = refl; from = lt; to = i.0 }, tt)
sent_by_lem y n lt (output.Had e s) i = tt
sent_by_lem y n lt (output.GiveBack e) i = tt
sent_by_lem y n lt (output.GivingBack e) i = tt
sent_by_lem y n lt (output.Refused r) i = tt

all_sent_by : (y : Yard) (n : BoxNumber) → n.0 < y.boxes → (os : List Output) → AllSaid y os → AllSent y (flat_map (sent_by n) os)
all_sent_by y n lt [] i = tt
all_sent_by y n lt (o ∷ os) i = sent_append y (sent_by n o) (flat_map (sent_by n) os) (sent_by_lem y n lt o i.0) (all_sent_by y n lt os i.1)

pub sent_at : (y : Yard) (es : List Envelope) (k : ℕ) (d : Envelope) → AllSent y es → k < length es → EnvelopeIn y (get_or es k d)
sent_at y [] k d a lt = absurd (omega arith)
sent_at y (e ∷ es) zero d a lt = a.0
sent_at y (e ∷ es) (suc k) d a lt = sent_at y es k d a.1 (omega arith)

-- the message of a number is one that was sent
pub message_in : (w : World) (m : ℕ) → WorldIn w → is_sent w m ≡ true → EnvelopeIn w.yard (message_at w m)
message_in w m i is = sent_at w.yard w.sent (m - 1) _ i.sent (ltb-true (m - 1) (length w.sent) (and_parts (leb 1 m) (ltb (m - 1) (length w.sent)) is).1)

-- what is said at a box of a world in shape leaves it in shape
pub said_in : (w : World) (n : BoxNumber) (p : Station × List Output) → WorldIn w → n.0 < w.yard.boxes → StationIn w.yard n p.0 → AllSaid w.yard p.1 → WorldIn (said w n p).0
said_in w n p i lt si oi =
    record {
      count = length-set w.stations n.0 p.0 ∙ i.count;
      stations = stations;
      sent = sent_append w.yard w.sent (flat_map (sent_by n) p.1) i.sent (all_sent_by w.yard n lt p.1 oi);
    }
  where
    stations : (k : BoxNumber) → k.0 < w.yard.boxes → StationIn w.yard k (get_or (set w.stations n.0 p.0) k.0 (fresh_station w.yard k))
    stations k less =
        elim (cases_eq k.0 n.0) [
          | inl q ↦
              subst (λ (j : ℕ). StationIn w.yard (box_at j) (get_or (set w.stations n.0 p.0) j (fresh_station w.yard (box_at j)))) (sym q)
              (subst (StationIn w.yard n) (sym (get_or-set_same w.stations n.0 p.0 (fresh_station w.yard n) (let c = i.count in omega arith))) si)
          | inr q ↦ subst (StationIn w.yard k) (sym (get_or-set_other w.stations n.0 k.0 p.0 (fresh_station w.yard k) q)) (i.stations k less)
        ]

pub is_box_lem : (w : World) (n : BoxNumber) → WorldIn w → is_box w n ≡ true → n.0 < w.yard.boxes
is_box_lem w n i is = let lt = ltb-true n.0 (length w.stations) is in let c = i.count in omega arith

at_box_in : (w : World) (n : BoxNumber) (f : Station → Station × List Output) → WorldIn w →
    (n.0 < w.yard.boxes → StationIn w.yard n (f (station_at w n)).0 × AllSaid w.yard (f (station_at w n)).1) → WorldIn (at_box w n f).0
unfolding at_box
at_box_in w n f i keeps =
    cond_both (is_box w n) _ _ (λ (r : World × Answer). WorldIn r.0)
    (λ is. let lt = is_box_lem w n i is in said_in w n (f (station_at w n)) i lt (keeps lt).0 (keeps lt).1)
    (λ _. i)

with_message_in : (w : World) (m : ℕ) (f : Envelope → World × Answer) → WorldIn w → (EnvelopeIn w.yard (message_at w m) → WorldIn (f (message_at w m)).0) → WorldIn (with_message w m f).0
unfolding with_message
with_message_in w m f i keeps = cond_both (is_sent w m) _ _ (λ (r : World × Answer). WorldIn r.0) (λ is. keeps (message_in w m i is)) (λ _. i)

carried_in : (w : World) (e : Envelope) → WorldIn w → EnvelopeIn w.yard e → WorldIn (carried w e).0
carried_in w e i ei =
    at_box_in w e.to (delivered_at e.from e.bytes) i
    (λ lt.
    subst (λ (xs : List ℕ). StationIn w.yard e.to (delivered_at e.from xs (station_at w e.to)).0 × AllSaid w.yard (delivered_at e.from xs (station_at w e.to)).1) (sym ei.bytes)
    (delivered_in w.yard e.to (station_at w e.to) e.from ei.message (i.stations e.to lt) ei.from ei.fine))

cut_in : (w : World) (k : ℕ) (e : Envelope) → WorldIn w → EnvelopeIn w.yard e → WorldIn (carried_cut w k e).0
cut_in w k e i ei =
    cond_both (ltb k (length e.bytes)) _ _ (λ (r : World × Answer). WorldIn r.0)
    (λ short.
    at_box_in w e.to (delivered_at e.from (take k e.bytes)) i
    (λ lt.
    let st = i.stations e.to lt in
    let less : k < length (bytes_of ei.message) = subst (λ (xs : List ℕ). k < length xs) ei.bytes (ltb-true k (length e.bytes) short) in
    let is : delivered_at e.from (take k e.bytes) (station_at w e.to) ≡ (station_at w e.to, output.Refused refusal.Malformed ∷ []) =
    ap (λ (xs : List ℕ). delivered_at e.from (take k xs) (station_at w e.to)) ei.bytes ∙ cut_is w.yard e.to (station_at w e.to) e.from ei.message k st.shape ei.fine less in
    subst (λ (p : Station × List Output). StationIn w.yard e.to p.0 × AllSaid w.yard p.1) (sym is) (st, (tt, tt))))
    (λ _. i)

stop_in : (w : World) (n : BoxNumber) (r : World × Answer) → WorldIn w → (t : Bool) → is_box w n ≡ t →
    Either t ((p : Station × List Output) × Restarts w.yard n (station_at w n) p × (r ≡ said w n p)) (r ≡ turned_away w) → WorldIn r.0
stop_in w n r i true is (p, restarts, q) =
    let lt = is_box_lem w n i is in
    let st = i.stations n lt in
    let here = opened_in w.yard n (station_at w n) st in
    subst (λ (z : World × Answer). WorldIn z.0) (sym (q ∙ ap (said w n) (restart_is w.yard n (station_at w n) st p restarts)))
    (said_in w n (opened_as st.kept.records st.kept.opened) i lt here.0 here.1)
stop_in w n r i false is q = subst (λ (z : World × Answer). WorldIn z.0) (sym q) i

-- every step keeps the shape
pub makes_in : (w : World) (s : Step) (r : World × Answer) → WorldIn w → Makes w s r → WorldIn r.0
makes_in w (step.Take e s) r i q =
    subst (λ (z : World × Answer). WorldIn z.0) (sym q)
    (at_box_in w (home_of w.yard e) (handled_at (input.Take e s)) i (λ lt. handled_in w.yard (home_of w.yard e) (station_at w (home_of w.yard e)) (input.Take e s) (i.stations (home_of w.yard e) lt) tt))
makes_in w (step.Free e s) r i q =
    subst (λ (z : World × Answer). WorldIn z.0) (sym q)
    (at_box_in w (home_of w.yard e) (handled_at (input.Free e s)) i (λ lt. handled_in w.yard (home_of w.yard e) (station_at w (home_of w.yard e)) (input.Free e s) (i.stations (home_of w.yard e) lt) tt))
makes_in w (step.Deliver m) r i q = subst (λ (z : World × Answer). WorldIn z.0) (sym q) (with_message_in w m (carried w) i (carried_in w (message_at w m) i))
makes_in w (step.Cut m n) r i q = subst (λ (z : World × Answer). WorldIn z.0) (sym q) (with_message_in w m (carried_cut w n) i (cut_in w n (message_at w m) i))
makes_in w (step.Second n) r i q =
    subst (λ (z : World × Answer). WorldIn z.0) (sym q) (at_box_in w n (handled_at input.Second) i (λ lt. handled_in w.yard n (station_at w n) input.Second (i.stations n lt) tt))
makes_in w (step.Stop n) r i q = stop_in w n r i (is_box w n) refl q

fresh_length : (y : Yard) (k : ℕ) → length (fresh_stations y k) ≡ k
unfolding fresh_stations
fresh_length y zero = refl
fresh_length y (suc k) = length_push (fresh_stations y k) (fresh_station y (box_at k)) ∙ (let z = fresh_length y k in omega arith)

pub fresh_at : (y : Yard) (k j : ℕ) (d : Station) → j < k → get_or (fresh_stations y k) j d ≡ fresh_station y (box_at j)
unfolding fresh_stations
fresh_at y zero j d lt = absurd (omega arith)
fresh_at y (suc k) j d lt =
    elim (cases_lt j k) [
      | inl less ↦ get_or_append_left (fresh_stations y k) (fresh_station y (box_at k) ∷ []) d j (let z = fresh_length y k in omega arith) ∙ fresh_at y k j d less
      | inr more ↦
          let same : k ≡ j = omega arith in
          get_or_push (fresh_stations y k) (fresh_station y (box_at k)) d j (fresh_length y k ∙ same) ∙ ap (λ (i : ℕ). fresh_station y (box_at i)) same
    ]

-- read anywhere, also past the last box, a new world has a box of which there is no record
pub fresh_anywhere : (y : Yard) (b : ℕ) → get_or (fresh_stations y y.boxes) b (fresh_station y (box_at b)) ≡ fresh_station y (box_at b)
fresh_anywhere y b =
    elim (cases_lt b y.boxes) [
      | inl lt ↦ fresh_at y y.boxes b (fresh_station y (box_at b)) lt
      | inr ge ↦ get_or_past (fresh_stations y y.boxes) b (fresh_station y (box_at b)) (let z = fresh_length y y.boxes in omega arith)
    ]

open_none : (y : Yard) (n : BoxNumber) → open_from 0 [] (fresh y n) ≡ Ok (fresh y n)
unfolding open_from
open_none y n = refl

pub empty_in : (y : Yard) → WorldIn (empty y)
empty_in y =
    record {
      count = fresh_length y y.boxes;
      stations =
          λ n lt.
          subst (StationIn y n) (sym (fresh_at y y.boxes n.0 (fresh_station y n) lt))
          (record {
            shape = shape_fresh y n lt;
            kept = record { records = []; all = tt; file = refl; opened = fresh y n; opens = open_none y n; same = same_refl (fresh y n) };
          });
      sent = tt;
    }

pub run_in : {w u : World} {steps : List Taken} → Run w steps u → WorldIn w → WorldIn u
run_in nothing i = i
run_in (then {w = w} {u = u} {s = s} {a = a} made more) i = run_in more (makes_in w s (u, a) i made)

-- every world that steps lead to is in shape
pub reached_in : (w : World) → Reached w → WorldIn w
reached_in w (y, steps, run) = run_in run (empty_in y)
