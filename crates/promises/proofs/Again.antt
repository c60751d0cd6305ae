-- The second delivery comes to the box that the first one left: by what one box makes of the same message again.
use Rattle.std.proofs.Common.{◌≡◌, ℕ, ◌-◌, ◌<◌, true, false, ltb, leb, List, [], ◌++◌, length, set, sym, ap, ◌∙◌, subst, inl, inr, arith, length-set}
use Rattle.std.proofs.lemmas.List.{append-nil, get_or_append_left, length-append, set-get_or}
use Rattle.std.proofs.lemmas.Bool.{and_from, and_parts, cases_Bool, cond-false, cond-true, lt-ltb, ltb-true}
use Rattle.std.specs.List.{flat_map}
use Rattle.messages.specs.declared.yard.BoxNumber.{BoxNumber}
use Rattle.messages.specs.declared.yard.Yard.{Yard}
use Rattle.messages.specs.declared.message.Message.{Message}
use Rattle.messages.specs.declared.message.Record.{Record}
use Rattle.messages.specs.Journal.{written}
use Rattle.messages.specs.Range.{MessageIn}
use Rattle.messages.specs.Table.{bytes_of}
use Rattle.journal.specs.declared.output.Output.{Output}
use Rattle.boxes.specs.Log.{Log, none}
use Rattle.boxes.specs.Model.{State}
use Rattle.boxes.specs.Handle.{delivered_of, received_of}
use Rattle.box_laws.proofs.Shape.{shape_received}
use Rattle.box_laws.proofs.Again.{received_twice}
use Rattle.world.specs.Station.{Station, delivered_at, fresh_station}
use Rattle.world.specs.World.{Answer, Envelope, World, at_box, deliver_of, is_box, is_sent, message_at, said, sent_by, station_at, turned_away, with_message}
use Rattle.promises.specs.Steps.{AgainChangesNothing}
use Rattle.promises.proofs.Shapes.{EnvelopeIn, StationIn, WorldIn, delivered_is, message_in, reached_in}
use Rattle.promises.proofs.Stops.{station_said}

-- a box, and what it makes of a message in range, twice
pub station_again : (y : Yard) (n : BoxNumber) (s : Station) (from : BoxNumber) (m : Message) → StationIn y n s → from.0 < y.boxes → MessageIn y m →
    (delivered_at from (bytes_of m) (delivered_at from (bytes_of m) s).0).0 ≡ (delivered_at from (bytes_of m) s).0
station_again y n s from m i lt mi =
    ap (λ (p : State × Log). record { state = p.0; file = file ++ written p.1.records }) second ∙
    ap (λ (rs : List Record). record { state = (received_of b1 from m none).0; file = file ++ written rs }) twice.1 ∙
    ap (λ (b : State). record { state = b; file = file ++ [] }) twice.0 ∙
    ap (λ (xs : List ℕ). record { state = b1; file = xs }) (append-nil file) ∙
    ap (λ (b : State). record { state = b; file = file }) (sym (ap (λ (p : State × Log). p.0) first))
  where
    b1 : State
    b1 = (received_of s.state from m none).0

    first : delivered_of s.state from (bytes_of m) none ≡ received_of s.state from m none
    first = delivered_is y n.0 s.state from m none i.shape mi

    file : List ℕ
    file = s.file ++ written (delivered_of s.state from (bytes_of m) none).1.records

    second : delivered_of (delivered_of s.state from (bytes_of m) none).0 from (bytes_of m) none ≡ received_of b1 from m none
    second =
        ap (λ (p : State × Log). delivered_of p.0 from (bytes_of m) none) first ∙
        delivered_is y n.0 b1 from m none (shape_received y n.0 s.state from m none i.shape lt mi (tt, tt)).0 mi

    twice : ((received_of b1 from m none).0 ≡ b1) × ((received_of b1 from m none).1.records ≡ [])
    twice = received_twice y n.0 s.state from m i.shape mi

-- a delivery of what was sent to a box that there is
pub deliver_sent : (w : World) (m : ℕ) → is_sent w m ≡ true → is_box w (message_at w m).to ≡ true →
    deliver_of w m ≡ said w (message_at w m).to (delivered_at (message_at w m).from (message_at w m).bytes (station_at w (message_at w m).to))
unfolding with_message at_box
deliver_sent w m sent box = cond-true (is_sent w m) _ _ sent ∙ cond-true (is_box w (message_at w m).to) _ _ box

pub deliver_none : (w : World) (m : ℕ) → is_sent w m ≡ false → deliver_of w m ≡ turned_away w
unfolding with_message
deliver_none w m none-sent = cond-false (is_sent w m) _ _ none-sent

pub box_is : (w : World) (n : BoxNumber) → WorldIn w → n.0 < w.yard.boxes → is_box w n ≡ true
box_is w n i lt = lt-ltb n.0 (length w.stations) (let c = i.count in omega arith)

-- what was sent stays under its number
still_sent : (w : World) (n : BoxNumber) (p : Station × List Output) (m : ℕ) → is_sent w m ≡ true → (is_sent (said w n p).0 m ≡ true) × (message_at (said w n p).0 m ≡ message_at w m)
still_sent w n p m sent =
    let parts = and_parts (leb 1 m) (ltb (m - 1) (length w.sent)) sent in
    let lt = ltb-true (m - 1) (length w.sent) parts.1 in
    let longer = length-append w.sent (flat_map (sent_by n) p.1) in
    (and_from (leb 1 m) (ltb (m - 1) (length (said w n p).0.sent)) parts.0 (lt-ltb (m - 1) (length (said w n p).0.sent) (omega arith)), get_or_append_left w.sent (flat_map (sent_by n) p.1) _ (m - 1) lt)

again_sent : (w : World) (m : ℕ) → WorldIn w → is_sent w m ≡ true → (deliver_of (deliver_of w m).0 m).0.stations ≡ (deliver_of w m).0.stations
again_sent w m i sent =
    ap (λ (z : World). (deliver_of z m).0.stations) is-u ∙
    ap (λ (r : World × Answer). r.0.stations) second ∙
    ap (λ (s : Station). set u.stations to.0 s) (ap (λ (s : Station). (delivered_at from bytes s).0) at-u ∙ same ∙ sym at-u) ∙
    set-get_or u.stations to.0 (fresh_station u.yard to) ∙
    ap (λ (z : World). z.stations) (sym is-u)
  where
    ei : EnvelopeIn w.yard (message_at w m)
    ei = message_in w m i sent

    to : BoxNumber
    to = (message_at w m).to

    from : BoxNumber
    from = (message_at w m).from

    bytes : List ℕ
    bytes = (message_at w m).bytes

    p : Station × List Output
    p = delivered_at from bytes (station_at w to)

    u : World
    u = (said w to p).0

    is-u : (deliver_of w m).0 ≡ u
    is-u = ap (λ (r : World × Answer). r.0) (deliver_sent w m sent (box_is w to i ei.to))

    at-u : station_at u to ≡ p.0
    at-u = station_said w to p i ei.to

    here : (is_sent u m ≡ true) × (message_at u m ≡ message_at w m)
    here = still_sent w to p m sent

    there : is_box u to ≡ true
    there = lt-ltb to.0 (length u.stations) (let c = i.count in let lt = ei.to in let q = length-set w.stations to.0 p.0 in omega arith)

    second : deliver_of u m ≡ said u to (delivered_at from bytes (station_at u to))
    second =
        deliver_sent u m here.0 (subst (λ (e : Envelope). is_box u e.to ≡ true) (sym here.1) there) ∙
        ap (λ (e : Envelope). said u e.to (delivered_at e.from e.bytes (station_at u e.to))) here.1

    same : (delivered_at from bytes p.0).0 ≡ p.0
    same =
        subst (λ (xs : List ℕ). (delivered_at from xs (delivered_at from xs (station_at w to)).0).0 ≡ (delivered_at from xs (station_at w to)).0) (sym ei.bytes)
        (station_again w.yard to (station_at w to) from ei.message (i.stations to ei.to) ei.from ei.fine)

again_none : (w : World) (m : ℕ) → is_sent w m ≡ false → (deliver_of (deliver_of w m).0 m).0.stations ≡ (deliver_of w m).0.stations
again_none w m none-sent =
    let still : (deliver_of w m).0 ≡ w = ap (λ (r : World × Answer). r.0) (deliver_none w m none-sent) in
    ap (λ (z : World). (deliver_of z m).0.stations) still

pub again_changes_nothing : AgainChangesNothing
again_changes_nothing w u v m a b reached first second =
    let is-u : u ≡ (deliver_of w m).0 = ap (λ (r : World × Answer). r.0) first in
    let is-v : v ≡ (deliver_of u m).0 = ap (λ (r : World × Answer). r.0) second in
    ap (λ (z : World). z.stations) is-v ∙
    ap (λ (z : World). (deliver_of z m).0.stations) is-u ∙
    elim (cases_Bool (is_sent w m)) [ inl sent ↦ again_sent w m (reached_in w reached) sent | inr none-sent ↦ again_none w m none-sent ] ∙
    ap (λ (z : World). z.stations) (sym is-u)
