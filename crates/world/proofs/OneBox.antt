-- A step at one box of many: the others stand, and what it says is sent from there.
use Rattle.std.proofs.Common.{◌≡◌, ℕ, ◌<◌, true, false, cond, ltb, List, map, length, get_or, set, Some, Ok, sym, ap, ◌∙◌, subst}
use Rattle.std.proofs.lemmas.List.{get_or-map, length-map, map-set}
use Rattle.std.proofs.lemmas.Bool.{lt-ltb}
use Rattle.std.specs.Borrow.{MutBor}
use Rattle.messages.specs.declared.yard.BoxNumber.{BoxNumber}
use Rattle.messages.specs.declared.yard.Yard.{Yard}
use Rattle.messages.specs.declared.message.Record.{Record}
use Rattle.messages.specs.Journal.{Holds, written}
use Rattle.journal.specs.declared.effects.Said.{Said}
use Rattle.journal.specs.declared.output.Output.{Output}
use Rattle.journal.specs.Effect.{said_of}
use Rattle.boxes.specs.declared.signal_box.SignalBox.{SignalBox}
use Rattle.boxes.specs.Log.{none}
use Rattle.boxes.specs.Model.{fresh, state_of}
use Rattle.boxes.specs.Handle.{reminders_of}
use Rattle.boxes.specs.Opening.{open_from}
use Rattle.world.specs.declared.envelope.Envelope as code
use Rattle.world.specs.declared.station.Station as held
use Rattle.world.specs.Station.{Restarts, Station, committed, fresh_station, station_of}
use Rattle.world.specs.Turn.{Turn, Turned, TurnsAt}
use Rattle.world.specs.World.{Answer, Either, Envelope, Found, Stops, World, at_box, envelope_of, is_box, is_sent, message_at, said, spoken, station_at, turned_away, with_message}

-- the world of boxes as they are in memory
abbrev pub world : Yard → List held.Station → List Envelope → World
world y xs es = record { yard = y; stations = map station_of xs; sent = es }

inside : (xs : List held.Station) (n : BoxNumber) → n.0 < length xs → ltb n.0 (length (map station_of xs)) ≡ true
inside xs n l = rw (length-map xs station_of) (lt-ltb n.0 (length xs) l)

here : (y : Yard) (xs : List held.Station) (n : BoxNumber) (x : held.Station) → n.0 < length xs → x ≡ get_or xs n.0 x
    → get_or (map station_of xs) n.0 (fresh_station y n) ≡ station_of x
here y xs n x l e = get_or-map station_of xs n.0 x (fresh_station y n) l ∙ ap station_of (sym e)

-- a turn of one box of many, in memory
turned_there : (y : Yard) (es : List Envelope) (xs : List held.Station) (n : BoxNumber) (turns : Station → Station × List Output → Type 0) (x x' : held.Station) (os : List Output) (r : World × Answer)
    → n.0 < length xs → x ≡ get_or xs n.0 x → turns (station_of x) (station_of x', os) → r ≡ spoken (world y (set xs n.0 x') es) n os → TurnsAt (world y xs es) n turns r
turned_there y es xs n turns x x' os r l e t h =
    let A : Type 0 = (p : Station × List Output) × turns (get_or (map station_of xs) n.0 (fresh_station y n)) p × (r ≡ said (world y xs es) n p) in
    let at : turns (get_or (map station_of xs) n.0 (fresh_station y n)) (station_of x', os) = subst (λ s. turns s (station_of x', os)) (sym (here y xs n x l e)) t in
    let a : A = ((station_of x', os), at, h ∙ ap (λ s. spoken (record { yard = y; stations = s; sent = es }) n os) (map-set station_of xs n.0 x')) in
    record { made = subst (λ b. Either b A (r ≡ turned_away (world y xs es))) (sym (inside xs n l)) a }

pub turned : (y : Yard) (es : List Envelope) (xs : List held.Station) (n : BoxNumber) (turns : Station → Station × List Output → Type 0) (i : ℕ) (x x' : held.Station) (os : List Output) (r : World × Answer)
    → i ≡ n.0 → i < length xs → x ≡ get_or xs i x → turns (station_of x) (station_of x', os) → r ≡ spoken (world y (set xs i x') es) n os → TurnsAt (world y xs es) n turns r
turned y es xs n turns i x x' os r same l e t h =
    turned_there y es xs n turns x x' os r (subst (λ k. k < length xs) same l) (subst (λ k. x ≡ get_or xs k x) same e) t (h ∙ ap (λ k. spoken (world y (set xs k x') es) n os) same)

-- a turn that can make only one thing of the box
pub stepped : (w : World) (n : BoxNumber) (f : Station → Station × List Output) (turns : Station → Station × List Output → Type 0) (r : World × Answer)
    → ((s : Station) (p : Station × List Output) → turns s p → p ≡ f s) → TurnsAt w n turns r → r ≡ at_box w n f
unfolding at_box
stepped w n f turns r one turned =
    elim (is_box w n) as (λ b. Either b ((p : Station × List Output) × turns (station_at w n) p × (r ≡ said w n p)) (r ≡ turned_away w) → r ≡ cond b (said w n (f (station_at w n))) (turned_away w))
    [ true ↦ λ t. t.2 ∙ ap (said w n) (one (station_at w n) t.0 t.1) | false ↦ λ t. t ] turned.made

-- a turn in which the box comes up from its file
pub stopped : {F : Type 0} (g : Turn F) (turn : F) (w : World) (n : BoxNumber) (r : World × Answer)
    → ((before after : MutBor held.Station) (told : Said) → g.post turn (before, tt) (Ok told, (after, tt)) → Restarts w.yard n (station_of before.now) (station_of after.now, said_of told))
    → TurnsAt w n (Turned g turn) r → Stops w n r
stopped g turn w n r restarts turned =
    let each : (s : Station) (p : Station × List Output) → Turned g turn s p → Restarts w.yard n s p =
    λ s p t.
    let P : Station → Type 0 = λ x. Restarts w.yard n x p in
    let Q : held.Station → Type 0 = λ x. Restarts w.yard n (station_of t.met.shown.now) (station_of x, said_of t.told) in
    subst P (ap station_of t.met.shows ∙ t.was) (subst (Restarts w.yard n (station_of t.met.shown.now)) (sym t.gives) (subst Q t.met.leaves (restarts t.met.shown t.met.left t.told t.met.met)))
    in
    elim (is_box w n) as (λ b. Either b ((p : Station × List Output) × Turned g turn (station_at w n) p × (r ≡ said w n p)) (r ≡ turned_away w)
    → Either b ((p : Station × List Output) × Restarts w.yard n (station_at w n) p × (r ≡ said w n p)) (r ≡ turned_away w))
    [ true ↦ λ t. (t.0, each (station_at w n) t.0 t.1, t.2) | false ↦ λ t. t ] turned.made

pub restarted : (y : Yard) (n : BoxNumber) (s : Station) (rs slice : List Record) (f : List ℕ) (b : SignalBox) (p : Station × List Output)
    → ((rest : List ℕ) × Holds y s.file rs rest) → f ≡ written rs → slice ≡ rs → Ok (state_of b) ≡ open_from 0 slice (fresh y n)
    → p ≡ committed f (state_of b, reminders_of b.home none) → Restarts y n s p
restarted y n s rs slice f b p h w q o e =
    (rs, h.0, state_of b, h.1, sym (o ∙ ap (λ l. open_from 0 l (fresh y n)) q), e ∙ ap (λ g. committed g (state_of b, reminders_of b.home none)) w)

-- the message of a number, and none
pub with_found : (w : World) (m : ℕ) (f : Envelope → World × Answer) (e : code.Envelope) (r : World × Answer) → Found w m (Some e) → r ≡ f (envelope_of e) → r ≡ with_message w m f
unfolding with_message
with_found w m f e r h q = q ∙ (ap f h.1 ∙ sym (ap (λ b. cond b (f (message_at w m)) (turned_away w)) h.0))

pub with_none : (w : World) (m : ℕ) (f : Envelope → World × Answer) → is_sent w m ≡ false → turned_away w ≡ with_message w m f
unfolding with_message
with_none w m f h = sym (ap (λ b. cond b (f (message_at w m)) (turned_away w)) h)
