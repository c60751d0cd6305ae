-- Boxes that run together as plain values, and what each step makes of them. Assumes nothing.
use Rattle.std.specs.Prelude.{◌≡◌, ℕ, zero, suc, ◌-◌, Bool, true, false, cond, ◌&&◌, List, [], ◌∷◌, ◌++◌, map, length, take, Some, None, Ok, Err, vec_items, Option, Result, nat_le, nat_lt, slice_index_or, slice_set}
use Rattle.std.specs.List.{flat_map}
use Rattle.messages.specs.declared.yard.BoxNumber.{BoxNumber}
use Rattle.messages.specs.declared.yard.Engine.{Engine}
use Rattle.messages.specs.declared.yard.Section.{Section}
use Rattle.messages.specs.declared.yard.Yard.{Yard}
use Rattle.messages.specs.declared.message.Message.{Message}
use Rattle.messages.specs.declared.message.Refusal.{Refusal}
use Rattle.messages.specs.declared.message.Refusal.TheVariants as refusal
use Rattle.messages.specs.Table.{bytes_of}
use Rattle.messages.specs.Written.{encoded}
use Rattle.journal.specs.declared.output.Output.{Output}
use Rattle.journal.specs.declared.output.Output.TheVariants as output
use Rattle.journal.specs.Effect.{said_of}
use Rattle.boxes.specs.declared.signal_box.Input.TheVariants as input
use Rattle.messages.specs.Homes.{home_of}
use Rattle.boxes.specs.Model.{State}
use Rattle.world.specs.declared.envelope.Envelope as code
use Rattle.world.specs.declared.step.Outcome.{Outcome}
use Rattle.world.specs.declared.step.Outcome.TheVariants as outcome
use Rattle.world.specs.declared.step.Step.{Step}
use Rattle.world.specs.declared.step.Step.TheVariants as step
use Rattle.world.specs.declared.world.World as running
use Rattle.world.specs.Station.{Station, Restarts, delivered_at, fresh_station, handled_at, station_of}

-- a message as it was sent
pub record Envelope : Type 0 where
  pub from : BoxNumber
  pub to : BoxNumber
  pub bytes : List ℕ

abbrev pub envelope_of : code.Envelope → Envelope
envelope_of e = record { from = e.from; to = e.to; bytes = encoded e.bytes }

-- all boxes with their files, and all messages ever sent
pub record World : Type 0 where
  pub yard : Yard
  pub stations : List Station
  pub sent : List Envelope

abbrev pub world_of : running.World → World
world_of w = record { yard = w.yard; stations = map station_of (vec_items w.stations); sent = map envelope_of (vec_items w.sent) }

-- what a step answers: turned away before it came to a box; or which box said what, and how many messages had been sent before
abbrev pub Answer : Type 0
Answer = Result (BoxNumber × ℕ × List Output) Refusal

abbrev pub answer_of : Outcome → Answer
answer_of (outcome.Refused r) = Err r
answer_of (outcome.Said from before said) = Ok (from, before, said_of said)

-- the box of a number
abbrev pub box_at : ℕ → BoxNumber
box_at n = record { 0 = n }

-- boxes of which there is no record yet, the first n
unfoldable pub fresh_stations : Yard → ℕ → List Station
fresh_stations y zero = []
fresh_stations y (suc n) = fresh_stations y n ++ fresh_station y (box_at n) ∷ []

-- the world in which nothing has happened
abbrev pub empty : Yard → World
empty y = record { yard = y; stations = fresh_stations y y.boxes; sent = [] }

abbrev pub envelope_for : BoxNumber → BoxNumber → Message → Envelope
envelope_for from to m = record { from = from; to = to; bytes = bytes_of m }

-- what an output of a box sends
abbrev pub sent_by : BoxNumber → Output → List Envelope
sent_by from (output.Send to m) = envelope_for from to m ∷ []
sent_by from (output.Had e s) = []
sent_by from (output.GiveBack e) = []
sent_by from (output.GivingBack e) = []
sent_by from (output.Refused r) = []

-- turned away: nothing changes
abbrev pub turned_away : World → World × Answer
turned_away w = (w, Err refusal.Malformed)

-- the world after what a box said is sent from there
abbrev pub spoken : World → BoxNumber → List Output → World × Answer
spoken w n os = (record { yard = w.yard; stations = w.stations; sent = w.sent ++ flat_map (sent_by n) os }, Ok (n, length w.sent, os))

-- a box's new state and file, and then what it said
abbrev pub said : World → BoxNumber → Station × List Output → World × Answer
said w n p = spoken (record { yard = w.yard; stations = slice_set w.stations n.0 p.0; sent = w.sent }) n p.1

-- is there such a box
abbrev pub is_box : World → BoxNumber → Bool
is_box w n = nat_lt n.0 (length w.stations)

-- a box with its file; where there is none, one of which there is no record
abbrev pub station_at : World → BoxNumber → Station
station_at w n = slice_index_or w.stations n.0 (fresh_station w.yard n)

-- the state of a box, if there is such a box
abbrev pub state_at : World → BoxNumber → Option State
state_at w n = cond (is_box w n) (Some (station_at w n).state) None

-- an input at one box
unfoldable pub at_box : World → BoxNumber → (Station → Station × List Output) → World × Answer
at_box w n f = cond (is_box w n) (said w n (f (station_at w n))) (turned_away w)

abbrev pub take_of : World → Engine → Section → World × Answer
take_of w e s = at_box w (home_of w.yard e) (handled_at (input.Take e s))

abbrev pub free_of : World → Engine → Section → World × Answer
free_of w e s = at_box w (home_of w.yard e) (handled_at (input.Free e s))

abbrev pub second_of : World → BoxNumber → World × Answer
second_of w n = at_box w n (handled_at input.Second)

-- was there a message of that number, from 1 on
abbrev pub is_sent : World → ℕ → Bool
is_sent w m = nat_le 1 m && nat_lt (m - 1) (length w.sent)

-- the message of a number, where there is one
abbrev pub message_at : World → ℕ → Envelope
message_at w m = slice_index_or w.sent (m - 1) (record { from = box_at 0; to = box_at 0; bytes = [] })

-- what is found under a number
abbrev pub Found : World → ℕ → Option code.Envelope → Type 0
Found w m None = is_sent w m ≡ false
Found w m (Some e) = (is_sent w m ≡ true) × (envelope_of e ≡ message_at w m)

-- a step with the message of a number
unfoldable pub with_message : World → ℕ → (Envelope → World × Answer) → World × Answer
with_message w m f = cond (is_sent w m) (f (message_at w m)) (turned_away w)

-- a message arrives at the box that it is for
abbrev pub carried : World → Envelope → World × Answer
carried w e = at_box w e.to (delivered_at e.from e.bytes)

abbrev pub deliver_of : World → ℕ → World × Answer
deliver_of w m = with_message w m (carried w)

-- only the first n bytes of a message arrive, less than all
abbrev pub carried_cut : World → ℕ → Envelope → World × Answer
carried_cut w n e = cond (nat_lt n (length e.bytes)) (at_box w e.to (delivered_at e.from (take n e.bytes))) (turned_away w)

abbrev pub cut_of : World → ℕ → ℕ → World × Answer
cut_of w m n = with_message w m (carried_cut w n)

-- one of two statements, by a test
abbrev pub Either : Bool → Type 0 → Type 0 → Type 0
Either true a b = a
Either false a b = b

-- a box stops and comes up from its file
abbrev pub Stops : World → BoxNumber → World × Answer → Type 0
Stops w n r = Either (is_box w n)
    ((p : Station × List Output) × Restarts w.yard n (station_at w n) p × (r ≡ said w n p)) (r ≡ turned_away w)

-- what a step makes of the world
abbrev pub Makes : World → Step → World × Answer → Type 0
Makes w (step.Take e s) r = r ≡ take_of w e s
Makes w (step.Free e s) r = r ≡ free_of w e s
Makes w (step.Deliver m) r = r ≡ deliver_of w m
Makes w (step.Cut m n) r = r ≡ cut_of w m n
Makes w (step.Second n) r = r ≡ second_of w n
Makes w (step.Stop n) r = Stops w n r
