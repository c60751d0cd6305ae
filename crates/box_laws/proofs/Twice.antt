-- A box to which everything came in range is in shape; so the same bytes again change nothing of it.
use Rattle.std.proofs.Common.{◌≡◌, ℕ, ◌<◌, List, [], ◌∷◌, ◌++◌, Some, None, Ok, Option, Result, sym, refl, ap, ◌∙◌, subst}
use Rattle.std.proofs.lemmas.List.{append-nil}
use Rattle.std.specs.Option.{ok_or}
use Rattle.messages.specs.declared.yard.BoxNumber.{BoxNumber}
use Rattle.messages.specs.declared.yard.Yard.{Yard}
use Rattle.messages.specs.declared.message.Message.{Message}
use Rattle.messages.specs.declared.message.Record.{Record}
use Rattle.messages.specs.declared.message.Refusal.TheVariants as refusal
use Rattle.messages.specs.Journal.{AllIn}
use Rattle.messages.specs.Promises.{Bytes}
use Rattle.messages.specs.Range.{MessageIn}
use Rattle.messages.specs.Reading.{message_of}
use Rattle.messages.proofs.Forms.{one_form}
use Rattle.boxes.specs.declared.signal_box.Input.{Input}
use Rattle.boxes.specs.declared.signal_box.Input.TheVariants as input
use Rattle.boxes.specs.Log.{Log, none}
use Rattle.boxes.specs.Model.{State, fresh}
use Rattle.boxes.specs.Handle.{decoded_of, delivered_of, handle_of}
use Rattle.boxes.specs.Opening.{open_from}
use Rattle.box_laws.specs.Runs as runs
use Rattle.box_laws.specs.Runs.{Coming, SameStored, Station, after, comes, up_from}
use Rattle.box_laws.specs.Again.{AllComing, ComingIn, InputIn, RecordsInRange, SameBytesAgain}
use Rattle.box_laws.proofs.Again.{received_twice}
use Rattle.box_laws.proofs.Logs.{records_append}
use Rattle.box_laws.proofs.Opened.{shape_opened}
use Rattle.box_laws.proofs.Runs.{records_stand_for_it}
use Rattle.box_laws.proofs.Shape.{InShape, Shaped, shape_delivered, shape_fresh, shape_handled, shape_received}

module _ (y : Yard) (n : BoxNumber) where
  -- a box in shape, and records in range
  abbrev Fine : Station → Type 0
  Fine s = InShape y n.0 s.state × AllIn y s.records

  input_shape : (b : State) (i : Input) → InShape y n.0 b → InputIn y i → Shaped y n.0 (handle_of b i none)
  input_shape b (input.Take e s) i fine = shape_handled y n.0 b (input.Take e s) none i tt (tt, tt)
  input_shape b (input.Free e s) i fine = shape_handled y n.0 b (input.Free e s) none i tt (tt, tt)
  input_shape b (input.Received from m) i fine = shape_received y n.0 b from m none i fine.0 fine.1 (tt, tt)
  input_shape b input.Second i fine = shape_handled y n.0 b input.Second none i tt (tt, tt)

  come_fine : (s : Station) (c : Coming) → ((b : State) × (open_from 0 s.records (fresh y n) ≡ Ok b) × SameStored b s.state) → ComingIn y c → Fine s → Fine (comes y n s c)
  come_fine s (runs.input i) back ci fine =
      let shape = input_shape s.state i fine.0 ci in (shape.0, records_append y s.records (handle_of s.state i none).1.records fine.1 shape.1.0)
  come_fine s (runs.bytes from xs) back ci fine =
      let shape = shape_delivered y n.0 s.state from xs none fine.0 ci.0 ci.1 (tt, tt) in
      (shape.0, records_append y s.records (delivered_of s.state from xs none).1.records fine.1 shape.1.0)
  come_fine s runs.stop (b, opens, same) ci fine =
      subst (λ (r : Result State ℕ). Fine (up_from s r)) (sym opens) (shape_opened y n s.records b s.state fine.0 opens same, fine.1)

  pub all_fine : (cs : List Coming) → n.0 < y.boxes → AllComing y cs → Fine (after y n cs)
  all_fine [] lt all = (shape_fresh y n lt, tt)
  all_fine (c ∷ cs) lt all = come_fine (after y n cs) c (records_stand_for_it y n cs) all.0 (all_fine cs lt all.1)

  -- what bytes are read as, twice; what is no message is turned away both times
  decoded_twice : (b : State) (from : BoxNumber) (o : Option Message) → InShape y n.0 b → ((m : Message) → o ≡ Some m → MessageIn y m) →
      ((decoded_of (decoded_of b from (ok_or o refusal.Malformed) none).0 from (ok_or o refusal.Malformed) none).0 ≡ (decoded_of b from (ok_or o refusal.Malformed) none).0) ×
      ((decoded_of (decoded_of b from (ok_or o refusal.Malformed) none).0 from (ok_or o refusal.Malformed) none).1.records ≡ [])
  decoded_twice b from None i all = (refl, refl)
  decoded_twice b from (Some m) i all = received_twice y n.0 b from m i (all m refl)

  bytes_twice : (s : Station) (from : BoxNumber) (xs : List ℕ) → Fine s → from.0 < y.boxes → Bytes xs → comes y n (comes y n s (runs.bytes from xs)) (runs.bytes from xs) ≡ comes y n s (runs.bytes from xs)
  bytes_twice s from xs fine lt all =
      ap (λ (z : Yard). later (decoded_of b1.0 from (ok_or (message_of z xs) refusal.Malformed) none)) same ∙
      ap (λ (rs : List Record). record { state = again.0; records = (s.records ++ b1.1.records) ++ rs }) twice.1 ∙
      ap (λ (b : State). record { state = b; records = (s.records ++ b1.1.records) ++ [] }) twice.0 ∙
      ap (λ (rs : List Record). record { state = b1.0; records = rs }) (append-nil (s.records ++ b1.1.records))
    where
      o : Option Message
      o = message_of s.state.home.yard xs

      b1 : State × Log
      b1 = delivered_of s.state from xs none

      again : State × Log
      again = decoded_of b1.0 from (ok_or o refusal.Malformed) none

      later : State × Log → Station
      later p = record { state = p.0; records = (s.records ++ b1.1.records) ++ p.1.records }

      same : b1.0.home.yard ≡ s.state.home.yard
      same = (shape_delivered y n.0 s.state from xs none fine.0 lt all (tt, tt)).0.yard ∙ sym fine.0.yard

      twice : (again.0 ≡ b1.0) × (again.1.records ≡ [])
      twice = decoded_twice s.state from o fine.0 (λ m q. (one_form y xs m all (ap (λ (z : Yard). message_of z xs) (sym fine.0.yard) ∙ q)).0)

pub records_in_range : RecordsInRange
records_in_range y n cs lt all = (all_fine y n cs lt all).1

pub same_bytes_again : SameBytesAgain
same_bytes_again y n cs from xs lt all from-lt bytes = bytes_twice y n (after y n cs) from xs (all_fine y n cs lt all) from-lt bytes
