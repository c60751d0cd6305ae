-- By induction on what came: each input's records are read back behind those before, and a stop reads all of them back.
use Rattle.std.specs.Prelude.{None, Some}
use Rattle.std.proofs.Common.{◌≡◌, ℕ, eqb, List, [], ◌∷◌, Some, None, Ok, Option, Result, sym, refl, subst}
use Rattle.std.proofs.lemmas.Bool.{cond_both}
use Rattle.std.specs.Option.{ok_or}
use Rattle.messages.specs.declared.yard.BoxNumber.{BoxNumber}
use Rattle.messages.specs.declared.yard.Engine.{Engine}
use Rattle.messages.specs.declared.yard.Section.{Section}
use Rattle.messages.specs.declared.yard.Yard.{Yard}
use Rattle.messages.specs.declared.message.Call.{Call}
use Rattle.messages.specs.Holder.{Holder}
use Rattle.messages.specs.declared.message.Message.{Message}
use Rattle.messages.specs.declared.message.Message.TheVariants as message
use Rattle.messages.specs.declared.message.Refusal.TheVariants as refusal
use Rattle.messages.specs.Reading.{message_of}
use Rattle.sections.specs.Table.{change_number_at, holder_at}
use Rattle.keeper.specs.Model as keeper
use Rattle.keeper.specs.Calls.{call_of}
use Rattle.keeper.specs.Words.{holder_of}
use Rattle.home.specs.Home.{is_home, is_ours}
use Rattle.home.specs.Queries.{engine}
use Rattle.boxes.specs.declared.signal_box.Input.{Input}
use Rattle.boxes.specs.declared.signal_box.Input.TheVariants as input
use Rattle.boxes.specs.Log.{Log, none}
use Rattle.messages.specs.Homes.{home_of}
use Rattle.boxes.specs.Model.{State, fresh}
use Rattle.boxes.specs.Keeping.{for_us}
use Rattle.boxes.specs.Handle.{change_for, decoded_of, delivered_of, handle_of, received_of, wait_sent}
use Rattle.boxes.specs.Opening.{open_from}
use Rattle.box_laws.specs.Runs as runs
use Rattle.box_laws.specs.Runs.{Coming, RecordsStandForIt, SameStored, Station, after, comes, up_from}
use Rattle.box_laws.specs.Away.{TurnedAwayByABox}
use Rattle.box_laws.proofs.Away.{free_away, message_away, take_away}
use Rattle.box_laws.proofs.Logs.{each_keeps}
use Rattle.box_laws.proofs.Keepers.{call_whole}
use Rattle.box_laws.proofs.Replay.{Whole, backed_none, replay_delivered, replay_handled, replay_on, same_refl}

module _ (P : keeper.State → Type 0) where
  abbrev Kept : State × Log → Type 0
  Kept p = P p.0.keeper

  sent_kept : (b : State) (e : Engine) (s : Section) (count change : ℕ) (h : Holder) (l : Log) → P b.keeper → Kept (wait_sent b e s count change h l)
  sent_kept b e s count change None l i = i
  sent_kept b e s count change (Some x) l i = cond_both (eqb (home_of b.home.yard x).0 b.home.number.0) _ _ Kept (λ _. i) (λ _. i)

  -- what holds of a keeper and of what any one call makes of it, holds of it after every message
  pub received_keeps : (b : State) (from : BoxNumber) (m : Message) (l : Log) → P b.keeper → ((c : Call) → P (call_of b.keeper c).0) → Kept (received_of b from m l)
  received_keeps b from (message.Call c) l i kept = cond_both (for_us b from c.engine c.section) _ _ Kept (λ _. kept c) (λ _. i)
  received_keeps b from (message.Answer e k answer) l i kept = i
  received_keeps b from (message.Change news) l i kept =
      cond_both (eqb from.0 news.section.keeper.0) _ _ Kept
      (λ _. each_keeps Kept (λ k. change_for news.section news.holder news.change (engine k)) b.home.yard.engines (λ k p lt pi. cond_both (is_ours p.0.home (engine k)) _ _ Kept (λ _. pi) (λ _. pi)) (b, l) i)
      (λ _. i)
  received_keeps b from (message.WhichChange e s) l i kept = cond_both (for_us b from e s) _ _ Kept (λ _. i) (λ _. i)
  received_keeps b from (message.Sign telling) l i kept = i
  received_keeps b from (message.Waits waiting) l i kept =
      cond_both (eqb waiting.section.keeper.0 b.home.number.0) _ _ Kept
      (λ _. cond_both (is_home b.home.yard from waiting.engine) _ _ Kept
      (λ _. cond_both (eqb waiting.change (change_number_at b.keeper.table waiting.section.place)) _ _ Kept (λ _. sent_kept b waiting.engine waiting.section waiting.count waiting.change (holder_of (holder_at b.keeper.table waiting.section.place)) l i) (λ _. i)) (λ _. i))
      (λ _. cond_both (eqb from.0 waiting.section.keeper.0) _ _ Kept (λ _. i) (λ _. i))

  pub handled_keeps : (b : State) (j : Input) (l : Log) → P b.keeper → ((c : Call) → P (call_of b.keeper c).0) → Kept (handle_of b j l)
  handled_keeps b (input.Take e s) l i kept = i
  handled_keeps b (input.Free e s) l i kept = i
  handled_keeps b (input.Received from m) l i kept = received_keeps b from m l i kept
  handled_keeps b input.Second l i kept = i

  decoded_keeps : (b : State) (from : BoxNumber) (o : Option Message) (l : Log) → P b.keeper → ((c : Call) → P (call_of b.keeper c).0) → Kept (decoded_of b from (ok_or o refusal.Malformed) l)
  decoded_keeps b from None l i kept = i
  decoded_keeps b from (Some m) l i kept = received_keeps b from m l i kept

  pub delivered_keeps : (b : State) (from : BoxNumber) (bytes : List ℕ) (l : Log) → P b.keeper → ((c : Call) → P (call_of b.keeper c).0) → Kept (delivered_of b from bytes l)
  delivered_keeps b from bytes l i kept = decoded_keeps b from (message_of b.home.yard bytes) l i kept

module _ (y : Yard) (n : BoxNumber) where
  abbrev StandsFor : Station → Type 0
  StandsFor s = (b : State) × (open_from 0 s.records (fresh y n) ≡ Ok b) × SameStored b s.state × Whole s.state.keeper

  come_back : (s : Station) (c : Coming) → StandsFor s → StandsFor (comes y n s c)
  come_back s (runs.input i) (b, q, same, whole) =
      let back = replay_on 0 s.records (fresh y n) b (handle_of s.state i none) q (replay_handled b s.state i none whole (backed_none b s.state same)) in
      (back.0, back.1, back.2, handled_keeps Whole s.state i none whole (λ c. call_whole s.state.keeper c whole))
  come_back s (runs.bytes from xs) (b, q, same, whole) =
      let back = replay_on 0 s.records (fresh y n) b (delivered_of s.state from xs none) q (replay_delivered b s.state from xs none whole (backed_none b s.state same)) in
      (back.0, back.1, back.2, delivered_keeps Whole s.state from xs none whole (λ c. call_whole s.state.keeper c whole))
  come_back s runs.stop (b, q, same, whole) =
      subst (λ (r : Result State ℕ). StandsFor (up_from s r)) (sym q) (b, q, same_refl b, subst Whole (sym same.keeper) whole)

  open_none : open_from 0 [] (fresh y n) ≡ Ok (fresh y n)
  unfolding open_from
  open_none = refl

  stands : (cs : List Coming) → StandsFor (after y n cs)
  stands [] = (fresh y n, open_none, same_refl (fresh y n), (refl, refl))
  stands (c ∷ cs) = come_back (after y n cs) c (stands cs)

-- the tables of its keeper stay whole
pub whole_after : (y : Yard) (n : BoxNumber) (cs : List Coming) → Whole (after y n cs).state.keeper
whole_after y n cs = (stands y n cs).3

pub turned_away_by_a_box : TurnedAwayByABox
turned_away_by_a_box y n cs = (
  take_away (after y n cs).state,
  free_away (after y n cs).state,
  λ from m. message_away (after y n cs).state from m (whole_after y n cs).0 (whole_after y n cs).1,
)

pub records_stand_for_it : RecordsStandForIt
records_stand_for_it y n cs = let s = stands y n cs in (s.0, s.1, s.2)
