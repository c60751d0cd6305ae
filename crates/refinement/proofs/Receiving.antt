-- Each message that a box receives, if it is true, is a run of the model.
use Rattle.std.specs.Prelude.{None, Some}
use Rattle.std.proofs.Common.{◌≡◌, ℕ, zero, suc, ◌+◌, ◌*◌, ◌<◌, ◌≤◌, Bool, true, false, cond, eqb, sym, refl, ap, ◌∙◌, subst, inr, le_refl}
use Rattle.std.proofs.lemmas.Bool.{eqb-true, and_parts}
use Rattle.messages.specs.declared.yard.BoxNumber.{BoxNumber}
use Rattle.messages.specs.declared.yard.Engine.{Engine}
use Rattle.messages.specs.declared.yard.Section.{Section}
use Rattle.messages.specs.declared.yard.Yard as sizes
use Rattle.messages.specs.declared.message.Call.{Call}
use Rattle.messages.specs.Holder.{Holder}
use Rattle.messages.specs.declared.message.Message.{Message}
use Rattle.messages.specs.declared.message.Message.TheVariants as message
use Rattle.messages.specs.declared.message.Record.TheVariants as journal
use Rattle.messages.specs.declared.message.Refusal.TheVariants as refusal
use Rattle.messages.specs.Range.{CallIn, MessageIn, SectionIn}
use Rattle.sections.specs.Table.{Holder as SectionHolder}
use Rattle.sections.specs.Table.{change_number_at, holder_at, place_at}
use Rattle.keeper.specs.declared.Verdict.{Verdict}
use Rattle.keeper.specs.declared.Verdict.TheVariants as verdict
use Rattle.keeper.specs.Calls.{call_of}
use Rattle.keeper.specs.Homes.{told_of}
use Rattle.keeper.specs.Words.{holder_of}
use Rattle.journal.specs.declared.output.Output.TheVariants as output
use Rattle.boxes.specs.Log.{Log, none, recorded, sent, each}
use Rattle.messages.specs.Homes.{home_of}
use Rattle.boxes.specs.Model.{State as Box, with_keeper}
use Rattle.boxes.specs.Keeping.{refused, for_us, called_at, which_at, ruled, ruled_log, answered, change_to}
use Rattle.boxes.specs.Handle.{happened, received_of, wait_at_box, wait_from_home, wait_from_keeper, wait_here, wait_sent}
use Rattle.home.specs.Home.{is_home}
use Rattle.home.specs.Inputs.{waits_of}
use Rattle.home_laws.specs.Steps as homes
use Rattle.yard.specs.Yard as model
use Rattle.yard.specs.Yard.{put, by, HasBegun, Reach}
use Rattle.yard.proofs.Sound.{sound}
use Rattle.refinement.specs.Placed.{number_of, holder_by, holder_told}
use Rattle.refinement.proofs.View.{As, Boxes, KeeperStep, SectionAs, Sized, True, ToABox, VerdictTrue}
use Rattle.refinement.proofs.Telling.{AllTrue, all_said, going_said}
use Rattle.refinement.proofs.Handling.{HomeLaw, HeldLaw, Handled, going_start, handled, home_handled, put_back}
use Rattle.refinement.proofs.Changing.{change_handled}

-- what is known of one call at a section's box
abbrev pub KeeperLaw : sizes.Yard → Type 0
KeeperLaw y = (bs : Boxes) (z : model.Yard) (n : ℕ) → Reach y.engines z → n < y.boxes → Sized y n (bs n) → As y bs z → (c : Call) → CallIn y c → c.section.keeper.0 ≡ n →
    (from : BoxNumber) → True y bs z from (message.Call c) → KeeperStep y bs z n c

-- a holder is told as it is
told_holder : (h : SectionHolder) → holder_by h ≡ holder_told (holder_of h)
told_holder None = refl
told_holder (Some e) = refl

module _ (y : sizes.Yard) (bs : Boxes) (z : model.Yard) (n : ℕ) (a : As y bs z) where
  pub refused_handled : Handled y bs z n (refused (bs n) none)
  refused_handled = handled y bs z n _ _ (going_said y bs z n (bs n) none (output.Refused refusal.Malformed) (going_start y bs z n a) tt)

  nothing_handled : Handled y bs z n (bs n, none)
  nothing_handled = handled y bs z n _ _ (going_start y bs z n a)

  sent_handled : (to : BoxNumber) (m : Message) → ToABox y m → True y bs z (record { 0 = n }) m → Handled y bs z n (bs n, sent none to m)
  sent_handled to m t h =
      handled y bs z n _ _
      (going_said y bs z n (bs n) none (output.Send to m) (going_start y bs z n a) (t, subst (λ (cs : Boxes). True y cs z (record { 0 = n }) m) (sym (put_back n bs)) h))

  -- who has a section, and of which change, as the box has it
  last_true : Reach y.engines z → n < y.boxes → (from : BoxNumber) (s : Section) → SectionIn y s → s.keeper.0 ≡ n →
      True y bs z from (message.Change (record { section = s; holder = holder_of (holder_at (bs n).keeper.table s.place); change = change_number_at (bs n).keeper.table s.place }))
  last_true r i from s p q =
      let k : SectionAs (place_at (bs n).keeper.table s.place) (z.section (number_of s)) = subst (λ (b : ℕ). SectionAs (place_at (bs n).keeper.table s.place) (z.section (b * 64 + s.place))) (sym q) (a.sections n s.place i p.1) in
      let w = (sound r).places.kept (number_of s) in
      (ap (z.section (number_of s)).past (sym k.change) ∙ w.now ∙ k.holder ∙ told_holder (holder_at (bs n).keeper.table s.place), subst (λ (m : ℕ). m ≤ (z.section (number_of s)).change) k.change (le_refl _))

  -- which change: answered as it is
  pub which_handled : Reach y.engines z → n < y.boxes → Sized y n (bs n) → (from : BoxNumber) (e : Engine) (s : Section) → SectionIn y s → Handled y bs z n (which_at (bs n) from e s none)
  which_handled r i k from e s p = go (for_us (bs n) from e s) refl
    where
      go : (t : Bool) → for_us (bs n) from e s ≡ t → Handled y bs z n
          (cond t (bs n, sent none from (message.Change (record { section = s; holder = holder_of (holder_at (bs n).keeper.table s.place); change = change_number_at (bs n).keeper.table s.place }))) (refused (bs n) none))
      go true q = sent_handled from _ tt (last_true r i (record { 0 = n }) s p (eqb-true _ _ (and_parts _ _ q).0 ∙ k.number))
      go false q = refused_handled

-- that an engine waits
module _ (y : sizes.Yard) (law : HomeLaw y) (held : HeldLaw y) (bs : Boxes) (z : model.Yard) (n : ℕ) (reach : Reach y.engines z) (in-yard : n < y.boxes) (a : As y bs z)
    (k : Sized y n (bs n)) (from : BoxNumber) (e : Engine) (s : Section) (count change : ℕ) (begun : HasBegun z e.0 count (number_of s)) where
  noted_handled : Handled y bs z n (happened (bs n) (waits_of (bs n).home e s count) none)
  noted_handled = home_handled y law held bs z n reach in-yard a k (homes.waits e s count) begun

  passed_handled : (h : Holder) → Handled y bs z n (wait_sent (bs n) e s count change h none)
  passed_handled None = nothing_handled y bs z n a
  passed_handled (Some j) = go (eqb (home_of (bs n).home.yard j).0 (bs n).home.number.0)
    where
      go : (t : Bool) → Handled y bs z n
          (cond t (happened (bs n) (waits_of (bs n).home e s count) none) (bs n, sent none (home_of (bs n).home.yard j) (message.Waits (record { engine = e; section = s; count = count; change = change }))))
      go true = noted_handled
      go false = sent_handled y bs z n a (home_of (bs n).home.yard j) (message.Waits (record { engine = e; section = s; count = count; change = change })) tt begun

  here_handled : (t : Bool) → Handled y bs z n (cond t (wait_sent (bs n) e s count change (holder_of (holder_at (bs n).keeper.table s.place)) none) (bs n, none))
  here_handled true = passed_handled (holder_of (holder_at (bs n).keeper.table s.place))
  here_handled false = nothing_handled y bs z n a

  home_sent : (t : Bool) → Handled y bs z n (cond t (wait_here (bs n) e s count change none) (refused (bs n) none))
  home_sent true = here_handled (eqb change (change_number_at (bs n).keeper.table s.place))
  home_sent false = refused_handled y bs z n a

  keeper_sent : (t : Bool) → Handled y bs z n (cond t (happened (bs n) (waits_of (bs n).home e s count) none) (refused (bs n) none))
  keeper_sent true = noted_handled
  keeper_sent false = refused_handled y bs z n a

  pub waits_handled : Handled y bs z n (wait_at_box (bs n) from e s count change none)
  waits_handled = go (eqb s.keeper.0 (bs n).home.number.0)
    where
      go : (t : Bool) → Handled y bs z n (cond t (wait_from_home (bs n) from e s count change none) (wait_from_keeper (bs n) from e s count none))
      go true = home_sent (is_home (bs n).home.yard from e)
      go false = keeper_sent (eqb from.0 s.keeper.0)

-- what a verdict says is true
module _ (y : sizes.Yard) (z : model.Yard) (n : ℕ) (cs : Boxes) (u : model.Yard) (b : Box) (c : Call) where
  changes_true : (h : Holder) (m : ℕ) → True y cs u (record { 0 = n }) (message.Change (record { section = c.section; holder = h; change = m })) → (k : ℕ) (l : Log) → AllTrue y z n cs u l.outputs →
      AllTrue y z n cs u (each (λ i. change_to b c.section h m i) k l).outputs
  unfolding each
  changes_true h m t zero l a = a
  changes_true h m t (suc k) l a = go (each (λ i. change_to b c.section h m i) k l) (told_of b.home.yard k b.keeper.table c.section.place) (changes_true h m t k l a)
    where
      go : (j : Log) (told : Bool) → AllTrue y z n cs u j.outputs → AllTrue y z n cs u (cond told (sent j (record { 0 = k }) (message.Change (record { section = c.section; holder = h; change = m }))) j).outputs
      go j true i = all_said y z n cs u j.outputs (output.Send (record { 0 = k }) (message.Change (record { section = c.section; holder = h; change = m }))) i (tt, t)
      go j false i = i

  ruled_true : (v : Verdict) → VerdictTrue y cs u n c v → AllTrue y z n cs u (ruled_log b c v none).outputs
  ruled_true verdict.Malformed t = (tt, tt)
  ruled_true verdict.PassedOver t = (tt, tt)
  ruled_true (verdict.Again a) t = (tt, ((tt, t), tt))
  ruled_true (verdict.AtLimit a) t = (tt, ((tt, t), tt))
  ruled_true (verdict.Refused r a) t = (tt, ((tt, t), tt))
  ruled_true (verdict.Done a) t = ((tt, t), tt)
  ruled_true (verdict.PassedOn a) t = changes_true a.holder a.change t.1 b.home.yard.boxes (answered b c a (recorded none (journal.Kept c))) ((tt, t.0), tt)

module _ (y : sizes.Yard) (law : KeeperLaw y) (bs : Boxes) (z : model.Yard) (n : ℕ) (reach : Reach y.engines z) (in-yard : n < y.boxes) (a : As y bs z) (k : Sized y n (bs n)) where
  pub call_handled : (from : BoxNumber) (c : Call) → CallIn y c → True y bs z from (message.Call c) → Handled y bs z n (called_at (bs n) from c none)
  call_handled from c i t = go (for_us (bs n) from c.engine c.section) refl
    where
      done : KeeperStep y bs z n c → Handled y bs z n (ruled (bs n) c (call_of (bs n).keeper c) none)
      done s =
          record {
            acts = s.acts;
            now = s.now;
            run = s.run;
            holds = s.holds;
            stays = s.stays;
            kind = inr s.engines;
            moved = s.moved;
            outputs =
                ruled_true y z n (put n (with_keeper (bs n) (call_of (bs n).keeper c).0) bs) s.now (with_keeper (bs n) (call_of (bs n).keeper c).0) c (call_of (bs n).keeper c).1 s.verdict;
          }

      go : (b : Bool) → for_us (bs n) from c.engine c.section ≡ b → Handled y bs z n (cond b (ruled (bs n) c (call_of (bs n).keeper c) none) (refused (bs n) none))
      go true q = done (law bs z n reach in-yard k a c i (eqb-true _ _ (and_parts _ _ q).0 ∙ k.number) from t)
      go false q = refused_handled y bs z n a

-- any message in range that is true
module _ (y : sizes.Yard) (law : HomeLaw y) (held : HeldLaw y) (ruling : KeeperLaw y) (bs : Boxes) (z : model.Yard) (n : ℕ) (reach : Reach y.engines z) (in-yard : n < y.boxes) (a : As y bs z)
    (k : Sized y n (bs n)) where
  pub received_handled : (from : BoxNumber) → from.0 < y.boxes → (m : Message) → MessageIn y m → True y bs z from m → Handled y bs z n (received_of (bs n) from m none)
  received_handled from f (message.Call c) i t = call_handled y ruling bs z n reach in-yard a k from c i t
  received_handled from f (message.Answer e m told) i t = home_handled y law held bs z n reach in-yard a k (homes.answer from e m told.reply told.holder told.change) (t, i.3, f)
  received_handled from f (message.Change news) i t = change_handled y law held bs z n reach in-yard news.section news.holder news.change t.0 t.1 i.1 a k from
  received_handled from f (message.WhichChange e s) i t = which_handled y bs z n a reach in-yard k from e s i.1
  received_handled from f (message.Sign telling) i t = home_handled y law held bs z n reach in-yard a k (homes.sign from telling.to telling.count telling.by telling.sign) t
  received_handled from f (message.Waits waiting) i t = waits_handled y law held bs z n reach in-yard a k from waiting.engine waiting.section waiting.count waiting.change t
