-- What is known of an engine stays true while another engine's call is done at a section's box.
use Rattle.std.specs.Prelude.{None, Some}
use Rattle.std.proofs.Common.{◌≡◌, ℕ, ◌+◌, ◌<◌, true, ◌⊎◌, List, [], ◌∷◌, sym, refl, ap, ◌∙◌, inl, inr, arith}
use mathlib.Core.List.Memᴰ
use mathlib.Core.List.{Memᴰ}
use Rattle.messages.specs.declared.yard.Section.{Section as Place}
use Rattle.messages.specs.declared.yard.Yard as sizes
use Rattle.messages.specs.declared.message.Act.{Act as Kind}
use Rattle.messages.specs.declared.message.Act.TheVariants as act
use Rattle.messages.specs.Holder.{Holder}
use Rattle.messages.specs.declared.message.Reply.{Reply}
use Rattle.messages.specs.declared.message.Reply.TheVariants as reply
use Rattle.messages.specs.Range.{SectionIn}
use Rattle.signs.specs.Signs.{Wait}
use Rattle.engine_state.specs.declared.state.Known.{Known}
use Rattle.engine_state.specs.declared.state.Known.TheVariants as known
use Rattle.engine_state.specs.declared.state.Mode.{Mode as Record}
use Rattle.engine_state.specs.declared.state.Mode.TheVariants as record_of
use Rattle.engine_state.specs.declared.state.State.{State}
use Rattle.engine_state.specs.Places.{has_of}
use Rattle.messages.specs.declared.message.Answer.{Answer}
use Rattle.keeper.specs.declared.LastCall.{LastCall}
use Rattle.yard.specs.Yard.{by, Section, Mode, asking, waiting, freeing, leaving, Yard, holder, mode, Queued, first, rest, handed, joined, left, Act, takes, joins, passes, leaves, May, after, Run, still, then, Reach}
use Rattle.yard.proofs.Queues.{at_put, put_other, in_end, in_without, stays_without}
use Rattle.yard.proofs.InTurn.{in_rest, first_in, by≢free}
use Rattle.yard.proofs.Views.{Moved, unmoved, was_taken, was_joined, was_passed, was_left, moved}
use Rattle.yard.proofs.Places.{About as In, same_holder, queued_not_freeing, holder_before, holder_after, past_kept, change_rises}
use Rattle.yard.proofs.Sound.{sound, reach_on}
use Rattle.refinement.specs.Placed.{number_of, called_mode, mode_by}
use Rattle.refinement.proofs.View.{Stands, TakeMeans, FreeMeans, GiveUpMeans, Means, Undone, LastOne, Counted, HadMeans, ClosedMeans, Ended, ModeIn, About, EngineAs}
use Rattle.refinement.proofs.Leaving.{leaving_not_holder}

-- what became of a section s by a call that is not e's
pub data Seen (engines : ℕ) (z : Yard) (e s : ℕ) : Section → Type 0 where
  same : Seen engines z e s (z.section s)
  taken : (i : ℕ) → (e ≡ i → ⊥) → May engines z (takes i s) → Seen engines z e s (handed (by i) (z.section s).queue (z.section s))
  joined_by : (i : ℕ) → (e ≡ i → ⊥) → May engines z (joins i s) → Seen engines z e s (joined i (z.section s))
  passed : (i : ℕ) → (e ≡ i → ⊥) → May engines z (passes i s) → Seen engines z e s (handed (first (z.section s).queue) (rest (z.section s).queue) (z.section s))
  left_by : (i : ℕ) → (e ≡ i → ⊥) → May engines z (leaves i s) → Seen engines z e s (left i (z.section s))

in_first : {i : ℕ} (q : List ℕ) → Memᴰ i q → Memᴰ i (rest q) ⊎ (first q ≡ by i)
in_first [] m = elim m [ ]
in_first (x ∷ q) (Memᴰ.head e) = inr (rw e)
in_first (x ∷ q) (Memᴰ.tail m) = inl m

module _ {engines : ℕ} {z : Yard} {e s : ℕ} where
  pub to_moved : {x : Section} → Seen engines z e s x → Moved engines z s x
  to_moved same = unmoved
  to_moved (taken i ne g) = was_taken i g
  to_moved (joined_by i ne g) = was_joined i g
  to_moved (passed i ne g) = was_passed i g
  to_moved (left_by i ne g) = was_left i g

  -- who has the section now had it or stood in its queue
  pub holder_new : {x : Section} → Seen engines z e s x → x.holder ≡ by e → (holder z s ≡ by e) ⊎ Queued z e s
  holder_new same h = inl h
  holder_new (taken i ne g) h = absurd (ne (sym (same_holder refl h)))
  holder_new (joined_by i ne g) h = inl h
  holder_new (passed i ne g) h = inr (first_in (z.section s).queue e h)
  holder_new (left_by i ne g) h = inl h

  pub holder_old : {x : Section} → Seen engines z e s x → holder z s ≡ by e → x.holder ≡ by e
  holder_old same h = h
  holder_old (taken i ne g) h = absurd (by≢free (holder z s) e h g.1)
  holder_old (joined_by i ne g) h = h
  holder_old (passed i ne g) h = absurd (ne (same_holder h g.1))
  holder_old (left_by i ne g) h = h

  pub queue_new : {x : Section} → Seen engines z e s x → Memᴰ e x.queue → Queued z e s
  queue_new same m = m
  queue_new (taken i ne g) m = m
  queue_new (joined_by i ne g) m = elim (in_end (z.section s).queue m) [ inl o ↦ o | inr q ↦ absurd (ne q) ]
  queue_new (passed i ne g) m = in_rest (z.section s).queue m
  queue_new (left_by i ne g) m = in_without i (z.section s).queue m

  pub queue_old : {x : Section} → Seen engines z e s x → Queued z e s → Memᴰ e x.queue ⊎ (x.holder ≡ by e)
  queue_old same m = inl m
  queue_old (taken i ne g) m = inl m
  queue_old (joined_by i ne g) m = inl (Memᴰ.append_left _ m)
  queue_old (passed i ne g) m = elim (in_first (z.section s).queue m) [ inl o ↦ inl o | inr q ↦ inr q ]
  queue_old (left_by i ne g) m = inl (stays_without i (z.section s).queue ne m)

  pub came_old : {x : Section} → Seen engines z e s x → x.came e ≡ (z.section s).came e
  came_old same = refl
  came_old (taken i ne g) = refl
  came_old (joined_by i ne g) = put_other i _ (z.section s).came e ne
  came_old (passed i ne g) = refl
  came_old (left_by i ne g) = refl

-- from one yard to the next by at most one call of i, done at a section's box
pub record Step (engines : ℕ) (z : Yard) (i : ℕ) (now : Yard) : Type 0 where
  pub acts : List Act
  pub run : Run engines z acts now
  pub same_engines : now.engine ≡ z.engine
  pub begun : now.begun ≡ z.begun
  pub told : now.told ≡ z.told
  pub moved : (s : ℕ) → Moved engines z s (now.section s)
  pub seen : (e : ℕ) → (e ≡ i → ⊥) → (s : ℕ) → Seen engines z e s (now.section s)

pub no_step : {engines : ℕ} {z : Yard} (i : ℕ) → Step engines z i z
no_step i = record { acts = []; run = still; same_engines = refl; begun = refl; told = refl; moved = λ s. unmoved; seen = λ e ne s. same }

module _ {engines : ℕ} {z : Yard} (i t : ℕ) where
  pub take_step : May engines z (takes i t) → Step engines z i (after z (takes i t))
  take_step g =
      record {
        acts = takes i t ∷ [];
        run = then still (takes i t) g;
        same_engines = refl;
        begun = refl;
        told = refl;
        moved = moved engines z (takes i t) g;
        seen = λ e ne s. at_put (Seen engines z e s) t _ z.section s (λ p. rw p (taken i ne g)) (λ o. same);
      }

  pub join_step : May engines z (joins i t) → Step engines z i (after z (joins i t))
  join_step g =
      record {
        acts = joins i t ∷ [];
        run = then still (joins i t) g;
        same_engines = refl;
        begun = refl;
        told = refl;
        moved = moved engines z (joins i t) g;
        seen = λ e ne s. at_put (Seen engines z e s) t _ z.section s (λ p. rw p (joined_by i ne g)) (λ o. same);
      }

  pub pass_step : May engines z (passes i t) → Step engines z i (after z (passes i t))
  pass_step g =
      record {
        acts = passes i t ∷ [];
        run = then still (passes i t) g;
        same_engines = refl;
        begun = refl;
        told = refl;
        moved = moved engines z (passes i t) g;
        seen = λ e ne s. at_put (Seen engines z e s) t _ z.section s (λ p. rw p (passed i ne g)) (λ o. same);
      }

  pub leave_step : May engines z (leaves i t) → Step engines z i (after z (leaves i t))
  leave_step g =
      record {
        acts = leaves i t ∷ [];
        run = then still (leaves i t) g;
        same_engines = refl;
        begun = refl;
        told = refl;
        moved = moved engines z (leaves i t) g;
        seen = λ e ne s. at_put (Seen engines z e s) t _ z.section s (λ p. rw p (left_by i ne g)) (λ o. same);
      }

-- sections of boxes have different numbers
pub section_one : (s t : Place) → s.place < 64 → t.place < 64 → number_of s ≡ number_of t → s ≡ t
section_one s t l k e =
    let b : s.keeper.0 ≡ t.keeper.0 = omega arith in
    let p : s.place ≡ t.place = omega arith in
    ap (λ (x : ℕ). record { keeper = record { 0 = x }; place = s.place }) b ∙ ap (λ (x : ℕ). record { keeper = t.keeper; place = x }) p

called≢waiting : (a : Kind) (v : ℕ) {m : Mode} {j p c : ℕ} → m ≡ called_mode a v → m ≡ waiting j p c → ⊥
called≢waiting act.Take v e f = let u : ◌≡◌ {A = ℕ} 0 1 = cc in omega arith
called≢waiting act.Free v e f = let u : ◌≡◌ {A = ℕ} 0 1 = cc in omega arith
called≢waiting act.GiveUp v e f = let u : ◌≡◌ {A = ℕ} 0 1 = cc in omega arith

-- a caller's mode in the model
pub caller_mode : {y : sizes.Yard} {last : ℕ → LastCall} {x : State} {z : Yard} {i : ℕ} → EngineAs y last x z i → (k : Kind) (s : Place) (n : ℕ) → x.stored.mode ≡ record_of.Called k s n → mode z i ≡ called_mode k (number_of s)
caller_mode {x = x} w k s n is = ap (λ v. v.mode) w.same ∙ ap (λ m. mode_by m x.signs.wait) is

module _ {engines : ℕ} {z now : Yard} {i : ℕ} (r : Reach engines z) (t : Step engines z i now) where
  pub same_mode : (e : ℕ) → mode now e ≡ mode z e
  same_mode e = ap (λ f. (f e).mode) t.same_engines

  -- of another engine
  module _ {e : ℕ} (ne : e ≡ i → ⊥) where
    stands_on : {s m : ℕ} {h : Holder} → Stands z e s h m → Stands now e s h m
    stands_on {s} {m} w =
        let d = t.seen e ne s in
        let up = change_rises (to_moved d) in
        let l = w.until in
        let k = w.since in
        let c = came_old d in
        record {
          whom = w.whom;
          named = w.named;
          other = w.other;
          place = elim w.place [ inl q ↦ queue_old d q | inr h ↦ inr (holder_old d h) ];
          since = omega arith;
          until = omega arith;
          past = past_kept (to_moved d) l ∙ w.past;
        }

    not-queued-on : (s : ℕ) → (Queued z e s → ⊥) → Queued now e s → ⊥
    not-queued-on s n q = n (queue_new (t.seen e ne s) q)

    not-had-on : (s : ℕ) → mode z e ≡ freeing s → (holder z s ≡ by e → ⊥) → holder now s ≡ by e → ⊥
    not-had-on s m n h = elim (holder_new (t.seen e ne s) h) [ inl o ↦ n o | inr q ↦ queued_not_freeing (sound r).places q m ]

    take_on : (s : ℕ) (a : Answer) (x : Reply) → TakeMeans z e s a x → TakeMeans now e s a x
    take_on s a reply.Done h = holder_old (t.seen e ne s) h
    take_on s a reply.Waits h = stands_on h
    take_on s a (reply.Refused y) h = absurd h

    free_on : (s : ℕ) (x : Reply) → mode z e ≡ freeing s → FreeMeans z e s x → FreeMeans now e s x
    free_on s reply.Done m h = not-had-on s m h
    free_on s reply.Waits m h = absurd h
    free_on s (reply.Refused y) m h = absurd h

    give-up-on : (s : ℕ) (a : Answer) (x : Reply) → GiveUpMeans z e s a x → GiveUpMeans now e s a x
    give-up-on s a reply.Done h = not-queued-on s h
    give-up-on s a reply.Waits h = absurd h
    give-up-on s a (reply.Refused y) h = (not-queued-on s h.0, λ k. holder_old (t.seen e ne s) (h.1 k))

    means-on : (k : Kind) (s : ℕ) (a : Answer) → mode z e ≡ called_mode k s → Means z e k s a → Means now e k s a
    means-on act.Take s a m h = take_on s a a.reply h
    means-on act.Free s a m h = free_on s a.reply m h
    means-on act.GiveUp s a m h = give-up-on s a a.reply h

    undone-on : (k : Kind) (s : ℕ) → Undone z e k s → Undone now e k s
    undone-on act.Take s h = ((λ o. elim (holder_new (t.seen e ne s) o) [ inl p ↦ h.0 p | inr q ↦ h.1 q ]), not-queued-on s h.1)
    undone-on act.Free s h = holder_old (t.seen e ne s) h
    undone-on act.GiveUp s h = tt

    last_on : (l : LastCall) (used : ℕ) (k : Kind) (s n : ℕ) → mode z e ≡ called_mode k s → LastOne z e l used k s n → LastOne now e l used k s n
    last_on l used k s n m h =
        (h.0, elim h.1 [ inl d ↦ inl (d.0, means-on k s l.answer m d.1) | inr d ↦ inr (d.0, undone-on k s d.1) ])

    counted-on : (b : ℕ) (l : LastCall) (used : ℕ) (m : Record) (w : Wait) → mode z e ≡ mode_by m w → Counted z e b l used m → Counted now e b l used m
    counted-on b l used record_of.Idle w q h = h
    counted-on b l used (record_of.Called k s n) w q h = ((λ p. last_on l used k (number_of s) n q (h.0 p)), h.1)
    counted-on b l used (record_of.Waiting s c) w q h = h

    had-on : (k : Kind) (s : ℕ) → HadMeans z e k s → HadMeans now e k s
    had-on act.Take s h = holder_old (t.seen e ne s) h
    had-on act.Free s h = absurd h
    had-on act.GiveUp s h = holder_old (t.seen e ne s) h

    closed_on : (k : Kind) (s : ℕ) → mode z e ≡ called_mode k s → ClosedMeans z e k s → ClosedMeans now e k s
    closed_on act.Take s m h = absurd h
    closed_on act.Free s m h = not-had-on s m h
    closed_on act.GiveUp s m h = not-queued-on s h

    ended-on : (l : ℕ → ℕ) (k : Known) (m : Record) (w : Wait) → mode z e ≡ mode_by m w → Ended z e l k m → Ended now e l k m
    ended-on l known.Pending m w q h = tt
    ended-on l known.Had record_of.Idle w q h = tt
    ended-on l known.Had (record_of.Called k s n) w q h = (h.0, had-on k (number_of s) h.1)
    ended-on l known.Had (record_of.Waiting s c) w q h = holder_old (t.seen e ne (number_of s)) h
    ended-on l known.Closed record_of.Idle w q h = tt
    ended-on l known.Closed (record_of.Called k s n) w q h = (h.0, closed_on k (number_of s) q h.1)
    ended-on l known.Closed (record_of.Waiting s c) w q h = absurd h

  -- who comes to have a section asked for it last
  gets : (y : sizes.Yard) (s : Place) → s.place < 64 → (m : Record) (w : Wait) → ModeIn y m w → In (number_of s) (mode_by m w) → (mode_by m w ≡ leaving (number_of s) → ⊥) → About s m
  gets y s l record_of.Idle w h a n = absurd a
  gets y s l (record_of.Called act.Take p k) w h a n = section_one p s h.1 l a
  gets y s l (record_of.Called act.Free p k) w h a n = absurd a
  gets y s l (record_of.Called act.GiveUp p k) w h a n = absurd (n (ap leaving a))
  gets y s l (record_of.Waiting p c) None h a n = absurd a
  gets y s l (record_of.Waiting p c) (Some j) h a n = section_one p s h.0.1 l a

  -- what an engine has it has by its file or by its last record, whoever's call was done
  pub has_on : {y : sizes.Yard} {last : ℕ → LastCall} {x : State} (e : ℕ) → EngineAs y last x z e → (s : Place) → SectionIn y s → holder now (number_of s) ≡ by e →
      (has_of x.stored.kept s ≡ true) ⊎ About s x.stored.mode
  has_on {y} {last} {x} e w s l h =
      elim (holder_before (t.moved (number_of s)) h) [
        | inl o ↦ w.has s l o
        | inr a ↦ inr (gets y s l.1 x.stored.mode x.signs.wait w.within (rw is at (in-mode a)) (λ q. leaving_not_holder (reach_on r t.run) (same_mode e ∙ is ∙ q) h))
      ]
    where
      is : mode z e ≡ mode_by x.stored.mode x.signs.wait
      is = ap (λ v. v.mode) w.same

      in-mode : Queued z e (number_of s) ⊎ (mode z e ≡ asking (number_of s)) → In (number_of s) (mode z e)
      in-mode (inl q) = (sound r).places.about e (number_of s) q
      in-mode (inr m) = rw m refl

  -- another engine stays as it is known
  pub engine_on : {y : sizes.Yard} {last : ℕ → LastCall} {x : State} {e : ℕ} → (e ≡ i → ⊥) → EngineAs y last x z e → EngineAs y last x now e
  engine_on {y} {last} {x} {e} ne w =
      record {
        same = ap (λ f. f e) t.same_engines ∙ w.same;
        within = w.within;
        used = w.used;
        words = w.words;
        kept = λ s k. (holder_old (t.seen e ne (number_of s)) (w.kept s k).0, λ m. (w.kept s k).1 (sym (same_mode e) ∙ m));
        has = has_on e w;
        ended = ended-on ne (λ b. (last b).number) x.known x.stored.mode x.signs.wait is w.ended;
        counted = λ b l. counted-on ne b (last b) _ x.stored.mode x.signs.wait is (w.counted b l);
        since = λ j s m q. (let c = came_old (t.seen e ne s) in let k = w.since j s m (sym (same_mode e) ∙ q) in omega arith);
      }
    where
      is : mode z e ≡ mode_by x.stored.mode x.signs.wait
      is = ap (λ v. v.mode) w.same

  -- the caller: its call was its last one and had not come; now it is answered
  module _ {y : sizes.Yard} {last : ℕ → LastCall} (next : ℕ → LastCall) {x : State} (w : EngineAs y last x z i) (k : Kind) (s : Place) (n : ℕ) (is : x.stored.mode ≡ record_of.Called k s n) (fresh : n ≡ (last s.keeper.0).number + 1) where
    ended-caller : (v : Known) → Ended z i (λ b. (last b).number) v (record_of.Called k s n) → Ended now i (λ b. (next b).number) v (record_of.Called k s n)
    ended-caller known.Pending h = tt
    ended-caller known.Had h = absurd (let p = h.0 in omega arith)
    ended-caller known.Closed h = absurd (let p = h.0 in omega arith)

    pub caller-on : (a : Answer) → next s.keeper.0 ≡ record { number = n; answer = a } → ((b : ℕ) → (b ≡ s.keeper.0 → ⊥) → next b ≡ last b) → Means now i k (number_of s) a → EngineAs y next x now i
    caller-on a new old means =
        record {
          same = ap (λ f. f i) t.same_engines ∙ w.same;
          within = w.within;
          used = w.used;
          words = w.words;
          kept =
              λ p h. (
                elim (holder_after (t.moved (number_of p)) (w.kept p h).0) [ inl o ↦ o | inr m ↦ absurd ((w.kept p h).1 m) ],
                λ m. (w.kept p h).1 (sym (same_mode i) ∙ m),
              );
          has = has_on i w;
          ended = rw is (ended-caller x.known (rw is at w.ended));
          counted = λ b l. rw is (counts b (rw is at (w.counted b l)));
          since = λ j p m q. absurd (called≢waiting k (number_of s) (caller_mode w k s n is) (sym (same_mode i) ∙ q));
        }
      where
        counts : (b : ℕ) {used : ℕ} → Counted z i b (last b) used (record_of.Called k s n) → Counted now i b (next b) used (record_of.Called k s n)
        counts b h = (
          (λ p. ((h.0 p).0, inl (here b p))),
          λ np. h.1 np ∙ ap (λ (v : LastCall). v.number) (sym (old b (λ q. np (sym q)))),
        )
          where
            here : (b : ℕ) → s.keeper.0 ≡ b → (n ≡ (next b).number) × Means now i k (number_of s) (next b).answer
            here b p = rw (← p) (rw new (refl, means))
