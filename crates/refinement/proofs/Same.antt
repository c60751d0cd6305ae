-- What is known of an engine speaks of the sections and of the engine alone: where these are the same it holds on.
use Rattle.std.proofs.Common.{◌≡◌, ℕ, sym, ap, ◌∙◌, inl, inr}
use Rattle.messages.specs.declared.yard.Yard as sizes
use Rattle.messages.specs.declared.message.Act.{Act}
use Rattle.messages.specs.declared.message.Act.TheVariants as act
use Rattle.messages.specs.Holder.{Holder}
use Rattle.messages.specs.declared.message.Reply.{Reply}
use Rattle.messages.specs.declared.message.Reply.TheVariants as reply
use Rattle.engine_state.specs.declared.state.Known.{Known}
use Rattle.engine_state.specs.declared.state.Known.TheVariants as known
use Rattle.engine_state.specs.declared.state.Mode.{Mode}
use Rattle.engine_state.specs.declared.state.Mode.TheVariants as mode
use Rattle.engine_state.specs.declared.state.State.{State}
use Rattle.messages.specs.declared.message.Answer.{Answer}
use Rattle.keeper.specs.declared.LastCall.{LastCall}
use Rattle.yard.specs.Yard as model
use Rattle.refinement.specs.Placed.{number_of}
use Rattle.refinement.proofs.View.{Stands, TakeMeans, FreeMeans, GiveUpMeans, Means, Undone, LastOne, Counted, HadMeans, ClosedMeans, Ended, EngineAs}

module _ (z u : model.Yard) (q : u.section ≡ z.section) where
  pub stands_same : (e s : ℕ) (h : Holder) (m : ℕ) → Stands z e s h m → Stands u e s h m
  stands_same e s h m k =
      record { whom = k.whom; named = k.named; other = k.other; place = rw q k.place; since = rw q k.since; until = rw q k.until; past = rw q k.past }

  take_same : (e s : ℕ) (a : Answer) (r : Reply) → TakeMeans z e s a r → TakeMeans u e s a r
  take_same e s a reply.Done h = rw q h
  take_same e s a reply.Waits h = stands_same e s a.holder a.change h
  take_same e s a (reply.Refused r) h = h

  free_same : (e s : ℕ) (r : Reply) → FreeMeans z e s r → FreeMeans u e s r
  free_same e s reply.Done h = rw q h
  free_same e s reply.Waits h = h
  free_same e s (reply.Refused r) h = h

  give_same : (e s : ℕ) (a : Answer) (r : Reply) → GiveUpMeans z e s a r → GiveUpMeans u e s a r
  give_same e s a reply.Done h = rw q h
  give_same e s a reply.Waits h = h
  give_same e s a (reply.Refused r) h = rw q h

  pub means_same : (e : ℕ) (a : Act) (s : ℕ) (x : Answer) → Means z e a s x → Means u e a s x
  means_same e act.Take s x h = take_same e s x x.reply h
  means_same e act.Free s x h = free_same e s x.reply h
  means_same e act.GiveUp s x h = give_same e s x x.reply h

  pub undone_same : (e : ℕ) (a : Act) (s : ℕ) → Undone z e a s → Undone u e a s
  undone_same e act.Take s h = rw q h
  undone_same e act.Free s h = rw q h
  undone_same e act.GiveUp s h = h

  last_same : (e : ℕ) (l : LastCall) (used : ℕ) (a : Act) (s n : ℕ) → LastOne z e l used a s n → LastOne u e l used a s n
  last_same e l used a s n h =
      (h.0, elim h.1 [ inl k ↦ inl (k.0, means_same e a s l.answer k.1) | inr k ↦ inr (k.0, undone_same e a s k.1) ])

  pub counted_same : (e b : ℕ) (l : LastCall) (used : ℕ) (m : Mode) → Counted z e b l used m → Counted u e b l used m
  counted_same e b l used mode.Idle h = h
  counted_same e b l used (mode.Called a s n) h = (λ k. last_same e l used a (number_of s) n (h.0 k), h.1)
  counted_same e b l used (mode.Waiting s c) h = h

  had_same : (e : ℕ) (a : Act) (s : ℕ) → HadMeans z e a s → HadMeans u e a s
  had_same e act.Take s h = rw q h
  had_same e act.Free s h = h
  had_same e act.GiveUp s h = rw q h

  closed_same : (e : ℕ) (a : Act) (s : ℕ) → ClosedMeans z e a s → ClosedMeans u e a s
  closed_same e act.Take s h = h
  closed_same e act.Free s h = rw q h
  closed_same e act.GiveUp s h = rw q h

  pub ended_same : (e : ℕ) (l : ℕ → ℕ) (k : Known) (m : Mode) → Ended z e l k m → Ended u e l k m
  ended_same e l known.Pending m h = h
  ended_same e l known.Had mode.Idle h = h
  ended_same e l known.Had (mode.Called a s n) h = (h.0, had_same e a (number_of s) h.1)
  ended_same e l known.Had (mode.Waiting s c) h = rw q h
  ended_same e l known.Closed mode.Idle h = h
  ended_same e l known.Closed (mode.Called a s n) h = (h.0, closed_same e a (number_of s) h.1)
  ended_same e l known.Closed (mode.Waiting s c) h = h

  pub engine_same : (y : sizes.Yard) (l : ℕ → LastCall) (x : State) (e : ℕ) → u.engine e ≡ z.engine e → EngineAs y l x z e → EngineAs y l x u e
  engine_same y l x e p h =
      record {
        same = rw p h.same;
        within = h.within;
        used = h.used;
        words = h.words;
        kept = λ s k. rw (q, p) (h.kept s k);
        has = λ s i k. h.has s i (rw q at k);
        ended = ended_same e (λ b. (l b).number) x.known x.stored.mode h.ended;
        counted = λ b k. counted_same e b (l b) _ x.stored.mode (h.counted b k);
        since = λ j s m k. rw q (h.since j s m (ap (λ (g : model.Engine). g.mode) (sym p) ∙ k));
      }
