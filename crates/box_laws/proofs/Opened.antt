-- A box that comes up from its records has what was stored and nothing else: it is in shape if the box that wrote them was.
use Rattle.std.specs.Prelude.{None}
use Rattle.std.proofs.Common.{◌≡◌, ℕ, Bool, eqb, List, [], ◌∷◌, length, get_or, set, replicate, Ok, sym, refl, ap, ◌∙◌, subst}
use Rattle.std.proofs.lemmas.List.{set-get_or}
use Rattle.std.proofs.lemmas.Bool.{cond_both}
use Rattle.messages.specs.declared.yard.BoxNumber.{BoxNumber}
use Rattle.messages.specs.declared.yard.Yard.{Yard}
use Rattle.messages.specs.declared.message.Record.{Record}
use Rattle.messages.specs.declared.message.Record.TheVariants as journal
use Rattle.signs.specs.declared.Engine as signs
use Rattle.signs.specs.declared.table.Engines.{Engines}
use Rattle.signs.specs.Table as table
use Rattle.engine_state.specs.declared.state.Known.{Known}
use Rattle.engine_state.specs.declared.state.Known.TheVariants as known
use Rattle.engine_state.specs.declared.state.State as engines
use Rattle.engine_state.specs.declared.state.Stored.{Stored}
use Rattle.engine_state.specs.State.{unread}
use Rattle.home.specs.declared.home.Home.{Home}
use Rattle.home.specs.Noted.{Noted}
use Rattle.home.specs.Home.{apply_of, at, is_ours}
use Rattle.home.specs.Queries.{engine, giving_back_at}
use Rattle.journal.specs.declared.output.Output.TheVariants as output
use Rattle.boxes.specs.Log.{Log}
use Rattle.boxes.specs.Model.{State, fresh}
use Rattle.boxes.specs.Handle.{reminder_for, reminders_of}
use Rattle.boxes.specs.Opening.{home_again, is_sound, open_from, replay_of}
use Rattle.box_laws.specs.Runs.{SameStored}
use Rattle.box_laws.proofs.Engines.{Fit}
use Rattle.box_laws.proofs.Homes.{NoteIn, everywhere}
use Rattle.box_laws.proofs.Keepers.{KeeperShape}
use Rattle.box_laws.proofs.Logs.{LogIn, each_keeps, said_in}
use Rattle.box_laws.proofs.Replay.{Replays, open_replays}
use Rattle.box_laws.proofs.Shape.{InShape, shaped}

-- nothing is known besides what is stored, and nothing is noted
abbrev pub Bare : Home → Type 0
Bare h = (h.known ≡ replicate 64 known.Pending) × (h.notes ≡ replicate 64 None)

set_same : (ks : List Known) (e : ℕ) → ks ≡ replicate 64 known.Pending → set ks e known.Pending ≡ replicate 64 known.Pending
set_same ks e q = ap (λ (xs : List Known). set xs e known.Pending) q ∙ ap (set (replicate 64 known.Pending) e) (sym (everywhere 64 known.Pending e)) ∙ set-get_or (replicate 64 known.Pending) e known.Pending

apply_bare : (h : Home) (r : Record) → Bare h → Bare (apply_of h r)
apply_bare h (journal.Kept c) i = i
apply_bare h (journal.Made c) i = cond_both (is_ours h c.engine) _ _ Bare (λ _. (set_same h.known c.engine.0 i.0, i.1)) (λ _. i)
apply_bare h (journal.Beginning holder waits own) i = cond_both (is_ours h waits.engine) _ _ Bare (λ _. (set_same h.known waits.engine.0 i.0, i.1)) (λ _. i)
apply_bare h (journal.Heard e sign) i = cond_both (is_ours h e) _ _ Bare (λ _. (set-get_or h.known e.0 known.Pending ∙ i.0, i.1)) (λ _. i)

again_bare : (b : State) (r : Record) → Bare b.home → Bare (home_again b r).0.home
again_bare b r i = cond_both (is_sound b.home r) _ _ (λ (p : State × Bool). Bare p.0.home) (λ _. apply_bare b.home r i) (λ _. i)

replay_bare : (b : State) (r : Record) → Bare b.home → Bare (replay_of b r).0.home
replay_bare b (journal.Kept c) i = cond_both (eqb c.section.keeper.0 b.home.number.0) _ _ (λ (p : State × Bool). Bare p.0.home) (λ _. i) (λ _. i)
replay_bare b (journal.Made c) i = again_bare b (journal.Made c) i
replay_bare b (journal.Beginning holder waits own) i = again_bare b (journal.Beginning holder waits own) i
replay_bare b (journal.Heard e sign) i = again_bare b (journal.Heard e sign) i

pub replays_bare : (rs : List Record) (b c : State) → Replays b rs c → Bare b.home → Bare c.home
replays_bare [] b c q i = subst (λ (z : State). Bare z.home) q i
replays_bare (r ∷ rs) b c q i = replays_bare rs (replay_of b r).0 c q.1 (replay_bare b r i)

pub opened_bare : (y : Yard) (n : BoxNumber) (rs : List Record) (b : State) → open_from 0 rs (fresh y n) ≡ Ok b → Bare b.home
opened_bare y n rs b q = replays_bare rs (fresh y n) b (open_replays rs (fresh y n) b 0 q) (refl, refl)

-- an engine in shape is so whatever is known of it
fit_known : (y : Yard) (x : engines.State) (st : Stored) (k : Known) (g : signs.Engine) → st ≡ x.stored → g ≡ x.signs → Fit y x → Fit y (record { stored = st; known = k; signs = g })
fit_known y x st k g p q f =
    subst (λ (z : Stored). Fit y (record { stored = z; known = k; signs = g })) (sym p)
    (subst (λ (z : signs.Engine). Fit y (record { stored = x.stored; known = k; signs = z })) (sym q)
    (record {
      used = f.used;
      words = f.words;
      numbers = f.numbers;
      mode = f.mode;
      wait = f.wait;
      count = f.count;
      shown = f.shown;
      own = f.own;
      ordered = f.ordered;
    }))

-- a box that comes up from the records of one in shape is in shape
pub shape_opened : (y : Yard) (n : BoxNumber) (rs : List Record) (b c : State) → InShape y n.0 c → open_from 0 rs (fresh y n) ≡ Ok b → SameStored b c → InShape y n.0 b
shape_opened y n rs b c i q same =
    shaped y n.0 b i.here
    (record {
      yard = same.yard ∙ i.yard;
      number = ap (λ (z : BoxNumber). z.0) same.number ∙ i.number;
      signs = subst table.Sized (sym same.signs) i.signs;
      stored = ap length same.stored ∙ i.stored;
      known = ap length bare.0;
      notes = ap length bare.1;
      fits = λ e lt. fit_known y (at c.home e) _ _ _ (ap (λ (z : List Stored). get_or z e.0 unread) same.stored) (ap (λ (z : Engines). table.engine_at z e.0) same.signs) (i.engines.fits e lt);
      noted = λ k. subst (λ (xs : List Noted). NoteIn y (get_or xs k None)) (sym bare.1) (subst (NoteIn y) (sym (everywhere 64 None k)) tt);
    })
    (subst (KeeperShape y) (sym same.keeper) i.sections)
  where
    bare : Bare b.home
    bare = opened_bare y n rs b q

-- the reminders record nothing
pub reminders_records : (h : Home) (l : Log) → (reminders_of h l).records ≡ l.records
reminders_records h l =
    each_keeps (λ (z : Log). z.records ≡ l.records) (λ k. reminder_for h (engine k)) h.yard.engines
    (λ k z lt p. cond_both (giving_back_at h (engine k)) _ _ (λ (u : Log). u.records ≡ l.records) (λ _. p) (λ _. p)) l refl

pub reminders_in : (y : Yard) (h : Home) (l : Log) → LogIn y l → LogIn y (reminders_of h l)
reminders_in y h l fine =
    each_keeps (LogIn y) (λ k. reminder_for h (engine k)) h.yard.engines
    (λ k z lt zi. cond_both (giving_back_at h (engine k)) _ _ (LogIn y) (λ _. said_in y z (output.GivingBack (engine k)) zi tt) (λ _. zi)) l fine
