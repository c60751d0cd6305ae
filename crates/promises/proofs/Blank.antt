-- A box that comes up from its records knows nothing besides what is stored.
use Rattle.std.specs.Prelude.{None}
use Rattle.std.proofs.Common.{◌≡◌, ℕ, zero, suc, ◌+◌, Bool, true, false, cond, eqb, ltb, List, [], ◌∷◌, get_or, set, replicate, Ok, Err, Result, sym, refl, subst, arith}
use Rattle.messages.specs.declared.yard.BoxNumber.{BoxNumber}
use Rattle.messages.specs.declared.yard.Engine.{Engine}
use Rattle.messages.specs.declared.yard.Yard.{Yard}
use Rattle.messages.specs.declared.message.Call.{Call}
use Rattle.messages.specs.declared.message.Record.{Record}
use Rattle.messages.specs.declared.message.Record.TheVariants as journal
use Rattle.engine_state.specs.declared.state.Known.{Known}
use Rattle.engine_state.specs.declared.state.Known.TheVariants as known
use Rattle.engine_state.specs.declared.state.State as engines
use Rattle.home.specs.Noted.{Noted}
use Rattle.home.specs.declared.home.Home.{Home}
use Rattle.home.specs.Home.{apply_of, is_ours, with}
use Rattle.home.specs.Queries.{engine, note_at}
use Rattle.keeper.specs.Calls.{call_of}
use Rattle.boxes.specs.Model.{State, fresh, with_home, with_keeper}
use Rattle.boxes.specs.Opening.{open_from, replay_of, is_sound, used_up}
use Rattle.refinement.proofs.Starting.{all_same}

-- nothing is known of any engine, and nobody is noted
abbrev pub Blank : Home → Type 0
Blank h = ((e : ℕ) → get_or h.known e known.Pending ≡ known.Pending) × ((e : ℕ) → note_at h (engine e) ≡ None)

-- set to what is read there past the end, a list of the same is still one
same_set : {A : Type 0} (xs : List A) (i : ℕ) (a : A) → ((k : ℕ) → get_or xs k a ≡ a) → (k : ℕ) → get_or (set xs i a) k a ≡ a
same_set [] i a h k = refl
same_set (x ∷ xs) zero a h zero = refl
same_set (x ∷ xs) zero a h (suc k) = h (suc k)
same_set (x ∷ xs) (suc i) a h zero = h zero
same_set (x ∷ xs) (suc i) a h (suc k) = same_set xs i a (λ j. h (suc j)) k

put_blank : (h : Home) (e : Engine) (x : engines.State) → x.known ≡ known.Pending → Blank h → Blank (with h e x)
put_blank h e x q b = (λ k. subst (λ (v : Known). get_or (set h.known e.0 v) k known.Pending ≡ known.Pending) (sym q) (same_set h.known e.0 known.Pending b.0 k), b.1)

if_blank : (h : Home) (e : Engine) (x : engines.State) (t : Bool) → x.known ≡ known.Pending → Blank h → Blank (cond t (with h e x) h)
if_blank h e x true q b = put_blank h e x q b
if_blank h e x false q b = b

apply_blank : (h : Home) (r : Record) → Blank h → Blank (apply_of h r)
apply_blank h (journal.Kept c) b = b
apply_blank h (journal.Made c) b = if_blank h c.engine _ (is_ours h c.engine) refl b
apply_blank h (journal.Beginning holder waits own) b = if_blank h waits.engine _ (is_ours h waits.engine) refl b
apply_blank h (journal.Heard e s) b = if_blank h e _ (is_ours h e) (b.0 e.0) b

kept_blank : (b : State) (c : Call) (t : Bool) → Blank b.home → Blank (cond {A = State × Bool} t (with_keeper b (call_of b.keeper c).0, used_up (call_of b.keeper c).1) (b, false)).0.home
kept_blank b c true k = k
kept_blank b c false k = k

home_blank : (b : State) (r : Record) (t : Bool) → Blank b.home → Blank (cond {A = State × Bool} t (with_home b (apply_of b.home r), true) (b, false)).0.home
home_blank b r true k = apply_blank b.home r k
home_blank b r false k = k

replay_blank : (b : State) (r : Record) → Blank b.home → Blank (replay_of b r).0.home
replay_blank b (journal.Kept c) k = kept_blank b c (eqb c.section.keeper.0 b.home.number.0) k
replay_blank b (journal.Made c) k = home_blank b (journal.Made c) (is_sound b.home (journal.Made c)) k
replay_blank b (journal.Beginning holder waits own) k = home_blank b (journal.Beginning holder waits own) (is_sound b.home (journal.Beginning holder waits own)) k
replay_blank b (journal.Heard e s) k = home_blank b (journal.Heard e s) (is_sound b.home (journal.Heard e s)) k

same_ok : {b c : State} → ◌≡◌ {A = Result State ℕ} (Ok b) (Ok c) → b ≡ c
same_ok q = cc

not_both : {A : Type 0} {i : ℕ} {b : State} → ◌≡◌ {A = Result State ℕ} (Err i) (Ok b) → A
not_both q = absurd (let z : ◌≡◌ {A = ℕ} 0 1 = cc in omega arith)

pub open_blank : (i : ℕ) (rs : List Record) (b c : State) → open_from i rs b ≡ Ok c → Blank b.home → Blank c.home
unfolding open_from
open_blank i [] b c q k = subst (λ (d : State). Blank d.home) (same_ok q) k
open_blank i (r ∷ rs) b c q k = go (replay_of b r).1 (λ p. open_blank (i + 1) rs (replay_of b r).0 c p (replay_blank b r k)) q
  where
    go : (t : Bool) → (open_from (i + 1) rs (replay_of b r).0 ≡ Ok c → Blank c.home) → cond t (open_from (i + 1) rs (replay_of b r).0) (Err i) ≡ Ok c → Blank c.home
    go true f p = f p
    go false f p = not_both p

pub fresh_blank : (y : Yard) (n : BoxNumber) → Blank (fresh y n).home
fresh_blank y n = (λ e. all_same 64 known.Pending e, λ e. go e (ltb e 64))
  where
    nothing : Noted
    nothing = None

    go : (e : ℕ) (t : Bool) → cond t (get_or (replicate 64 nothing) e nothing) nothing ≡ nothing
    go e true = all_same 64 nothing e
    go e false = refl
