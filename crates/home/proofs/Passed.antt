-- A state that is put back where it stands changes nothing.
use Rattle.std.proofs.Common.{◌≡◌, ℕ, Bool, true, false, cond, None, sym, ap, ◌∙◌}
use Rattle.std.proofs.lemmas.List.{set-get_or}
use Rattle.engine_state.specs.Calls.{wait_of}
use Rattle.engine_state.specs.Inputs.{change_at, is_later, passed_to}
use Rattle.engine_state.specs.declared.state.Event.{Event}
use Rattle.engine_state.specs.declared.state.Event.TheVariants as event
use Rattle.engine_state.specs.declared.state.Known.TheVariants as known
use Rattle.messages.specs.Holder.{Holder}
use Rattle.messages.specs.declared.message.Refusal.TheVariants as refusal
use Rattle.messages.specs.declared.yard.Engine.{Engine}
use Rattle.messages.specs.declared.yard.Section.{Section}
use Rattle.home.specs.declared.home.Home.{Home}
use Rattle.engine_state.specs.State.{unread}
use Rattle.home.specs.Home.{at, is_ours, with}
use Rattle.home.specs.Inputs.{change_of, put_in}
use Rattle.home.specs.Queries.{wait_at}

same : (h : Home) (e : Engine) → with h e (at h e) ≡ h
same h e =
    rw (
      set-get_or h.stored e.0 unread,
      set-get_or h.known e.0 known.Pending,
      set-get_or h.signs.waits e.0 None,
      set-get_or h.signs.counts e.0 0,
      set-get_or h.signs.shown e.0 0,
      set-get_or h.signs.own e.0 0,
    )

-- a change that the engine doesn't wait for
pub passed : (h : Home) (e : Engine) (s : Section) (holder : Holder) (change : ℕ) → is_ours h e ≡ true → is_later (wait_at h e) s change ≡ false
    → ◌≡◌ {A = Home × Event} (h, event.PassedOver) (change_of h e s holder change)
unfolding change_at
passed h e s holder change o l =
    let x = at h e in
    let later : is_later (wait_of x) s change ≡ false = ap (λ (b : Bool). is_later (cond b (wait_of x) None) s change) (sym o) ∙ l in
    sym (ap (λ (b : Bool). cond b (put_in h e (change_at x e h.yard.engines s holder change)) (h, event.Refused refusal.Malformed)) o
    ∙ (ap (λ (b : Bool). put_in h e (cond b (passed_to x e h.yard.engines s change holder) (x, event.PassedOver))) later
    ∙ ap (λ (g : Home). (g, event.PassedOver)) (same h e)))
