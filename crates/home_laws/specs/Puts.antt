-- After a change of one engine it reads as put, and every other as it was. Assumes nothing.
use Rattle.std.specs.Prelude.{◌≡◌, ◌<◌, length, ◌≢◌}
use Rattle.messages.specs.declared.yard.Engine.{Engine}
use Rattle.signs.specs.Table as table
use Rattle.engine_state.specs.declared.state.State.{State}
use Rattle.home.specs.declared.home.Home.{Home}
use Rattle.home.specs.Home.{at, with}

-- a home of sixty-four
pub record Sized (h : Home) : Type 0 where
  pub signs : table.Sized h.signs
  pub stored : length h.stored ≡ 64
  pub known : length h.known ≡ 64

abbrev pub PutOne : Type 0
PutOne =
    (h : Home) → Sized h → (e : Engine) (x : State) → e.0 < 64 →
    Sized (with h e x) × (at (with h e x) e ≡ x) × ((k : Engine) → (k.0 ≢ e.0) → at (with h e x) k ≡ at h k)
