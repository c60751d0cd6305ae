-- The table of a yard's engines, read and changed at one engine.
-- Assumes nothing.
use Rattle.std.specs.Prelude.{◌≡◌, ℕ, ◌<◌, cond, length, replicate, Ok, Err, Result, ◌≢◌, nat_lt, slice_index, slice_index_or, slice_set, None}
use Rattle.std.specs.List.{range_with_len}
use Rattle.signs.specs.declared.Engine.{Engine}
use Rattle.signs.specs.declared.table.Engines.{Engines}
use Rattle.signs.specs.declared.Refusal.{Refusal}
use Rattle.signs.specs.declared.Refusal.TheVariants.{OutOfRange}

-- nobody waits, none has begun, and every engine's sign is its number
abbrev pub fresh_of : Engines
fresh_of = record { waits = replicate 64 None; counts = replicate 64 0; shown = range_with_len 0 64; own = range_with_len 0 64 }

-- the engine that stands at a place of the table
abbrev pub engine_at : Engines → ℕ → Engine
engine_at t e =
    record { wait = slice_index_or t.waits e None; count = slice_index t.counts e; shown = slice_index t.shown e; own = slice_index t.own e }

-- the table with another engine at one place
abbrev pub with : Engines → ℕ → Engine → Engines
with t e x =
    record { waits = slice_set t.waits e x.wait; counts = slice_set t.counts e x.count; shown = slice_set t.shown e x.shown; own = slice_set t.own e x.own }

abbrev pub get_of : Engines → ℕ → Result Engine Refusal
get_of t e = cond (nat_lt e 64) (Ok (engine_at t e)) (Err OutOfRange)

abbrev pub put_of : Engines → ℕ → Engine → Engines × Result (Unit {0}) Refusal
put_of t e x = cond (nat_lt e 64) (with t e x, Ok tt) (t, Err OutOfRange)

-- a table of sixty-four
pub record Sized (t : Engines) : Type 0 where
  pub waits : length t.waits ≡ 64
  pub counts : length t.counts ≡ 64
  pub shown : length t.shown ≡ 64
  pub own : length t.own ≡ 64

-- a fresh table has at each place an engine that waits for nobody and shows its number
abbrev pub FreshSigns : Type 0
FreshSigns = Sized fresh_of × ((e : ℕ) → e < 64 → engine_at fresh_of e ≡ record { wait = None; count = 0; shown = e; own = e })

-- after a change the changed place has what was put there, and every other place what it had
abbrev pub PutOne : Type 0
PutOne =
    (t : Engines) → Sized t → (e : ℕ) (x : Engine) → e < 64 →
    Sized (with t e x) × (engine_at (with t e x) e ≡ x) × ((k : ℕ) → (k ≢ e) → engine_at (with t e x) k ≡ engine_at t k)
