-- What one engine does: it begins to wait, hears a sign, finds that its own sign came round. Each gives the engine afterwards.
-- Assumes nothing.
use Rattle.std.specs.Prelude.{ℕ, ◌+◌, ◌-◌, ◌%◌, ◌^◌, Bool, false, cond, ◌&&◌, ◌||◌, Ok, Err, Result, Option, ◌==◌, nat_le, nat_lt, None, Some}
use Rattle.signs.specs.declared.Engine.{Engine}
use Rattle.signs.specs.declared.Refusal.{Refusal}
use Rattle.signs.specs.declared.Refusal.TheVariants.{OutOfRange, Itself, Stale, Limit}
use Rattle.signs.specs.declared.Heard.{Heard}
use Rattle.signs.specs.declared.Heard.TheVariants.{TellOn, Found, PassedOver}

-- for whom an engine waits: another by its number, or nobody
abbrev pub Wait : Type 0
Wait = Option ℕ

-- the numbers by which calls are refused
abbrev pub number_of : Refusal → ℕ
number_of OutOfRange = 1
number_of Itself = 4
number_of Stale = 6
number_of Limit = 7

-- how far above the sign shown the next own sign is
abbrev pub ahead_of : ℕ → ℕ → ℕ → ℕ
ahead_of shown me engines =
    cond (nat_lt (shown % engines) me) (me - shown % engines) (me + engines - shown % engines)

-- the next own sign: the lowest number above the one shown that leaves the engine's number when divided by the number of engines
abbrev pub next_own : ℕ → ℕ → ℕ → ℕ
next_own shown me engines = shown + ahead_of shown me engines

-- an engine that has begun to wait: one beginning more, and the new sign its own and shown
abbrev pub begun : Engine → ℕ → ℕ → Engine
begun e whom sign = record { wait = Some whom; count = e.count + 1; shown = sign; own = sign }

-- an engine or a number of engines that no yard has
abbrev pub out_of_range : ℕ → ℕ → ℕ → Bool
out_of_range me engines whom = engines == 0 || nat_lt 64 engines || nat_le engines me || nat_le engines whom

-- a sign of eight bytes and a count of four are left to take
abbrev pub has_room : Engine → ℕ → Bool
has_room e sign = nat_lt sign (2 ^ 64) && nat_lt (e.count + 1) (2 ^ 32)

-- beginning to wait for whom, the lowest refusal first
abbrev pub begin_of : Engine → ℕ → ℕ → ℕ → Result Engine Refusal
begin_of e me engines whom =
    cond (out_of_range me engines whom) (Err OutOfRange)
    (cond (whom == me) (Err Itself)
    (cond (has_room e (next_own e.shown me engines)) (Ok (begun e whom (next_own e.shown me engines))) (Err Limit)))

abbrev pub is_for : Wait → ℕ → Bool
is_for None by = false
is_for (Some whom) by = whom == by

-- it waits for that one, since that beginning
abbrev pub waits_by : Engine → ℕ → ℕ → Bool
waits_by e by count = is_for e.wait by && e.count == count

-- the engine with another sign shown
abbrev pub showing : Engine → ℕ → Engine
showing e sign = record { wait = e.wait; count = e.count; shown = sign; own = e.own }

-- the engine, waiting no more
abbrev pub idle : Engine → Engine
idle e = record { wait = None; count = e.count; shown = e.shown; own = e.own }

-- a sign above the one shown is shown and told on; what is told of another wait is stale
abbrev pub hear_of : Engine → ℕ → ℕ → ℕ → Result (Engine × Heard) Refusal
hear_of e by count sign =
    cond (waits_by e by count)
    (cond (nat_lt e.shown sign) (Ok (showing e sign, TellOn sign)) (Ok (e, PassedOver)))
    (Err Stale)

-- its own sign, which it shows, has come back: it stands in a ring, and waits no more
abbrev pub find_of : Engine → ℕ → ℕ → ℕ → Result (Engine × Heard) Refusal
find_of e by count sign =
    cond (waits_by e by count)
    (cond (sign == e.own && e.shown == e.own) (Ok (idle e, Found)) (Ok (e, PassedOver)))
    (Err Stale)

-- what comes of a sign: heard if it is above the one shown, and otherwise found or passed over
abbrev pub listen_of : Engine → ℕ → ℕ → ℕ → Result (Engine × Heard) Refusal
listen_of e by count sign = cond (nat_lt e.shown sign) (hear_of e by count sign) (find_of e by count sign)
