-- The search for rings of waits: along waits from each engine, until it comes back.
-- Assumes nothing.
use Rattle.std.specs.Prelude.{ℕ, zero, suc, cond, fold, List, [], ◌∷◌, ◌++◌, Some, None, vec_items, Option, nat_eq, nat_lt, codes}
use Rattle.std.specs.Fmt.{decimal}
use Rattle.std.specs.List.{flat_map}
use Rattle.signs.specs.Signs.{Wait}
use Rattle.signs.specs.declared.table.Engines.{Engines}
use Rattle.signs.specs.Table.{engine_at}
use Rattle.ring_search.specs.declared.Ring.{Ring}
use Rattle.ring_search.specs.Chase.{chase}

-- for whom an engine of the table waits
abbrev pub wait_of : Engines → ℕ → Wait
wait_of t e = cond (nat_lt e 64) (engine_at t e).wait None

-- the own sign of an engine of the table
abbrev pub own_of : Engines → ℕ → ℕ
own_of t e = cond (nat_lt e 64) (engine_at t e).own 0

-- on from an engine by its wait: the waits end, or come to one lower than the first, or go on
abbrev pub after_of : Wait → ℕ → Wait
after_of None first = None
after_of (Some next) first = cond (nat_lt next first) None (Some next)

-- the waits as far as they lead to none lower than the first
abbrev pub upward : (ℕ → Wait) → ℕ → ℕ → Wait
upward w first at = after_of (w at) first

-- of two engines the one with the higher own sign
abbrev pub higher_of : (ℕ → ℕ) → ℕ → ℕ → ℕ
higher_of own best x = cond (nat_lt (own best) (own x)) x best

-- the first engine with the highest own sign of the best so far and those that follow
abbrev pub best_of : (ℕ → ℕ) → ℕ → List ℕ → ℕ
best_of own = fold (higher_of own)

-- a ring, by its engines from the lowest on, and who finds it
pub record Judged : Type 0 where
  pub engines : List ℕ
  pub finder : ℕ

abbrev pub judged : (ℕ → ℕ) → ℕ → Option (List ℕ) → Option Judged
judged own first None = None
judged own first (Some xs) = Some (record { engines = xs; finder = best_of own first xs })

-- the ring of which an engine is the lowest
abbrev pub ring_at : (ℕ → Wait) → (ℕ → ℕ) → ℕ → Option Judged
ring_at w own first = judged own first (chase nat_eq (upward w first) first 64 first [])

abbrev pub more : List Judged → Option Judged → List Judged
more rs None = rs
more rs (Some r) = rs ++ r ∷ []

-- the rings whose lowest engine is below a number, by their lowest engine
unfoldable pub rings_below : (ℕ → Wait) → (ℕ → ℕ) → ℕ → List Judged
rings_below w own zero = []
rings_below w own (suc n) = more (rings_below w own n) (ring_at w own n)

-- what a ring of the code says
abbrev pub model : Ring → Judged
model r = record { engines = vec_items r.engines; finder = r.finder }

-- `ring 0 1 2: 2 finds`
abbrev pub text_of : Judged → List ℕ
text_of r = codes "ring" ++ flat_map (λ e. codes " " ++ decimal e) r.engines ++ codes ": " ++ decimal r.finder ++ codes " finds"
