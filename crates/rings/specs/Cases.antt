-- Worked cases of four engines: calls one after another, each with what it gives, run through the definitions that the code's contracts cite.
-- Assumes nothing.
use Rattle.std.specs.Prelude.{◌≡◌, ℕ, cond, List, [], ◌∷◌, map, Ok, Err, Result, ◌==◌}
use Rattle.signs.specs.declared.Engine.{Engine}
use Rattle.signs.specs.declared.Refusal.{Refusal}
use Rattle.signs.specs.declared.Heard.{Heard}
use Rattle.signs.specs.declared.Heard.TheVariants.{TellOn, Found, PassedOver}
use Rattle.signs.specs.Signs.{number_of, begin_of, listen_of, idle}
use Rattle.rings.specs.Net.{start}

-- what happens
pub data Call : Type 0 where
  -- an engine begins to wait for another
  begins : ℕ → ℕ → Call
  -- to an engine, by one, the sign that it shows now, by the present count
  told : ℕ → ℕ → Call
  -- to an engine, by its count at that time, by one, a sign told before
  late : ℕ → ℕ → ℕ → ℕ → Call
  -- an engine has the section or has given up, and waits no more
  leaves : ℕ → Call

-- what it gives
pub data Answer : Type 0 where
  takes : ℕ → Answer
  shows : ℕ → Answer
  finds : Answer
  passes : Answer
  refused : ℕ → Answer
  free : Answer

abbrev pub heard : Heard → Answer
heard (TellOn s) = shows s
heard Found = finds
heard PassedOver = passes

abbrev pub put : ℕ → Engine → (ℕ → Engine) → ℕ → Engine
put i e y j = cond (j == i) e (y j)

abbrev pub after_begin : (ℕ → Engine) → ℕ → Result Engine Refusal → (ℕ → Engine) × Answer
after_begin y i (Ok e) = (put i e y, takes e.own)
after_begin y i (Err r) = (y, refused (number_of r))

abbrev pub after_sign : (ℕ → Engine) → ℕ → Result (Engine × Heard) Refusal → (ℕ → Engine) × Answer
after_sign y i (Ok p) = (put i p.0 y, heard p.1)
after_sign y i (Err r) = (y, refused (number_of r))

abbrev pub call : (ℕ → Engine) → Call → (ℕ → Engine) × Answer
call y (begins i j) = after_begin y i (begin_of (y i) i 4 j)
call y (told i j) = after_sign y i (listen_of (y i) j (y i).count (y j).shown)
call y (late i c j s) = after_sign y i (listen_of (y i) j c s)
call y (leaves i) = (put i (idle (y i)) y, free)

abbrev pub play : (ℕ → Engine) → List Call → List Answer
play y [] = []
play y (c ∷ cs) = (call y c).1 ∷ play (call y c).0 cs

-- one case: what happens, and what each gives
pub record Case : Type 0 where
  pub calls : List Call
  pub answers : List Answer

abbrev pub cases : List Case
cases =
    -- 0 waits for 1, 1 for 2, 2 for 0; told round, 2 finds
    record {
      calls = begins 0 1 ∷ begins 1 2 ∷ begins 2 0 ∷ told 1 2 ∷ told 0 1 ∷ told 2 0 ∷ [];
      answers = takes 4 ∷ takes 5 ∷ takes 6 ∷ shows 6 ∷ shows 6 ∷ finds ∷ [];
    }
    -- the same ring, 0 begins last: 6 is the highest all the same
    ∷ record {
      calls = begins 1 2 ∷ begins 2 0 ∷ begins 0 1 ∷ told 1 2 ∷ told 0 1 ∷ told 2 0 ∷ [];
      answers = takes 5 ∷ takes 6 ∷ takes 4 ∷ shows 6 ∷ shows 6 ∷ finds ∷ [];
    }
    -- 3 waits for 0 of that ring: nothing higher than its own sign comes, and it never finds
    ∷ record {
      calls = begins 0 1 ∷ begins 1 2 ∷ begins 2 0 ∷ begins 3 0 ∷ told 3 0 ∷ told 1 2 ∷ told 0 1 ∷ told 3 0 ∷ told 2 0 ∷ told 3 0 ∷ [];
      answers = takes 4 ∷ takes 5 ∷ takes 6 ∷ takes 7 ∷ passes ∷ shows 6 ∷ shows 6 ∷ passes ∷ finds ∷ passes ∷ [];
    }
    -- 0 went on and waits for 1 again: what was told since its first beginning is stale
    ∷ record {
      calls = begins 0 1 ∷ leaves 0 ∷ begins 0 1 ∷ late 0 1 1 9 ∷ late 0 2 2 9 ∷ late 0 2 1 9 ∷ [];
      answers = takes 4 ∷ free ∷ takes 8 ∷ refused 6 ∷ refused 6 ∷ shows 9 ∷ [];
    }
    -- 2 gives up, so 1 has its section and goes on; 1 tells 0 as before, and nobody finds
    ∷ record {
      calls = begins 0 1 ∷ begins 1 2 ∷ begins 2 0 ∷ leaves 2 ∷ leaves 1 ∷ told 0 1 ∷ late 1 1 2 6 ∷ told 2 0 ∷ told 0 1 ∷ [];
      answers = takes 4 ∷ takes 5 ∷ takes 6 ∷ free ∷ free ∷ shows 5 ∷ refused 6 ∷ refused 6 ∷ passes ∷ [];
    }
    -- 0 waits for itself
    ∷ record { calls = begins 0 0 ∷ []; answers = refused 4 ∷ [] } ∷ []

-- every case gives what its row says
abbrev pub AlwaysCases : Type 0
AlwaysCases = map (λ (c : Case). play start.engine c.calls) cases ≡ map (λ (c : Case). c.answers) cases
