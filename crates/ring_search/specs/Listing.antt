-- A list of who waits for whom, line by line.
-- Assumes nothing.
use Rattle.std.specs.Prelude.{ℕ, Bool, true, false, cond, ◌&&◌, not, replicate, Ok, Err, Result, nat_lt, slice_index_or, slice_set, None, Some}
use Rattle.signs.specs.Signs.{Wait}
use Rattle.signs.specs.Table.{fresh_of, with}
use Rattle.ring_search.specs.declared.listing.BadLine.{BadLine}
use Rattle.ring_search.specs.declared.listing.Entry.{Entry}
use Rattle.ring_search.specs.declared.listing.Listing.{Listing}

-- no line is read
abbrev pub empty_of : Listing
empty_of = record { engines = fresh_of; read = replicate 64 false }

-- it waits for nobody, or for an engine that a yard may have
abbrev pub known_of : Wait → Bool
known_of None = true
known_of (Some whom) = nat_lt whom 64

-- an engine has no line yet
abbrev pub is_missing : Bool → Bool
is_missing read = not read

-- the engines are known, and the line's engine has no line yet
abbrev pub is_new : Listing → Entry → Bool
is_new l e = nat_lt e.engine 64 && known_of e.wait && is_missing (slice_index_or l.read e.engine false)

-- the list with one line more
abbrev pub listed : Listing → Entry → Listing
listed l e =
    record {
      engines = with l.engines e.engine (record { wait = e.wait; count = 0; shown = e.shown; own = e.own });
      read = slice_set l.read e.engine true;
    }

-- a bad line is refused by its number, and nothing changes
abbrev pub add_of : Listing → ℕ → Entry → Listing × Result (Unit {0}) BadLine
add_of l line e = cond (is_new l e) (listed l e, Ok tt) (l, Err (record { 0 = line }))
