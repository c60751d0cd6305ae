-- A box comes up as the records stand for, and every way in which it doesn't leaves what was synced.
use Rattle.std.proofs.Common.{◌≡◌, ℕ, List, length, Err, sym, ◌∙◌, subst, inr}
use Rattle.messages.specs.declared.message.Record.{Record}
use Rattle.messages.specs.declared.yard.BoxNumber.{BoxNumber}
use Rattle.messages.specs.declared.yard.Yard.{Yard}
use Rattle.messages.specs.Journal.{Holds, written}
use Rattle.journal.specs.declared.opening.OpenFault.{OpenFault}
use Rattle.journal.specs.declared.opening.OpenFault.TheVariants as fault
use Rattle.journal.specs.Opening.{StillThere}
use Rattle.journal.proofs.Stopping.{reaches, untouched, whole_left}
use Rattle.box_run.specs.Opening.{ComesUp, ReadUp, StandsFor}

-- a record that the box couldn't have written is damage
pub not_standing : (y : Yard) (n : BoxNumber) (xs : List ℕ) (rs slice : List Record) (rest : List ℕ) (f : OpenFault) → slice ≡ rs → Holds y xs rs rest → StandsFor y n slice (Err f) → ReadUp y n xs (Err f)
not_standing y n xs rs slice rest (fault.Damaged at) e h w = let P : List Record → Type 0 = λ qs. StandsFor y n qs (Err (fault.Damaged at)) in inr (rs, rest, h, subst P e w)
not_standing y n xs rs slice rest (fault.Fault f) e h w = tt

-- a file that stands for nothing is left as it was
pub not_up : (y : Yard) (n : BoxNumber) (xs : List ℕ) (k : ℕ) (after : List ℕ → ℕ → Type 0) (f : OpenFault) → after xs k → ReadUp y n xs (Err f) → ComesUp y n xs k after (Err f)
not_up y n xs k after (fault.Damaged at) h d = (h, d)
not_up y n xs k after (fault.Fault f) h d = untouched y xs k after h

-- where the whole records are left, all synced, nothing that was synced is lost
pub whole_there : (y : Yard) (xs : List ℕ) (k w : ℕ) (qs : List Record) (u : List ℕ) (after : List ℕ → ℕ → Type 0) → Holds y xs qs u → w ≡ length (written qs)
    → after (written qs) (length (written qs)) → StillThere y xs k after
whole_there y xs k w qs u after h e there =
    let P : List ℕ → Type 0 = λ l. after l (length (written qs)) in
    (w, length (written qs), subst P (sym (whole_left y xs w qs u h e).0) there, λ rs rest all q l. reaches y rs qs rest u all h.0 (q ∙ sym h.1) h.2)
