-- Records written one after another are the bytes of the list.
use Rattle.std.proofs.Common.{◌≡◌, ℕ, ◌+◌, ◌<◌, ◌≤◌, List, [], ◌∷◌, ◌++◌, length, get_or, take, sym, refl, ap, ◌∙◌, subst, append_assoc, append-nil}
use Rattle.std.proofs.lemmas.List.{take_at, take_more}
use Rattle.messages.specs.declared.message.Record.{Record}
use Rattle.messages.specs.Journal.{written}
use Rattle.messages.specs.Table.{record_bytes}

pub written_both : (rs qs : List Record) → written (rs ++ qs) ≡ written rs ++ written qs
written_both [] qs = refl
written_both (r ∷ rs) qs = ap (λ (l : List ℕ). record_bytes r ++ l) (written_both rs qs) ∙ sym (append_assoc (record_bytes r) (written rs) (written qs))

pub written_more : (rs : List Record) (r : Record) → written (rs ++ r ∷ []) ≡ written rs ++ record_bytes r
written_more rs r = written_both rs (r ∷ []) ∙ ap (λ (l : List ℕ). written rs ++ l) (append-nil (record_bytes r))

pub encode_more : (rs : List Record) (i : ℕ) (d : Record) (bs more new : List ℕ) → i < length rs → bs ≡ written (take i rs)
    → more ≡ record_bytes (get_or rs i d) → new ≡ bs ++ more → new ≡ written (take (i + 1) rs)
encode_more rs i d bs more new l inv m e =
    e ∙ (ap (λ (b : List ℕ). b ++ more) inv ∙ (ap (λ (b : List ℕ). written (take i rs) ++ b) m
    ∙ (sym (written_more (take i rs) (get_or rs i d)) ∙ ap written (sym (take_more rs i d l)))))

-- nothing was written: what is there is a first part of what was to be there
pub unwritten : (holds : List ℕ → ℕ → Type 0) (xs more : List ℕ) (n : ℕ) → n ≤ length xs → holds xs n → (k : ℕ) × (n ≤ k) × holds (take k (xs ++ more)) n
unwritten holds xs more n within h =
    let P : List ℕ → Type 0 = λ l. holds l n in (length xs, within, subst P (sym (take_at xs more (length xs) refl)) h)
