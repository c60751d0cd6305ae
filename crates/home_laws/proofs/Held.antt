-- A free clears the section's bit; and the lowest holder found is one that holds.
use Rattle.std.proofs.Common.{◌≡◌, ℕ, Bool, true, false, cond, not, ◌||◌, ltb, leb, List, [], ◌∷◌, map, length, set, Some, None, Option, sym, refl, ap, ◌∙◌, subst, arith, length-set, get_or-set_same}
use Rattle.std.proofs.lemmas.Bool.{ltb-true, and_parts}
use Rattle.std.specs.List.{find, range_with_len}
use Rattle.messages.specs.declared.yard.Engine.{Engine}
use Rattle.messages.specs.declared.yard.Section.{Section}
use Rattle.messages.specs.declared.message.Act.{Act}
use Rattle.messages.specs.declared.message.Act.TheVariants as act
use Rattle.messages.specs.declared.message.Call.{Call}
use Rattle.messages.specs.declared.message.Sign.{Sign}
use Rattle.messages.specs.declared.message.Refusal.TheVariants as refusal
use Rattle.engine_state.specs.declared.places.Places.{Places}
use Rattle.engine_state.specs.declared.state.Event.{Event}
use Rattle.engine_state.specs.declared.state.Event.TheVariants as event
use Rattle.engine_state.specs.Places.{fits, same_section, bit, marked, word_of, has_of, with_word, with_of, without_of}
use Rattle.engine_state.specs.State.{wanted, got_by, got_wanted, freed_by}
use Rattle.home.specs.declared.home.Home.{Home}
use Rattle.home.specs.Home.{is_ours, at}
use Rattle.home.specs.Queries.{holds_at, engine, lowest, holder_of, note_at}
use Rattle.home.specs.Inputs.{has_section, with_notes, is_older, noted_for}
use Rattle.home_laws.specs.Held.{FreedIsNotHeld, ToldOfWhatIsHeld}
use Rattle.home_laws.proofs.Words.{cleared}
use Rattle.std.specs.Prelude.{bit_and, bit_or, bit_xor}

abbrev Wide : Places → Type 0
Wide x = length x.words ≡ 16

with_wide : (x : Places) (s : Section) → Wide x → Wide (with_of x s)
with_wide x s wide = by-fit (fits s)
  where
    by-fit : (t : Bool) → Wide (cond t (with_word x s (bit_or (word_of x s) (bit s.place))) x)
    by-fit true = length-set x.words s.keeper.0 (bit_or (word_of x s) (bit s.place)) ∙ wide
    by-fit false = wide

got_wide : (x : Places) (c : Call) (s : Section) (a : Act) → Wide x → Wide (got_by x c s a)
got_wide x c s act.Take wide = with_wide x s wide
got_wide x c s act.Free wide = with_wide x s wide
got_wide x c s act.GiveUp wide = by_same (same_section c.section s)
  where
    by_same : (t : Bool) → Wide (cond t x (with_of x s))
    by_same true = wide
    by_same false = with_wide x s wide

wanted_wide : (x : Places) (c : Call) (o : Option Section) → Wide x → Wide (got_wanted x c o)
wanted_wide x c None wide = wide
wanted_wide x c (Some s) wide = got_wide x c s c.act wide

without_has : (x : Places) (s : Section) → Wide x → has_of (without_of x s) s ≡ false
without_has x s wide = by-fit (fits s) refl
  where
    word : ℕ
    word = bit_xor (word_of x s) (bit_and (word_of x s) (bit s.place))

    by-fit : (t : Bool) → fits s ≡ t → cond t (marked (word_of (cond t (with_word x s word) x) s) s.place) false ≡ false
    by-fit false is = refl
    by-fit true is =
        ap (λ (n : ℕ). marked n s.place)
        (get_or-set_same x.words s.keeper.0 word 0 (omega (arith, wide, ltb-true s.keeper.0 16 (and_parts (ltb s.keeper.0 16) (ltb s.place 64) is).0))) ∙
        cleared (word_of x s) s.place (ltb-true s.place 64 (and_parts (ltb s.keeper.0 16) (ltb s.place 64) is).1)

pub freed_is_not_held : FreedIsNotHeld
freed_is_not_held x c wide is =
    subst (λ (a : Act). has_of (freed_by (got_wanted x.stored.kept c (wanted x.stored.mode)) c.section a) c.section ≡ false) (sym is)
    (without_has (got_wanted x.stored.kept c (wanted x.stored.mode)) c.section (wanted_wide x.stored.kept c (wanted x.stored.mode) wide))

found_passes : (f : Engine → Bool) (e : Engine) (xs : List Engine) → find f xs ≡ Some e → f e ≡ true
found_passes f e [] is = let z : ◌≡◌ {A = ℕ} 0 1 = cc in absurd (omega arith)
found_passes f e (x ∷ xs) is = at_test (f x) refl (found_passes f e xs) is
  where
    at_test : (t : Bool) → f x ≡ t → (find f xs ≡ Some e → f e ≡ true) → cond t (Some x) (find f xs) ≡ Some e → f e ≡ true
    at_test true holds further q = let same : x ≡ e = cc in subst (λ (y : Engine). f y ≡ true) same holds
    at_test false holds further q = further q

lowest_passes : (f : Engine → Bool) (e : Engine) → lowest f ≡ Some e → f e ≡ true
unfolding lowest
lowest_passes f e is = found_passes f e (map engine (range_with_len 0 64)) is

-- what is told is of one that holds the section, with the sign that it shows
abbrev Rightly : Home → Section → Home × Event → Type 0
Rightly h s p = (told : Sign) → p.1 ≡ event.Noted told → (holds_at h told.by s ≡ true) × (told.sign ≡ (at h told.by).signs.shown)

rightly_either : (h : Home) (s : Section) (t : Bool) (p q : Home × Event) → Rightly h s p → Rightly h s q → Rightly h s (cond t p q)
rightly_either h s true p q a b = a
rightly_either h s false p q a b = b

silent : (h : Home) (s : Section) (g : Home) → Rightly h s (g, event.PassedOver)
silent h s g told q = let z : ◌≡◌ {A = ℕ} 0 1 = cc in absurd (omega arith)

telling : (h : Home) (s : Section) (g : Home) (e : Engine) (count : ℕ) (by : Engine) → holds_at h by s ≡ true → Rightly h s (g, event.Noted (record { to = e; count = count; by = by; sign = (at h by).signs.shown }))
telling h s g e count by holds told q =
    let same : ◌≡◌ {A = Sign} (record { to = e; count = count; by = by; sign = (at h by).signs.shown }) told = cc in
    subst (λ (x : Sign). (holds_at h x.by s ≡ true) × (x.sign ≡ (at h x.by).signs.shown)) same (holds, refl)

noted_rightly : (h : Home) (e : Engine) (s : Section) (count : ℕ) (o : Option Engine) → holder_of h s ≡ o → Rightly h s (noted_for h e s count o)
noted_rightly h e s count None is = silent h s h
noted_rightly h e s count (Some by) is =
    rightly_either h s (leb 64 e.0 || is_older count (note_at h e)) (h, event.PassedOver)
    (cond (is_ours h by) (with_notes h (set h.notes e.0 (Some (record { section = s; count = count }))), event.Noted (record { to = e; count = count; by = by; sign = (at h by).signs.shown })) (h, event.PassedOver))
    (silent h s h)
    (rightly_either h s (is_ours h by) (with_notes h (set h.notes e.0 (Some (record { section = s; count = count }))), event.Noted (record { to = e; count = count; by = by; sign = (at h by).signs.shown })) (h, event.PassedOver)
    (telling h s (with_notes h (set h.notes e.0 (Some (record { section = s; count = count })))) e count by (lowest_passes (λ (x : Engine). holds_at h x s) by is))
    (silent h s h))

pub told_of_what_is_held : ToldOfWhatIsHeld
told_of_what_is_held h e s count =
    rightly_either h s (leb h.yard.engines e.0 || not (has_section h s)) (h, event.Refused refusal.Malformed) (noted_for h e s count (holder_of h s))
    (λ told q. let z : ◌≡◌ {A = ℕ} 0 1 = cc in absurd (omega arith)) (noted_rightly h e s count (holder_of h s) refl)
