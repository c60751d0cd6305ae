-- A sign heard from whom an engine waits for is shown, or found to be its own: then it gives up what it waits for, in a ring, where it is queued.
use Rattle.std.specs.Prelude.{Some}
use Rattle.std.proofs.Common.{◌≡◌, ℕ, ◌+◌, ◌^◌, ◌<◌, ◌≤◌, eqb, ltb, List, [], ◌∷◌, length, get_or, set, Option, sym, refl, ap, ◌∙◌, inl, inr, arith, length-set, get_or-set_other, get_or-set_same}
use Rattle.std.proofs.lemmas.Bool.{cond_both, cond-true, and_from, eq-eqb, ltb-true, lt-ltb, cases_eq}
use Rattle.messages.specs.declared.yard.BoxNumber.{BoxNumber}
use Rattle.messages.specs.declared.yard.Section.{Section}
use Rattle.messages.specs.declared.yard.Yard as sizes
use Rattle.messages.specs.declared.message.Act.TheVariants as act
use Rattle.messages.specs.declared.message.Call.{Call}
use Rattle.messages.specs.declared.message.Refusal.TheVariants as refusal
use Rattle.messages.specs.Range.{SectionIn}
use Rattle.engine_state.specs.declared.state.Event.TheVariants as event
use Rattle.engine_state.specs.declared.state.Known.TheVariants as known
use Rattle.engine_state.specs.declared.state.Mode.TheVariants as mode
use Rattle.engine_state.specs.declared.state.State.{State}
use Rattle.engine_state.specs.Places.{same_section, with_of}
use Rattle.engine_state.specs.State.{made, heard, numbered, kept_after}
use Rattle.engine_state.specs.Calls.{call_of}
use Rattle.engine_state.specs.Inputs.{gave_up_by, found_at}
use Rattle.keeper.specs.declared.LastCall.{LastCall}
use Rattle.home.specs.Queries.{engine}
use Rattle.yard.specs.Yard as model
use Rattle.yard.specs.Yard.{by, Queued, Told, Finds, Reach, Along, more, still, then, hears, finds, after}
use Rattle.yard.proofs.Queues.{put_other}
use Rattle.yard.proofs.Sound.{sound}
use Rattle.yard.proofs.Rounds.{real}
use Rattle.refinement.specs.Placed.{number_of}
use Rattle.refinement.proofs.View.{used_by, Counted, About, EngineAs, WasCalled, OwnStep}
use Rattle.refinement.proofs.Beginning.{at_self, own_still}

-- the numbers used, with one more
numbered_set : (used : List ℕ) (b : BoxNumber) (n : ℕ) → b.0 < 16 → numbered used b n ≡ set used b.0 n
numbered_set used b n o = cond-true (ltb b.0 16) (set used b.0 n) used (lt-ltb b.0 16 o)

numbered_length : (used : List ℕ) (b : BoxNumber) (n : ℕ) → b.0 < 16 → length used ≡ 16 → length (numbered used b n) ≡ 16
numbered_length used b n o w = rw (numbered_set used b n o) (length-set used b.0 n ∙ w)

numbered_here : (used : List ℕ) (b : BoxNumber) (n : ℕ) → b.0 < 16 → length used ≡ 16 → get_or (numbered used b n) b.0 0 ≡ n
numbered_here used b n o w = rw (numbered_set used b n o) (get_or-set_same used b.0 n 0 (omega arith))

numbered_other : (used : List ℕ) (b : BoxNumber) (n k : ℕ) → b.0 < 16 → (k ≡ b.0 → ⊥) → get_or (numbered used b n) k 0 ≡ get_or used k 0
numbered_other used b n k o ne = rw (numbered_set used b n o) (get_or-set_other used b.0 k n 0 ne)

-- a call with the next number, after what was called before
was_called : (x : State) (c d : Call) → d.section.keeper.0 < 16 → length x.stored.used ≡ 16 → d.number ≡ used_by x d.section.keeper.0 + 1 → WasCalled x c → WasCalled (made x d) c
was_called x c d o w next was =
    elim (cases_eq c.section.keeper.0 d.section.keeper.0) [
      | inl p ↦
          let low : c.number ≤ used_by x d.section.keeper.0 = rw p at was.0 in (
            (let n = numbered_here x.stored.used d.section.keeper d.number o w in let q : c.number ≤ get_or (numbered x.stored.used d.section.keeper d.number) d.section.keeper.0 0 = omega arith in rw p q),
            λ same number. absurd (omega arith),
          )
      | inr p ↦
          (rw (numbered_other x.stored.used d.section.keeper d.number c.section.keeper.0 o p) was.0, λ same number. absurd (p (sym same)))
    ]

was_called_now : (x : State) (d : Call) → d.section.keeper.0 < 16 → length x.stored.used ≡ 16 → WasCalled (made x d) d
was_called_now x d o w = ((let n = numbered_here x.stored.used d.section.keeper d.number o w in omega arith), λ same number. (refl, refl))

-- what is waited for and given up is not kept
kept_given_up : (x : State) (t : Section) (m : ℕ) (d : Call) → d.act ≡ act.GiveUp → d.section ≡ t → x.stored.mode ≡ mode.Waiting t m → kept_after x.stored d ≡ x.stored.kept
kept_given_up x t m d a s is =
    rw (a, s, is)
    (cond-true (same_section t t) x.stored.kept (with_of x.stored.kept t)
    (and_from (eqb t.keeper.0 t.keeper.0) (eqb t.place t.place) (eq-eqb t.keeper.0 t.keeper.0 refl) (eq-eqb t.place t.place refl)))

leaving≢freeing : {s t : ℕ} → model.leaving s ≡ model.freeing t → ⊥
leaving≢freeing p = let z : ◌≡◌ {A = ℕ} 0 1 = cc in omega arith

leaving≢waiting : {j s t m : ℕ} → model.leaving s ≡ model.waiting j t m → ⊥
leaving≢waiting p = let z : ◌≡◌ {A = ℕ} 0 1 = cc in omega arith

module _ {y : sizes.Yard} {last : ℕ → LastCall} {x : State} {z : model.Yard} {e : ℕ} (h : EngineAs y last x z e) (l : e < y.engines) (reach : Reach y.engines z) where
  -- a higher sign, from whom it waits for, by this count: it is shown
  pub own_hears : (t : Section) (j m v : ℕ) → x.known ≡ known.Pending → x.stored.mode ≡ mode.Waiting t m → x.signs.wait ≡ Some j → Told z e x.signs.count j v → x.signs.shown < v →
      OwnStep y last z e x (heard x v, event.Heard (engine e) v)
  own_hears t j m v pending is whom told above =
      record {
        acts = hears e j v ∷ [];
        now = now;
        run = then still (hears e j v) (rw (← count-is) at told, (number_of t, (m, waits)), rw shown_is above);
        engine =
            record {
              same = here ∙ ap (λ (i : model.Engine). model.showing v i) h.same;
              within = h.within;
              used = h.used;
              words = h.words;
              kept = λ s k. ((h.kept s k).0, λ f. (h.kept s k).1 (sym mode-now ∙ f));
              has = h.has;
              ended = rw pending tt;
              counted = λ b o. rw is (rw is at (h.counted b o));
              since = λ i s n f. h.since i s n (sym mode-now ∙ f);
            };
        others = λ k ne. put_other e _ z.engine k ne;
        sections = refl;
        calls = λ c b w. w;
        event = (l, refl);
      }
    where
      now : model.Yard
      now = after z (hears e j v)

      here : now.engine e ≡ model.showing v (z.engine e)
      here = at_self e _ z.engine

      mode-now : model.mode now e ≡ model.mode z e
      mode-now = ap (λ (i : model.Engine). i.mode) here

      waits : model.mode z e ≡ model.waiting j (number_of t) m
      waits = rw (is, whom) at (ap (λ (i : model.Engine). i.mode) h.same)

      count-is : model.count z e ≡ x.signs.count
      count-is = ap (λ (i : model.Engine). i.count) h.same

      shown_is : model.shown z e ≡ x.signs.shown
      shown_is = ap (λ (i : model.Engine). i.shown) h.same

  -- who finds stands in the queue of what it waits for
  finder_queued : (j s m : ℕ) → model.mode z e ≡ model.waiting j s m → Finds z e j s → Queued z e s
  finder_queued j s m waits f = at-wait (real y.engines z reach e j s f).1.0
    where
      at-wait : {is : List ℕ} {k : ℕ} → Along z e (j ∷ is) k → Queued z e s
      at-wait (more w r) = rw (rw waits at ((sound reach).places.about e w.0 w.1)) w.1

  not_holder : (j s m : ℕ) → model.mode z e ≡ model.waiting j s m → Finds z e j s → model.holder z s ≡ by e → ⊥
  not_holder j s m waits f k = ((sound reach).places.kept s).apart e k (finder_queued j s m waits f)

  -- it gives up what it waits for, with the next number
  gives_up :
      (t : Section) (j m n : ℕ) → x.stored.mode ≡ mode.Waiting t m → x.signs.wait ≡ Some j → Finds z e j (number_of t) → t.keeper.0 < 16 → n ≡ used_by x t.keeper.0 + 1 →
      OwnStep y last z e x (made x (record { act = act.GiveUp; engine = engine e; section = t; number = n }), event.Found (record { act = act.GiveUp; engine = engine e; section = t; number = n }))
  gives_up t j m n is whom f o next =
      record {
        acts = finds e j (number_of t) ∷ [];
        now = now;
        run = then still (finds e j (number_of t)) f;
        engine =
            record {
              same = here ∙ ap (λ (i : model.Engine). model.turned (model.leaving (number_of t)) i) h.same;
              within = inside;
              used = numbered_length x.stored.used t.keeper n o h.used;
              words = rw kept_same h.words;
              kept = λ s k. ((h.kept s (rw kept_same at k)).0, λ q. leaving≢freeing (sym mode-now ∙ q));
              has = λ s q k. inl (rw kept_same (elim (h.has s q k) [ inl p ↦ p | inr p ↦ absurd (not_holder j (number_of t) m waits f (rw (← (at-section s p)) at k)) ]));
              ended = tt;
              counted = counts;
              since = λ i s k q. absurd (leaving≢waiting (sym mode-now ∙ q));
            };
        others = λ k ne. put_other e _ z.engine k ne;
        sections = refl;
        calls = λ c b w. was_called x c d o h.used next w;
        event = (l, inside, was_called_now x d o h.used, (j, f));
      }
    where
      d : Call
      d = record { act = act.GiveUp; engine = engine e; section = t; number = n }

      now : model.Yard
      now = after z (finds e j (number_of t))

      here : now.engine e ≡ model.turned (model.leaving (number_of t)) (z.engine e)
      here = at_self e _ z.engine

      mode-now : model.mode now e ≡ model.leaving (number_of t)
      mode-now = ap (λ (i : model.Engine). i.mode) here

      waits : model.mode z e ≡ model.waiting j (number_of t) m
      waits = rw (is, whom) at (ap (λ (i : model.Engine). i.mode) h.same)

      inside : SectionIn y t
      inside = (rw is at h.within).0

      kept_same : kept_after x.stored d ≡ x.stored.kept
      kept_same = kept_given_up x t m d refl refl is

      at-section : (s : Section) → About s x.stored.mode → t ≡ s
      at-section s p = rw is at p

      counts : (b : ℕ) → b < y.boxes → Counted now e b (last b) (used_by (made x d) b) (mode.Called act.GiveUp t n)
      counts b q = (
        (λ p.
            let even : used_by x b ≡ (last b).number = rw is at (h.counted b q) in
            let last_one : n ≡ (last b).number + 1 = next ∙ ap (λ (k : ℕ). k + 1) (rw p even) in
            (rw (← p) (sym (numbered_here x.stored.used t.keeper n o h.used)), inr (last_one, tt))),
        λ ne. numbered_other x.stored.used t.keeper n b o (λ p. ne (sym p)) ∙ (rw is at (h.counted b q)),
      )

  -- it finds, and gives up while there is a number left
  pub own_finds : (t : Section) (j m : ℕ) → x.stored.mode ≡ mode.Waiting t m → x.signs.wait ≡ Some j → Finds z e j (number_of t) → OwnStep y last z e x (found_at x (engine e) t)
  own_finds t j m is whom f =
      cond_both (ltb t.keeper.0 16) _ _ Turns
      (λ o.
      cond_both (ltb (used_by x t.keeper.0 + 1) (2 ^ 32)) _ _ Turns
      (λ q. gives_up t j m (used_by x t.keeper.0 + 1) is whom f (ltb-true t.keeper.0 16 o) refl)
      (λ q. own_still h (event.Refused refusal.Exhausted) tt))
      (λ o. own_still h (event.Refused refusal.Exhausted) tt)
    where
      Turns : Option ℕ → Type 0
      Turns k = OwnStep y last z e x (gave_up_by x (call_of act.GiveUp (engine e) t k))
