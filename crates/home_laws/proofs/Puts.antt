-- Array by array.
use Rattle.std.proofs.Common.{◌≡◌, ◌∙◌, arith, length-set, get_or-set_other, get_or-set_same}
use Rattle.signs.specs.declared.Engine as signs
use Rattle.signs.proofs.Places.{put_one}
use Rattle.engine_state.specs.declared.state.Known.{Known}
use Rattle.engine_state.specs.declared.state.Known.TheVariants as known
use Rattle.engine_state.specs.declared.state.State.{State}
use Rattle.engine_state.specs.declared.state.Stored.{Stored}
use Rattle.engine_state.specs.State.{unread}
use Rattle.home_laws.specs.Puts.{PutOne}

same_state :
    {a b : Stored} {k l : Known} {g f : signs.Engine} → a ≡ b → k ≡ l → g ≡ f →
    ◌≡◌ {A = State} (record { stored = a; known = k; signs = g }) (record { stored = b; known = l; signs = f })
same_state p q r = cc

pub put_in_one : PutOne
put_in_one h z e x below = (
  record {
    signs = (put_one h.signs z.signs e.0 x.signs below).0;
    stored = length-set h.stored e.0 x.stored ∙ z.stored;
    known = length-set h.known e.0 x.known ∙ z.known;
  },
  same_state
      (get_or-set_same h.stored e.0 x.stored unread (omega arith))
      (get_or-set_same h.known e.0 x.known known.Pending (omega arith))
      (put_one h.signs z.signs e.0 x.signs below).1,
  λ k ne.
      same_state
      (get_or-set_other h.stored e.0 k.0 x.stored unread ne)
      (get_or-set_other h.known e.0 k.0 x.known known.Pending ne)
      ((put_one h.signs z.signs e.0 x.signs below).2 k.0 ne),
)
