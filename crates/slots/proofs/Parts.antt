-- What calls and events do, by the part: it is looked up first, so a proof may go by it.
-- Assumes nothing.
use Rattle.geometry.specs.declared.Geometry.{Geometry}
use Rattle.std.specs.Prelude.{Option}
use mathlib.Core.Path.{◌≡◌, refl}
use mathlib.Core.Bool.{Bool, true, false, cond}
use Rattle.state.specs.Memory.{State}
use Rattle.state.specs.Outcomes.{part_in, sent_by, send_outcome, ended_by, end_outcome, pin_outcome, cut_by, cut_outcome}
use Rattle.slots.specs.Calls.{Out}
use Rattle.slots.specs.Lists.{Op, call, raw, straight, pin, busy_end, cut, met, call_by, raw_by, out_of, called_by, raw_left, next_of}

unfoldable pub out_at : Option Geometry → Op → State → Out
out_at p (call a detail script payload junk log lent) s = call_by p a detail script payload junk log lent s
out_at p (raw frame script junk log reply) s = raw_by p frame script junk log reply s
out_at p (straight frame reply) s = met (sent_by p s frame reply)
out_at p (pin high) s = met (pin_outcome high s)
out_at p busy_end s = met (ended_by p s)
out_at p (cut junk) s = met (cut_by p junk s)

unfoldable pub next_at : Option Geometry → Op → State → State
next_at p (call a detail script payload junk log lent) s = called_by p a detail script payload junk log lent s
next_at p (raw frame script junk log reply) s = raw_left p frame script junk log reply s
next_at p (straight frame reply) s = (sent_by p s frame reply).state
next_at p (pin high) s = (pin_outcome high s).state
next_at p busy_end s = (ended_by p s).state
next_at p (cut junk) s = (cut_by p junk s).state

pub out_at_lem : (o : Op) (s : State) → out_of o s ≡ out_at (part_in s) o s
unfolding out_of out_at send_outcome end_outcome cut_outcome
out_at_lem (call a detail script payload junk log lent) s = refl
out_at_lem (raw frame script junk log reply) s = refl
out_at_lem (straight frame reply) s = refl
out_at_lem (pin high) s = refl
out_at_lem busy_end s = refl
out_at_lem (cut junk) s = refl

pub next_at_lem : (o : Op) (s : State) → next_of o s ≡ next_at (part_in s) o s
unfolding next_of next_at send_outcome end_outcome cut_outcome
next_at_lem (call a detail script payload junk log lent) s = refl
next_at_lem (raw frame script junk log reply) s = refl
next_at_lem (straight frame reply) s = refl
next_at_lem (pin high) s = refl
next_at_lem busy_end s = refl
next_at_lem (cut junk) s = refl

-- what holds of both outcomes of a test holds of the test's
pub cases : {A : Type 0} (Q : A → Type 0) (b : Bool) {x y : A} → Q x → Q y → Q (cond b x y)
cases Q true u v = u
cases Q false u v = v
