use Rattle.std.proofs.Common.{[], ◌∷◌, subst}
use Rattle.ck_ring.specs.State.{Token, size_of, aim}
use Rattle.ck_ring.specs.Calls.{LookSteps, WasEmpty}
use Rattle.ck_ring.proofs.Exchange.{idle_aimed, in_order}
use Rattle.ck_ring.proofs.ring.Ring.aim.Goals as goal

pub invariant_of-c : goal.invariant_of-c
invariant_of-c c = idle_aimed _ c.c.inside.token c.look-aim.new.token c.c.inside.calls c.look-aim.result c.c.invariant c.look-aim.ensures.looked

pub returns-clause-steps : goal.returns-clause-steps
returns-clause-steps c = subst (λ (t : Token). LookSteps (size_of c.args.self.now.origin) (aim ∷ []) t c.look-aim.result c.look-aim.new.token) c.c.view_is c.look-aim.ensures.looked.steps

pub returns-clause-empty : goal.returns-clause-empty
returns-clause-empty c = subst (λ (t : Token). WasEmpty (aim ∷ []) t c.look-aim.result) c.c.view_is c.look-aim.ensures.looked.empty

pub returns-clause-order : goal.returns-clause-order
returns-clause-order c = in_order c.look-aim.new.token _ (idle_aimed _ c.c.inside.token c.look-aim.new.token c.c.inside.calls c.look-aim.result c.c.invariant c.look-aim.ensures.looked)
