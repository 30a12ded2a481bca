use Rattle.std.proofs.Common.{rules, ◌<◌, ℕ, List, sym, subst, ap, ◌∙◌}
use Rattle.ck_run.specs.Tokens.{table, number}
use Rattle.ck_run.proofs.Ends.{tied_all}
use Rattle.ck_ring.specs.State.{Token}
use Rattle.ck_ring.specs.Ends.{IsClosedRing, IsClosedInOrder, AreAll}
use Rattle.ck_ring.proofs.Closing.{closed_ring, served}
use Rattle.ck_ring.proofs.ring.Ring.close.Goals as goal

pub returns-clause-run : goal.returns-clause-run
returns-clause-run c =
    let run = c.close-words.ensures.run in
    let view = c.join_all.ensures.view in
    subst (λ (ws : List ℕ). IsClosedRing c.args.p c.args.cs.items ws) (sym run.2) (subst (λ (t : Token). IsClosedRing t c.args.cs.items run.0) c.p.view_is
    (closed_ring _ c.p.inside.token c.args.cs.items view.0 c.args.self c.join_all.new.token.view run.0 (λ x y q. search rules) view.1 view.2 (ap table c.p.view_is ∙ c.requires.producer) c.requires.consumers run.1))

pub returns-clause-served : goal.returns-clause-served
returns-clause-served c =
    let run = c.close-words.ensures.run in
    let view = c.join_all.ensures.view in
    subst (λ (ws : List ℕ). IsClosedInOrder c.args.p c.args.cs.items ws) (sym run.2) (subst (λ (t : Token). IsClosedInOrder t c.args.cs.items run.0) c.p.view_is
    (served c.p.inside.token c.args.cs.items run.0 c.p.invariant.first (tied_all _ (λ (t : Token). 0 < number t) c.args.cs.items view.0 (λ x y q. search rules) view.1)
    (closed_ring _ c.p.inside.token c.args.cs.items view.0 c.args.self c.join_all.new.token.view run.0 (λ x y q. search rules) view.1 view.2 (ap table c.p.view_is ∙ c.requires.producer) c.requires.consumers run.1)
    (subst (λ (t : Token). AreAll t c.args.cs.items) (sym c.p.view_is) c.requires.all)))
