use Rattle.std.proofs.Common.{sym, ◌∙◌, subst}
use Rattle.ck_htlaw.specs.Host.{host, lies}
use Rattle.ck_htwrite.specs.Rebuild.{GoesOnAfter}
use Rattle.ck_htwrite.specs.Updates.{AddsFresh}
use Rattle.ck_htwrite.proofs.Plans.{adds_stored, found_move, found_stand, reuses_stored, stored_goes_on}
use Rattle.ck_htwrite.proofs.ByPlan.{may_put_ask, may_set_move, may_set_stand, put_asks, set_move, set_stand, stored_empty, stored_reused, value_here}
use Rattle.ck_htwrite.proofs.cases.store_by.Goals as goal

pub add_empty-requires-clause-goes_on : goal.add_empty-requires-clause-goes_on
add_empty-requires-clause-goes_on g c = subst (GoesOnAfter (lies (host g.D.Client.meaning g.D.Within.place g.D.Within.part) c.args.domain.now.origin)) (sym c.requires.name) (stored_goes_on c.args.keeps c.args.key c.args.value (lies (host g.D.Client.meaning g.D.Within.place g.D.Within.part) c.args.domain.now.origin))

pub add_empty-requires-clause-adds : goal.add_empty-requires-clause-adds
add_empty-requires-clause-adds g c = subst (λ os. AddsFresh os c.args.key c.args.value) (sym c.requires.name) (adds_stored c.args.keeps c.args.key c.args.value)

pub add_empty-requires-clause-due : goal.add_empty-requires-clause-due
add_empty-requires-clause-due g c = (c.requires.due.0, c.requires.due.1 ∙ c.in-Empty.is)

pub returns-in-Empty-clause-made : goal.returns-in-Empty-clause-made
returns-in-Empty-clause-made g c r is =
    stored_empty _ _ c.args.writer.now c.args.state.now r g.O.Opens.opens c.args.key c.args.value c.args.plan c.in-Empty.at c.args.keeps c.in-Empty.is _ _ _ (c.add_empty.ensures.made r (is ∙ c.in-Empty.is))

pub add_reused-requires-clause-due : goal.add_reused-requires-clause-due
add_reused-requires-clause-due g c =
    let r = c.requires.due.0 in
    (r, reuses_stored (lies (host g.D.Client.meaning g.D.Within.place g.D.Within.part) c.args.domain.now.origin) r.is_writer r.idles c.args.key c.args.value c.args.plan c.requires.due.1 c.args.keeps c.in-Reuse.at c.in-Reuse.is g.O.Opens.opens c.requires.name)

pub returns-in-Reuse-clause-made : goal.returns-in-Reuse-clause-made
returns-in-Reuse-clause-made g c r is =
    stored_reused _ _ c.args.writer.now c.args.state.now r g.O.Opens.opens c.args.key c.args.value c.args.plan c.in-Reuse.at c.args.keeps c.in-Reuse.is _ _ _
    (c.add_reused.ensures.made r (reuses_stored (lies (host g.D.Client.meaning g.D.Within.place g.D.Within.part) c.args.domain.now.origin) r.is_writer r.idles c.args.key c.args.value c.args.plan is c.args.keeps c.in-Reuse.at c.in-Reuse.is g.O.Opens.opens c.requires.name)) c.add_reused.ensures.kept

pub word_in-was-requires : goal.word_in-was-requires
word_in-was-requires g c = value_here _ _ c.args.writer.now c.args.state.now c.requires.due.0 g.O.Opens.opens c.args.key c.args.value c.args.plan c.requires.due.1 c.requires.inside c.requires.states c.in-Stand.at c.in-Stand.is

pub ask_root-requires-clause-due : goal.ask_root-requires-clause-due
ask_root-requires-clause-due g c root = may_put_ask _ _ c.args.writer.now c.args.state.now c.requires.due.0 g.O.Opens.opens c.args.key c.args.value c.args.plan c.requires.due.1 c.requires.inside c.requires.states c.in-Stand.at c.in-Stand.is (rw c.if-keeps.true at c.requires.name) root

pub returns-then-keeps-clause-made : goal.returns-then-keeps-clause-made
returns-then-keeps-clause-made g c r is =
    rw c.if-keeps.true (put_asks _ _ c.args.writer.now c.args.state.now r g.O.Opens.opens c.args.key c.args.value c.args.plan is c.requires.inside c.requires.states c.in-Stand.at c.in-Stand.is (rw c.if-keeps.true at c.requires.name) c.word_in-was.result c.word_in-was.ensures c.ask_root.result _ c.ask_root.ensures.step)

pub move_key-requires-clause-due : goal.move_key-requires-clause-due
move_key-requires-clause-due g c = may_set_move _ _ c.args.writer.now c.args.state.now c.requires.due.0 g.O.Opens.opens c.args.key c.args.value c.args.plan c.requires.due.1 c.requires.inside c.requires.states c.in-Move.to c.in-Stand.at (found_move c.in-Stand.at c.args.plan c.in-Stand.is c.in-Move.to c.in-Move.from (sym c.in-Stand.plan-is ∙ c.in-Move.is)) (rw c.if-keeps.false at c.requires.name)

pub returns-in-Move-clause-made : goal.returns-in-Move-clause-made
returns-in-Move-clause-made g c r is =
    rw c.if-keeps.false (set_move _ _ c.args.writer.now c.args.state.now r g.O.Opens.opens c.args.key c.args.value c.args.plan is c.requires.inside c.requires.states c.in-Move.to c.in-Stand.at (found_move c.in-Stand.at c.args.plan c.in-Stand.is c.in-Move.to c.in-Move.from (sym c.in-Stand.plan-is ∙ c.in-Move.is)) (rw c.if-keeps.false at c.requires.name) c.word_in-was.result c.word_in-was.ensures _ _ c.move_key.ensures.steps c.move_key.ensures.state)

pub put_word-requires-clause-due : goal.put_word-requires-clause-due
put_word-requires-clause-due g c = may_set_stand _ _ c.args.writer.now c.args.state.now c.requires.due.0 g.O.Opens.opens c.args.key c.args.value c.args.plan c.requires.due.1 c.requires.inside c.requires.states c.in-Stand.at (found_stand c.in-Stand.at c.args.plan c.in-Stand.is (λ to from e. c.in_default.not-Move to from (c.in-Stand.plan-is ∙ e))) (rw c.if-keeps.false at c.requires.name)

pub returns-in_default-clause-made : goal.returns-in_default-clause-made
returns-in_default-clause-made g c r is =
    rw c.if-keeps.false (set_stand _ _ c.args.writer.now c.args.state.now r g.O.Opens.opens c.args.key c.args.value c.args.plan is c.requires.inside c.requires.states c.in-Stand.at (found_stand c.in-Stand.at c.args.plan c.in-Stand.is (λ to from e. c.in_default.not-Move to from (c.in-Stand.plan-is ∙ e))) (rw c.if-keeps.false at c.requires.name) c.word_in-was.result c.word_in-was.ensures _ _ c.put_word.ensures.step c.put_word.ensures.state)
