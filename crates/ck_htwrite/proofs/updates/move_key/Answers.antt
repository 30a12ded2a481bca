use Rattle.std.proofs.Common.{ap, ◌∙◌}
use Rattle.ck_htlaw.specs.Host.{host}
use Rattle.ck_htwrite.specs.declared.state.HtState.{HtState}
use Rattle.ck_htwrite.specs.Updates.{buried_lists, bumped_lists, keyed_lists, valued_lists}
use Rattle.ck_htwrite.specs.Writes.{counters_in}
use Rattle.ck_htwrite.proofs.Stores.{may_bump_again, may_bury, may_place_moved, moved}
use Rattle.ck_htwrite.proofs.updates.move_key.Goals as goal

pub place-requires-clause-due : goal.place-requires-clause-due
place-requires-clause-due g c =
    may_place_moved (host g.D.Client.meaning g.D.Within.place g.D.Within.part) c.args.domain.now.origin g.O.Opens.opens c.args.to c.args.from c.args.key c.args.value c.args.writer.now c.args.state.now c.requires.shape c.requires.due c.bump.new.writer c.bump.new.state c.bump.ensures.step c.bump.ensures.state

pub bump-requires-2-clause-due : goal.bump-requires-2-clause-due
bump-requires-2-clause-due g c =
    may_bump_again (host g.D.Client.meaning g.D.Within.place g.D.Within.part) c.args.domain.now.origin g.O.Opens.opens c.args.to c.args.from c.args.key c.args.value c.args.writer.now c.args.state.now c.requires.shape c.requires.due c.bump.new.writer c.bump.new.state c.bump.ensures.step c.bump.ensures.state
    c.place.new.writer c.place.new.state c.place.ensures.steps c.place.ensures.state

pub put_word-requires-clause-due : goal.put_word-requires-clause-due
put_word-requires-clause-due g c =
    may_bury (host g.D.Client.meaning g.D.Within.place g.D.Within.part) c.args.domain.now.origin g.O.Opens.opens c.args.to c.args.from c.args.key c.args.value c.args.writer.now c.args.state.now c.requires.shape c.requires.due c.bump.new.writer c.bump.new.state c.bump.ensures.step c.bump.ensures.state
    c.place.new.writer c.place.new.state c.place.ensures.steps c.place.ensures.state c.bump-2.new.writer c.bump-2.new.state c.bump-2.ensures.step c.bump-2.ensures.state

pub returns-clause-steps : goal.returns-clause-steps
returns-clause-steps g c =
    moved (host g.D.Client.meaning g.D.Within.place g.D.Within.part) c.args.domain.now.origin g.O.Opens.opens c.args.to c.args.from c.args.key c.args.value c.args.writer.now c.args.state.now c.requires.shape c.requires.due c.bump.new.writer c.bump.new.state c.bump.ensures.step c.bump.ensures.state
    c.place.new.writer c.place.new.state c.place.ensures.steps c.place.ensures.state c.bump-2.new.writer c.bump-2.new.state c.bump-2.ensures.step c.bump-2.ensures.state c.put_word.new.writer c.put_word.ensures.step

pub returns-clause-state : goal.returns-clause-state
returns-clause-state g c =
    let n = counters_in (host g.D.Client.meaning g.D.Within.place g.D.Within.part) c.args.domain.now.origin in
    c.put_word.ensures.state ∙ ap (λ (z : HtState). buried_lists z c.args.from) (c.bump-2.ensures.state ∙ ap (λ (z : HtState). bumped_lists n z) (c.place.ensures.state ∙ ap (λ (z : HtState). keyed_lists (valued_lists z c.args.to c.args.value) c.args.to c.args.key) c.bump.ensures.state))
