use Rattle.std.proofs.Common.{◌+◌, ◌-◌, ap, ◌∙◌}
use Rattle.ck_htlaw.specs.Host.{host}
use Rattle.ck_htwrite.specs.declared.state.HtState.{HtState}
use Rattle.ck_htwrite.specs.Updates.{bumped_lists}
use Rattle.ck_htwrite.specs.Writes.{counters_in}
use Rattle.ck_htwrite.proofs.Stores.{may_bump_after, removed}
use Rattle.ck_htwrite.proofs.updates.delete.Goals as goal

pub bump-requires-clause-due : goal.bump-requires-clause-due
bump-requires-clause-due g c = may_bump_after (host g.D.Client.meaning g.D.Within.place g.D.Within.part) c.args.domain.now.origin g.O.Opens.opens c.args.at c.args.writer.now c.args.state.now c.put_word.new.writer c.put_word.new.state c.put_word.ensures.step c.put_word.ensures.state c.requires.due

pub returns-clause-steps : goal.returns-clause-steps
returns-clause-steps g c = removed (host g.D.Client.meaning g.D.Within.place g.D.Within.part) c.args.domain.now.origin g.O.Opens.opens c.args.at c.args.writer.now c.args.state.now c.put_word.new.writer c.put_word.new.state c.put_word.ensures.step c.put_word.ensures.state c.bump.new.writer c.bump.ensures.step

pub returns-clause-state : goal.returns-clause-state
returns-clause-state g c =
    let n = counters_in (host g.D.Client.meaning g.D.Within.place g.D.Within.part) c.args.domain.now.origin in
    ap (λ (z : HtState). record z { keys = z.keys - 1; tombstones = z.tombstones + 1 }) (c.bump.ensures.state ∙ ap (λ (z : HtState). bumped_lists n z) c.put_word.ensures.state)
