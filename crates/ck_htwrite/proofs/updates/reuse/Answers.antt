use Rattle.std.proofs.Common.{◌+◌, ◌-◌, [], ap, ◌∙◌}
use Rattle.ck_htlaw.specs.Host.{host}
use Rattle.ck_htwrite.specs.declared.state.HtState.{HtState}
use Rattle.ck_htwrite.specs.Updates.{keyed_lists, valued_lists}
use Rattle.ck_htwrite.proofs.Stores.{may_place, reused}
use Rattle.ck_htwrite.proofs.updates.reuse.Goals as goal

pub place-requires-clause-due : goal.place-requires-clause-due
place-requires-clause-due g c = may_place (host g.D.Client.meaning g.D.Within.place g.D.Within.part) c.args.domain.now.origin g.O.Opens.opens c.args.at c.args.key c.args.value [] c.args.writer.now c.args.state.now c.requires.due c.bump.new.writer c.bump.new.state c.bump.ensures.step c.bump.ensures.state

pub returns-clause-steps : goal.returns-clause-steps
returns-clause-steps g c = reused (host g.D.Client.meaning g.D.Within.place g.D.Within.part) c.args.domain.now.origin g.O.Opens.opens c.args.at c.args.key c.args.value [] c.args.writer.now c.args.state.now c.requires.due c.bump.new.writer c.bump.new.state c.bump.ensures.step c.bump.ensures.state c.place.new.writer c.place.ensures.steps

pub returns-clause-state : goal.returns-clause-state
returns-clause-state g c = ap (λ (z : HtState). record z { keys = z.keys + 1; tombstones = z.tombstones - 1 }) (c.place.ensures.state ∙ ap (λ (z : HtState). keyed_lists (valued_lists z c.args.at c.args.value) c.args.at c.args.key) c.bump.ensures.state)
