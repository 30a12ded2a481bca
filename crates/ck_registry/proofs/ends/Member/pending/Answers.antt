use Rattle.std.proofs.Common.{length, ap, ◌∙◌}
use Rattle.ck_registry.specs.State.{state}
use Rattle.ck_registry.specs.Ends.{Member}
use Rattle.ck_epoch.proofs.Emptying.{row_length}
use Rattle.ck_registry.proofs.ends.Member.pending.Goals as goal

pub returns : goal.returns
returns c = c.pending.ensures ∙ (row_length c.self.inside.deferred.lists (state c.self.inside.token).pending c.self.invariant.1.pending ∙ ap (λ (m : Member). length (state m.token).pending) c.self.view_is)
