use Rattle.std.proofs.Common.{length, ap, ◌∙◌}
use Rattle.ck_epoch.specs.State.{state}
use Rattle.ck_epoch.specs.Ends.{Writer}
use Rattle.ck_epoch.proofs.Emptying.{row_length}
use Rattle.ck_epoch.proofs.ends.Writer.pending.Goals as goal

pub returns : goal.returns
returns g c = c.pending.ensures ∙ (row_length c.self.inside.backlog.lists (state c.self.inside.token).pending c.self.invariant.0.pending
    ∙ ap (λ (v : Writer g.row.C.Denot g.row.F.Denot). length (state v.token).pending) c.self.view_is)
