use Rattle.ck_run.proofs.Moments.{holds_along, run_before}
use Rattle.ck_run.proofs.laws.holds_along_law.Goals as goal

pub returns : goal.returns
returns g c origin past rest run =
    let claim = g.I.Invariant.claim in
    holds_along claim.machine claim.Holds c.requires.first c.requires.kept origin past (run_before claim.machine origin past rest run)
