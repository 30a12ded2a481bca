use Rattle.ck_run.proofs.Moments.{run_before, at_step}
use Rattle.ck_run.proofs.laws.each_step_law.Goals as goal

pub returns-clause-allowed : goal.returns-clause-allowed
returns-clause-allowed g c origin past rest n e run = at_step g.I.Invariant.claim.machine origin past rest n e run

pub returns-clause-begins : goal.returns-clause-begins
returns-clause-begins g c origin past rest run = run_before g.I.Invariant.claim.machine origin past rest run
