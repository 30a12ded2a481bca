use Rattle.ck_pool.proofs.Running.{wait_ran}
use Rattle.ck_pool.proofs.query_lines.run_line.Goals as goal

pub returns-in-Wait-clause-ran : goal.returns-in-Wait-clause-ran
returns-in-Wait-clause-ran g c =
    let load = c.reached.ensures in
    rw c.is_ok.ensures.value (wait_ran c.args.line.now c.in-Wait.n c.reached.result _ _ c.args.answers.now.items _ _ c.in-Wait.is load.done load.calls)
