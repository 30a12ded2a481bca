use Rattle.std.proofs.Common.{ap}
use Rattle.ck_run.specs.Tokens.{table}
use Rattle.ck_jobs.proofs.Ends.{kept_writer}
use Rattle.ck_jobs.proofs.on_array.OnArrayDict.update.Goals as goal

pub returns-clause-ready : goal.returns-clause-ready
returns-clause-ready g c =
    let same = c.mark.ensures.step in
    kept_writer _ _ _ _ c.args.self.now.array c.make_surely-reply.new.hand.writer c.mark.new.w.writer (ap (λ w. table w.token) same) (ap (λ w. w.handler) same) c.make_surely-reply.ensures.writer
