use Rattle.std.proofs.Common.{ap}
use Rattle.ck_jobs.proofs.Ends.{kept_writer}
use Rattle.ck_jobs.proofs.on_ht.OnHt.make_surely.Goals as goal

pub make-requires-2-clause-writer : goal.make-requires-2-clause-writer
make-requires-2-clause-writer g c =
    let e = c.barrier-regions.ensures in
    kept_writer _ _ _ _ c.args.self.now.table c.make.new.hand.writer c.barrier-regions.new.w.writer e.table (ap (λ w. w.handler) e.same) c.make.ensures.writer
