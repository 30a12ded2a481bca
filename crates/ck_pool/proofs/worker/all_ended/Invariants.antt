use Rattle.std.proofs.Common.{◌≡◌, ◌<◌, ℕ, Some, None}
use Rattle.std.specs.Prelude.{slice_get}
use Rattle.ck_pool.specs.declared.query_run.QueryRun.{QueryRun}
use Rattle.ck_pool.proofs.worker.all_ended.Given as goal

abbrev pub invariant-loop-run : goal.invariant-loop-run
invariant-loop-run g l = (k : ℕ) (r : QueryRun g.row.E.Denot g.row.B.Denot) → k < l.run-index → slice_get l.runs k ≡ Some r → r.waits_at ≡ None
