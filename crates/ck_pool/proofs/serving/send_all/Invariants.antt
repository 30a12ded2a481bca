use Rattle.std.proofs.Common.{◌≡◌}
use Rattle.ck_run.specs.Tokens.{table}
use Rattle.ck_ring.specs.State.{state}
use Rattle.ck_pool.specs.Working.{numbers_below}
use Rattle.ck_pool.proofs.serving.send_all.Given as goal

abbrev pub invariant-loop-file : goal.invariant-loop-file
invariant-loop-file l = record {
  table_is : table l.producer ≡ l.ring;
  calls : (state l.producer).calls ≡ l.file;
  sent : (state l.producer).sent ≡ numbers_below l.file;
}
