use Rattle.std.proofs.Common.{◌≡◌}
use Rattle.ck_run.specs.Tokens.{table}
use Rattle.ck_epoch.specs.State.{Token}
use Rattle.ck_epoch.specs.Scan.{IsScanning}
use Rattle.ck_epoch.proofs.domain.Domain.scan.Given as goal

abbrev pub invariant-loop-rec : goal.invariant-loop-rec
invariant-loop-rec g l = record {
  same : table l.token ≡ table l.initial.token;
  outcome : (t : Token g.row.C.Denot) → IsScanning g.C.Client.meaning t l.initial.token l.epoch 0 l.initial.first → IsScanning g.C.Client.meaning t l.token l.epoch l.rec l.first;
}
