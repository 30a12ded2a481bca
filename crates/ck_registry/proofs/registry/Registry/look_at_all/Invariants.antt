use Rattle.std.proofs.Common.{◌≡◌}
use Rattle.ck_run.specs.Tokens.{table}
use Rattle.ck_registry.specs.State.{Token}
use Rattle.ck_registry.specs.Scan.{HasLookedAt}
use Rattle.ck_registry.proofs.registry.Registry.look_at_all.Given as goal

abbrev pub invariant-loop-rec : goal.invariant-loop-rec
invariant-loop-rec l = record {
  same : table l.token ≡ table l.initial.token;
  outcome : (t : Token) → HasLookedAt t l.initial.token l.epoch 0 l.initial.first → HasLookedAt t l.token l.epoch l.rec l.first;
}
