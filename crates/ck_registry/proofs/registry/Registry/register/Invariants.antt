use Rattle.std.proofs.Common.{◌≡◌}
use Rattle.ck_run.specs.Tokens.{table}
use Rattle.ck_registry.specs.Scan.{opens_at, IsTrying}
use Rattle.ck_registry.proofs.registry.Registry.register.Given as goal

abbrev pub ghosts-try_record : goal.ghosts-try_record
ghosts-try_record a = record { opens = opens_at a.rec }

abbrev pub invariant-loop-rec : goal.invariant-loop-rec
invariant-loop-rec l = record {
  same : table l.token ≡ table l.initial.token;
  trying : IsTrying l.initial.token l.token l.rec;
}
