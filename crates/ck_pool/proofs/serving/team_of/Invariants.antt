use Rattle.std.proofs.Common.{◌≡◌, ◌+◌, All, vec_len}
use Rattle.ck_run.specs.Tokens.{table}
use Rattle.ck_ring.specs.State.{state}
use Rattle.ck_pool.specs.Desk.{IsClerkOf}
use Rattle.ck_pool.specs.Working.{IsWorker}
use Rattle.ck_pool.proofs.serving.team_of.Given as goal

abbrev pub invariant-loop-consumer : goal.invariant-loop-consumer
invariant-loop-consumer g l = record {
  clerk : IsClerkOf l.desk l.clerk;
  took : l.clerk.known.took ≡ l.fn.clerk.known.took;
  parts : l.clerk.known.parts + vec_len l.team ≡ l.fn.clerk.known.parts;
  len : vec_len l.team + vec_len l.left ≡ vec_len l.fn.consumers;
  left : All (λ c. (table c ≡ l.ring) × ((state c).calls ≡ 0)) l.left.items;
  each : All (IsWorker l.desk l.ring) l.team.items;
}

abbrev pub decreases-loop-consumer : goal.decreases-loop-consumer
decreases-loop-consumer g l = vec_len l.left
