use Rattle.std.proofs.Common.{◌≡◌, ◌+◌, ◌≤◌, eqb, length}
use Rattle.std.specs.List.{count_by}
use Rattle.ck_text.proofs.parts.count_feeds.Given as goal

-- the line feeds that were counted and those of the rest are all
abbrev pub invariant-loop-rest : goal.invariant-loop-rest
invariant-loop-rest l = record {
  all : l.count + count_by (λ b. eqb b 10) l.rest ≡ count_by (λ b. eqb b 10) l.bytes;
  within : l.count + length l.rest ≤ length l.bytes;
}

abbrev pub decreases-loop-rest : goal.decreases-loop-rest
decreases-loop-rest l = length l.rest
