use Rattle.std.proofs.Common.{◌≡◌, take, eqb}
use Rattle.std.specs.List.{count_by}
use Rattle.ck_text.proofs.parts.count_few_feeds.Given as goal

-- the line feeds so far
abbrev pub invariant-loop-b : goal.invariant-loop-b
invariant-loop-b l = l.count ≡ count_by (λ b. eqb b 10) (take l.b-index l.bytes)
