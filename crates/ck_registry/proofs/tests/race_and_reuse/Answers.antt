use Rattle.std.proofs.Common.{◌∙◌, arith}
use Rattle.ck_registry.proofs.tests.race_and_reuse.Goals as goal

pub reuse-requires-clause-tables : goal.reuse-requires-clause-tables
reuse-requires-clause-tables c = (c.race-race.ensures.a.0 ∙ c.in_ok-a.ensures.member.0, c.race-race.ensures.b.0 ∙ c.in_ok-b.ensures.member.0, c.in_ok-c.ensures.visitor.0)

pub reuse-requires-clause-calls : goal.reuse-requires-clause-calls
reuse-requires-clause-calls c =
    let a = c.race-race.ensures.a.3 in let b = c.race-race.ensures.b.3 in
    let first = c.in_ok-a.ensures.member.1 in let second = c.in_ok-b.ensures.member.1 in let third = c.in_ok-c.ensures.visitor.1 in
    (omega arith, omega arith, omega arith)

pub reuse-requires-clause-room : goal.reuse-requires-clause-room
reuse-requires-clause-room c = c.race-race.ensures.a.2 ∙ c.in_ok-a.ensures.member.2
