use Rattle.ck_epoch.proofs.TwoRounds.{may_begin, first_scan, may_go_on, second_scan, both_state, both_rounds}
use Rattle.ck_epoch.proofs.domain.Domain.two_rounds.Goals as goal

pub load-first-requires-clause-may : goal.load-first-requires-clause-may
load-first-requires-clause-may g c n b = may_begin g.C.Client.meaning g.met.C.Client.passes c.args.token.now c.requires.free c.requires.name.0 g.O.Opens.opens c.requires.name.1 n

pub round-requires-clause-scans : goal.round-requires-clause-scans
round-requires-clause-scans g c = first_scan g.C.Client.meaning g.met.C.Client.passes c.args.token.now c.requires.free c.requires.name.0 g.O.Opens.opens c.requires.name.1
    c.load-first.new.token c.load-first.result c.load-first.ensures.step

pub load-second-requires-clause-may : goal.load-second-requires-clause-may
load-second-requires-clause-may g c n b = let s = c.round.ensures.steps in
    may_go_on g.C.Client.meaning g.met.C.Client.passes c.args.token.now c.requires.free c.requires.name.0 g.O.Opens.opens c.requires.name.1
    c.load-first.new.token c.load-first.result c.load-first.ensures.step c.round.new.token s.0 s.2 c.round.ensures.part c.round.ensures.state n

pub round-requires-2-clause-scans : goal.round-requires-2-clause-scans
round-requires-2-clause-scans g c = let s = c.round.ensures.steps in
    second_scan g.C.Client.meaning g.met.C.Client.passes c.args.token.now c.requires.free c.requires.name.0 g.O.Opens.opens c.requires.name.1
    c.load-first.new.token c.load-first.result c.load-first.ensures.step c.round.new.token s.0 s.2 c.round.ensures.part c.round.ensures.state
    c.load-second.new.token c.load-second.result c.load-second.ensures.step

pub returns-clause-steps : goal.returns-clause-steps
returns-clause-steps g c n is = let s = c.round.ensures.steps in let z = c.round-2.ensures.steps in
    both_rounds g.C.Client.meaning g.met.C.Client.passes c.args.token.now c.requires.free c.requires.name.0 g.O.Opens.opens c.requires.name.1
    c.load-first.new.token c.load-first.result c.load-first.ensures.step c.round.new.token s.0 s.2 c.round.ensures.part c.round.ensures.state
    c.load-second.new.token c.load-second.result c.load-second.ensures.step c.round-2.new.token z.0 z.2 c.round-2.ensures.state _ s.1 z.1 n is

pub returns-clause-state : goal.returns-clause-state
returns-clause-state g c all name = let s = c.round.ensures.steps in let z = c.round-2.ensures.steps in
    both_state g.C.Client.meaning g.met.C.Client.passes c.args.token.now c.requires.free all g.O.Opens.opens name
    c.load-first.new.token c.load-first.result c.load-first.ensures.step c.round.new.token s.0 s.2 c.round.ensures.part c.round.ensures.state
    c.load-second.new.token c.load-second.result c.load-second.ensures.step c.round-2.new.token z.0 z.2 c.round-2.ensures.state
