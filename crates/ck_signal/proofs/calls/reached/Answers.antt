use Rattle.std.proofs.Common.{ap}
use Rattle.ck_signal.proofs.Steps.{has_seen}
use Rattle.ck_signal.proofs.calls.reached.Goals as goal

pub returns-then-found-n-clause-seen : goal.returns-then-found-n-clause-seen
returns-then-found-n-clause-seen g c =
    has_seen g.C.Client.meaning g.met.C.Client.grows g.met.C.Client.rises c.args.pass.now.token c.load_applied-found.new.pass.token c.args.domain.now c.args.n c.load_applied-found.result
    c.requires.table c.load_applied-found.ensures.part c.if-found-n.true (ap (λ p. p.token) c.load_applied-found.ensures.step)
