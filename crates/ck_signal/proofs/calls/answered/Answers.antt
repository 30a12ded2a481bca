use Rattle.std.proofs.Common.{ap}
use Rattle.ck_signal.proofs.Steps.{has_been_told}
use Rattle.ck_signal.proofs.calls.answered.Goals as goal

pub returns-clause-places : goal.returns-clause-places
returns-clause-places g c =
    has_been_told g.C.Client.meaning g.met.C.Client.grows g.met.C.Client.rises c.args.writer.now.token c.load_answered.new.writer.token c.args.domain.now c.args.reader c.load_answered.result
    c.requires.table c.requires.reader c.load_answered.ensures.part (ap (λ w. w.token) c.load_answered.ensures.step)
