use Rattle.std.proofs.Common.{◌∙◌, ap}
use Rattle.ck_signal.specs.Words.{applied_word}
use Rattle.ck_signal.proofs.Steps.{may_reach}
use Rattle.ck_signal.proofs.calls.load_applied.Goals as goal

pub read-requires-clause-client : goal.read-requires-clause-client
read-requires-clause-client g c reading n _ =
    may_reach g.C.Client.meaning c.args.pass.now.token c.args.domain.now.origin (ap (λ w. w.origin) c.requires.table) c.applied_word.result g.met.C.Client.passes g.O.Opens.opens c.args.wanted n c.requires.name
    (c.applied_word.ensures ∙ ap (λ s. applied_word (g.C.Client.meaning.size s.client)) c.client.ensures.same) reading
