use Rattle.std.proofs.Common.{◌∙◌, ap}
use Rattle.ck_signal.specs.Words.{answered_word}
use Rattle.ck_signal.proofs.Steps.{may_ask}
use Rattle.ck_signal.proofs.calls.load_answered.Goals as goal

pub ask-requires-clause-client : goal.ask-requires-clause-client
ask-requires-clause-client g c writing n _ =
    may_ask g.C.Client.meaning c.args.writer.now.token c.args.domain.now.origin (ap (λ w. w.origin) c.requires.table) c.answered_word.result g.met.C.Client.passes g.O.Opens.opens c.args.reader n c.requires.reader
    c.requires.name (c.answered_word.ensures ∙ ap (λ s. answered_word (g.C.Client.meaning.size s.client) c.args.reader) c.client.ensures.same) writing
