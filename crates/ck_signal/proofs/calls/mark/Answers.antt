use Rattle.std.proofs.Common.{◌∙◌, ap}
use Rattle.ck_signal.specs.Words.{applied_word}
use Rattle.ck_signal.proofs.Steps.{may_mark}
use Rattle.ck_signal.proofs.calls.mark.Goals as goal

pub write-requires-clause-client : goal.write-requires-clause-client
write-requires-clause-client g c writing =
    may_mark g.C.Client.meaning c.args.writer.now.token c.args.domain.now.origin (ap (λ w. w.origin) c.requires.table) c.applied_word.result g.met.C.Client.passes c.tally-updates.result
    (c.applied_word.ensures ∙ ap (λ s. applied_word (g.C.Client.meaning.size s.client)) c.client.ensures.same) (c.tally-updates.ensures.tally ∙ c.requires.tally) writing
