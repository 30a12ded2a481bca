use Rattle.std.proofs.Common.{◌<◌, ◌∙◌, ap, sym, subst, arith}
use Rattle.ck_signal.specs.Words.{answered_word}
use Rattle.ck_signal.proofs.Steps.{is_reader, may_note}
use Rattle.ck_signal.proofs.calls.note.Goals as goal

pub answered_word-word-requires-clause-record : goal.answered_word-word-requires-clause-record
answered_word-word-requires-clause-record g c =
    subst (λ s. c.rec.result < s.records) (sym c.client.ensures.same)
    (is_reader g.C.Client.meaning c.args.pass.now.token c.args.domain.now.origin (ap (λ w. w.origin) c.requires.table) 0 c.requires.records c.rec.result c.rec.ensures.rec c.rec.ensures.reading)

pub tell-requires-clause-word : goal.tell-requires-clause-word
tell-requires-clause-word g c =
    let low = is_reader g.C.Client.meaning c.args.pass.now.token c.args.domain.now.origin (ap (λ w. w.origin) c.requires.table) 0 c.requires.records c.rec.result c.rec.ensures.rec c.rec.ensures.reading in
    let word = c.answered_word-word.ensures ∙ ap (λ s. answered_word (g.C.Client.meaning.size s.client) c.rec.result) c.client.ensures.same in
    omega arith

pub tell-requires-clause-client : goal.tell-requires-clause-client
tell-requires-clause-client g c reading =
    may_note g.C.Client.meaning c.args.pass.now.token c.args.domain.now.origin (ap (λ w. w.origin) c.requires.table) c.answered_word-word.result g.met.C.Client.passes c.requires.records
    c.rec.result c.tally-answers.result c.rec.ensures.rec (c.answered_word-word.ensures ∙ ap (λ s. answered_word (g.C.Client.meaning.size s.client) c.rec.result) c.client.ensures.same)
    (c.tally-answers.ensures.tally ∙ c.requires.tally) reading
