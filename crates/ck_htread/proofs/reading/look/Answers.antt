use Rattle.std.proofs.Common.{refl, sym, ap, ◌∙◌, arith}
use Rattle.ck_history.specs.declared.log.Look.TheVariants.{Again}
use Rattle.ck_htread.specs.Reading.{look_result}
use Rattle.ck_htread.proofs.WholeLook.{between_answered, between_retried, one_retried, none_retried, answered, alone, found_is, stood, moved_on}
use Rattle.ck_htlaw.specs.Host.{host}
use Rattle.ck_htread.proofs.reading.look.Goals as goal

pub returns-then-loads-clause-between : goal.returns-then-loads-clause-between
returns-then-loads-clause-between g c =
    let l = c.load_look-loads in
    between_retried (host g.D.Client.meaning g.D.Within.place g.D.Within.part) c.args.domain.now.origin c.args.key c.args.pass.now.token l.new.pass.token l.result.before l.result.after l.result.found l.ensures.loads
    c.if-loads.true c.args.pass.now l.new.pass c.requires.between refl refl (let same = ap (λ q. q.tally) l.ensures.same in omega arith) (let same = ap (λ q. q.calls) l.ensures.same in omega arith)

pub returns-clause-placed : goal.returns-clause-placed
returns-clause-placed g c x is =
    let l = c.load_look-loads in
    answered (host g.D.Client.meaning g.D.Within.place g.D.Within.part) c.args.domain.now.origin c.args.key c.args.pass.now.token l.new.pass.token l.result.before l.result.after l.result.found l.ensures.loads
    (c.places_law.ensures c.args.domain.now.origin) c.if-loads.false c.set_tally.new.self.token (ap (λ q. q.token) c.set_tally.ensures) x (found_is l.result.found x (sym c.answer_of.ensures.answer ∙ is))

pub returns-clause-between : goal.returns-clause-between
returns-clause-between g c =
    let l = c.load_look-loads in
    let t = ap (λ q. q.tally) c.set_tally.ensures in let told = c.tally-answers.ensures.tally in let same = ap (λ q. q.tally) l.ensures.same in
    let n = ap (λ q. q.calls) c.set_tally.ensures in let still = ap (λ q. q.calls) l.ensures.same in
    between_answered (host g.D.Client.meaning g.D.Within.place g.D.Within.part) c.args.domain.now.origin c.args.key c.args.pass.now.token l.new.pass.token l.result.before l.result.after l.result.found l.ensures.loads
    c.if-loads.false c.args.pass.now c.set_tally.new.self c.requires.between refl (ap (λ q. q.token) c.set_tally.ensures) (omega arith) (omega arith)

pub returns-then-loads-clause-retries : goal.returns-then-loads-clause-retries
returns-then-loads-clause-retries g c =
    let l = c.load_look-loads in
    one_retried (host g.D.Client.meaning g.D.Within.place g.D.Within.part) c.args.domain.now.origin c.args.key c.args.pass.now.token l.new.pass.token l.result.before l.result.after l.result.found l.ensures.loads c.if-loads.true l.new.pass.token refl

pub returns-clause-retries : goal.returns-clause-retries
returns-clause-retries g c =
    let l = c.load_look-loads in
    rw c.answer_of.ensures.retries (none_retried (host g.D.Client.meaning g.D.Within.place g.D.Within.part) c.args.domain.now.origin c.args.key c.args.pass.now.token l.new.pass.token l.result.before l.result.after l.result.found l.ensures.loads c.if-loads.false c.set_tally.new.self.token (ap (λ q. q.token) c.set_tally.ensures))

pub returns-then-loads-clause-alone : goal.returns-then-loads-clause-alone
returns-then-loads-clause-alone g c =
    let l = c.load_look-loads in let was = c.requires.between in
    alone (host g.D.Client.meaning g.D.Within.place g.D.Within.part) c.args.domain.now.origin c.args.key c.args.pass.now.token l.new.pass.token l.result.before l.result.after l.result.found l.ensures.loads
    (c.places_law.ensures c.args.domain.now.origin) (c.table_law.ensures c.args.domain.now.origin) was.reader_state was.local was.outside l.new.pass.token refl _
    (moved_on (host g.D.Client.meaning g.D.Within.place g.D.Within.part) c.args.domain.now.origin l.result.before l.result.after (look_result l.result.found) _ c.if-loads.true)

pub returns-clause-alone : goal.returns-clause-alone
returns-clause-alone g c =
    let l = c.load_look-loads in let was = c.requires.between in
    alone (host g.D.Client.meaning g.D.Within.place g.D.Within.part) c.args.domain.now.origin c.args.key c.args.pass.now.token l.new.pass.token l.result.before l.result.after l.result.found l.ensures.loads
    (c.places_law.ensures c.args.domain.now.origin) (c.table_law.ensures c.args.domain.now.origin) was.reader_state was.local was.outside c.set_tally.new.self.token (ap (λ q. q.token) c.set_tally.ensures) _
    (c.answer_of.ensures.answer ∙ stood (host g.D.Client.meaning g.D.Within.place g.D.Within.part) c.args.domain.now.origin l.result.before l.result.after _ (Again l.result.before l.result.after) c.if-loads.false)
