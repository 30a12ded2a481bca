use Rattle.std.proofs.Common.{rules, ◌≡◌, Some, None, ◌∙◌, subst}
use Rattle.ck_epoch.specs.Scan.{IsScanning}
use Rattle.ck_epoch.proofs.Polling.{end_record, clear, may_raise, raised}
use Rattle.ck_epoch.proofs.domain.Domain.scan.Goals as goal

pub look-requires-clause-scanning : goal.look-requires-clause-scanning
look-requires-clause-scanning g c = (c.requires.scanning.0, c.loop-rec.invariant.outcome c.requires.scanning.0 c.requires.scanning.1)

pub returns-in-Err-clause-outcome : goal.returns-in-Err-clause-outcome
returns-in-Err-clause-outcome g c t at = c.in-Err.ensures.outcome t (c.loop-rec.invariant.outcome t at)

pub exchange-requires-clause-may : goal.exchange-requires-clause-may
exchange-requires-clause-may g c n fits =
    let meaning = g.C.Client.meaning in let t = c.requires.scanning.0 in let u = c.loop-rec.token in
    let all : c.loop-rec.rec ≡ c.self.inside.about.records = search rules in
    let busy = subst (IsScanning meaning t u c.args.epoch c.loop-rec.rec) c.in-Some.is (c.loop-rec.invariant.outcome t c.requires.scanning.1) in
    may_raise meaning g.met.C.Client.passes t u c.args.epoch c.in-Some.rec
    (end_record meaning t u c.args.epoch c.loop-rec.rec (Some c.in-Some.rec) c.self.inside.words c.args.self.now c.self.inside.about busy (c.loop-rec.invariant.same ∙ c.requires.table) c.self.view_is c.self.invariant.told all) n

pub returns-in-None-clause-outcome : goal.returns-in-None-clause-outcome
returns-in-None-clause-outcome g c t at =
    let meaning = g.C.Client.meaning in let u = c.loop-rec.token in
    let all : c.loop-rec.rec ≡ c.self.inside.about.records = search rules in
    let quiet = subst (IsScanning meaning t u c.args.epoch c.loop-rec.rec) c.in-None.is (c.loop-rec.invariant.outcome t at) in
    clear meaning g.met.C.Client.passes t u c.args.epoch
    (end_record meaning t u c.args.epoch c.loop-rec.rec None c.self.inside.words c.args.self.now c.self.inside.about quiet (c.loop-rec.invariant.same ∙ c.requires.table) c.self.view_is c.self.invariant.told all)

pub returns-in-Some-clause-outcome : goal.returns-in-Some-clause-outcome
returns-in-Some-clause-outcome g c t at =
    let meaning = g.C.Client.meaning in let u = c.loop-rec.token in
    let all : c.loop-rec.rec ≡ c.self.inside.about.records = search rules in
    let busy = subst (IsScanning meaning t u c.args.epoch c.loop-rec.rec) c.in-Some.is (c.loop-rec.invariant.outcome t at) in
    raised meaning g.met.C.Client.passes t u c.args.epoch c.in-Some.rec
    (end_record meaning t u c.args.epoch c.loop-rec.rec (Some c.in-Some.rec) c.self.inside.words c.args.self.now c.self.inside.about busy (c.loop-rec.invariant.same ∙ c.requires.table) c.self.view_is c.self.invariant.told all)
    c.exchange.new.token c.exchange.result c.exchange.ensures.step
