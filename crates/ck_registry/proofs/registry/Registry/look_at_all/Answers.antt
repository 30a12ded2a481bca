use Rattle.std.proofs.Common.{rules, ◌≡◌, Some, None, ◌∙◌, subst}
use Rattle.ck_registry.specs.Scan.{HasLookedAt}
use Rattle.ck_registry.proofs.ScanSteps.{end_record, clear, all_current}
use Rattle.ck_registry.proofs.registry.Registry.look_at_all.Goals as goal

pub look-requires-clause-scanning : goal.look-requires-clause-scanning
look-requires-clause-scanning c = (c.requires.scanning.0, c.loop-rec.invariant.outcome c.requires.scanning.0 c.requires.scanning.1)

pub returns-in-Err-clause-outcome : goal.returns-in-Err-clause-outcome
returns-in-Err-clause-outcome c t at = c.in-Err.ensures.outcome t (c.loop-rec.invariant.outcome t at)

pub returns-in-None-clause-outcome : goal.returns-in-None-clause-outcome
returns-in-None-clause-outcome c t at =
    let u = c.loop-rec.token in
    let all : c.loop-rec.rec ≡ c.self.inside.records = search rules in
    let quiet = subst (HasLookedAt t u c.args.epoch c.loop-rec.rec) c.in-None.is (c.loop-rec.invariant.outcome t at) in
    clear t u c.args.epoch (end_record t u c.args.epoch c.loop-rec.rec c.self.inside.records None c.self.inside.words c.args.self.now quiet (c.loop-rec.invariant.same ∙ c.requires.table) c.self.view_is c.self.invariant.told all)

pub returns-in-Some-clause-outcome : goal.returns-in-Some-clause-outcome
returns-in-Some-clause-outcome c t at =
    let u = c.loop-rec.token in
    let all : c.loop-rec.rec ≡ c.self.inside.records = search rules in
    let busy = subst (HasLookedAt t u c.args.epoch c.loop-rec.rec) c.in-Some.is (c.loop-rec.invariant.outcome t at) in
    all_current t u c.args.epoch c.in-Some.rec (end_record t u c.args.epoch c.loop-rec.rec c.self.inside.records (Some c.in-Some.rec) c.self.inside.words c.args.self.now busy (c.loop-rec.invariant.same ∙ c.requires.table) c.self.view_is c.self.invariant.told all)
