use Rattle.std.proofs.Common.{◌+◌, ◌∙◌}
use Rattle.ck_registry.specs.declared.answers.Finding.TheVariants.{AllInactive, AllCurrent, OneBehind}
use Rattle.ck_registry.specs.declared.answers.Scan.TheVariants.{Clear, Blocked, Ready}
use Rattle.ck_registry.proofs.Scanned.{scan_holder, scan_counts, ready_scan, blocked_scan, clear_scan, ready_deferred, blocked_deferred, clear_deferred, told_same, told_section, told_scan}
use Rattle.ck_registry.proofs.registry.Registry.scan.Goals as goal

pub invariant_of-m : goal.invariant_of-m
invariant_of-m c =
    let t = c.m.inside.token in let u = c.look_at_all.new.token in let e = c.start_scan-epoch.result in let b = c.m.inside.deferred in let first = c.dispatch_list-before in
    let s = c.in-AllInactive.ensures.outcome t c.start_scan-epoch.ensures.scanning in (
      scan_holder t u e AllInactive c.m.inside.rec c.m.inside.depth s c.m.invariant.0,
      clear_deferred t u e c.start_scan-epoch.ensures.late b first.new.self c.m.invariant.1 first.ensures.lists first.ensures.waiting 0 0 0 0 s c.dispatch_all-rest.new.self c.dispatch_all-rest.ensures.lists c.dispatch_all-rest.ensures.waiting,
      scan_counts t u e AllInactive c.m.inside.calls s c.m.invariant.2,
    )

pub invariant_of-m-in-AllCurrent : goal.invariant_of-m-in-AllCurrent
invariant_of-m-in-AllCurrent c =
    let t = c.m.inside.token in let u = c.look_at_all.new.token in let e = c.start_scan-epoch.result in let b = c.m.inside.deferred in let first = c.dispatch_list-before in
    let s = c.in-AllCurrent.ensures.outcome t c.start_scan-epoch.ensures.scanning in (
      scan_holder t u e (AllCurrent c.in-AllCurrent.rec) c.m.inside.rec c.m.inside.depth s c.m.invariant.0,
      ready_deferred t u e c.start_scan-epoch.ensures.late b first.new.self c.m.invariant.1 first.ensures.lists first.ensures.waiting 0 0 0 0 c.in-AllCurrent.rec s,
      scan_counts t u e (AllCurrent c.in-AllCurrent.rec) c.m.inside.calls s c.m.invariant.2,
    )

pub invariant_of-m-in-OneBehind : goal.invariant_of-m-in-OneBehind
invariant_of-m-in-OneBehind c =
    let t = c.m.inside.token in let u = c.look_at_all.new.token in let e = c.start_scan-epoch.result in let b = c.m.inside.deferred in let first = c.dispatch_list-before in
    let s = c.in-OneBehind.ensures.outcome t c.start_scan-epoch.ensures.scanning in (
      scan_holder t u e (OneBehind c.in-OneBehind.rec c.in-OneBehind.epoch) c.m.inside.rec c.m.inside.depth s c.m.invariant.0,
      blocked_deferred t u e c.start_scan-epoch.ensures.late b first.new.self c.m.invariant.1 first.ensures.lists first.ensures.waiting 0 0 0 0 c.in-OneBehind.rec c.in-OneBehind.epoch s,
      scan_counts t u e (OneBehind c.in-OneBehind.rec c.in-OneBehind.epoch) c.m.inside.calls s c.m.invariant.2,
    )

pub returns-in-AllInactive-clause-scan : goal.returns-in-AllInactive-clause-scan
returns-in-AllInactive-clause-scan c =
    let t = c.m.inside.token in let u = c.look_at_all.new.token in let e = c.start_scan-epoch.result in let b = c.m.inside.deferred in let first = c.dispatch_list-before in let rest = c.dispatch_all-rest in
    let s = c.in-AllInactive.ensures.outcome t c.start_scan-epoch.ensures.scanning in (
      e,
      told_scan c.m.view_is c.requires.table e (Clear (first.result + rest.result)) _ (clear_scan t u e c.start_scan-epoch.ensures.late b first.new.self c.m.invariant.1 first.ensures.lists first.ensures.waiting c.m.inside.calls (c.m.inside.calls + 1) b.room rest.new.self.room s rest.new.self rest.ensures.lists rest.ensures.waiting first.result rest.result first.ensures.count rest.ensures.count),
    )

pub returns-in-AllCurrent-clause-scan : goal.returns-in-AllCurrent-clause-scan
returns-in-AllCurrent-clause-scan c =
    let t = c.m.inside.token in let u = c.look_at_all.new.token in let e = c.start_scan-epoch.result in let b = c.m.inside.deferred in let first = c.dispatch_list-before in
    let s = c.in-AllCurrent.ensures.outcome t c.start_scan-epoch.ensures.scanning in (
      e,
      told_scan c.m.view_is c.requires.table e (Ready first.result c.in-AllCurrent.rec e) _ (ready_scan t u e c.start_scan-epoch.ensures.late b first.new.self c.m.invariant.1 first.ensures.lists first.ensures.waiting c.m.inside.calls (c.m.inside.calls + 1) b.room first.new.self.room first.result first.ensures.count c.in-AllCurrent.rec s),
    )

pub returns-in-OneBehind-clause-scan : goal.returns-in-OneBehind-clause-scan
returns-in-OneBehind-clause-scan c =
    let t = c.m.inside.token in let u = c.look_at_all.new.token in let e = c.start_scan-epoch.result in let b = c.m.inside.deferred in let first = c.dispatch_list-before in
    let s = c.in-OneBehind.ensures.outcome t c.start_scan-epoch.ensures.scanning in (
      e,
      told_scan c.m.view_is c.requires.table e (Blocked first.result c.in-OneBehind.rec c.in-OneBehind.epoch) _ (blocked_scan t u e c.start_scan-epoch.ensures.late b first.new.self c.m.invariant.1 first.ensures.lists first.ensures.waiting c.m.inside.calls (c.m.inside.calls + 1) b.room first.new.self.room first.result first.ensures.count c.in-OneBehind.rec c.in-OneBehind.epoch s),
    )

pub returns-in-AllInactive-clause-same : goal.returns-in-AllInactive-clause-same
returns-in-AllInactive-clause-same c =
    told_same c.m.view_is c.look_at_all.new.token c.start_scan-epoch.result AllInactive _ (c.in-AllInactive.ensures.outcome c.m.inside.token c.start_scan-epoch.ensures.scanning) (c.look_at_all.ensures.table ∙ c.start_scan-epoch.ensures.table) (c.dispatch_all-rest.ensures.room ∙ c.dispatch_list-before.ensures.room)

pub returns-in-AllInactive-clause-depth : goal.returns-in-AllInactive-clause-depth
returns-in-AllInactive-clause-depth c = told_section c.m.view_is c.look_at_all.new.token c.start_scan-epoch.result AllInactive (c.in-AllInactive.ensures.outcome c.m.inside.token c.start_scan-epoch.ensures.scanning)

pub returns-in-AllInactive-clause-part : goal.returns-in-AllInactive-clause-part
returns-in-AllInactive-clause-part c = (c.in-AllInactive.ensures.outcome c.m.inside.token c.start_scan-epoch.ensures.scanning).at.part

pub returns-in-AllCurrent-clause-same : goal.returns-in-AllCurrent-clause-same
returns-in-AllCurrent-clause-same c =
    told_same c.m.view_is c.look_at_all.new.token c.start_scan-epoch.result (AllCurrent c.in-AllCurrent.rec) _ (c.in-AllCurrent.ensures.outcome c.m.inside.token c.start_scan-epoch.ensures.scanning) (c.look_at_all.ensures.table ∙ c.start_scan-epoch.ensures.table) c.dispatch_list-before.ensures.room

pub returns-in-AllCurrent-clause-depth : goal.returns-in-AllCurrent-clause-depth
returns-in-AllCurrent-clause-depth c = told_section c.m.view_is c.look_at_all.new.token c.start_scan-epoch.result (AllCurrent c.in-AllCurrent.rec) (c.in-AllCurrent.ensures.outcome c.m.inside.token c.start_scan-epoch.ensures.scanning)

pub returns-in-AllCurrent-clause-part : goal.returns-in-AllCurrent-clause-part
returns-in-AllCurrent-clause-part c = (c.in-AllCurrent.ensures.outcome c.m.inside.token c.start_scan-epoch.ensures.scanning).at.part

pub returns-in-OneBehind-clause-same : goal.returns-in-OneBehind-clause-same
returns-in-OneBehind-clause-same c =
    told_same c.m.view_is c.look_at_all.new.token c.start_scan-epoch.result (OneBehind c.in-OneBehind.rec c.in-OneBehind.epoch) _ (c.in-OneBehind.ensures.outcome c.m.inside.token c.start_scan-epoch.ensures.scanning) (c.look_at_all.ensures.table ∙ c.start_scan-epoch.ensures.table) c.dispatch_list-before.ensures.room

pub returns-in-OneBehind-clause-depth : goal.returns-in-OneBehind-clause-depth
returns-in-OneBehind-clause-depth c = told_section c.m.view_is c.look_at_all.new.token c.start_scan-epoch.result (OneBehind c.in-OneBehind.rec c.in-OneBehind.epoch) (c.in-OneBehind.ensures.outcome c.m.inside.token c.start_scan-epoch.ensures.scanning)

pub returns-in-OneBehind-clause-part : goal.returns-in-OneBehind-clause-part
returns-in-OneBehind-clause-part c = (c.in-OneBehind.ensures.outcome c.m.inside.token c.start_scan-epoch.ensures.scanning).at.part
