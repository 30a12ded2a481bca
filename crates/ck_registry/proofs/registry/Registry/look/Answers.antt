use Rattle.std.proofs.Common.{ℕ, ◌+◌, Some, sym, ap, ◌∙◌, subst}
use Rattle.ck_registry.specs.Scan.{HasLookedAt}
use Rattle.ck_epoch.proofs.Looks.{first_is}
use Rattle.ck_registry.proofs.ScanSteps.{low_record, may_see, inactive, may_compare, current, behind}
use Rattle.ck_registry.proofs.registry.Registry.look.Goals as goal

pub load-active-requires-clause-may : goal.load-active-requires-clause-may
load-active-requires-clause-may c n fits =
    let t = c.requires.scanning.0 in let u = c.args.token.now in let at = c.requires.scanning.1 in
    may_see t u c.args.epoch c.args.rec c.args.first at (low_record t u c.args.epoch c.args.rec c.args.first c.args.self.now at c.requires.table c.requires.rec) c.active_word.result n c.active_word.ensures

pub returns-then-active-eq0-clause-outcome : goal.returns-then-active-eq0-clause-outcome
returns-then-active-eq0-clause-outcome c t at =
    let u = c.args.token.now in
    inactive t u c.args.epoch c.args.rec c.args.first at (low_record t u c.args.epoch c.args.rec c.args.first c.args.self.now at c.requires.table c.requires.rec) c.load-active.new.token c.active_word.result c.load-active.result c.active_word.ensures c.load-active.ensures.step c.if-active-eq0.true

pub load-found-requires-clause-may : goal.load-found-requires-clause-may
load-found-requires-clause-may c n fits =
    let t = c.requires.scanning.0 in let u = c.args.token.now in let at = c.requires.scanning.1 in
    may_compare t u c.args.epoch c.args.rec c.args.first at (low_record t u c.args.epoch c.args.rec c.args.first c.args.self.now at c.requires.table c.requires.rec) c.load-active.new.token c.active_word.result c.load-active.result c.active_word.ensures c.load-active.ensures.step c.if-active-eq0.false c.epoch_word.result n c.epoch_word.ensures

pub returns-then-found-epoch-clause-outcome : goal.returns-then-found-epoch-clause-outcome
returns-then-found-epoch-clause-outcome c t at =
    let u = c.args.token.now in
    let passed = current t u c.args.epoch c.args.rec c.args.first at (low_record t u c.args.epoch c.args.rec c.args.first c.args.self.now at c.requires.table c.requires.rec) c.load-active.new.token c.active_word.result c.load-active.result c.active_word.ensures c.load-active.ensures.step c.if-active-eq0.false
    c.load-found.new.token c.epoch_word.result c.load-found.result c.epoch_word.ensures c.load-found.ensures.step c.if-found-epoch.true in
    subst (HasLookedAt t c.load-found.new.token c.args.epoch (c.args.rec + 1)) (first_is c.args.first c.args.rec ∙ ap (λ (r : ℕ). Some r) (sym c.unwrap_or.ensures)) passed

pub returns-clause-outcome : goal.returns-clause-outcome
returns-clause-outcome c t at =
    let u = c.args.token.now in
    behind t u c.args.epoch c.args.rec c.args.first at (low_record t u c.args.epoch c.args.rec c.args.first c.args.self.now at c.requires.table c.requires.rec) c.load-active.new.token c.active_word.result c.load-active.result c.active_word.ensures c.load-active.ensures.step c.if-active-eq0.false
    c.load-found.new.token c.epoch_word.result c.load-found.result c.epoch_word.ensures c.load-found.ensures.step c.if-found-epoch.false
