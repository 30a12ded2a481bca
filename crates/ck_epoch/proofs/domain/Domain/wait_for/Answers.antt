use Rattle.std.proofs.Common.{sym, ◌∙◌}
use Rattle.ck_epoch.proofs.Waits.{in_range, not_looked, may_look, passed_inactive, may_compare, passed_current, still_looked}
use Rattle.ck_epoch.proofs.domain.Domain.wait_for.Goals as goal

pub loop-init : goal.loop-init
loop-init g c = not_looked g.C.Client.meaning g.met.C.Client.passes c.args.epoch c.args.rec c.args.token.now c.requires.scans

pub load-active-requires-clause-table : goal.load-active-requires-clause-table
load-active-requires-clause-table g c = c.loop.invariant.same ∙ (c.requires.table ∙ sym c.self.view_is)

pub load-active-requires-clause-may : goal.load-active-requires-clause-may
load-active-requires-clause-may g c n b =
    let h = c.loop.invariant in
    may_look g.C.Client.meaning g.met.C.Client.passes c.args.epoch c.args.rec c.args.token.now c.loop.token h (in_range c.args.rec c.args.token.now c.loop.token c.args.self.now h.same c.requires.table c.requires.rec)
    c.active_word.result c.active_word.ensures n

pub returns-then-active-eq0 : goal.returns-then-active-eq0
returns-then-active-eq0 g c =
    let h = c.loop.invariant in
    let p = passed_inactive g.C.Client.meaning g.met.C.Client.passes c.args.epoch c.args.rec c.args.token.now c.loop.token h (in_range c.args.rec c.args.token.now c.loop.token c.args.self.now h.same c.requires.table c.requires.rec)
    c.active_word.result c.active_word.ensures c.load-active.new.token c.load-active.result c.load-active.ensures.step c.if-active-eq0.true in
    record { table = p.same; steps = p.did; scans = p.scans }

pub load-found-requires-clause-table : goal.load-found-requires-clause-table
load-found-requires-clause-table g c = c.load-active.ensures.table ∙ (c.loop.invariant.same ∙ (c.requires.table ∙ sym c.self.view_is))

pub load-found-requires-clause-may : goal.load-found-requires-clause-may
load-found-requires-clause-may g c n b =
    let h = c.loop.invariant in
    may_compare g.C.Client.meaning g.met.C.Client.passes c.args.epoch c.args.rec c.args.token.now c.loop.token h (in_range c.args.rec c.args.token.now c.loop.token c.args.self.now h.same c.requires.table c.requires.rec)
    c.active_word.result c.active_word.ensures c.load-active.new.token c.load-active.result c.load-active.ensures.step c.if-active-eq0.false c.epoch_word.result c.epoch_word.ensures n

pub returns-then-found-epoch : goal.returns-then-found-epoch
returns-then-found-epoch g c =
    let h = c.loop.invariant in
    let p = passed_current g.C.Client.meaning g.met.C.Client.passes c.args.epoch c.args.rec c.args.token.now c.loop.token h (in_range c.args.rec c.args.token.now c.loop.token c.args.self.now h.same c.requires.table c.requires.rec)
    c.active_word.result c.active_word.ensures c.load-active.new.token c.load-active.result c.load-active.ensures.step c.if-active-eq0.false c.epoch_word.result c.epoch_word.ensures
    c.load-found.new.token c.load-found.result c.load-found.ensures.step c.if-found-epoch.true in
    record { table = p.same; steps = p.did; scans = p.scans }

pub loop-preserved : goal.loop-preserved
loop-preserved g c =
    let h = c.loop.invariant in
    still_looked g.C.Client.meaning g.met.C.Client.passes c.args.epoch c.args.rec c.args.token.now c.loop.token h (in_range c.args.rec c.args.token.now c.loop.token c.args.self.now h.same c.requires.table c.requires.rec)
    c.active_word.result c.active_word.ensures c.load-active.new.token c.load-active.result c.load-active.ensures.step c.if-active-eq0.false c.epoch_word.result c.epoch_word.ensures
    c.load-found.new.token c.load-found.result c.load-found.ensures.step c.if-found-epoch.false
