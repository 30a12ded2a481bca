use Rattle.std.proofs.Common.{◌≡◌, ℕ, List, ◌∷◌, map, sym, ◌∙◌, subst}
use Rattle.ck_run.specs.declared.account.Step.{Step}
use Rattle.ck_run.specs.declared.account.Step.TheVariants.{Load}
use Rattle.ck_run.specs.Run.{further}
use Rattle.ck_run.specs.Tokens.{adding}
use Rattle.ck_epoch.specs.Rounds.{IsRound}
use Rattle.ck_epoch.proofs.TwoRounds.{HasWaited, not_waited, waits_more, small, may_raise, round_steps, round_state, records_here, all_records, some_record}
use Rattle.ck_epoch.proofs.domain.Domain.round.Goals as goal

pub loop-rec-init : goal.loop-rec-init
loop-rec-init g c = not_waited g.C.Client.meaning c.args.epoch c.args.token.now c.requires.scans

pub wait_for-requires-clause-table : goal.wait_for-requires-clause-table
wait_for-requires-clause-table g c = c.loop-rec.invariant.same ∙ c.requires.table

pub wait_for-requires-clause-scans : goal.wait_for-requires-clause-scans
wait_for-requires-clause-scans g c = c.loop-rec.invariant.scans

pub wait_for-requires-clause-rec : goal.wait_for-requires-clause-rec
wait_for-requires-clause-rec g c = some_record c.args.token.now c.loop-rec.token c.args.self.now c.self.inside.words c.self.inside.about c.loop-rec.invariant.same c.requires.table c.self.view_is c.self.invariant.told
    c.loop-rec.rec c.loop-rec-test.true

pub loop-rec-preserved : goal.loop-rec-preserved
loop-rec-preserved g c = waits_more g.C.Client.meaning c.args.epoch c.loop-rec.rec c.args.token.now c.loop-rec.token c.wait_for.new.token c.loop-rec.invariant
    record { same = c.wait_for.ensures.table; did = c.wait_for.ensures.steps; scans = c.wait_for.ensures.scans }

pub overflow_add-epoch : goal.overflow_add-epoch
overflow_add-epoch g c = record { fits = (small g.C.Client.meaning g.met.C.Client.passes c.args.epoch c.loop-rec.rec c.loop-rec.token c.loop-rec.invariant.scans).1 }

pub exchange-requires-clause-table : goal.exchange-requires-clause-table
exchange-requires-clause-table g c = c.loop-rec.invariant.same ∙ (c.requires.table ∙ sym c.self.view_is)

pub exchange-requires-clause-may : goal.exchange-requires-clause-may
exchange-requires-clause-may g c n b = may_raise g.C.Client.meaning g.met.C.Client.passes c.args.epoch c.args.token.now c.loop-rec.token
    (subst (λ (k : ℕ). HasWaited g.C.Client.meaning c.args.epoch k c.args.token.now c.loop-rec.token)
    (all_records c.args.token.now c.loop-rec.token c.args.self.now c.self.inside.words c.self.inside.about c.loop-rec.invariant.same c.requires.table c.self.view_is c.self.invariant.told
    c.loop-rec.rec c.loop-rec-test.false c.loop-rec.auto.rec-end) c.loop-rec.invariant) n

pub returns-clause-table : goal.returns-clause-table
returns-clause-table g c = c.exchange.ensures.table ∙ c.loop-rec.invariant.same

pub returns-clause-steps : goal.returns-clause-steps
returns-clause-steps g c =
    let same = c.loop-rec.invariant.same in
    subst (λ (k : ℕ). (steps : List Step) × IsRound k c.args.epoch (Load 0 c.args.epoch ∷ steps) × (c.exchange.new.token ≡ adding c.args.token.now (map further steps)))
    (records_here c.args.token.now c.loop-rec.token c.args.self.now c.self.inside.words c.self.inside.about same c.requires.table c.self.view_is c.self.invariant.told)
    (round_steps g.C.Client.meaning g.met.C.Client.passes c.args.epoch c.args.token.now c.loop-rec.token
    (subst (λ (k : ℕ). HasWaited g.C.Client.meaning c.args.epoch k c.args.token.now c.loop-rec.token)
    (all_records c.args.token.now c.loop-rec.token c.args.self.now c.self.inside.words c.self.inside.about same c.requires.table c.self.view_is c.self.invariant.told
    c.loop-rec.rec c.loop-rec-test.false c.loop-rec.auto.rec-end) c.loop-rec.invariant)
    c.exchange.new.token c.exchange.result c.exchange.ensures.step)

pub returns-clause-state : goal.returns-clause-state
returns-clause-state g c =
    round_state g.C.Client.meaning g.met.C.Client.passes c.args.epoch c.args.token.now c.loop-rec.token
    (subst (λ (k : ℕ). HasWaited g.C.Client.meaning c.args.epoch k c.args.token.now c.loop-rec.token)
    (all_records c.args.token.now c.loop-rec.token c.args.self.now c.self.inside.words c.self.inside.about c.loop-rec.invariant.same c.requires.table c.self.view_is c.self.invariant.told
    c.loop-rec.rec c.loop-rec-test.false c.loop-rec.auto.rec-end) c.loop-rec.invariant)
    c.exchange.new.token c.exchange.result c.exchange.ensures.step
