use Rattle.std.proofs.Common.{◌≡◌, ℕ, ◌<◌, refl, sym, ap, ◌∙◌, subst, arith}
use Rattle.ck_run.specs.Tokens.{Table, table, number, origin}
use Rattle.ck_registry.specs.State.{records_of}
use Rattle.ck_registry.specs.Ends.{Visitor, rec_of}
use Rattle.ck_registry.specs.Calls.{Registers}
use Rattle.ck_registry.proofs.Stepping.{records_are}
use Rattle.ck_registry.proofs.Trying.{tries_first, holds, begins}
use Rattle.ck_registry.proofs.registry.Registry.register.Goals as goal

pub loop-rec-init : goal.loop-rec-init
loop-rec-init c = record { same = refl; trying = tries_first c.v.inside.token c.v.inside.deferred c.v.invariant.0 }

pub invariant_of-result : goal.invariant_of-result
invariant_of-result c =
    let t = c.v.inside.token in
    let here : table t ≡ c.args.self.now = ap (λ (v : Visitor). table v.token) c.v.view_is ∙ c.requires.table in
    let records = records_are t c.self.inside.words c.args.self.now c.self.inside.records here c.self.view_is c.self.invariant.told in
    let low : c.loop-rec.rec < c.self.inside.records = c.loop-rec-test.true in
    let h = c.if-try_record.ensures.outcome t c.loop-rec.invariant.trying in
    let p = holds t c.try_record.new.token c.loop-rec.rec c.v.inside.deferred (subst (λ (k : ℕ). c.loop-rec.rec < k) (sym records) low) c.v.invariant.0 h in
    let b = begins t c.try_record.new.token c.loop-rec.rec c.v.inside.deferred c.v.invariant.0 h in
    let counted = c.v.invariant.1 in let same = b.2 in
    (p.0, p.1, omega arith)

pub returns-then-try_record-clause-steps : goal.returns-then-try_record-clause-steps
returns-then-try_record-clause-steps c =
    let t = c.v.inside.token in let u = c.try_record.new.token in
    let here : table t ≡ c.args.self.now = ap (λ (v : Visitor). table v.token) c.v.view_is ∙ c.requires.table in
    let h = c.if-try_record.ensures.outcome t c.loop-rec.invariant.trying in
    let b = begins t u c.loop-rec.rec c.v.inside.deferred c.v.invariant.0 h in
    subst (λ (v : Visitor). Registers (records_of c.args.self.now.origin) (rec_of u) v.token u) c.v.view_is
    (subst (λ (k : ℕ). Registers k (rec_of u) t u) (ap (λ (x : Table ℕ). records_of x.origin) here)
    (subst (λ (r : ℕ). Registers (records_of (origin t)) r t u) (sym b.3) h.registers))

pub returns-then-try_record-clause-same : goal.returns-then-try_record-clause-same
returns-then-try_record-clause-same c =
    let h = c.if-try_record.ensures.outcome c.v.inside.token c.loop-rec.invariant.trying in (
      c.try_record.ensures.table ∙ (c.loop-rec.invariant.same ∙ ap (λ (v : Visitor). table v.token) c.v.view_is),
      ap number h.registers.steps ∙ ap (λ (v : Visitor). number v.token) c.v.view_is,
      ap (λ (v : Visitor). v.room) c.v.view_is,
      ap (λ (v : Visitor). v.calls) c.v.view_is,
    )

pub returns-then-try_record-clause-begins : goal.returns-then-try_record-clause-begins
returns-then-try_record-clause-begins c =
    let h = c.if-try_record.ensures.outcome c.v.inside.token c.loop-rec.invariant.trying in
    let b = begins c.v.inside.token c.try_record.new.token c.loop-rec.rec c.v.inside.deferred c.v.invariant.0 h in
    (b.0, b.1, c.v.invariant.0.empty)

pub returns-then-try_record-clause-part : goal.returns-then-try_record-clause-part
returns-then-try_record-clause-part c = (c.if-try_record.ensures.outcome c.v.inside.token c.loop-rec.invariant.trying).at.part
