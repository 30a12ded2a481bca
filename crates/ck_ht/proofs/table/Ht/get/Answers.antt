use Rattle.std.proofs.Common.{ℕ, List, [], ◌∷◌, ◌++◌, length, refl, ap, ◌∙◌, subst}
use Rattle.std.specs.Prelude.{Option, Some, None}
use Rattle.ck_history.specs.declared.event.ReaderEvent.TheVariants.{Answered}
use Rattle.ck_history.specs.declared.log.Look.TheVariants.{Found, Absent}
use Rattle.ck_htlaw.specs.Reached.{with_signals}
use Rattle.ck_htread.specs.Answered.{HasAnswered}
use Rattle.ck_ht.specs.Events.{Reading}
use Rattle.ck_ht.proofs.Repeating.{none_looked, looks_again, last_alone, gets}
use Rattle.ck_ht.proofs.table.Ht.get.Goals as goal

pub returns-in-Found-clause-placed : goal.returns-in-Found-clause-placed
returns-in-Found-clause-placed g c =
    subst (λ (ls : List (ℕ × Option ℕ)). HasAnswered with_signals c.args.self.now.origin c.look.new.pass.token (length ls) c.args.key (Some c.in-Found.value)) c.loop.invariant.looks
    (c.in-Found.ensures.placed (Some c.in-Found.value) refl)

pub returns-in-Absent-clause-placed : goal.returns-in-Absent-clause-placed
returns-in-Absent-clause-placed g c =
    subst (λ (ls : List (ℕ × Option ℕ)). HasAnswered with_signals c.args.self.now.origin c.look.new.pass.token (length ls) c.args.key None) c.loop.invariant.looks
    (c.in-Absent.ensures.placed None refl)

pub returns-in-Found-clause-looks : goal.returns-in-Found-clause-looks
returns-in-Found-clause-looks g c = c.in-Found.ensures.looks ∙ ap (λ (ls : List (ℕ × Option ℕ)). ls ++ (c.args.key, Some c.in-Found.value) ∷ []) c.loop.invariant.looks

pub returns-in-Absent-clause-looks : goal.returns-in-Absent-clause-looks
returns-in-Absent-clause-looks g c = c.in-Absent.ensures.looks ∙ ap (λ (ls : List (ℕ × Option ℕ)). ls ++ (c.args.key, None) ∷ []) c.loop.invariant.looks

pub returns-in-Found-clause-events : goal.returns-in-Found-clause-events
returns-in-Found-clause-events g c = c.in-Found.ensures.events ∙ ap (λ (es : Reading). es ++ Answered c.args.key (Some c.in-Found.value) ∷ []) c.loop.invariant.events

pub returns-in-Absent-clause-events : goal.returns-in-Absent-clause-events
returns-in-Absent-clause-events g c = c.in-Absent.ensures.events ∙ ap (λ (es : Reading). es ++ Answered c.args.key None ∷ []) c.loop.invariant.events

pub loop-preserved : goal.loop-preserved
loop-preserved g c =
    let e = c.in-Again.ensures in
    looks_again c.args.self.now.origin c.args.key c.args.pass.now c.loop.pass c.look.new.pass c.in-Again.before c.in-Again.after c.loop.invariant e.table e.depth e.calls e.ready e.looks e.events e.retries e.steps e.alone

pub returns-in-Found-clause-steps : goal.returns-in-Found-clause-steps
returns-in-Found-clause-steps g c = let e = c.in-Found.ensures in gets c.args.self.now.origin c.args.key c.args.pass.now c.loop.pass (Found c.in-Found.value) c.look.new.pass.token c.loop.invariant e.steps e.retries

pub returns-in-Absent-clause-steps : goal.returns-in-Absent-clause-steps
returns-in-Absent-clause-steps g c = let e = c.in-Absent.ensures in gets c.args.self.now.origin c.args.key c.args.pass.now c.loop.pass Absent c.look.new.pass.token c.loop.invariant e.steps e.retries

pub loop-init : goal.loop-init
loop-init g c = none_looked c.args.self.now.origin c.args.key c.args.pass.now c.requires.ready

pub returns-in-Found-clause-alone : goal.returns-in-Found-clause-alone
returns-in-Found-clause-alone g c = let e = c.in-Found.ensures in last_alone c.args.self.now.origin c.args.key c.args.pass.now c.loop.pass (Found c.in-Found.value) c.look.new.pass.token c.loop.invariant e.steps e.alone

pub returns-in-Absent-clause-alone : goal.returns-in-Absent-clause-alone
returns-in-Absent-clause-alone g c = let e = c.in-Absent.ensures in last_alone c.args.self.now.origin c.args.key c.args.pass.now c.loop.pass Absent c.look.new.pass.token c.loop.invariant e.steps e.alone
