use Rattle.std.proofs.Common.{◌≡◌, ℕ, ◌+◌, ◌++◌, length, sym, subst}
use Rattle.std.specs.Prelude.{Option}
use Rattle.ck_run.specs.Tokens.{Table}
use Rattle.ck_epoch.specs.declared.about.About.{About}
use Rattle.ck_signal.specs.declared.signals.Signals.{Signals}
use Rattle.ck_htlaw.specs.declared.client.HtClient.{HtClient}
use Rattle.ck_htlaw.specs.Known.{knows}
use Rattle.ck_htlaw.specs.Law.{retries_of}
use Rattle.ck_htlaw.specs.Reached.{with_signals}
use Rattle.ck_htread.specs.Answered.{HasAnswered, AnswersAlone}
use Rattle.ck_htread.specs.Reading.{IsBetweenLooks, Looks, look_result, answered_by, retries_by}
use Rattle.ck_events.specs.Events.{answer_events}
use Rattle.ck_ht.specs.Events.{pass_events}
use Rattle.ck_ht.proofs.EventSteps.{look_events}
use Rattle.ck_ht.proofs.table.Ht.look.Goals as goal

pub look-requires-clause-between : goal.look-requires-clause-between
look-requires-clause-between c = subst (λ (t : Table (About (Signals HtClient))). IsBetweenLooks with_signals t.origin c.args.pass.now) (sym c.self.view_is) c.requires.ready

pub returns-clause-steps : goal.returns-clause-steps
returns-clause-steps c = subst (λ (t : Table (About (Signals HtClient))). Looks with_signals t.origin c.args.key c.args.pass.now.token c.look.result c.look.new.pass.token) c.self.view_is c.look.ensures.steps

pub returns-clause-looks : goal.returns-clause-looks
returns-clause-looks c = subst (λ (t : Table (About (Signals HtClient))). (knows with_signals t.origin c.look.new.pass.token).looks ≡ (knows with_signals t.origin c.args.pass.now.token).looks ++ answered_by c.args.key c.look.result) c.self.view_is c.look.ensures.looks

pub returns-clause-events : goal.returns-clause-events
returns-clause-events c = subst (λ (t : Table (About (Signals HtClient))). pass_events t.origin c.look.new.pass.token ≡ pass_events t.origin c.args.pass.now.token ++ answer_events (answered_by c.args.key c.look.result)) c.self.view_is
    (look_events c.self.inside.domain.origin c.args.pass.now.token c.look.new.pass.token c.args.key c.look.result c.look.ensures.steps c.look.ensures.looks)

pub returns-clause-placed : goal.returns-clause-placed
returns-clause-placed c = subst
    (λ (t : Table (About (Signals HtClient))). (x : Option ℕ) → c.look.result ≡ look_result x → HasAnswered with_signals t.origin c.look.new.pass.token (length (knows with_signals t.origin c.args.pass.now.token).looks) c.args.key x)
    c.self.view_is c.look.ensures.placed

pub returns-clause-alone : goal.returns-clause-alone
returns-clause-alone c = subst (λ (t : Table (About (Signals HtClient))). AnswersAlone with_signals t.origin c.args.pass.now.token c.args.key c.look.result c.look.new.pass.token) c.self.view_is c.look.ensures.alone

pub returns-clause-ready : goal.returns-clause-ready
returns-clause-ready c = subst (λ (t : Table (About (Signals HtClient))). IsBetweenLooks with_signals t.origin c.look.new.pass) c.self.view_is c.look.ensures.between

pub returns-clause-retries : goal.returns-clause-retries
returns-clause-retries c = subst (λ (t : Table (About (Signals HtClient))). retries_of (knows with_signals t.origin c.look.new.pass.token).local ≡ retries_of (knows with_signals t.origin c.args.pass.now.token).local + retries_by c.look.result) c.self.view_is c.look.ensures.retries
