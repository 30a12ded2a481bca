use Rattle.std.proofs.Common.{◌≡◌, ℕ, ◌+◌, List, [], ◌∷◌, ◌++◌, ap, ◌∙◌, subst, sym}
use Rattle.ck_run.specs.Tokens.{Table}
use Rattle.ck_epoch.specs.declared.about.About.{About}
use Rattle.ck_signal.specs.declared.signals.Signals.{Signals}
use Rattle.ck_arraylaw.specs.declared.client.ArrayClient.{ArrayClient}
use Rattle.ck_arraylaw.specs.Array.{reader}
use Rattle.ck_arraylaw.specs.Client.{answers_of}
use Rattle.ck_arraylaw.specs.Known.{knows}
use Rattle.ck_arraylaw.specs.Reached.{with_signals}
use Rattle.ck_array.specs.Events.{pass_events}
use Rattle.ck_array.specs.Reads.{resting, ReadsAll}
use Rattle.ck_array.proofs.AllSteps.{all_events, all_ready}
use Rattle.ck_array.proofs.array.Array.all.Goals as goal

pub returns-clause-events : goal.returns-clause-events
returns-clause-events c =
    let o = c.args.self.now.origin in let p = c.args.pass.now in let q = c.all-count.new.pass in let members = c.all-count.new.out.items in let r = c.requires.ready in
    let steps = subst (λ (t : Table (About (Signals ArrayClient))). (root : ℕ) × (count : ℕ) × ReadsAll with_signals t.origin p.token q.token root count members) c.self.view_is c.all-count.ensures.steps in
    let local = subst (λ (t : Table (About (Signals ArrayClient))). (answers : List (List ℕ)) → knows with_signals t.origin p.token ≡ reader (resting answers) → knows with_signals t.origin q.token ≡ reader (resting (answers ++ members ∷ []))) c.self.view_is c.all-count.ensures.answers r.answers r.local in
    ap (λ x. pass_events o x.token) c.set_tally.ensures ∙ all_events o p.token q.token steps.0 steps.1 members steps.2 (ap answers_of local ∙ ap (λ h. answers_of h ++ members ∷ []) (sym r.local))

pub returns-clause-ready : goal.returns-clause-ready
returns-clause-ready c =
    let o = c.args.self.now.origin in let p = c.args.pass.now in let q = c.all-count.new.pass in let members = c.all-count.new.out.items in let r = c.requires.ready in
    let local = subst (λ (t : Table (About (Signals ArrayClient))). (answers : List (List ℕ)) → knows with_signals t.origin p.token ≡ reader (resting answers) → knows with_signals t.origin q.token ≡ reader (resting (answers ++ members ∷ []))) c.self.view_is c.all-count.ensures.answers r.answers r.local in
    all_ready o p c.set_tally.new.self members r (ap (λ x. knows with_signals o x.token) c.set_tally.ensures ∙ local)
    (ap (λ x. x.tally) c.set_tally.ensures ∙ ap (λ (n : ℕ). n + 1) (c.tally-answers.ensures.tally ∙ ap (λ x. x.tally) c.all-count.ensures.same)) (ap (λ x. x.calls) c.set_tally.ensures ∙ ap (λ x. x.calls + 1) c.all-count.ensures.same)
