use Rattle.std.proofs.Common.{◌≡◌, ℕ, ◌+◌, [], ◌∷◌, ap, ◌∙◌, subst}
use Rattle.ck_run.specs.declared.account.Step.TheVariants.{Load}
use Rattle.ck_run.specs.Run.{entry}
use Rattle.ck_run.specs.Tokens.{Table, adding}
use Rattle.ck_epoch.specs.declared.about.About.{About}
use Rattle.ck_epoch.specs.State.{state}
use Rattle.ck_signal.specs.declared.signals.Signals.{Signals}
use Rattle.ck_arraylaw.specs.declared.client.ArrayClient.{ArrayClient}
use Rattle.ck_arraylaw.specs.Host.{base_word}
use Rattle.ck_arraylaw.specs.Reached.{with_signals}
use Rattle.ck_array.specs.Edited.{IsEdited}
use Rattle.ck_array.specs.Ends.{ArrayWriter}
use Rattle.ck_array.specs.Writes.{opens_of}
use Rattle.ck_array.proofs.Results.{ready_in, ready_out}
use Rattle.ck_array.proofs.array.Array.change.Goals as goal

pub edit-requires-clause-ready : goal.edit-requires-clause-ready
edit-requires-clause-ready g c = ready_in c.w.view_is c.requires.table c.self.view_is c.w.invariant

pub invariant_of-w : goal.invariant_of-w
invariant_of-w g c = let done = c.edit.ensures.done in ready_out c.edit.new.writer c.edit.new.state c.w.view_is c.requires.table c.self.view_is done.same_table done.ready

pub returns : goal.returns
returns g c =
    let F = g.row.F.Denot in let v = c.edit.new.writer in let e = c.edit.ensures in let now = c.args.w.now in
    let x = subst (λ (x : Table (About (Signals ArrayClient)) × ArrayWriter F). IsEdited x.0.origin x.1.writer x.1.state c.args.e c.edit.result v c.edit.new.state) (λ i. (c.self.view_is i, c.w.view_is i)) e.done in
    let calls : v.calls ≡ now.writer.calls + 1 = e.calls ∙ ap (λ (y : ArrayWriter F). y.writer.calls + 1) c.w.view_is in
    record {
      same = x.same ∙ (λ i. record now.writer { token = v.token; calls = calls i; tally = now.writer.tally + 1 });
      table = x.same_table;
      reply = x.reply_is;
      log = x.log;
      steps = subst (λ (x : Table (About (Signals ArrayClient)) × ArrayWriter F). (root : ℕ) × (v.token ≡ adding x.1.writer.token (entry (opens_of c.args.e) (Load (base_word with_signals x.0.origin) root) ∷ []))) (λ i. (c.self.view_is i, c.w.view_is i)) e.steps;
      events = x.events;
      pending = e.items ∙ ap (λ (y : ArrayWriter F). (state y.writer.token).pending) c.w.view_is;
    }
