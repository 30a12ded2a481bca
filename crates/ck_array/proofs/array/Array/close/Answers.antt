use Rattle.std.proofs.Common.{ap, sym, subst, ◌∙◌, refl}
use Rattle.std.specs.Prelude.{All}
use Rattle.ck_run.specs.Tokens.{origin}
use Rattle.ck_epoch.specs.State.{Origin, Token}
use Rattle.ck_epoch.specs.Ends.{Pass}
use Rattle.ck_signal.specs.declared.signals.Signals.{Signals}
use Rattle.ck_arraylaw.specs.declared.client.ArrayClient.{ArrayClient}
use Rattle.ck_array.specs.Closed.{IsClosedArray}
use Rattle.ck_array.specs.Ends.{ArrayWriter, IsPassReady}
use Rattle.ck_array.specs.Writes.{idle}
use Rattle.ck_array.proofs.Closing.{is_closed}
use Rattle.ck_array.proofs.array.Array.close.Goals as goal

pub returns : goal.returns
returns g c =
    let same = ap (λ (v : ArrayWriter g.row.F.Denot). v.writer.token) c.w.view_is in let r = c.w.invariant.ready in
    record {
      closed = subst (λ (t : Token (Signals ArrayClient)). IsClosedArray t c.args.passes.items c.close.result.words.items) same
          (is_closed c.signals_law.ensures c.array_law.ensures c.w.inside.writer.token c.args.passes.items c.close.result.words.items c.close.ensures.run (idle r.log c.w.inside.state.region, r.local, refl)
          (subst (λ (o : Origin (Signals ArrayClient)). All (λ (p : Pass (Signals ArrayClient)). IsPassReady o p) c.args.passes.items) (sym (ap (λ t. origin t) same ∙ ap (λ d. d.origin) c.requires.writer)) c.requires.ready));
    }
