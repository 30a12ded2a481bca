use Rattle.std.proofs.Common.{ap, sym, subst, ◌∙◌}
use Rattle.std.specs.Prelude.{All}
use Rattle.ck_run.specs.Tokens.{origin}
use Rattle.ck_epoch.specs.State.{Origin, Token}
use Rattle.ck_epoch.specs.Ends.{Pass}
use Rattle.ck_signal.specs.declared.signals.Signals.{Signals}
use Rattle.ck_htlaw.specs.declared.client.HtClient.{HtClient}
use Rattle.ck_ht.specs.Closed.{IsClosedTable}
use Rattle.ck_ht.specs.Ends.{HtWriter, IsPassReady}
use Rattle.ck_ht.proofs.Closing.{is_closed}
use Rattle.ck_ht.proofs.table.Ht.close.Goals as goal

pub returns : goal.returns
returns g c =
    let same = ap (λ (v : HtWriter g.row.F.Denot). v.writer.token) c.w.view_is in
    record {
      closed = subst (λ (t : Token (Signals HtClient)). IsClosedTable t c.args.passes.items c.close.result.words.items) same
          (is_closed c.signals_law.ensures c.table_law.ensures c.places_law.ensures c.settled_law.ensures c.w.inside.writer.token c.args.passes.items c.close.result.words.items c.close.ensures.run (c.w.invariant.ready.lists.is_writer, c.w.invariant.ready.lists.is, c.w.invariant.ready.lists.idles)
          (subst (λ (o : Origin (Signals HtClient)). All (λ (p : Pass (Signals HtClient)). IsPassReady o p) c.args.passes.items) (sym (ap (λ t. origin t) same ∙ ap (λ d. d.origin) c.requires.writer)) c.requires.ready));
    }
