use Rattle.std.proofs.Common.{◌<◌, [], ◌∷◌, ◌++◌, ap, sym, subst, ◌∙◌}
use Rattle.ck_run.specs.Tokens.{Table, adding, table as table_of}
use Rattle.ck_epoch.specs.declared.about.About.{About}
use Rattle.ck_epoch.specs.Ends.{Writer}
use Rattle.ck_signal.specs.declared.signals.Signals.{Signals}
use Rattle.ck_signal.specs.Signals.{readers}
use Rattle.ck_signal.specs.Words.{asks}
use Rattle.ck_signal.specs.Told.{answered_word_of}
use Rattle.ck_history.specs.declared.event.WriterEvent.TheVariants.{Told}
use Rattle.ck_htlaw.specs.declared.client.HtClient.{HtClient}
use Rattle.ck_htlaw.specs.Client.{table}
use Rattle.ck_htlaw.specs.Known.{knows}
use Rattle.ck_htlaw.specs.Reached.{with_signals}
use Rattle.ck_ht.specs.Ends.{HtWriter}
use Rattle.ck_ht.specs.Events.{hand_events}
use Rattle.ck_ht.proofs.Results.{ready_in, ready_out}
use Rattle.ck_ht.proofs.SignalSteps.{answered_still}
use Rattle.ck_ht.proofs.table.Ht.answered.Goals as goal

pub invariant_of-w : goal.invariant_of-w
invariant_of-w g c =
    let w = c.w.inside.writer in let s = c.w.inside.state in let v = c.answered.new.writer in let e = c.answered.ensures in
    let low = subst (λ (t : Table (About (Signals HtClient))). c.args.reader < readers t.origin) (sym c.self.view_is) c.requires.reader in
    ready_out v s c.w.view_is c.requires.table c.self.view_is (ap (λ (y : Writer (Signals HtClient) g.row.F.Denot). table_of y.token) e.step)
    (answered_still c.self.inside.domain.origin w v s c.args.reader c.answered.result low (ready_in c.w.view_is c.requires.table c.self.view_is c.w.invariant) e.step e.same).0

pub returns : goal.returns
returns g c =
    let w = c.w.inside.writer in let v = c.answered.new.writer in let e = c.answered.ensures in let r = c.args.reader in let n = c.answered.result in
    let low = subst (λ (t : Table (About (Signals HtClient))). r < readers t.origin) (sym c.self.view_is) c.requires.reader in
    let same = ap (λ (y : HtWriter g.row.F.Denot). y.writer) c.w.view_is in
    let still = answered_still c.self.inside.domain.origin w v c.w.inside.state r n low (ready_in c.w.view_is c.requires.table c.self.view_is c.w.invariant) e.step e.same in
    record {
      step = e.step ∙ (λ i. record (same i) { token = adding (same i).token (asks (answered_word_of table (c.self.view_is i).origin r) r n ∷ []) });
      log = (λ i. (knows with_signals (sym c.self.view_is i).origin v.token).log) ∙ (still.1 ∙ (λ i. (knows with_signals (c.self.view_is i).origin (same i).token).log));
      events = (λ i. hand_events (sym c.self.view_is i).origin v.token) ∙ (still.2 ∙ (λ i. hand_events (c.self.view_is i).origin (same i).token ++ Told r n ∷ []));
    }
