use Rattle.std.proofs.Common.{◌≡◌, ap, ◌∙◌, subst, refl}
use Rattle.std.specs.Prelude.{IfOk}
use Rattle.ck_run.specs.Tokens.{origin}
use Rattle.ck_epoch.specs.State.{Origin}
use Rattle.ck_epoch.specs.Ends.{Writer}
use Rattle.ck_signal.specs.declared.signals.Signals.{Signals}
use Rattle.ck_htlaw.specs.declared.client.HtClient.{HtClient}
use Rattle.ck_htlaw.specs.Known.{knows}
use Rattle.ck_htlaw.specs.Linearized.{map_after}
use Rattle.ck_htlaw.specs.Reached.{with_signals}
use Rattle.ck_htwrite.proofs.Between.{holds_pairs}
use Rattle.ck_ht.specs.Ends.{HtWriter}
use Rattle.ck_ht.proofs.Settling.{is_within}
use Rattle.ck_ht.proofs.table.Ht.entries.Goals as goal

pub entries-requires-clause-map : goal.entries-requires-clause-map
entries-requires-clause-map g c =
    let w = c.w.inside.writer in let s = c.w.inside.state in let r = c.w.invariant in let writing = c.tally-updates.ensures.writing in
    (map_after (knows with_signals (origin w.token) w.token).log, holds_pairs with_signals is_within (origin w.token) w.token refl writing.part writing.first s r.ready.lists r.keys)

pub returns : goal.returns
returns g c =
    let w = c.w.inside.writer in let s = c.w.inside.state in let r = c.w.invariant in let writing = c.tally-updates.ensures.writing in
    let at = ap (λ (v : HtWriter g.row.F.Denot). origin v.writer.token) c.w.view_is ∙ ap (λ d. d.origin) c.requires.table in
    let same = ap (λ (v : HtWriter g.row.F.Denot). v.writer) c.w.view_is in
    subst (λ (x : Origin (Signals HtClient) × Writer (Signals HtClient) g.row.F.Denot). IfOk c.entries.result (λ v. v.items ≡ map_after (knows with_signals x.0 x.1.token).log)) (λ i. (at i, same i))
    (c.entries.ensures (map_after (knows with_signals (origin w.token) w.token).log) (holds_pairs with_signals is_within (origin w.token) w.token refl writing.part writing.first s r.ready.lists r.keys))
