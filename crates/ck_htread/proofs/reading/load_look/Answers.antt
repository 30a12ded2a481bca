use Rattle.std.proofs.Common.{◌≡◌, ℕ, ◌+◌, ◌-◌, ◌/◌, ap, ◌∙◌, arith}
use Rattle.std.specs.Prelude.{Option}
use Rattle.ck_run.specs.Tokens.{table}
use Rattle.ck_htlaw.specs.Host.{host, lies}
use Rattle.ck_htlaw.specs.Known.{knows}
use Rattle.ck_htlaw.specs.Layout.{counters_of}
use Rattle.ck_htlaw.specs.Look.{at_version}
use Rattle.ck_htread.specs.declared.search.Search.{Search}
use Rattle.ck_htread.specs.Scan.{state_after_scan}
use Rattle.ck_htread.specs.Reading.{totals_of}
use Rattle.ck_htread.proofs.WholeLook.{at_end_within, due_at_end, ended, looked, counter_is, counter_inside}
use Rattle.ck_htread.proofs.Telling.{risen}
use Rattle.ck_htread.proofs.reading.load_look.Goals as goal

pub load-after-requires-clause-due : goal.load-after-requires-clause-due
load-after-requires-clause-due g c =
    let ht = host g.D.Client.meaning g.D.Within.place g.D.Within.part in let o = c.args.domain.now.origin in
    let p : Search = record { key = c.args.key; root = c.load_root-root.result; counter = c.load-before.result; hash = c.key_code.result } in
    let totals = totals_of (knows ht o c.args.pass.now.token) in
    let at2 = c.load-before.ensures.at p.root (at_version p.key) totals c.load_root-root.ensures.at tt in
    let many : c.counters.result ≡ counters_of (ht.part o.config.client) = c.counters.ensures ∙ ap counters_of (c.inner-client.ensures ∙ ap ht.part c.client.ensures.same) in
    let h = c.scan_slots-found.ensures.slots totals at2 in (
      p.root,
      state_after_scan ((lies ht o).order p.root) p.key p.counter c.scan_slots-found.result,
      totals,
      h.at,
      at_end_within ht o p.root p.key p.counter c.scan_slots-found.result,
      due_at_end ht o p.root p.key p.counter c.scan_slots-found.result _ (counter_is ht o p.root c.counters.result many),
    )

pub returns-clause-loads : goal.returns-clause-loads
returns-clause-loads g c =
    let ht = host g.D.Client.meaning g.D.Within.place g.D.Within.part in let o = c.args.domain.now.origin in
    let p : Search = record { key = c.args.key; root = c.load_root-root.result; counter = c.load-before.result; hash = c.key_code.result } in
    let totals = totals_of (knows ht o c.args.pass.now.token) in
    let at2 = c.load-before.ensures.at p.root (at_version p.key) totals c.load_root-root.ensures.at tt in
    let many : c.counters.result ≡ counters_of (ht.part o.config.client) = c.counters.ensures ∙ ap counters_of (c.inner-client.ensures ∙ ap ht.part c.client.ensures.same) in
    let found : Option ℕ = c.scan_slots-found.result in
    let h = c.scan_slots-found.ensures.slots totals at2 in
    let at4 = ended ht o p.root p.key p.counter found totals c.load-after.result c.load-after.new.pass.token (c.load-after.ensures.at p.root (state_after_scan ((lies ht o).order p.root) p.key p.counter found) totals h.at (at_end_within ht o p.root p.key p.counter found)) in
    let step4 = ap (λ q. q.token) c.load-after.ensures.step in
    let low = c.load_root-root.ensures.root.piece.low in
    let high = c.load_root-root.ensures.root.piece.high in
    let rise = risen ht o (c.table_law.ensures o) c.scan_slots-found.new.pass.token c.load-after.new.pass.token p.root p.key p.counter found totals ((lies ht o).base + (1 + (p.root / 32 - (1 + c.counters.result)) / 32)) c.load-after.result
    (ap (λ w. w.origin) (c.scan_slots-found.ensures.table ∙ (ap (λ q. table q.token) c.load-before.ensures.step ∙ (ap (λ q. table q.token) c.load_root-root.ensures.step ∙ c.requires.table)))) c.load-after.ensures.part step4 h.at (omega arith) (counter_inside (lies ht o).base c.counters.result (counters_of (ht.part o.config.client)) p.root many low high) in
    looked ht o c.args.pass.now.token c.load_root-root.new.pass.token c.load-before.new.pass.token c.scan_slots-found.new.pass.token c.load-after.new.pass.token p
    found c.load-after.result _
    (ap (λ q. q.token) c.load_root-root.ensures.step) (ap (λ q. q.token) c.load-before.ensures.step) h step4 (counter_is ht o p.root c.counters.result many) at4 rise

pub scan_slots-found-requires-clause-at : goal.scan_slots-found-requires-clause-at
scan_slots-found-requires-clause-at g c =
    let totals = totals_of (knows (host g.D.Client.meaning g.D.Within.place g.D.Within.part) c.args.domain.now.origin c.args.pass.now.token) in
    (totals, c.load-before.ensures.at c.load_root-root.result (at_version c.args.key) totals c.load_root-root.ensures.at tt)
