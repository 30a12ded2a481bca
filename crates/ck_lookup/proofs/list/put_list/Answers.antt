use Rattle.std.proofs.Common.{◌≡◌, List, ℕ, map, ap}
use Rattle.ck_io.specs.Sink.{appended}
use Rattle.ck_lookup.specs.Lists.{list_kind}
use Rattle.ck_lookup.proofs.Reporting.{list_text_is, put_whole, put_front}
use Rattle.ck_lookup.proofs.list.put_list.Goals as goal

pub returns-clause-all : goal.returns-clause-all
returns-clause-all g c =
    let is = list_text_is c.args.job.now.ups.items (map (λ file. file.items) c.args.job.now.asks.items) c.in_ok-answered.answered c.in_ok-answered.ensures _ _ _ c.deref.ensures.value (ap (λ found. map (λ file. file.items) found) c.deref-2.ensures.value) c.deref-3.ensures.value in
    put_whole list_kind _ _ is _ (λ (text : List ℕ). g.K.Sink.taken c.put_list_report.new.sink ≡ appended (g.K.Sink.taken c.args.sink.now) text) c.put_list_report.ensures.all

pub returns-clause-prefix : goal.returns-clause-prefix
returns-clause-prefix g c =
    let is = list_text_is c.args.job.now.ups.items (map (λ file. file.items) c.args.job.now.asks.items) c.in_ok-answered.answered c.in_ok-answered.ensures _ _ _ c.deref.ensures.value (ap (λ found. map (λ file. file.items) found) c.deref-2.ensures.value) c.deref-3.ensures.value in
    put_front list_kind _ _ is _ _ _ c.put_list_report.ensures.prefix
