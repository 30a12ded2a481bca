use Rattle.std.proofs.Common.{◌≡◌, ◌∙◌, List, ℕ, length, map, sym, ap, rules}
use Rattle.ck_io.specs.Sink.{appended}
use Rattle.ck_script.specs.Script.{said_of}
use Rattle.ck_report.specs.Pairing.{asked_of_files}
use Rattle.ck_lookup.specs.Tables.{table_kind}
use Rattle.ck_lookup.proofs.Reporting.{map_long, answered_long, text_is, put_whole, put_front}
use Rattle.ck_lookup.proofs.table.put_table.Goals as goal

pub put_report-requires : goal.put_report-requires
put_report-requires g c =
    let long : length c.deref-2.result.now ≡ length c.deref-3.result.now =
    rw (c.deref-2.ensures.value, c.deref-3.ensures.value) (sym (map_long (λ file. file.items) c.args.job.now.asks.items) ∙ answered_long c.args.job.now.ups.items (map (λ file. file.items) c.args.job.now.asks.items) c.in_ok-answered.answered c.in_ok-answered.ensures) in
    search (rules, long)

pub returns-clause-all : goal.returns-clause-all
returns-clause-all g c =
    let paired = ap (λ asks. asked_of_files (map said_of (map (λ file. file.items) asks)) (map (λ file. file.items) c.deref-3.result.now)) c.deref-2.ensures.value
    ∙ ap (λ found. asked_of_files (map said_of (map (λ file. file.items) c.args.job.now.asks.items)) (map (λ file. file.items) found)) c.deref-3.ensures.value in
    let is = text_is c.args.job.now.ups.items (map (λ file. file.items) c.args.job.now.asks.items) c.in_ok-answered.answered c.in_ok-answered.ensures _ _ _ c.deref.ensures.value c.deref-4.ensures.value paired in
    put_whole table_kind _ _ is _ (λ (text : List ℕ). g.K.Sink.taken c.put_report.new.sink ≡ appended (g.K.Sink.taken c.args.sink.now) text) c.put_report.ensures.all

pub returns-clause-prefix : goal.returns-clause-prefix
returns-clause-prefix g c =
    let paired = ap (λ asks. asked_of_files (map said_of (map (λ file. file.items) asks)) (map (λ file. file.items) c.deref-3.result.now)) c.deref-2.ensures.value
    ∙ ap (λ found. asked_of_files (map said_of (map (λ file. file.items) c.args.job.now.asks.items)) (map (λ file. file.items) found)) c.deref-3.ensures.value in
    let is = text_is c.args.job.now.ups.items (map (λ file. file.items) c.args.job.now.asks.items) c.in_ok-answered.answered c.in_ok-answered.ensures _ _ _ c.deref.ensures.value c.deref-4.ensures.value paired in
    put_front table_kind _ _ is _ _ _ c.put_report.ensures.prefix
