use Rattle.std.proofs.Common.{◌≡◌, ◌∙◌, ◌++◌, map, sym, ap, subst, arith}
use Rattle.ck_ht.specs.Ends.{IsPassReady}
use Rattle.ck_ht.specs.Events.{Writing, pass_events, hand_events}
use Rattle.ck_pool.specs.Runs.{UpdatesRan}
use Rattle.ck_jobs.proofs.Ends.{fresh_ready, fresh_in_order, none_done, backs_made, backs_ready}
use Rattle.ck_jobs.proofs.Tables.{will_fit, table_results}
use Rattle.ck_jobs.proofs.over_table.serve_and_close.Goals as goal

pub serve-requires-clause-eyes : goal.serve-requires-clause-eyes
serve-requires-clause-eyes g c κs within =
    let h = c.args.dict.table in let ps = c.args.passes.items in
    let readers = c.requires.readers in let long = c.requires.passes.0 in let ok = c.args.passes.ok in (
      fresh_ready IsPassReady (λ p. pass_events h.origin p.token) h 0 ps (omega arith) c.requires.passes.1 c.requires.ready,
      fresh_in_order IsPassReady (λ p. pass_events h.origin p.token) h 0 ps c.requires.passes.1,
    )

pub serve-requires-clause-fits : goal.serve-requires-clause-fits
serve-requires-clause-fits g c κs within = will_fit _ _ c.args.dict.table c.args.job.now.ups.items c.requires.room c.args.hand c.requires.events

pub close-closed-requires-clause-passes : goal.close-closed-requires-clause-passes
close-closed-requires-clause-passes g c =
    let h = c.args.dict.table in let s = c.in_ok-served.served in
    backs_made IsPassReady (λ p. pass_events h.origin p.token) h c.args.passes.items (map (λ file. file.items) c.args.job.now.asks.items) s.eyes.items (map (λ file. file.items) s.answers.items) c.in_ok-served.ensures.queries

pub close-closed-requires-clause-ready : goal.close-closed-requires-clause-ready
close-closed-requires-clause-ready g c =
    let h = c.args.dict.table in let s = c.in_ok-served.served in
    backs_ready IsPassReady (λ p. pass_events h.origin p.token) h c.args.passes.items (map (λ file. file.items) c.args.job.now.asks.items) s.eyes.items (map (λ file. file.items) s.answers.items) c.in_ok-served.ensures.queries

pub returns : goal.returns
returns g c =
    let h = c.args.dict.table in
    let s = c.in_ok-served.served in let e = c.in_ok-served.ensures in
    let ups = c.args.job.now.ups.items in
    let token = c.serve.new.hand.writer.token in
    let u = e.updates in
    let done : hand_events h.origin token ≡ u.0 = u.1 ∙ ap (λ (es : Writing). es ++ u.0) c.requires.events in
    table_results h token e.hand.0.made s.eyes.items c.close-closed.result.words.items c.close-closed.ensures.closed ups s.replies.items
    (subst (λ (es : Writing). UpdatesRan ups es s.replies.items) (sym done) u.2)
    c.args.passes.items (map (λ file. file.items) c.args.job.now.asks.items) (map (λ file. file.items) s.answers.items)
    (none_done IsPassReady (λ p. pass_events h.origin p.token) h c.args.passes.items c.requires.unused) e.queries e.numbered
    c.in_ok-pairs.pairs.items c.in_ok-pairs.ensures
