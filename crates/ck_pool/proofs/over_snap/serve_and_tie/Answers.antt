use Rattle.std.proofs.Common.{◌≡◌, ◌∙◌, ◌<◌, ◌++◌, length, map, sym, ap, subst, arith}
use Rattle.ck_snap.specs.Places.{Writing, log_of_events}
use Rattle.ck_snap.specs.Tokens.{WriterView, IsPassOf}
use Rattle.ck_pool.specs.Limits.{call_bound}
use Rattle.ck_pool.specs.Runs.{UpdatesRan}
use Rattle.ck_pool.specs.Snapshots.{snap_hand, snap_eye, AllPlacedIn}
use Rattle.ck_pool.proofs.Files.{each_all, served_each, served_long}
use Rattle.ck_pool.proofs.Opening.{all_fit}
use Rattle.ck_pool.proofs.Snapping.{fresh_ready, fresh_numbered, fresh_unused, snap_replies, snap_pairs, snap_legal}
use Rattle.ck_pool.proofs.over_snap.serve_and_tie.Goals as goal

pub serve-requires-clause-eyes : goal.serve-requires-clause-eyes
serve-requires-clause-eyes g c κs within = (
  fresh_ready c.args.snap.now 0 c.args.passes.items (omega (arith, c.requires.passes.1, c.requires.passes.2, c.args.passes.ok)) c.requires.passes.0,
  fresh_numbered c.args.snap.now 0 c.args.passes.items c.requires.passes.0,
)

pub serve-requires-clause-fits : goal.serve-requires-clause-fits
serve-requires-clause-fits g c κs within = all_fit (snap_hand c.args.snap.now) (λ w call. tt) c.args.hand.now c.args.job.now.ups.items

pub tie_all-requires-clause-passes : goal.tie_all-requires-clause-passes
tie_all-requires-clause-passes g c =
    each_all (λ p. IsPassOf c.args.snap.now p × (p.calls < call_bound)) c.in_ok-served.served.eyes.items
    (λ k e is. let h = served_each (snap_eye c.args.snap.now) c.args.passes.items (map (λ file. file.items) c.args.job.now.asks.items) c.in_ok-served.served.eyes.items (map (λ file. file.items) c.in_ok-served.served.answers.items) c.in_ok-served.ensures.queries k e is in
    (h.0, let few = h.1 in omega arith))

pub tie_all-requires-clause-count : goal.tie_all-requires-clause-count
tie_all-requires-clause-count g c =
    let long : length c.in_ok-served.served.eyes.items ≡ length c.args.passes.items = served_long (snap_eye c.args.snap.now) c.args.passes.items (map (λ file. file.items) c.args.job.now.asks.items) c.in_ok-served.served.eyes.items (map (λ file. file.items) c.in_ok-served.served.answers.items) c.in_ok-served.ensures.queries in
    omega (arith, long, c.requires.passes.1, c.requires.files.1, c.args.passes.ok, c.in_ok-served.served.eyes.ok)

pub returns-clause-answered : goal.returns-clause-answered
returns-clause-answered g c =
    let u = c.in_ok-served.ensures.updates in
    let ups = c.args.job.now.ups.items in
    let rs = c.in_ok-served.served.replies.items in
    let eyes = c.in_ok-served.served.eyes.items in
    let done = c.tie_all.new.hand.done in
    let same : done ≡ c.serve.new.hand.done = c.in_ok-tie_all.ensures.hand.1 in
    let all : done ≡ u.0 = same ∙ (u.1 ∙ ap (λ (w : WriterView). w.done ++ u.0) c.requires.hand) in
    let ran : UpdatesRan ups done rs = subst (λ (es : Writing). UpdatesRan ups es rs) (sym all) u.2 in
    let tied : AllPlacedIn (log_of_events done) eyes = subst (λ (es : Writing). AllPlacedIn (log_of_events es) eyes) (sym same) c.in_ok-tie_all.ensures.tied in
    record {
      replied = snap_replies c.args.snap.now ups done rs ran c.in_ok-pairs.ensures.current.replies;
      legal = snap_legal c.args.snap.now ups done rs ran c.args.passes.items (map (λ file. file.items) c.args.job.now.asks.items) eyes (map (λ file. file.items) c.in_ok-served.served.answers.items) c.requires.no_hold
          (fresh_unused c.args.snap.now 0 c.args.passes.items c.requires.passes.0) c.in_ok-served.ensures.queries tied;
      final = c.in_ok-pairs.ensures.pairs ∙ snap_pairs c.args.snap.now ups done rs ran;
    }
