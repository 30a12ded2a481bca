use Rattle.std.proofs.Common.{◌≡◌, ◌+◌, ◌++◌, ◌∷◌, [], length, max, take, append-nil, ap, ◌∙◌, arith}
use Rattle.ck_script.specs.Script.{said_of, updates}
use Rattle.ck_jobs.proofs.Counting.{counting_on, counting_past}
use Rattle.ck_jobs.proofs.Lines.{updates-take}
use Rattle.ck_jobs.proofs.room.count_pairs.Goals.{in-Call+then-pairs-lt-MOST_PAIRS+in_ok-keep_keys-in-Call, in-Call+else-pairs-lt-MOST_PAIRS, in-Hold}
use Rattle.ck_jobs.proofs.room.count_pairs.Goals as goal

pub loop-i-preserved : goal.loop-i-preserved
loop-i-preserved c =
    let lines = c.args.lines.now.items in
    let before = updates (said_of (take c.loop-i.i lines)) in
    let counting = c.loop-i.invariant.counting in
    let few = c.loop-i.invariant.few in
    let more : updates (said_of (take (c.loop-i.i + 1) lines)) ≡ before ++ updates (c.what.result ∷ []) = updates-take lines c.loop-i.i c.what.result c.what.ensures in
    elim c.match-what.branch [
      | in-Call+then-pairs-lt-MOST_PAIRS+in_ok-keep_keys-in-Call w ↦
          let some = w.if-pairs-lt-MOST_PAIRS.true in
          let on = counting_on before w.in-Call.update c.loop-i.keys.keys c.loop-i.pairs counting w.keep_keys.new.keys.keys some w.in_ok-keep_keys-in-Call.ensures w.len.ensures.unique in
          let pairs : c.match-what.pairs ≡ max c.loop-i.pairs (length w.keep_keys.new.keys.keys) = w.pairs-is ∙ (w.max-pairs.ensures ∙ ap (max c.loop-i.pairs) w.len.ensures.len) in
          let within = on.1 in
          record { counting = rw (more, w.in-Call.is, w.keys-is, pairs) on.0; few = omega arith }
      | in-Call+else-pairs-lt-MOST_PAIRS w ↦
          let pairs = w.pairs-is in
          record { counting = rw (more, w.in-Call.is, w.keys-is, w.pairs-is) (counting_past before w.in-Call.update c.loop-i.keys.keys c.loop-i.pairs counting w.if-pairs-lt-MOST_PAIRS.false); few = omega arith }
      | in-Hold w ↦
          let pairs = w.pairs-is in
          record { counting = rw (more, w.in-Hold.is, append-nil before, w.keys-is, w.pairs-is) counting; few = omega arith }
    ]
