use Rattle.std.proofs.Common.{◌≡◌, ◌+◌, ◌∙◌, [], ◌∷◌, ◌++◌, take, ap, append_assoc, arith}
use Rattle.ck_pool.proofs.Running.{updates_snoc, within_at}
use Rattle.ck_pool.proofs.Files.{take_get}
use Rattle.ck_pool.proofs.updates.run_updates.Goals as goal

pub run_line-requires-clause-reader : goal.run_line-requires-clause-reader
run_line-requires-clause-reader g c κs within = within_at (g.D.Dict.readers c.args.context.now.dict.now) (g.D.UpFile.LineList.items c.args.lines.now) c.loop-i.i c.get-line.result c.get-line.ensures c.requires.readers

pub run_line-requires-clause-fits : goal.run_line-requires-clause-fits
run_line-requires-clause-fits g c κs within =
    let inv = c.loop-i.invariant in
    c.requires.fits c.loop-i.i c.get-line.result c.get-line.ensures c.loop-i.hand inv.ran.0 c.loop-i.replies.items inv.ready inv.ran.1 inv.ran.2

pub loop-i-preserved : goal.loop-i-preserved
loop-i-preserved g c =
    let lines = g.D.UpFile.LineList.items c.args.lines.now in
    let i = c.loop-i.i in
    let line = c.get-line.result in
    let before = c.loop-i.invariant.ran in
    let now = c.in_ok-run_line.ensures in
    let here = now.ran in
    let taken : take (i + 1) lines ≡ take i lines ++ line ∷ [] = take_get lines i line c.get-line.ensures in
    record {
      ready = now.ready;
      calls = let a = c.loop-i.invariant.calls in let b = now.calls in omega arith;
      ran = (
        before.0 ++ here.0,
        here.2 ∙ (ap (λ l. l ++ here.0) before.1 ∙ append_assoc ((g.D.Dict.hands c.args.context.now.dict.now).done c.args.hand.now) before.0 here.0),
        rw (taken, here.3) (updates_snoc (take i lines) line before.0 here.0 c.loop-i.replies.items here.1 before.2 here.4),
      );
    }
