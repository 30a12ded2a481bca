use Rattle.std.proofs.Common.{arith, ap, ◌+◌, map}
use Rattle.std.proofs.lemmas.Result.{err_from_is_err_and}
use Rattle.ck_lookup.proofs.Scripting.{take_mapped, mapped_at, map_push, queries_push, any_wait_push, refused_queries}
use Rattle.ck_lookup.proofs.scripts.queries_in.Goals as goal

pub returns-in_err-said : goal.returns-in_err-said
returns-in_err-said g c =
    let p = err_from_is_err_and c.from_residual.result c.from_residual.ensures.1 in
    let kept = c.loop-file.invariant in
    let here = mapped_at (λ file. file.items) c.args.files.now c.loop-file.file-index c.file-item.result (omega arith) c.file-item.is in
    rw (p.1, p.2) (refused_queries g.T.RunKind.kind _ _ c.loop-file.file-index (c.loop-file.number + 1) c.file-item.result.items _ (ap (λ n. n + 1) kept.count) here kept.read (rw c.deref.ensures.value at c.in_err-said.ensures))

pub loop-file-preserved : goal.loop-file-preserved
loop-file-preserved g c =
    let kept = c.loop-file.invariant in
    let files = take_mapped (λ file. file.items) c.args.files.now c.loop-file.file-index c.file-item.result (omega arith) c.file-item.is in
    record {
      count = ap (λ n. n + 1) kept.count;
      read = rw (files, c.in_ok-push.ensures.items, map_push) (queries_push g.T.RunKind.kind _ _ _ _ kept.read (rw c.deref.ensures.value at c.in_ok-said.ensures.0));
      waits = rw (c.in_ok-push.ensures.items, map_push) (any_wait_push (map g.T.AskFile.LineList.items c.loop-file.asks.items) (g.T.AskFile.LineList.items c.in_ok-said.said) _ _ kept.waits c.in_ok-said.ensures.1);
    }
