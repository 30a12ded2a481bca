use Rattle.std.proofs.Common.{◌+◌, ◌++◌, arith}
use Rattle.ck_report.specs.Numbered.{numbered}
use Rattle.ck_report.specs.ListText.{view_line}
use Rattle.ck_report.proofs.ListLines.{next_views}
use Rattle.ck_report.proofs.Streaming.{streamed_as, streamed_more, streamed_failing, err_always}
use Rattle.ck_report.proofs.put_list.put_views.Goals as goal

pub returns-in_err-put_lines-clause-err : goal.returns-in_err-put_lines-clause-err
returns-in_err-put_lines-clause-err g c =
    let file = c.index-answers-i.result in
    let lines = numbered (view_line (c.loop-i.i + 1)) 0 file.items in
    let e = next_views view_line c.args.answers.now c.loop-i.i file c.loop-i.buffer.items c.loop-i-test.true c.index-answers-i.is in
    err_always _ _ (streamed_failing _ _ _ _ (c.loop-i.buffer.items ++ lines) _ (streamed_as _ _ _ _ _ c.loop-i.invariant.goes e) (rw c.deref.ensures.value at c.in_err-put_lines.ensures.err))

pub loop-i-preserved : goal.loop-i-preserved
loop-i-preserved g c =
    let file = c.index-answers-i.result in
    let lines = numbered (view_line (c.loop-i.i + 1)) 0 file.items in
    let e = next_views view_line c.args.answers.now c.loop-i.i file c.loop-i.buffer.items c.loop-i-test.true c.index-answers-i.is in
    record {
      goes = streamed_more _ _ _ _ (c.loop-i.buffer.items ++ lines) _ _ (streamed_as _ _ _ _ _ c.loop-i.invariant.goes e) (rw c.deref.ensures.value at c.in_ok-put_lines.ensures.ok);
      lasting = omega (arith, c.in_ok-put_lines.ensures.lasting);
    }
