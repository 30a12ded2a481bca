use Rattle.std.proofs.Common.{◌+◌, ◌++◌, arith}
use Rattle.ck_script.specs.Script.{said_of}
use Rattle.ck_report.specs.Text.{answer_lines}
use Rattle.ck_report.specs.Pairing.{asked_lines}
use Rattle.ck_report.proofs.Answering.{next_file}
use Rattle.ck_report.proofs.Streaming.{streamed_as, streamed_more, streamed_failing, err_always}
use Rattle.ck_report.proofs.put.put_files.Goals as goal

pub returns-in_err-put_answers-clause-err : goal.returns-in_err-put_answers-clause-err
returns-in_err-put_answers-clause-err g c =
    let file = c.index-asks-i.result in
    let bs = c.index-answers-i.result in
    let lines = answer_lines g.K.KeyWord.spelling (c.loop-i.i + 1) 1 (asked_lines (said_of (g.F.LineList.items file)) bs.items) in
    let e = next_file g.K.KeyWord.spelling g.F.LineList.items c.args.asks.now c.args.answers.now c.loop-i.i file bs c.loop-i.buffer.items c.loop-i-test.true c.requires c.index-asks-i.is c.index-answers-i.is in
    err_always _ _ (streamed_failing _ _ _ _ (c.loop-i.buffer.items ++ lines) _ (streamed_as _ _ _ _ _ c.loop-i.invariant.goes e) (rw c.deref.ensures.value at c.in_err-put_answers.ensures.err))

pub loop-i-preserved : goal.loop-i-preserved
loop-i-preserved g c =
    let file = c.index-asks-i.result in
    let bs = c.index-answers-i.result in
    let lines = answer_lines g.K.KeyWord.spelling (c.loop-i.i + 1) 1 (asked_lines (said_of (g.F.LineList.items file)) bs.items) in
    let e = next_file g.K.KeyWord.spelling g.F.LineList.items c.args.asks.now c.args.answers.now c.loop-i.i file bs c.loop-i.buffer.items c.loop-i-test.true c.requires c.index-asks-i.is c.index-answers-i.is in
    record {
      goes = streamed_more _ _ _ _ (c.loop-i.buffer.items ++ lines) _ _ (streamed_as _ _ _ _ _ c.loop-i.invariant.goes e) (rw c.deref.ensures.value at c.in_ok-put_answers.ensures.ok);
      lasting = omega (arith, c.in_ok-put_answers.ensures.lasting);
    }
