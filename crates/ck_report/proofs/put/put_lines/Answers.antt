use Rattle.std.proofs.Common.{arith}
use Rattle.ck_report.proofs.Blocks.{block_printed}
use Rattle.ck_report.proofs.Streaming.{streamed_as, streamed_more, streamed_failing, streamed_stopped, err_always}
use Rattle.ck_report.proofs.put.put_lines.Goals as goal

pub returns-in_err-print_lines-clause-err : goal.returns-in_err-print_lines-clause-err
returns-in_err-print_lines-clause-err g c = err_always _ _ (streamed_stopped _ _ _ _ c.loop-rest.invariant.goes)

pub returns-in_err-put_full-clause-err : goal.returns-in_err-put_full-clause-err
returns-in_err-put_full-clause-err g c =
    let e = block_printed (g.P.LinePrinter.line c.args.printer.now) c.loop-rest.before c.round-count.result c.loop-rest.rest.now _ _ c.loop-rest.buffer.items c.print_lines.new.out.items c.split_at.ensures.front c.split_at.ensures.back c.in_ok-print_lines.ensures in
    err_always _ _ (streamed_failing _ _ _ _ c.print_lines.new.out.items _ (streamed_as _ _ _ _ _ c.loop-rest.invariant.goes e) c.in_err-put_full.ensures.err)

pub loop-rest-preserved : goal.loop-rest-preserved
loop-rest-preserved g c =
    let e = block_printed (g.P.LinePrinter.line c.args.printer.now) c.loop-rest.before c.round-count.result c.loop-rest.rest.now _ _ c.loop-rest.buffer.items c.print_lines.new.out.items c.split_at.ensures.front c.split_at.ensures.back c.in_ok-print_lines.ensures in record {
      count = omega arith;
      goes = streamed_more _ _ _ _ c.print_lines.new.out.items _ _ (streamed_as _ _ _ _ _ c.loop-rest.invariant.goes e) c.in_ok-put_full.ensures.ok;
      lasting = omega (arith, c.in_ok-put_full.ensures.lasting);
    }
