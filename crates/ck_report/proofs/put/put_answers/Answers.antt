use Rattle.std.proofs.Common.{◌≡◌, ◌+◌, ◌++◌, length, drop, ap, sym, subst, ◌∙◌, arith}
use Rattle.std.proofs.lemmas.List.{drop_all}
use Rattle.ck_script.specs.Script.{said_of}
use Rattle.ck_report.specs.Numbered.{numbered, answer_line}
use Rattle.ck_report.specs.Pairing.{asked_lines}
use Rattle.ck_report.proofs.Answering.{pairs_printed, answers_whole, answers_stopped, answers_failing}
use Rattle.ck_report.proofs.Streaming.{streamed_as, streamed_more, err_always}
use Rattle.ck_report.proofs.put.put_answers.Goals as goal

pub returns-in_err-given-clause-err : goal.returns-in_err-given-clause-err
returns-in_err-given-clause-err g c = err_always _ _ (answers_stopped g.K.KeyWord.spelling _ _ c.args.f _ _ _ c.loop-start.invariant.goes)

pub returns-in_err-print_lines-clause-err : goal.returns-in_err-print_lines-clause-err
returns-in_err-print_lines-clause-err g c = err_always _ _ (answers_stopped g.K.KeyWord.spelling _ _ c.args.f _ _ _ c.loop-start.invariant.goes)

pub returns-in_err-put_full-clause-err : goal.returns-in_err-put_full-clause-err
returns-in_err-put_full-clause-err g c =
    let e = pairs_printed g.K.KeyWord.spelling c.args.f c.loop-start.before c.pair_block.new.block.items _ _ c.loop-start.buffer.items c.print_lines.new.out.items c.in_ok-given.ensures.paired (rw c.deref.ensures.value at c.in_ok-print_lines.ensures) in
    err_always _ _ (answers_failing g.K.KeyWord.spelling _ _ c.args.f _ _ _ c.print_lines.new.out.items _ (streamed_as _ _ _ _ _ c.loop-start.invariant.goes e) c.in_err-put_full.ensures.err)

pub loop-start-preserved : goal.loop-start-preserved
loop-start-preserved g c =
    let block = c.pair_block.new.block.items in
    let back = said_of (drop (c.loop-start.start + c.round.result) (g.F.LineList.items c.args.lines.now)) in
    let left = c.split_at.result.1.now in
    let is = subst (λ bs. block ++ asked_lines back bs ≡ asked_lines (said_of (drop c.loop-start.start (g.F.LineList.items c.args.lines.now))) c.loop-start.left.now) (sym c.split_at.ensures.back) c.in_ok-given.ensures.paired in
    let e = pairs_printed g.K.KeyWord.spelling c.args.f c.loop-start.before block (asked_lines back left) _ c.loop-start.buffer.items c.print_lines.new.out.items is (rw c.deref.ensures.value at c.in_ok-print_lines.ensures) in
    let long : length block ≡ c.len-in-loop-start-2.result = omega (arith, c.len-in-loop-start-2.ensures) in
    let e' = e ∙ ap (λ m. c.print_lines.new.out.items ++ numbered (answer_line g.K.KeyWord.spelling c.args.f) (c.loop-start.before + m) (asked_lines back left)) long in
    record {
      within = omega (arith, c.round.ensures.within);
      count = omega (arith, c.in_ok-given.ensures.count);
      goes = streamed_more _ _ _ _ c.print_lines.new.out.items _ _ (streamed_as _ _ _ _ _ c.loop-start.invariant.goes e') c.in_ok-put_full.ensures.ok;
      lasting = omega (arith, c.in_ok-put_full.ensures.lasting);
    }

pub returns-clause-ok : goal.returns-clause-ok
returns-clause-ok g c =
    answers_whole g.K.KeyWord.spelling _ _ c.args.f _ _ _ _ _ _ (ap said_of (drop_all c.loop-start.start (g.F.LineList.items c.args.lines.now) (omega arith))) c.loop-start.invariant.goes
