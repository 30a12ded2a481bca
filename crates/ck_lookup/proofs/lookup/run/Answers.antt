use Rattle.std.proofs.Common.{length, map, ap, arith, refl}
use Rattle.std.specs.Prelude.{string_bytes}
use Rattle.ck_command.specs.Asked.{run_value}
use Rattle.ck_lookup.proofs.Ending.{complete_asked, report_asked, ends_asked, made_asked}
use Rattle.ck_lookup.proofs.Commanding.{command_within, make_within, judge_within}
use Rattle.ck_lookup.proofs.Reporting.{map_long}
use Rattle.ck_lookup.proofs.Verdicts.{judged_asked, done_legal, complete_judged}
use Rattle.ck_lookup.proofs.lookup.run.Goals as goal

pub returns-in-Ok-Some-Run-clause-report : goal.returns-in-Ok-Some-Run-clause-report
returns-in-Ok-Some-Run-clause-report g c command update_file query_files asked tells done =
    report_asked _ _ (run_value c.in-Ok-Some-Run.command) command _ update_file query_files (rw (c.in-Ok-Some-Run.field-0-is, c.in-Ok-Some-Run.field-0-0-is) at c.in-Ok-Some-Run.ensures) asked c.run_command.ensures.ends tells done

pub returns-in-Ok-Some-Run-clause-ends : goal.returns-in-Ok-Some-Run-clause-ends
returns-in-Ok-Some-Run-clause-ends g c command asked =
    ends_asked _ _ (run_value c.in-Ok-Some-Run.command) command _ (rw (c.in-Ok-Some-Run.field-0-is, c.in-Ok-Some-Run.field-0-0-is) at c.in-Ok-Some-Run.ensures) asked c.run_command.ensures.ends

pub returns-in-Ok-Some-Run-clause-complete : goal.returns-in-Ok-Some-Run-clause-complete
returns-in-Ok-Some-Run-clause-complete g c command update_file query_files asked clear =
    complete_asked _ _ (run_value c.in-Ok-Some-Run.command) command _ update_file query_files (rw (c.in-Ok-Some-Run.field-0-is, c.in-Ok-Some-Run.field-0-0-is) at c.in-Ok-Some-Run.ensures) asked c.run_command.ensures.ends clear

pub run_command-requires-clause-queries : goal.run_command-requires-clause-queries
run_command-requires-clause-queries g c κs within =
    let asked = command_within (map string_bytes c.args.words.now) _ (rw (c.in-Ok-Some-Run.field-0-is, c.in-Ok-Some-Run.field-0-0-is) at c.in-Ok-Some-Run.ensures) in
    let some = asked.some_file in
    let few = asked.few_files in
    let named = map_long (λ name. name.now) c.in-Ok-Some-Run.command.queries.items in
    (omega (arith, some, named), omega (arith, few, named))

pub run_command-requires-clause-workers : goal.run_command-requires-clause-workers
run_command-requires-clause-workers g c κs within =
    let asked = command_within (map string_bytes c.args.words.now) _ (rw (c.in-Ok-Some-Run.field-0-is, c.in-Ok-Some-Run.field-0-0-is) at c.in-Ok-Some-Run.ensures) in
    (asked.some_worker, asked.few_workers)

pub run_make-requires-after_bounds : goal.run_make-requires-after_bounds
run_make-requires-after_bounds g c κs within = make_within (map string_bytes c.args.words.now) c.in-Ok-Some-Make.seed c.in-Ok-Some-Make.lines (rw (c.in-Ok-Some-Make.field-0-is, c.in-Ok-Some-Make.field-0-0-is) at c.in-Ok-Some-Make.ensures)

pub returns-in-Ok-Some-Make-clause-made : goal.returns-in-Ok-Some-Make-clause-made
returns-in-Ok-Some-Make-clause-made g c seed lines asked =
    (made_asked _ c.in-Ok-Some-Make.seed c.in-Ok-Some-Make.lines seed lines _ _ _ _ _ (rw (c.in-Ok-Some-Make.field-0-is, c.in-Ok-Some-Make.field-0-0-is) at c.in-Ok-Some-Make.ensures) asked c.run_make.ensures.ends, refl)

pub run_judge-requires : goal.run_judge-requires
run_judge-requires g c =
    let some = judge_within (map string_bytes c.args.words.now) _ (rw (c.in-Ok-Some-Judge.field-0-is, c.in-Ok-Some-Judge.field-0-0-is) at c.in-Ok-Some-Judge.ensures) in
    let named = map_long (λ name. name.now) c.in-Ok-Some-Judge.command.others.items in
    let same = ap length c.deref.ensures.value in
    omega (arith, some, named, same)

pub returns-in-Ok-Some-Judge-clause-judged : goal.returns-in-Ok-Some-Judge-clause-judged
returns-in-Ok-Some-Judge-clause-judged g c command asked =
    judged_asked _ _ _ command _ (rw (c.in-Ok-Some-Judge.field-0-is, c.in-Ok-Some-Judge.field-0-0-is) at c.in-Ok-Some-Judge.ensures) asked (rw c.deref.ensures.value at c.run_judge.ensures.ends)

pub returns-in-Ok-Some-Judge-clause-legal : goal.returns-in-Ok-Some-Judge-clause-legal
returns-in-Ok-Some-Judge-clause-legal g c command update_file query_files report_file asked tells done =
    let ends = judged_asked _ _ _ command _ (rw (c.in-Ok-Some-Judge.field-0-is, c.in-Ok-Some-Judge.field-0-0-is) at c.in-Ok-Some-Judge.ensures) asked (rw c.deref.ensures.value at c.run_judge.ensures.ends) in
    done_legal _ _ update_file query_files report_file _ ends tells done

pub returns-in-Ok-Some-Judge-clause-complete_judged : goal.returns-in-Ok-Some-Judge-clause-complete_judged
returns-in-Ok-Some-Judge-clause-complete_judged g c command update_file query_files report_file asked clear =
    complete_judged _ _ update_file query_files report_file clear _
    (judged_asked _ _ _ command _ (rw (c.in-Ok-Some-Judge.field-0-is, c.in-Ok-Some-Judge.field-0-0-is) at c.in-Ok-Some-Judge.ensures) asked (rw c.deref.ensures.value at c.run_judge.ensures.ends))
