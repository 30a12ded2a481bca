use Rattle.std.proofs.Common.{◌≡◌, ◌∙◌, ap, subst, IfOk}
use Rattle.ck_gen.specs.Summaries.{summary_of, summary_lines}
use Rattle.ck_lookup.proofs.Generating.{few_lines, in_range, summary_is}
use Rattle.ck_lookup.proofs.making.make.Goals as goal

pub run_over_table-requires-clause-lines : goal.run_over_table-requires-clause-lines
run_over_table-requires-clause-lines g c κs within = few_lines c.args.seed c.args.lines _ _ c.in_ok-job.ensures.updates c.in_ok-job.ensures.queries c.requires

pub run_over_table-requires-clause-ranges : goal.run_over_table-requires-clause-ranges
run_over_table-requires-clause-ranges g c κs within = in_range c.args.seed c.args.lines _ _ c.in_ok-job.ensures.updates c.in_ok-job.ensures.queries

pub returns : goal.returns
returns g c =
    let x = c.in_ok-answered.answered in
    let found = c.index-answers.result.now in
    let new_is : c.new.result ≡ summary_of x.replies.items found.items x.pairs.items = rw (c.deref.ensures.value, c.deref-2.ensures.value, c.deref-3.ensures.value) at c.new.ensures in
    let text_is = summary_is c.args.seed c.args.lines _ _ c.in_ok-job.ensures.updates c.in_ok-job.ensures.queries x c.in_ok-answered.ensures found c.index-answers.ensures in
    subst (λ lines. IfOk c.summary_text.result (λ text. text.items ≡ lines)) (ap summary_lines new_is ∙ text_is) c.summary_text.ensures
