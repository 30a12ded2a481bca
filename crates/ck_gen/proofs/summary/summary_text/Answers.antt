use Rattle.std.proofs.Common.{ℕ, List, ◌++◌, ◌∙◌, ap, refl}
use Rattle.ck_gen.specs.Summaries.{summary_words, summary_lines}
use Rattle.ck_gen.proofs.Lines.{made_of_lines}
use Rattle.ck_gen.proofs.summary.summary_text.Goals as goal

pub returns : goal.returns
returns c = made_of_lines (summary_words c.args.s.now) _ _ (_, c.in_ok-print_count.ensures, (_, c.in_ok-print_count-2.ensures, (_, c.in_ok-print_count-3.ensures, (_, c.in_ok-print_count-4.ensures, (_, c.in_ok-print_count-5.ensures, (_, c.in_ok-print_count-6.ensures, (_, c.in_ok-print_count-7.ensures, (_, c.in_ok-print_count-8.ensures, (_, c.in_ok-print_count-9.ensures, (_, c.in_ok-extend_from_slice.ensures.items, refl))))))))))
    ∙ ap (λ (made : List ℕ). made ++ summary_lines c.args.s.now) c.new-out.ensures.items
