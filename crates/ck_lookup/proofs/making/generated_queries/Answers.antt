use Rattle.std.proofs.Common.{decimal, subst, sym, ◌∙◌, ◌≡◌}
use Rattle.ck_history.specs.Key.{IsKey}
use Rattle.ck_script.specs.Grammar.{FileSays, IsQueryLine, query_words}
use Rattle.ck_script.proofs.Saying.{no_first_fault}
use Rattle.ck_gen.specs.Generated.{lines_of_queries, numbered, query_text}
use Rattle.ck_gen.proofs.Lawful.{query_text_says}
use Rattle.ck_lookup.proofs.making.generated_queries.Goals as goal

pub returns-in-Ok : goal.returns-in-Ok
returns-in-Ok c =
    let file : c.deref.result.now ≡ query_text c.args.seed c.args.lines = c.deref.ensures.value ∙ c.in_ok-file.ensures in
    sym (c.in-Ok.ensures.only _ (subst (λ bytes. FileSays (IsQueryLine IsKey) (query_words decimal) bytes (numbered 1 (lines_of_queries c.args.seed c.args.lines))) (sym file) (query_text_says c.args.seed c.args.lines c.requires)))

pub unreachable-requires : goal.unreachable-requires
unreachable-requires c =
    let file : c.deref.result.now ≡ query_text c.args.seed c.args.lines = c.deref.ensures.value ∙ c.in_ok-file.ensures in
    let says = subst (λ bytes. FileSays (IsQueryLine IsKey) (query_words decimal) bytes (numbered 1 (lines_of_queries c.args.seed c.args.lines))) (sym file) (query_text_says c.args.seed c.args.lines c.requires) in
    no_first_fault (IsQueryLine IsKey) (query_words decimal) _ c.deref.result.now _ c.in-Err-Fault.field-0-0 says (rw c.in-Err-Fault.field-0-is at c.in-Err-Fault.ensures.fault)
