use Rattle.std.proofs.Common.{decimal, subst, sym, ◌∙◌, ◌≡◌}
use Rattle.ck_history.specs.Key.{IsKey}
use Rattle.ck_script.specs.Grammar.{FileSays, IsUpdateLine, update_words}
use Rattle.ck_script.proofs.Saying.{no_first_fault}
use Rattle.ck_gen.specs.Generated.{lines_of_updates, numbered, update_text}
use Rattle.ck_gen.proofs.Lawful.{update_text_says}
use Rattle.ck_lookup.proofs.making.generated_updates.Goals as goal

pub returns-in-Ok : goal.returns-in-Ok
returns-in-Ok c =
    let file : c.deref.result.now ≡ update_text c.args.seed c.args.lines = c.deref.ensures.value ∙ c.in_ok-file.ensures in
    sym (c.in-Ok.ensures.only _ (subst (λ bytes. FileSays (IsUpdateLine IsKey) (update_words decimal) bytes (numbered 1 (lines_of_updates c.args.seed c.args.lines))) (sym file) (update_text_says c.args.seed c.args.lines)))

pub unreachable-requires : goal.unreachable-requires
unreachable-requires c =
    let file : c.deref.result.now ≡ update_text c.args.seed c.args.lines = c.deref.ensures.value ∙ c.in_ok-file.ensures in
    let says = subst (λ bytes. FileSays (IsUpdateLine IsKey) (update_words decimal) bytes (numbered 1 (lines_of_updates c.args.seed c.args.lines))) (sym file) (update_text_says c.args.seed c.args.lines) in
    no_first_fault (IsUpdateLine IsKey) (update_words decimal) _ c.deref.result.now _ c.in-Err-Fault.field-0-0 says (rw c.in-Err-Fault.field-0-is at c.in-Err-Fault.ensures.fault)
