use Rattle.std.proofs.Common.{◌≡◌, ◌≤◌, ◌+◌, ◌*◌, ◌++◌, List, ℕ, Vec, IfOk, length, get_or, arith, ap, ◌∙◌, subst}
use Rattle.std.specs.declared.alloc.Global.{Global}
use Rattle.ck_report.specs.Numbered.{numbered, AreTexts}
use Rattle.ck_report.proofs.Blocks.{AreBlocks, blocks_whole}
use Rattle.ck_report.proofs.Streaming.{on_ok_map}
use Rattle.ck_report.proofs.tasks.Tasks.print_lines.Goals as goal

-- the texts of the blocks, one after another, are the lines
pub returns : goal.returns
returns g c =
    let line = g.P.LinePrinter.line c.args.printer.now in
    let texts = c.in_ok-texts.texts.items in
    let out = c.args.out.now.items in
    let few : length c.args.items.now ≤ length texts * 8192 = omega (arith, c.in_ok-texts.ensures.len) in
    let each : AreBlocks line 8192 c.args.before c.args.items.now texts = λ n d lt.
    let call = (c.in_ok-texts.ensures.each n d lt).1 in
    subst (λ b. IfOk (get_or texts n d) (λ (t : Vec ℕ Global). t.items ≡ numbered line (c.args.before + n * 8192) b)) call.argument_is.value call.call in
    let all : (text : List ℕ) × AreTexts c.deref.result.now text × (c.append_texts.new.out.items ≡ out ++ text) → c.append_texts.new.out.items ≡ out ++ numbered line c.args.before c.args.items.now = λ h.
    h.2 ∙ ap (λ t. out ++ t) (blocks_whole line 8192 c.args.before c.args.items.now texts h.0 few each (subst (λ ts. AreTexts ts h.0) c.deref.ensures.value h.1)) in
    on_ok_map c.append_texts.result _ _ all c.append_texts.ensures
