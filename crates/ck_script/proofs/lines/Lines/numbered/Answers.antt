use Rattle.std.proofs.Common.{◌≡◌, suc, refl, ◌∙◌, ◌+◌, ◌++◌, ◌∷◌, [], ap, sym, arith}
use Rattle.std.proofs.lemmas.Option.{slice_get_read}
use Rattle.ck_script.proofs.Numbering.{numbered_next}
use Rattle.ck_script.proofs.lines.Lines.numbered.Goals as goal

pub loop-i-preserved : goal.loop-i-preserved
loop-i-preserved g c =
    let i = c.loop-i.i in let what = c.index-said-i.result in
    let number : 1 + i ≡ i + 1 = omega arith in let next : suc i ≡ i + 1 = omega arith in
    c.in_ok-push.ensures.ok ∙ (ap (λ lines. lines ++ record { line = i + 1; what = what } ∷ []) c.loop-i.invariant
    ∙ sym (rw (number, next) at (numbered_next c.args.said.now 1 i what (slice_get_read c.args.said.now _ i what refl (omega arith) c.index-said-i.is))))
