use Rattle.std.proofs.Common.{refl, arith}
use Rattle.ck_text.proofs.Cutting.{parts_some}
use Rattle.ck_script.proofs.arguments.no_word.Goals as goal

pub returns-in-Some : goal.returns-in-Some
returns-in-Some c = (refl, λ none. omega (arith, parts_some 32 c.in-Some.field-0.now, rw c.in-Some.is at none))
