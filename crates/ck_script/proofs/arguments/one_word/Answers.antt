use Rattle.ck_script.proofs.Verbs.{more_words}
use Rattle.ck_script.proofs.arguments.one_word.Goals as goal

pub returns-in-Some : goal.returns-in-Some
returns-in-Some c one = more_words c.args.rest c.in_ok-rest.field-0 c.cut.result.0.now c.in-Some.field-0.now c.in_ok-rest.was (rw c.in-Some.is at c.cut.ensures.parts) one
