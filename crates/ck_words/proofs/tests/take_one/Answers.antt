use Rattle.std.proofs.Common.{sym, subst}
use Rattle.ck_words.specs.Held.{HoldsPieces}
use Rattle.ck_words.proofs.HeldLemmas.{holds_more}
use Rattle.ck_words.proofs.tests.take_one.Goals as goal

pub returns-in_ok-push-in-Some-clause-holds : goal.returns-in_ok-push-in-Some-clause-holds
returns-in_ok-push-in-Some-clause-holds c =
    subst (HoldsPieces c.take.new.self) (sym c.in_ok-push-in-Some.ensures.items)
    (holds_more c.args.pool.now c.take.new.self c.args.held.now.items c.requires.holds c.in-Some.at c.args.log c.in-Some.ensures.is_new c.in-Some.ensures.adds)
