use Rattle.ck_registry.proofs.FirstWords.{AreFirst}
use Rattle.ck_registry.proofs.opening.opening_words.Given as goal

abbrev pub invariant-loop-rec : goal.invariant-loop-rec
invariant-loop-rec l = record { first : AreFirst l.records l.rec l.words.items }
