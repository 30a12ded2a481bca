use Rattle.std.proofs.Common.{[], ◌∷◌}
use Rattle.ck_signal.specs.Words.{answered}
use Rattle.ck_signal.proofs.calls.answered.Given as goal

abbrev pub ghosts-load_answered : goal.ghosts-load_answered
ghosts-load_answered g a = record { opens = answered ∷ a.reader ∷ [] }
