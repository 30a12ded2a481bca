use Rattle.std.proofs.Common.{[], ◌∷◌}
use Rattle.ck_signal.specs.Words.{reached}
use Rattle.ck_signal.proofs.calls.reached.Given as goal

abbrev pub ghosts-load_applied : goal.ghosts-load_applied
ghosts-load_applied g a = record { opens = reached ∷ a.wanted ∷ [] }
