use Rattle.std.proofs.Common.{[], ◌∷◌}
use Rattle.ck_htlaw.specs.Calls.{look}
use Rattle.ck_htread.proofs.reading.load_look.Given as goal

abbrev pub ghosts-load_root : goal.ghosts-load_root
ghosts-load_root g a = record { opens = look ∷ a.key ∷ [] }
