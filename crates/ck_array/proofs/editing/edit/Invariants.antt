use Rattle.ck_array.specs.Writes.{opens_of}
use Rattle.ck_array.proofs.editing.edit.Given as goal

abbrev pub ghosts-edit_pending : goal.ghosts-edit_pending
ghosts-edit_pending g a = record { opens = opens_of a.e }
