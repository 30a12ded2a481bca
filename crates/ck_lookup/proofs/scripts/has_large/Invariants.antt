use Rattle.std.specs.Prelude.{nat_le}
use Rattle.std.proofs.Common.{◌≡◌, drop, length}
use Rattle.std.specs.List.{list_any}
use Rattle.ck_lookup.proofs.scripts.has_large.Given as goal

-- what the files that are left say is what all say
abbrev pub invariant-loop-file : goal.invariant-loop-file
invariant-loop-file l = list_any (λ file. nat_le 131072 (length file.items)) (drop l.file-index l.files) ≡ list_any (λ file. nat_le 131072 (length file.items)) l.files
