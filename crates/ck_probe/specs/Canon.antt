-- The spelling under which names are compared.
use Rattle.std.specs.Prelude.{ℕ, List, map, if◌then◌else◌}
use Rattle.std.specs.Char.{to_ascii_lowercase}
use Rattle.ck_probe.specs.declared.names.Style.{Style}

-- under `fold` each letter from A to Z is its lower-case letter, and else the name is its own canon name
abbrev pub canon_of : Style → List ℕ → List ℕ
canon_of style name = if style.fold then map to_ascii_lowercase name else name
