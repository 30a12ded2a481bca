-- Memory that is there before it is needed.
use Rattle.std.specs.Prelude.{ℕ, ◌≤◌, vec_len, vec_capacity}
use Rattle.std.specs.declared.vec.Vec.{Vec}

-- there are at most so many pairs, and there is memory for so many
abbrev pub HasRoom : {T A : Type 0} → ℕ → Vec T A → Type 0
HasRoom most pairs = (vec_len pairs ≤ most) × (most ≤ vec_capacity pairs)
