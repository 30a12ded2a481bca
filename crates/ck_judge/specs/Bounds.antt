-- Up to which place each query of a file is held.
use Rattle.std.specs.Prelude.{◌≡◌, ℕ, ◌+◌, ◌≤◌, List, [], ◌∷◌, slice_get}
use Rattle.std.specs.Option.{unwrap_or}
use Rattle.ck_history.specs.Legal.{Query}
use Rattle.ck_script.specs.Script.{HoldLine, greatest}
use Rattle.ck_judge.specs.declared.bounds.Bounded.{Bounded}
use Rattle.ck_judge.specs.declared.bounds.Held.{Held}

-- a query with its bounds, as one of a script
abbrev pub query_of : {K : Type 0} → Bounded K → Query K
query_of b = record { key = b.key; least = b.least; greatest = b.greatest }

-- what was read of a `hold` line
abbrev pub hold_line : Held → HoldLine
hold_line h = record { file = h.file; count = h.count; after = h.after }

-- `limits` has the greatest places of the first queries of file f, and those after them may have any place
abbrev pub AreLimits : ℕ → ℕ → List HoldLine → List ℕ → Type 0
AreLimits all f hs limits = (i : ℕ) → greatest all f (i + 1) hs ≡ unwrap_or (slice_get limits i) all

-- the lines stand after more and more updates, from m up to all of them
abbrev pub RiseTo : ℕ → ℕ → List HoldLine → Type 0
RiseTo all m [] = m ≤ all
RiseTo all m (h ∷ hs) = (m ≤ h.after) × RiseTo all h.after hs
