-- The size that a ring keeps is that of its words.
use Rattle.std.proofs.Common.{◌≡◌, ℕ, ap, ◌∙◌, arith}
use Rattle.ck_run.specs.Tokens.{Table, table, origin}
use Rattle.ck_ring.specs.State.{Origin, Token, size_of, IsSized}

pub size_kept : (n : ℕ) (o : Origin) → IsSized n o → size_of o ≡ n
size_kept n o s = let c = s.counted in omega arith

-- and of the words of each token of it
pub size_seen : (n : ℕ) (t : Token) (w : Table (Unit {0})) → table t ≡ w → IsSized n w.origin → size_of (origin t) ≡ n
size_seen n t w same s = ap (λ (x : Table (Unit {0})). size_of x.origin) same ∙ size_kept n w.origin s
