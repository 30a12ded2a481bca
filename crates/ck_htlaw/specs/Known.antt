-- What a token's account tells of the table, in a domain whose client holds it.
use Rattle.std.specs.Prelude.{ℕ, ◌≤◌}
use Rattle.ck_run.specs.Tokens.{number, did}
use Rattle.ck_epoch.specs.State.{Origin, Token}
use Rattle.ck_htlaw.specs.Host.{Host, lies}
use Rattle.ck_htlaw.specs.Layout.{IsPiece, log_of}
use Rattle.ck_htlaw.specs.Client.{Answers, answers_after}

-- the root of a region of an arena with so many counters, of 8 to 2^19 slots
pub record IsRoot (counters root : ℕ) : Type 0 where
  pub piece : IsPiece counters root
  pub few : log_of root ≤ 19

-- what the token's account tells
abbrev pub knows : {D : Type 0} → Host D → Origin D → Token D → Answers
knows h origin t = answers_after (lies h origin) origin.words (number t) (did t)
