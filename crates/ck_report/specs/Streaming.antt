-- A text that goes to a sink piece by piece.
use Rattle.std.specs.Prelude.{◌≡◌, ℕ, List, ◌++◌, Option}
use Rattle.ck_io.specs.Faults.{Rose}
use Rattle.ck_io.specs.Sink.{appended}
use Rattle.ck_report.specs.declared.put.PutError.{PutError}
use Rattle.ck_report.specs.declared.put.PutError.TheVariants.{Failed, Memory}

-- a prefix of the text was put, and what is left of it is still to be put
pub record IsStreamed (old new : Option (List ℕ)) (text left : List ℕ) : Type 0 where
  pub put : List ℕ
  pub taken : new ≡ appended old put
  pub all : put ++ left ≡ text

-- a put is said to have failed only where the sink's count of faults rose
abbrev pub IsPutCause : PutError → ℕ → ℕ → Type 0
IsPutCause Failed before after = Rose before after
IsPutCause Memory before after = Unit {0}
