-- What contracts see of the ends of a dictionary: its hand, with which updates are made, and its eyes, with which queries are asked.
use Rattle.std.specs.Prelude.{ℕ, List}
use Rattle.ck_history.specs.declared.event.WriterEvent.{WriterEvent}
use Rattle.ck_history.specs.declared.event.ReaderEvent.{ReaderEvent}

-- Of a hand: that it was made with this dictionary and stands between two calls, how many counted calls were made with it, its events, and
-- whether the dictionary has room for this call after them
pub record HandMeaning (H C R : Type 0) : Type 1 where
  pub ready : H → Type 0
  pub calls : H → ℕ
  pub done : H → List (WriterEvent C R)
  pub fits : H → C → Type 0

-- Of an eye the same, and the number of its reader, from 0
pub record EyeMeaning (E A B : Type 0) : Type 1 where
  pub ready : E → Type 0
  pub number : E → ℕ
  pub calls : E → ℕ
  pub done : E → List (ReaderEvent A B)
