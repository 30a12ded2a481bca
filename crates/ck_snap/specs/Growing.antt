-- The rule of the book of a log, and what its steps tell.
--
-- Each link names the pen that adds the next one: a pen is the right to bring one cell of the book home, and no key of a cell is used twice.
-- Adding a link brings the cell of its pen home, for good. So while a pen's cell isn't home, no link follows the one that names the pen, and
-- who has the pen knows the whole log.
use Rattle.std.specs.Prelude.{ℕ, ◌≡◌, ◌==◌, Bool, true, List, [], ◌∷◌, ◌++◌, MatchBool, length, ◌≤◌, ◌^◌}
use Rattle.logbook.specs.Pages.{Cell, cell, Step, View, Book, Named, Nib, may_make, may_write}
use Rattle.ck_snap.specs.declared.log.Link.{Link}
use Rattle.ck_snap.specs.Log.{Log, last_of}

-- which log, and the part of it that was reached
pub record LogPart : Type 0 where
  pub book : Book
  pub log : Log

-- the answered updates among links, in order
abbrev pub entries : List Link → Log
entries [] = []
entries (l ∷ ls) = last_of l.entry ++ entries ls

abbrev pub is_home : List Cell → ℕ → Bool
is_home cells k = (cell cells k).1

-- the cells of all pens that were named are home, but maybe that of the last
abbrev pub AreHome : List Cell → List Link → Type 0
AreHome cells [] = Unit {0}
AreHome cells (l ∷ []) = Unit {0}
AreHome cells (l ∷ m ∷ ls) = (is_home cells l.next ≡ true) × AreHome cells (m ∷ ls)

-- the last link names this pen
abbrev pub EndsWith : List Link → ℕ → Type 0
EndsWith [] k = ⊥
EndsWith (l ∷ []) k = l.next ≡ k
EndsWith (l ∷ m ∷ ls) k = EndsWith (m ∷ ls) k

-- the number in the shared word: whether the log has begun
abbrev pub begun : List Link → ℕ
begun [] = 0
begun (l ∷ ls) = 1

-- the first cell is the shared word
pub record IsLogKept (cells : List Cell) (links : List Link) : Type 0 where
  pub word : cell cells 0 ≡ (begun links, true)
  pub used : AreHome cells links

abbrev pub first_word : Book → Named
first_word b = record { tracked = true; key = 0; book = b }

-- a cell was added, with the pen to make its word
abbrev pub MakesCell : Step Link → View Link ℕ → ℕ → View Link ℕ → Type 0
MakesCell s v found w = w.1.0.right ≡ may_make

-- where the log hadn't begun, it has now, by this link
abbrev pub BeginsLog : Step Link → View Link ℕ → ℕ → View Link ℕ → Type 0
BeginsLog s v found w = MatchBool (found == 0) (w.0 ≡ s.ask ∷ []) (Unit {0})

-- the link was added to all that had been seen, and nothing else
abbrev pub Extends : Step Link → View Link ℕ → ℕ → View Link ℕ → Type 0
Extends s v found w = w.0 ≡ v.0 ++ s.ask ∷ []

-- what is known of the end of a log: how many entries it has, its links, and the pen that the last one names
pub record IsLogEnd (count : ℕ) (book : Book) (links : List Link) (pen : Book) (nib : Nib) : Type 0 where
  pub count_is : count ≡ length (entries links)
  pub small : count ≤ 2 ^ 62
  pub same : pen ≡ book
  pub right : nib.right ≡ may_write
  pub ends : EndsWith links nib.key
