-- One query more than a run of a list may have.
use Rattle.std.specs.Prelude.{ℕ, ◌+◌, List, [], ◌∷◌, ◌++◌, map, slice_get, Option}
use Rattle.ck_script.specs.declared.line.Numbered.{Numbered}
use Rattle.ck_script.specs.declared.line.AskLine.{AskLine}
use Rattle.ck_script.specs.declared.line.AskLine.TheVariants.{Ask, Wait}
use Rattle.ck_script.specs.declared.check.RangeFault.{RangeFault}
use Rattle.ck_script.specs.declared.views.TheConstants.{MOST_VIEWS}

module _ {A : Type 0} where
  -- the number of a line, if it is a query
  abbrev pub query_line : ℕ → AskLine A → List ℕ
  query_line line (Ask ask) = line ∷ []
  query_line line (Wait count) = []

  -- the numbers of the lines of a file that are queries
  abbrev pub query_lines : List (Numbered (AskLine A)) → List ℕ
  query_lines [] = []
  query_lines (l ∷ more) = query_line l.line l.what ++ query_lines more

  -- where the queries of all files stand, in order, the files numbered from f on
  abbrev pub query_places : ℕ → List (List (Numbered (AskLine A))) → List RangeFault
  query_places f [] = []
  query_places f (asks ∷ more) = map (λ line. record { file = f; line = line }) (query_lines asks) ++ query_places (f + 1) more

  -- the first query that is one too many: as many as a run may have stand before it
  abbrev pub many_fault : List (List (Numbered (AskLine A))) → Option RangeFault
  many_fault asks = slice_get (query_places 1 asks) MOST_VIEWS
