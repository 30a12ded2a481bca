-- How large files may be.
use Rattle.std.specs.Prelude.{ℕ, ◌≤◌, List, length, sum_by}
use Rattle.std.specs.List.{AllByRecursion}
use Rattle.ck_text.specs.Lines.{lines}

-- bytes and lines of one file
abbrev pub most_bytes : ℕ
most_bytes = 33554432

abbrev pub most_lines : ℕ
most_lines = 1000000

-- bytes and lines of all files
abbrev pub all_bytes : ℕ
all_bytes = 268435456

abbrev pub all_lines : ℕ
all_lines = 4000000

-- how many lines a file has
abbrev pub line_count : List ℕ → ℕ
line_count bytes = length (lines bytes)

-- files are within the limits
pub record AreWithin (files : List (List ℕ)) : Type 0 where
  pub short : AllByRecursion (λ bytes. length bytes ≤ most_bytes) files
  pub few_lines : AllByRecursion (λ bytes. line_count bytes ≤ most_lines) files
  pub short_in_all : sum_by length files ≤ all_bytes
  pub few_lines_in_all : sum_by line_count files ≤ all_lines
