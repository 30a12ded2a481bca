-- A text as lines.
use Rattle.std.specs.Prelude.{ℕ, List, [], ◌∷◌, ◌++◌, ◌==◌}
use Rattle.std.specs.List.{slice_split}

-- the parts before, between and after the bytes equal to c
abbrev pub parts : ℕ → List ℕ → List (List ℕ)
parts c bs = slice_split (λ b. b == c) bs

-- bytes are a line, if there are any
abbrev pub line_if_any : List ℕ → List (List ℕ)
line_if_any [] = []
line_if_any (b ∷ bytes) = (b ∷ bytes) ∷ []

-- what stands after the last line feed is a line where it has a byte
abbrev pub last_if_any : List (List ℕ) → List (List ℕ)
last_if_any [] = []
last_if_any (last ∷ []) = line_if_any last
last_if_any (line ∷ next ∷ more) = line ∷ last_if_any (next ∷ more)

-- the lines of a file: a line feed ends a line, and bytes after the last one form a last line
abbrev pub lines : List ℕ → List (List ℕ)
lines bytes = last_if_any (parts 10 bytes)

-- the same, where each part but the last gets the line feed that ended it
abbrev pub with_feeds : List (List ℕ) → List (List ℕ)
with_feeds [] = []
with_feeds (last ∷ []) = line_if_any last
with_feeds (line ∷ next ∷ more) = (line ++ 10 ∷ []) ∷ with_feeds (next ∷ more)

-- the lines of a text, each with its line feed; bytes after the last line feed are a last line that has none
abbrev pub lines_with_feeds : List ℕ → List (List ℕ)
lines_with_feeds text = with_feeds (parts 10 text)
