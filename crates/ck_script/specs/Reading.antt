-- What the parts of a reader say of a line.
use Rattle.std.specs.Prelude.{◌≡◌, ℕ, ◌<◌, ◌≤◌, ◌^◌, List, [], ◌∷◌, ◌++◌, length, drop, decimal, Option, Some, None}
use Rattle.std.specs.Borrow.{Bor}
use Rattle.ck_script.specs.declared.fault.Why.{Why}
use Rattle.ck_script.specs.declared.fault.ScriptFault.{ScriptFault}
use Rattle.ck_script.specs.declared.line.Numbered.{Numbered}
use Rattle.ck_text.specs.Lines.{lines}
use Rattle.ck_text.specs.Words.{words}
use Rattle.ck_script.specs.Grammar.{IsSilent, Says, Adds}

-- the fault is that of this line, which has this number
pub record IsFaultyLine (HasFault : List (List ℕ) → Why → Type 0) (n : ℕ) (line : List ℕ) (fault : ScriptFault) : Type 0 where
  pub number : fault.line ≡ n
  pub speaks : IsSilent line → ⊥
  pub why : HasFault (words line) fault.why

-- the words of what stands after a line's first space
abbrev pub words_after : Option (Bor (List ℕ)) → List (List ℕ)
words_after None = []
words_after (Some rest) = words rest.now

-- the line that has this fault is the first of the text
pub record IsFaultyFirstLine (HasFault : List (List ℕ) → Why → Type 0) (n : ℕ) (text : List ℕ) (fault : ScriptFault) : Type 0 where
  pub line : List ℕ
  pub later : List (List ℕ)
  pub cut : lines text ≡ line ∷ later
  pub faulty : IsFaultyLine HasFault n line fault

-- keys and their spelling
module _ {K : Type 0} (IsKey : K → Type 0) (spelling : K → List ℕ) where
  -- the text begins with a key and a line feed, n bytes in all
  pub record HasKeyPrefix (text : List ℕ) (k : K) (n : ℕ) : Type 0 where
    pub key : IsKey k
    pub within : n ≤ length text
    pub begins : text ≡ spelling k ++ 10 ∷ drop n text

  -- the text begins with a key, a space, a number and a line feed, n bytes in all
  pub record HasPairPrefix (text : List ℕ) (k : K) (v : ℕ) (n : ℕ) : Type 0 where
    pub key : IsKey k
    pub number : v < 2 ^ 64
    pub within : n ≤ length text
    pub begins : text ≡ spelling k ++ 32 ∷ (decimal v ++ 10 ∷ drop n text)

-- what may be said, and the words that say it
module _ {L : Type 0} (IsTaken : L → Type 0) (spelling : L → List (List ℕ)) where
  -- the first n bytes of the text are its first line, which says this
  pub record HasLinePrefix (text : List ℕ) (what : L) (n : ℕ) : Type 0 where
    pub within : n ≤ length text
    pub some : 0 < n
    pub line : List ℕ
    pub cut : lines text ≡ line ∷ lines (drop n text)
    pub says : Says IsTaken spelling line what

  -- the first line of the text, with this number, adds what it says, and the text after it is left
  pub record TakesLine (n : ℕ) (text later : List ℕ) (old new : List (Numbered L)) : Type 0 where
    pub line : List ℕ
    pub cut : lines text ≡ line ∷ lines later
    pub shorter : length later < length text
    pub adds : Adds IsTaken spelling n line old new
