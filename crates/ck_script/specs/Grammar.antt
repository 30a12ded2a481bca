-- What a script file says, and what is wrong with the first line that is outside the grammar. Lists have a file of their own.
use Rattle.std.specs.Prelude.{◌≡◌, ◌≢◌, ℕ, ◌+◌, ◌<◌, ◌^◌, ◌⊎◌, List, [], ◌∷◌, ◌++◌, length, MatchOption, codes, decimal}
use Rattle.std.specs.Map.{lookup}
use Rattle.std.specs.Str.{bytes_eq}
use Rattle.ck_history.specs.declared.update.Update.{Update}
use Rattle.ck_history.specs.declared.update.Update.TheVariants.{Set, Put, Del, Tidy}
use Rattle.ck_script.specs.declared.line.Numbered.{Numbered}
use Rattle.ck_script.specs.declared.line.UpLine.{UpLine}
use Rattle.ck_script.specs.declared.line.UpLine.TheVariants.{Call, Hold}
use Rattle.ck_script.specs.declared.line.AskLine.{AskLine}
use Rattle.ck_script.specs.declared.line.AskLine.TheVariants.{Ask, Wait}
use Rattle.ck_script.specs.declared.fault.Why.{Why}
use Rattle.ck_script.specs.declared.fault.Why.TheVariants.{Verb, Shape, Number}
use Rattle.ck_script.specs.declared.fault.ScriptFault.{ScriptFault}
use Rattle.ck_script.specs.declared.fault.ScriptError.{ScriptError}
use Rattle.ck_script.specs.declared.fault.ScriptError.TheVariants.{Fault, Memory}
use Rattle.ck_text.specs.Lines.{lines}
use Rattle.ck_text.specs.Words.{words}
use Rattle.ck_text.specs.Decimals.{IsNumber}

-- blank lines and comments say nothing
abbrev pub IsSilent : List ℕ → Type 0
IsSilent [] = Unit {0}
IsSilent (b ∷ line) = b ≡ 35

-- what a script of lines of one kind says: each line has one spelling
module _ {L : Type 0} (IsTaken : L → Type 0) (spelling : L → List (List ℕ)) where
  -- the words of the line are the spelling of this
  pub record Says (line : List ℕ) (what : L) : Type 0 where
    pub taken : IsTaken what
    pub spelt : words line ≡ spelling what

  -- the lines, of which the first has the number n, say this: a silent line nothing, every other line one thing
  abbrev pub Say : ℕ → List (List ℕ) → List (Numbered L) → Type 0
  Say n [] said = said ≡ []
  Say n (line ∷ later) said =
      (IsSilent line × Say (n + 1) later said)
      ⊎ ((what : L) × (more : List (Numbered L)) × (said ≡ record { line = n; what = what } ∷ more) × Says line what × Say (n + 1) later more)

  -- the file says this, line by line
  abbrev pub FileSays : List ℕ → List (Numbered L) → Type 0
  FileSays bytes said = Say 1 (lines bytes) said

  -- a further line, of this number, adds what it says to what was said
  abbrev pub Adds : ℕ → List ℕ → List (Numbered L) → List (Numbered L) → Type 0
  Adds n line old new =
      (IsSilent line × (new ≡ old))
      ⊎ ((what : L) × Says line what × (new ≡ old ++ record { line = n; what = what } ∷ []))

  -- the fault is at the first line that is outside the grammar, and HasFault tells of its words what it is
  pub record IsFirstFault (HasFault : List (List ℕ) → Why → Type 0) (bytes : List ℕ) (fault : ScriptFault) : Type 0 where
    pub before : List (List ℕ)
    pub faulty : List ℕ
    pub after : List (List ℕ)
    pub here : lines bytes ≡ before ++ faulty ∷ after
    pub number : fault.line ≡ length before + 1
    pub earlier : (said : List (Numbered L)) × Say 1 before said
    pub speaks : IsSilent faulty → ⊥
    pub outside : (what : L) → Says faulty what → ⊥
    pub why : HasFault (words faulty) fault.why

-- the words that may follow a verb
pub data Argument : Type 0 where
  key : Argument
  number : Argument

-- keys, what spells them, and what is wrong with a word that spells none
module _ {K : Type 0} (IsKey : K → Type 0) (spelling : K → List ℕ) (IsKeyFault : List ℕ → Why → Type 0) where
  -- the word is what stands for such an argument
  abbrev pub IsRight : Argument → List ℕ → Type 0
  IsRight key w = (k : K) × IsKey k × (w ≡ spelling k)
  IsRight number w = IsNumber w

  -- the word is none, for this reason
  abbrev pub IsWrong : Argument → List ℕ → Why → Type 0
  IsWrong key w why = IsKeyFault w why
  IsWrong number w why = (why ≡ Number) × (IsNumber w → ⊥)

  -- the reason of the first wrong word, from left to right
  abbrev pub FirstWrong : List Argument → List (List ℕ) → Why → Type 0
  FirstWrong (a ∷ more) (w ∷ ws) why = IsWrong a w why ⊎ (IsRight a w × FirstWrong more ws why)
  FirstWrong _ _ why = ⊥

  -- what is wrong with the words after a verb that wants these: their number first
  abbrev pub HasArgumentFault : List Argument → List (List ℕ) → Why → Type 0
  HasArgumentFault wanted ws why =
      ((why ≡ Shape) × (length ws ≢ length wanted))
      ⊎ ((length ws ≡ length wanted) × FirstWrong wanted ws why)

  -- what is wrong with the words of a line, by a table of verbs: the verb first
  abbrev pub HasFault : List (List ℕ × List Argument) → List (List ℕ) → Why → Type 0
  HasFault verbs [] why = ⊥
  HasFault verbs (verb ∷ ws) why = MatchOption (lookup (bytes_eq verb) verbs) (why ≡ Verb) (λ wanted. HasArgumentFault wanted ws why)

-- the words of a line of an update file, where these are those of a call
abbrev pub up_words : {C : Type 0} → (C → List (List ℕ)) → UpLine C → List (List ℕ)
up_words call_words (Call call) = call_words call
up_words call_words (Hold file count) = codes "hold" ∷ decimal file ∷ decimal count ∷ []

-- .. of a line of a query file, where these are those of a query
abbrev pub ask_words : {A : Type 0} → (A → List (List ℕ)) → AskLine A → List (List ℕ)
ask_words words_of (Ask ask) = words_of ask
ask_words words_of (Wait count) = codes "wait" ∷ decimal count ∷ []

-- the lines of an update file that are taken, where these calls are: counts have 64 bits
abbrev pub IsUpLine : {C : Type 0} → (C → Type 0) → UpLine C → Type 0
IsUpLine IsCall (Call call) = IsCall call
IsUpLine IsCall (Hold file count) = (file < 2 ^ 64) × (count < 2 ^ 64)

-- .. of a query file, where these queries are
abbrev pub IsAskLine : {A : Type 0} → (A → Type 0) → AskLine A → Type 0
IsAskLine IsAsk (Ask ask) = IsAsk ask
IsAskLine IsAsk (Wait count) = count < 2 ^ 64

-- the verbs of an update file with what follows them, beside those of calls
abbrev pub up_verbs : List (List ℕ × List Argument) → List (List ℕ × List Argument)
up_verbs calls = (codes "hold", number ∷ number ∷ []) ∷ calls

-- .. of a query file, beside those of queries
abbrev pub ask_verbs : List (List ℕ × List Argument) → List (List ℕ × List Argument)
ask_verbs asks = (codes "wait", number ∷ []) ∷ asks

-- maps, where `spelling` spells keys
module _ {K : Type 0} (spelling : K → List ℕ) where
  -- the words of an update
  abbrev pub map_call_words : Update K → List (List ℕ)
  map_call_words (Set k v) = codes "set" ∷ spelling k ∷ decimal v ∷ []
  map_call_words (Put k v) = codes "put" ∷ spelling k ∷ decimal v ∷ []
  map_call_words (Del k) = codes "del" ∷ spelling k ∷ []
  map_call_words Tidy = codes "tidy" ∷ []

  -- .. of a query
  abbrev pub map_ask_words : K → List (List ℕ)
  map_ask_words k = codes "get" ∷ spelling k ∷ []

  abbrev pub update_words : UpLine (Update K) → List (List ℕ)
  update_words line = up_words map_call_words line

  abbrev pub query_words : AskLine K → List (List ℕ)
  query_words line = ask_words map_ask_words line

-- .. and these are keys
module _ {K : Type 0} (IsKey : K → Type 0) where
  -- the key is one, and the value has 64 bits
  abbrev pub IsMapCall : Update K → Type 0
  IsMapCall (Set k v) = IsKey k × (v < 2 ^ 64)
  IsMapCall (Put k v) = IsKey k × (v < 2 ^ 64)
  IsMapCall (Del k) = IsKey k
  IsMapCall Tidy = Unit {0}

  abbrev pub IsUpdateLine : UpLine (Update K) → Type 0
  IsUpdateLine line = IsUpLine IsMapCall line

  abbrev pub IsQueryLine : AskLine K → Type 0
  IsQueryLine line = IsAskLine IsKey line

abbrev pub map_call_verbs : List (List ℕ × List Argument)
map_call_verbs =
    (codes "set", key ∷ number ∷ [])
    ∷ (codes "put", key ∷ number ∷ [])
    ∷ (codes "del", key ∷ [])
    ∷ (codes "tidy", [])
    ∷ []

abbrev pub map_ask_verbs : List (List ℕ × List Argument)
map_ask_verbs = (codes "get", key ∷ []) ∷ []

abbrev pub update_verbs : List (List ℕ × List Argument)
update_verbs = up_verbs map_call_verbs

abbrev pub query_verbs : List (List ℕ × List Argument)
query_verbs = ask_verbs map_ask_verbs

-- the fact, where the script wasn't refused for want of memory
abbrev pub IfFault : ScriptError → (ScriptFault → Type 0) → Type 0
IfFault (Fault fault) P = P fault
IfFault Memory P = Unit {0}
