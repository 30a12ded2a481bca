-- How the words of the command line are read.
use Rattle.std.specs.Prelude.{ℕ, Bool, not, ◌==◌, ◌&&◌, ◌||◌, if◌then◌else◌, List, [], ◌∷◌, ◌++◌, length, Option, Some, None, is_some, option_map, option_and_then, codes, bytes_eq, nat_le, decimal}
use Rattle.std.specs.List.{list_all, list_any, before_first, after_first}
use Rattle.std.specs.Str.Parse.{digits_value}

-- what runs of files are over
pub data Kind : Type 0 where
  table : Kind
  list : Kind

-- what a run of files is asked: its kind, the seed of a table's hashes, how many tasks answer queries, and the names of its update
-- file and of its query files
pub record RunCommand : Type 0 where
  pub kind : Kind
  pub seed : ℕ
  pub workers : ℕ
  pub updates : List ℕ
  pub queries : List (List ℕ)

-- file 0 is the update file, file f the query file with the number f
abbrev pub names : RunCommand → List (List ℕ)
names c = c.updates ∷ c.queries

-- what a judgment is asked: the name of its update file, and those of its query files and last of the report
pub record JudgeCommand : Type 0 where
  pub updates : List ℕ
  pub others : List (List ℕ)

-- the update file is file 0, and the report has the number after the last query file
abbrev pub judged_names : JudgeCommand → List (List ℕ)
judged_names c = c.updates ∷ c.others

-- what the words ask for: a run of files, the summary of a seed and of so many lines, or a judgment on a report of a table
pub data Command : Type 0 where
  Run : RunCommand → Command
  Make : ℕ → ℕ → Command
  Judge : JudgeCommand → Command

-- what a word is where no option waits for its value: a file's name, an option's name with the value after a `=`, the end
-- of the options, or nothing of the form
pub data Word : Type 0 where
  file : Word
  option : List ℕ → Option (List ℕ) → Word
  end : Word
  other : Word

-- what `--` and these bytes are: the option's name goes to the first `=`
abbrev pub long_word : List ℕ → Word
long_word [] = end
long_word (b ∷ rest) = option
    (before_first (λ x. x == 61) (b ∷ rest))
    (if list_any (λ x. x == 61) (b ∷ rest) then Some (after_first (λ x. x == 61) (b ∷ rest)) else None)

-- `-` alone, and all that doesn't begin with `-`, is a file's name
abbrev pub word_of : List ℕ → Word
word_of (a ∷ b ∷ rest) = if a == 45 then (if b == 45 then long_word rest else other) else file
word_of _ = file

-- what words have said, as it is written: the values of the options, and the names of the files
pub record Said : Type 0 where
  pub seed : Option (List ℕ)
  pub workers : Option (List ℕ)
  pub files : List (List ℕ)

-- before the first word
abbrev pub nothing_said : Said
nothing_said = record { seed = None; workers = None; files = [] }

-- an option is `--seed` or `--workers`, and has its value once
abbrev pub with_value : List ℕ → List ℕ → Said → Option Said
with_value name value said =
    if bytes_eq (codes "seed") name then (if is_some said.seed then None else Some (record said { seed = Some value }))
    else if bytes_eq (codes "workers") name then (if is_some said.workers then None else Some (record said { workers = Some value }))
    else None

-- what a word says, and then what `rest` makes of the words after it, given the option that waits for its value
abbrev pub say : Word → List ℕ → List (List ℕ) → Said → (Option (List ℕ) → Said → Option Said) → Option Said
say file word more said rest = rest None (record said { files = said.files ++ word ∷ [] })
say (option name None) word more said rest = rest (Some name) said
say (option name (Some value)) word more said rest = option_and_then (rest None) (with_value name value said)
say end word more said rest = Some (record said { files = said.files ++ more })
say other word more said rest = None

-- the words from left to right; an option that waits takes the next word for its value, whatever it is
abbrev pub read : List (List ℕ) → Option (List ℕ) → Said → Option Said
read [] None said = Some said
read [] (Some name) said = None
read (word ∷ more) None said = say (word_of word) word more said (read more)
read (word ∷ more) (Some name) said = option_and_then (read more None) (with_value name word said)

-- the number whose one spelling, without sign and leading zeros, the word is
abbrev pub number_of : List ℕ → Option ℕ
number_of word = if bytes_eq (decimal (digits_value 10 word)) word then Some (digits_value 10 word) else None

-- the word's number, where it is from `least` to `most`
abbrev pub number_within : ℕ → ℕ → List ℕ → Option ℕ
number_within least most word =
    option_and_then (λ n. if nat_le least n && nat_le n most then Some n else None) (number_of word)

-- the option's number, or what it is where it isn't said
abbrev pub setting : ℕ → ℕ → ℕ → Option (List ℕ) → Option ℕ
setting least most missing None = Some missing
setting least most missing (Some word) = number_within least most word

-- there are so many files, and no name is empty
abbrev pub are_file_names : ℕ → ℕ → List (List ℕ) → Bool
are_file_names least most files = nat_le least (length files) && (nat_le (length files) most && list_all (λ name. not (length name == 0)) files)

-- the command of these numbers and files, of which there are from 2 to 65, where they are within their limits
abbrev pub command_with : Kind → Option ℕ → Option ℕ → List (List ℕ) → Option RunCommand
command_with kind (Some seed) (Some workers) (updates ∷ queries) =
    if are_file_names 2 65 (updates ∷ queries)
    then Some (record { kind = kind; seed = seed; workers = workers; updates = updates; queries = queries })
    else None
command_with _ _ _ _ = None

-- the command that was said: the seed is any number of 64 bits and 0 by default, the workers are 1 to 16 and 4 by default
abbrev pub command_said : Kind → Said → Option RunCommand
command_said kind said =
    command_with kind (setting 0 18446744073709551615 0 said.seed) (setting 1 16 4 said.workers) said.files

-- the command that the words after the kind say
abbrev pub said_after : Kind → List (List ℕ) → Option RunCommand
said_after kind words = option_and_then (command_said kind) (read words None nothing_said)

-- the judgment of these files, of which there are from 3 to 66
abbrev pub judgment_with : List (List ℕ) → Option JudgeCommand
judgment_with [] = None
judgment_with (updates ∷ others) =
    if are_file_names 3 66 (updates ∷ others) then Some (record { updates = updates; others = others }) else None

-- the judgment that was said, which has no option
abbrev pub judgment_said : Said → Option JudgeCommand
judgment_said said = if is_some said.seed || is_some said.workers then None else judgment_with said.files

-- the judgment that the words after its kind say: options are read as those of a run, and then refused
abbrev pub judged_after : List (List ℕ) → Option JudgeCommand
judged_after words = option_and_then judgment_said (read words None nothing_said)

-- the judgment that the words after `judge` say: they are a kind, which is `table`, and then files
abbrev pub judgment_after : List (List ℕ) → Option JudgeCommand
judgment_after [] = None
judgment_after (kind ∷ words) = if bytes_eq kind (codes "table") then judged_after words else None

-- the command of these two numbers
abbrev pub make_with : Option ℕ → Option ℕ → Option Command
make_with (Some seed) (Some lines) = Some (Make seed lines)
make_with _ _ = None

-- the command that the words after `make` say: they are two, any number of 64 bits and one of at most 999,999
abbrev pub make_said : List (List ℕ) → Option Command
make_said (seed ∷ lines ∷ []) = make_with (number_within 0 18446744073709551615 seed) (number_within 0 999999 lines)
make_said _ = None

-- the command that the words ask for: `table` or `list`, and then options and files; `make` and two numbers; or `judge table` and files
abbrev pub command_of : List (List ℕ) → Option Command
command_of [] = None
command_of (kind ∷ words) =
    if bytes_eq kind (codes "table") then option_map Run (said_after table words)
    else if bytes_eq kind (codes "list") then option_map Run (said_after list words)
    else if bytes_eq kind (codes "make") then make_said words
    else if bytes_eq kind (codes "judge") then option_map Judge (judgment_after words)
    else None
