-- What an outcome is told as: the status of the process, and the line on standard error.
use Rattle.std.specs.Prelude.{ℕ, List, [], ◌++◌, codes, decimal}
use Rattle.ck_script.specs.declared.fault.Why.{Why}
use Rattle.ck_script.specs.declared.fault.Why.TheVariants.{Verb, Shape, Number, Key, Beyond, Many, Circle}
use Rattle.ck_lookup.specs.declared.outcome.Outcome.{Outcome}
use Rattle.ck_lookup.specs.declared.outcome.Outcome.TheVariants.{Done, Usage, ReadFault, BadScript, TooLarge, WriteFault, BadReport, Illegal, NoMemory}

abbrev pub status_of : Outcome → ℕ
status_of Done = 0
status_of Usage = 2
status_of (ReadFault file) = 3
status_of (BadScript file line why) = 4
status_of (TooLarge file) = 5
status_of WriteFault = 7
status_of Illegal = 8
status_of NoMemory = 9
status_of (BadReport line) = 10

-- the word for what is wrong with a line
abbrev pub why_text : Why → List ℕ
why_text Verb = codes "verb"
why_text Shape = codes "shape"
why_text Number = codes "number"
why_text Key = codes "key"
why_text Beyond = codes "beyond"
why_text Many = codes "many"
why_text Circle = codes "circle"

-- the line on standard error; there is none after a whole report
abbrev pub message_of : Outcome → List ℕ
message_of Done = []
message_of Usage = codes "usage: lookup table|names|list [--seed N] [--workers N] [--fold] UPDATES QUERY.."
message_of (ReadFault file) = codes "lookup: cannot read file " ++ decimal file
message_of (BadScript file line why) = codes "lookup: file " ++ (decimal file ++ (codes " line " ++ (decimal line ++ (codes ": " ++ why_text why))))
message_of (TooLarge file) = codes "lookup: file " ++ (decimal file ++ codes " is too large")
message_of WriteFault = codes "lookup: cannot write"
message_of (BadReport line) = codes "lookup: report line " ++ decimal line
message_of Illegal = codes "lookup: not legal"
message_of NoMemory = codes "lookup: out of memory"
