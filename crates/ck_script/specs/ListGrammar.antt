-- The grammar of lists: edits, and queries that ask for all members.
use Rattle.std.specs.Prelude.{ℕ, ◌<◌, ◌^◌, List, [], ◌∷◌, codes, decimal}
use Rattle.ck_history.specs.Key.{IsKey}
use Rattle.ck_history.specs.declared.edit.Edit.{Edit}
use Rattle.ck_history.specs.declared.edit.Edit.TheVariants.{Add, Drop, Commit}
use Rattle.ck_script.specs.declared.line.UpLine.{UpLine}
use Rattle.ck_script.specs.declared.line.AskLine.{AskLine}
use Rattle.ck_script.specs.declared.fault.Why.{Why}
use Rattle.ck_script.specs.Keys.{IsTableKeyFault}
use Rattle.ck_script.specs.Grammar.{Argument, number, HasFault, up_words, ask_words, IsUpLine, IsAskLine, up_verbs, ask_verbs}

-- the words of an edit
abbrev pub list_call_words : Edit → List (List ℕ)
list_call_words (Add v) = codes "add" ∷ decimal v ∷ []
list_call_words (Drop v) = codes "drop" ∷ decimal v ∷ []
list_call_words Commit = codes "commit" ∷ []

-- members have 64 bits
abbrev pub IsListCall : Edit → Type 0
IsListCall (Add v) = v < 2 ^ 64
IsListCall (Drop v) = v < 2 ^ 64
IsListCall Commit = Unit {0}

-- the words of a query, of which there is one
abbrev pub list_ask_words : Unit {0} → List (List ℕ)
list_ask_words ask = codes "all" ∷ []

abbrev pub IsListAsk : Unit {0} → Type 0
IsListAsk ask = Unit {0}

abbrev pub edit_words : UpLine Edit → List (List ℕ)
edit_words line = up_words list_call_words line

abbrev pub IsEditLine : UpLine Edit → Type 0
IsEditLine line = IsUpLine IsListCall line

abbrev pub view_words : AskLine (Unit {0}) → List (List ℕ)
view_words line = ask_words list_ask_words line

abbrev pub IsViewLine : AskLine (Unit {0}) → Type 0
IsViewLine line = IsAskLine IsListAsk line

abbrev pub list_call_verbs : List (List ℕ × List Argument)
list_call_verbs =
    (codes "add", number ∷ [])
    ∷ (codes "drop", number ∷ [])
    ∷ (codes "commit", [])
    ∷ []

abbrev pub list_ask_verbs : List (List ℕ × List Argument)
list_ask_verbs = (codes "all", []) ∷ []

abbrev pub edit_verbs : List (List ℕ × List Argument)
edit_verbs = up_verbs list_call_verbs

abbrev pub view_verbs : List (List ℕ × List Argument)
view_verbs = ask_verbs list_ask_verbs

-- what is wrong with the words of a line. No verb of a list wants a key, so it is the same whatever keys are: a table's here
abbrev pub HasListFault : List (List ℕ × List Argument) → List (List ℕ) → Why → Type 0
HasListFault verbs ws why = HasFault IsKey decimal IsTableKeyFault verbs ws why
