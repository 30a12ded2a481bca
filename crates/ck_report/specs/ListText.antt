-- The text of a list's report, line by line.
use Rattle.std.specs.Prelude.{ℕ, List, [], ◌∷◌, map, codes, decimal}
use Rattle.ck_history.specs.declared.edit.EditReply.{EditReply}
use Rattle.ck_history.specs.declared.edit.EditReply.TheVariants.{Added, Full, Dropped, Missing, Committed}
use Rattle.ck_text.specs.Words.{line}
use Rattle.ck_report.specs.Numbered.{run_text}

-- what a reply is called
abbrev pub edit_reply_words : EditReply → List (List ℕ)
edit_reply_words Added = codes "added" ∷ []
edit_reply_words Full = codes "full" ∷ []
edit_reply_words Dropped = codes "dropped" ∷ []
edit_reply_words Missing = codes "missing" ∷ []
edit_reply_words Committed = codes "committed" ∷ []

-- the members in order
abbrev pub members_words : List ℕ → List (List ℕ)
members_words [] = codes "empty" ∷ []
members_words (v ∷ members) = codes "=" ∷ map decimal (v ∷ members)

-- `u I REPLY`
abbrev pub edit_reply_line : ℕ → EditReply → List ℕ
edit_reply_line i reply = line (codes "u" ∷ decimal i ∷ edit_reply_words reply)

-- `q F I = V V ..` or `q F I empty`
abbrev pub view_line : ℕ → ℕ → List ℕ → List ℕ
view_line f i members = line (codes "q" ∷ decimal f ∷ decimal i ∷ members_words members)

-- `t V`, which has no number
abbrev pub member_line : ℕ → ℕ → List ℕ
member_line i v = line (codes "t" ∷ decimal v ∷ [])

-- the report of replies, of each query file's answers and of the committed members at the end
abbrev pub list_text : List EditReply → List (List (List ℕ)) → List ℕ → List ℕ
list_text replies files members = run_text edit_reply_line view_line member_line replies files members
