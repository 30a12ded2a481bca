-- Where the signal words lie, and which entries the four calls put down.
use Rattle.std.specs.Prelude.{ℕ, ◌+◌, ◌*◌, [], ◌∷◌}
use Rattle.ck_run.specs.declared.account.Step.TheVariants.{Load, Store}
use Rattle.ck_run.specs.declared.account.Entry.{Entry}
use Rattle.ck_run.specs.Run.{entry}
use Rattle.ck_epoch.specs.State.{stride, read}

-- After the words of a client that has `size` of them come `applied`, and then a word `answered` for each record. Each is at least a
-- stride away from every other word in use, so that it has cache lines of its own. The words between are unused
abbrev pub applied_word : ℕ → ℕ
applied_word size = size + stride

abbrev pub answered_word : ℕ → ℕ → ℕ
answered_word size r = size + stride * (r + 2)

-- how many words that makes with so many records
abbrev pub size_with : ℕ → ℕ → ℕ
size_with size records = size + stride * (records + 2)

-- The names of the calls. A client's own calls have other names than these and those of ck_epoch, which are 1 to 10
abbrev pub mark : ℕ
mark = 11

abbrev pub reached : ℕ
reached = 12

abbrev pub note : ℕ
note = 13

abbrev pub answered : ℕ
answered = 14

-- The entry of each call, which is one step. The writer stores the number of its updates in `applied`
abbrev pub marks : ℕ → ℕ → Entry
marks applied updates = entry (mark ∷ []) (Store applied updates)

-- a pass that asks for `wanted` updates loads it
abbrev pub reaches : ℕ → ℕ → ℕ → Entry
reaches applied wanted found = entry (reached ∷ wanted ∷ []) (Load applied found)

-- a pass stores the number of its answers in its word
abbrev pub notes : ℕ → ℕ → Entry
notes word answers = entry (note ∷ []) (Store word answers)

-- the writer loads that of the reader r
abbrev pub asks : ℕ → ℕ → ℕ → Entry
asks word r found = entry (answered ∷ r ∷ []) (Load word found)

-- a pass loads any word of the client's by itself, where these begin at `base`
abbrev pub reads : ℕ → ℕ → ℕ → Entry
reads base at found = entry (read ∷ at ∷ []) (Load (base + at) found)
