-- That `clap` reads the words after `table` as `read` does.
use Rattle.std.proofs.Common.{◌≡◌, ℕ, Bool, true, false, cond, ◌==◌, ◌||◌, List, [], ◌∷◌, ◌++◌, ◌⊎◌, inl, inr, ◌<◌, ◌≤◌, ◌^◌, arith, decimal, Option, Some, None, refl, ap, sym, ◌∙◌, subst, codes, append-nil, append_assoc, true≢false, length, drop, leb-true}
use Rattle.std.specs.Prelude.{MatchOption, is_some, option_and_then, nat_le}
use Rattle.std.specs.Str.Parse.{IsNumeral, digits_value}
use Rattle.std.specs.Char.{digit_value}
use Rattle.std.proofs.lemmas.Fmt.{decimal_is_IsNumeral}
use Rattle.std.specs.Str.{IsUtf8, bytes_eq}
use Rattle.clap.specs.Walk.{Held, Row, Rule, Text, Waiting, Walk, idle, option as waits_for, positional, finished, has_row, nothing_held, settled, settled_rows, used, default_rows, reading_by, with_default}
use Rattle.clap.specs.Simple.{built, matches_of}
use Rattle.clap.specs.Kinds.{Kinds, or_else}
use Rattle.clap.specs.Faults.{fault_of, settle_fault, turn_fault, walk_fault, use_fault, default_fault, defaults_fault, given_default_fault}
use Rattle.clap.proofs.FaultLemmas.{leaf_fault}
use Rattle.clap.specs.declared.error.kind.ErrorKind.{ErrorKind}
use Rattle.clap.specs.declared.error.kind.ErrorKind.TheVariants.{ArgumentConflict}
use Rattle.ck_command.specs.Parser.{table_app}
use Rattle.ck_command.specs.Words.{Kind, Said, Word, file, option, end, other, nothing_said, command_with, command_said, judgment_said, setting, read, say, with_value, word_of}
use Rattle.ck_command.proofs.Rows.{same_text, some_none, nonempty, and_false, or_true, top, rules, seed, workers, files, option_at, value_at, put, which, once, with_value_is, Tells, tells_put, tells_file, use_passes, use_again}
use Rattle.ck_command.proofs.Turns.{IsDashed, Looks, looks, Pending, at, held_fault, IsWrong, end_of, Passes, Answers, Reads, step, stop, IsFree, after_file, trailing_turn, trailing_walk, file_turn, file_walk, end_turn, end_walk, other_turn, unknown_turn, given_turn, given_walk, waits_turn, waits_walk, waiting_at, value_turn, value_walk, no_value, one_value}

-- ---- what stays held with a fault is refused in the end

abbrev fails : (k : ErrorKind) (ks : Kinds) (rows : List Row) (pending : Pending) → Type 0
fails k ks rows pending = held_fault rows pending ≡ k ∷ ks

refused_trailing : (rows : List Row) (pending : Pending) (k : ErrorKind) (ks : Kinds) → held_fault rows pending ≡ k ∷ ks → (z : Waiting) (words : List Text) → Reads None (at true rows pending z) words
refused_trailing rows pending k ks bad z [] = λ p. nonempty (sym bad ∙ p.1)
refused_trailing rows pending k ks bad z (word ∷ words) = stop _ word words k ks (trailing_turn rows pending word z ∙ bad)

abbrev pub AllTexts : List Text → Type 0
AllTexts [] = Unit {0}
AllTexts (word ∷ words) = IsUtf8 word × AllTexts words

refused : (rows : List Row) (pending : Pending) (k : ErrorKind) (ks : Kinds) → held_fault rows pending ≡ k ∷ ks → (z : Waiting) → IsFree z
    → (words : List Text) → AllTexts words → Reads None (at false rows pending z) words
refused rows pending k ks bad z free [] us = λ p. nonempty (sym bad ∙ p.1)
refused rows pending k ks bad z free (word ∷ words) us = go (word_of word) (looks word us.0)
  where
    known : (name : Text) (value : Option Text) → Looks (option name value) word → (o : Option Bool) → which name ≡ o → Reads None (at false rows pending z) (word ∷ words)
    known name value l None is = stop _ word words _ _ (unknown_turn rows pending word name z value l is)
    known name None l (Some which_is) is = stop _ word words k ks (waits_turn rows pending word name which_is is z l ∙ bad)
    known name (Some value) l (Some which_is) is =
        stop _ word words k ks (given_turn rows pending word name which_is is z value l ∙ ap (λ faults. or_else faults (use_fault false (option_at which_is) (value ∷ []) (settled_rows rules pending rows))) bad)

    go : (w : Word) → Looks w word → Reads None (at false rows pending z) (word ∷ words)
    go file l = stop _ word words k ks (file_turn rows pending word z free l ∙ bad)
    go (option name value) l = known name value l (which name) refl
    go end l = step None _ word words _ (end_turn rows pending word z l) (end_walk rows pending word z l) (refused_trailing rows pending k ks bad z words)
    go other l = stop _ word words _ _ (other_turn rows pending word z l)

-- ---- the whole reading

-- past a `--` all words are files
trailing : (words : List Text) (said : Said) (rows : List Row) (pending : Pending) (z : Waiting) → held_fault rows pending ≡ [] → Tells said (settled_rows rules pending rows)
    → Reads (Some (record said { files = said.files ++ words })) (at true rows pending z) words
unfolding walk_fault
trailing [] said rows pending z good tells =
    inl ((refl, good), record { seed_told = tells.seed_told; workers_told = tells.workers_told; files_told = tells.files_told ∙ sym (append-nil said.files) })
trailing (word ∷ words) said rows pending z good tells =
    let rest = trailing words (record said { files = said.files ++ word ∷ [] }) (settled_rows rules pending rows) (Some (codes "file", word ∷ [])) positional refl
    (tells_file said (settled_rows rules pending rows) word tells) in
    step (Some (record said { files = said.files ++ word ∷ words })) (at true rows pending z) word words (after_file true rows pending word) (trailing_turn rows pending word z ∙ good) (trailing_walk rows pending word z)
    (subst (λ xs. Reads (Some (record said { files = xs })) (after_file true rows pending word) words) (append_assoc said.files (word ∷ []) words) rest)

-- an option that isn't of the form is refused at its value, or at the end
unknown_read : (words : List Text) (name : Text) (said : Said) → which name ≡ None → read words (Some name) said ≡ None
unknown_read [] name said none = refl
unknown_read (word ∷ words) name said none = ap (option_and_then (read words None)) (with_value_is name word said ∙ ap (option_and_then _) none)

-- a number has no sign
dashed_numeral : (word : Text) → IsNumeral 10 word → IsDashed word → ⊥
dashed_numeral [] is dash = absurd (omega (arith, is.0))
dashed_numeral (a ∷ word) is dash =
    let small : digit_value 45 < 10 = subst (λ c. digit_value c < 10) dash is.1.0 in
    absurd (omega arith)

dashed_setting : (least most missing : ℕ) (word : Text) → most < 2 ^ 64 → IsDashed word → setting least most missing (Some word) ≡ None
dashed_setting least most missing word lt dash = go (bytes_eq (decimal n) word) (nat_le n most) refl refl
  where
    n : ℕ
    n = digits_value 10 word

    go : (p q : Bool) → bytes_eq (decimal n) word ≡ p → nat_le n most ≡ q → setting least most missing (Some word) ≡ None
    go false q same within = rw same refl
    go true false same within = rw (same, within, and_false (nat_le least n)) refl
    go true true same within =
        let small : n ≤ most = leb-true n most within in
        let fits : n < 2 ^ 64 = omega arith in
        absurd (dashed_numeral word (subst (IsNumeral 10) (same_text (decimal n) word same) (decimal_is_IsNumeral n fits).0) dash)

-- no run has such a value
pub wrong_run : (kind : Kind) (said : Said) → IsWrong said → command_said kind said ≡ None
wrong_run kind said (k, word, is, dash) = go k is
  where
    no_workers : (o : Option ℕ) (names : List Text) → command_with kind o None names ≡ None
    no_workers None names = refl
    no_workers (Some n) names = refl

    go : (k : Bool) → value_at k said ≡ Some word → command_said kind said ≡ None
    go true is = ap (λ o. command_with kind o (setting 1 16 4 said.workers) said.files) (ap (setting 0 18446744073709551615 0) is ∙ dashed_setting 0 18446744073709551615 0 word (omega arith) dash)
    go false is = ap (λ o. command_with kind (setting 0 18446744073709551615 0 said.seed) o said.files) (ap (setting 1 16 4) is ∙ dashed_setting 1 16 4 word (omega arith) dash)
        ∙ no_workers (setting 0 18446744073709551615 0 said.seed) said.files

-- and no judgment has any
pub wrong_judgment : (said : Said) → IsWrong said → judgment_said said ≡ None
wrong_judgment said (true, word, is, dash) = rw is refl
wrong_judgment said (false, word, is, dash) = rw (is, or_true (is_some said.seed)) refl

-- what was said stays said
abbrev Keeps : Bool → Text → Option Said → Type 0
Keeps k value answer = MatchOption answer (Unit {0}) (λ said. value_at k said ≡ Some value)

put_same : (k : Bool) (value : Text) (said : Said) → value_at k (put k value said) ≡ Some value
put_same true value said = refl
put_same false value said = refl

-- a file adds no value
with_files : (k : Bool) (said : Said) (names : List Text) → value_at k (record said { files = names }) ≡ value_at k said
with_files true said names = refl
with_files false said names = refl

keeps : (words : List Text) (k : Bool) (value : Text) (said : Said) → value_at k said ≡ Some value
    → Keeps k value (read words None said) × ((name : Text) → Keeps k value (read words (Some name) said))
keeps [] k value said is = (is, λ name. tt)
keeps (word ∷ words) k value said is = (go (keeps words k value) (word_of word), λ name. given (keeps words k value) name word)
  where
    Rest : Type 0
    Rest = (said : Said) → value_at k said ≡ Some value → Keeps k value (read words None said) × ((name : Text) → Keeps k value (read words (Some name) said))

    fresh : (j : Bool) (v : Text) → value_at j said ≡ None → value_at k (put j v said) ≡ Some value
    fresh j v none = both k j is none
      where
        both : (k j : Bool) → value_at k said ≡ Some value → value_at j said ≡ None → value_at k (put j v said) ≡ Some value
        both true true is none = absurd (some_none (sym is ∙ none))
        both true false is none = is
        both false true is none = is
        both false false is none = absurd (some_none (sym is ∙ none))

    set : Rest → (v : Text) (o : Option Bool) → Keeps k value (option_and_then (read words None) (option_and_then (λ j. once (value_at j said) j v said) o))
    set rest v None = tt
    set rest v (Some j) = new (value_at j said) refl
      where
        new : (o : Option Text) → value_at j said ≡ o → Keeps k value (option_and_then (read words None) (once o j v said))
        new None none = (rest (put j v said) (fresh j v none)).0
        new (Some old) some = tt

    given : Rest → (name v : Text) → Keeps k value (option_and_then (read words None) (with_value name v said))
    given rest name v = subst (λ o. Keeps k value (option_and_then (read words None) o)) (sym (with_value_is name v said)) (set rest v (which name))

    go : Rest → (w : Word) → Keeps k value (say w word words said (read words))
    go rest file = (rest (record said { files = said.files ++ word ∷ [] }) (with_files k said (said.files ++ word ∷ []) ∙ is)).0
    go rest (option name None) = (rest said is).1 name
    go rest (option name (Some v)) = given rest name v
    go rest end = with_files k said (said.files ++ words) ∙ is
    go rest other = tt

-- ---- the two readings

abbrev is_file : Word → Bool
is_file file = true
is_file (option name value) = false
is_file end = false
is_file other = false

settled_value : (k : Bool) (said : Said) (rows : List Row) (value : Text) → Tells said rows → value_at k said ≡ None → Tells (put k value said) (settled_rows rules (Some ((option_at k).id, value ∷ [])) rows)
settled_value true said rows value tells none = tells_put true said rows value tells none
settled_value false said rows value tells none = tells_put false said rows value tells none

-- words that `clap` refuses, where the answer is none or is wrong
refuse : (answer : Option Said) (w : Walk) (words : List Text) → Reads None w words → MatchOption answer (Unit {0}) IsWrong → Reads answer w words
refuse None w words bad is = bad
refuse (Some said) w words bad is = inr (bad, is)

kept_wrong : (k : Bool) (word : Text) (answer : Option Said) → IsDashed word → Keeps k word answer → MatchOption answer (Unit {0}) IsWrong
kept_wrong k word None dash kept = tt
kept_wrong k word (Some said) dash kept = (k, word, kept, dash)

abbrev Free : List Text → Type 0
Free words = (said : Said) (rows : List Row) (pending : Pending) (z : Waiting) → IsFree z → held_fault rows pending ≡ [] → Tells said (settled_rows rules pending rows)
    → Reads (read words None said) (at false rows pending z) words

abbrev Waits : List Text → Type 0
Waits words = (said : Said) (rows : List Row) (k : Bool) (name : Text) → which name ≡ Some k → Tells said rows
    → Reads (read words (Some name) said) (waiting_at rows k) words

module _ (word : Text) (words : List Text) (u : IsUtf8 word) (us : AllTexts words) (free : Free words) (waits : Waits words) where
  -- a value in the word of its option
  given : (said : Said) (rows : List Row) (pending : Pending) (z : Waiting) (name value : Text) (o : Option Bool) → which name ≡ o → Looks (option name (Some value)) word
      → held_fault rows pending ≡ [] → Tells said (settled_rows rules pending rows)
      → Reads (option_and_then (read words None) (option_and_then (λ k. once (value_at k said) k value said) o)) (at false rows pending z) (word ∷ words)
  given said rows pending z name value None is l good tells = stop _ word words _ _ (unknown_turn rows pending word name z (Some value) l is)
  given said rows pending z name value (Some k) is l good tells = go (value_at k said) refl
    where
      turn : turn_fault top [] (at false rows pending z) word ≡ use_fault false (option_at k) (value ∷ []) (settled_rows rules pending rows)
      turn = given_turn rows pending word name k is z value l ∙ ap (λ faults. or_else faults (use_fault false (option_at k) (value ∷ []) (settled_rows rules pending rows))) good

      go : (o : Option Text) → value_at k said ≡ o → Reads (option_and_then (read words None) (once o k value said)) (at false rows pending z) (word ∷ words)
      go None none = step (read words None (put k value said)) (at false rows pending z) word words (at false (used (option_at k) (value ∷ []) (settled_rows rules pending rows)) None idle) (turn ∙ use_passes k said (settled_rows rules pending rows) value tells none) (given_walk rows pending word name k is z value l)
          (free (put k value said) (used (option_at k) (value ∷ []) (settled_rows rules pending rows)) None idle tt refl (tells_put k said (settled_rows rules pending rows) value tells none))
      go (Some old) some = stop _ word words _ _ (turn ∙ use_again k said (settled_rows rules pending rows) old value tells some)

  -- an option with no value yet
  opened : (said : Said) (rows : List Row) (pending : Pending) (z : Waiting) (name : Text) (o : Option Bool) → which name ≡ o → Looks (option name None) word
      → held_fault rows pending ≡ [] → Tells said (settled_rows rules pending rows) → Reads (read words (Some name) said) (at false rows pending z) (word ∷ words)
  opened said rows pending z name None is l good tells =
      subst (λ answer. Reads answer (at false rows pending z) (word ∷ words)) (sym (unknown_read words name said is)) (stop _ word words _ _ (unknown_turn rows pending word name z None l is))
  opened said rows pending z name (Some k) is l good tells =
      step (read words (Some name) said) (at false rows pending z) word words (waiting_at (settled_rows rules pending rows) k) (waits_turn rows pending word name k is z l ∙ good) (waits_walk rows pending word name k is z l)
      (waits said (settled_rows rules pending rows) k name is tells)

  free_next : Free (word ∷ words)
  free_next said rows pending z is_free good tells = go (word_of word) (looks word u)
    where
      go : (w : Word) → Looks w word → Reads (say w word words said (read words)) (at false rows pending z) (word ∷ words)
      go file l = step (read words None (record said { files = said.files ++ word ∷ [] })) (at false rows pending z) word words (after_file false rows pending word) (file_turn rows pending word z is_free l ∙ good) (file_walk rows pending word z is_free l)
          (free (record said { files = said.files ++ word ∷ [] }) (settled_rows rules pending rows) (Some (codes "file", word ∷ [])) positional tt refl (tells_file said (settled_rows rules pending rows) word tells))
      go (option name None) l = opened said rows pending z name (which name) refl l good tells
      go (option name (Some value)) l =
          subst (λ o. Reads (option_and_then (read words None) o) (at false rows pending z) (word ∷ words)) (sym (with_value_is name value said))
          (given said rows pending z name value (which name) refl l good tells)
      go end l = step (Some (record said { files = said.files ++ words })) (at false rows pending z) word words (at true rows pending z) (end_turn rows pending word z l) (end_walk rows pending word z l) (trailing words said rows pending z good tells)
      go other l = stop _ word words _ _ (other_turn rows pending word z l)

  -- the word after an option is no value for `clap`
  not_taken : (rows : List Row) (k : Bool) (w : Word) → Looks w word → (w ≡ file → ⊥) → Reads None (waiting_at rows k) (word ∷ words)
  not_taken rows k file l differs = absurd (differs refl)
  not_taken rows k (option name value) l differs = go (which name) refl value l
    where
      go : (o : Option Bool) → which name ≡ o → (value : Option Text) → Looks (option name value) word → Reads None (waiting_at rows k) (word ∷ words)
      go None is value l = stop _ word words _ _ (unknown_turn rows (Some ((option_at k).id, [])) word name (waits_for (option_at k).id) value l is)
      go (Some j) is None l = stop _ word words _ _ (waits_turn rows (Some ((option_at k).id, [])) word name j is (waits_for (option_at k).id) l ∙ no_value rows k)
      go (Some j) is (Some value) l = stop _ word words _ _ (given_turn rows (Some ((option_at k).id, [])) word name j is (waits_for (option_at k).id) value l
          ∙ ap (λ faults. or_else faults (use_fault false (option_at j) (value ∷ []) (settled_rows rules (Some ((option_at k).id, [])) rows))) (no_value rows k))
  not_taken rows k end l differs = step None _ word words _ (end_turn rows (Some ((option_at k).id, [])) word (waits_for (option_at k).id) l)
      (end_walk rows (Some ((option_at k).id, [])) word (waits_for (option_at k).id) l)
      (refused_trailing rows (Some ((option_at k).id, [])) _ _ (no_value rows k) (waits_for (option_at k).id) words)
  not_taken rows k other l differs = stop _ word words _ _ (other_turn rows (Some ((option_at k).id, [])) word (waits_for (option_at k).id) l)

  waits_next : Waits (word ∷ words)
  waits_next said rows k name known tells =
      subst (λ o. Reads (option_and_then (read words None) o) (waiting_at rows k) (word ∷ words)) (sym (with_value_is name word said ∙ ap (option_and_then (λ j. once (value_at j said) j word said)) known))
      (value (value_at k said) refl)
    where
      value : (o : Option Text) → value_at k said ≡ o → Reads (option_and_then (read words None) (once o k word said)) (waiting_at rows k) (word ∷ words)
      value (Some old) some = go (word_of word) (looks word u)
        where
          again : held_fault rows (Some ((option_at k).id, word ∷ [])) ≡ ArgumentConflict ∷ []
          again = one_value rows k word ∙ use_again k said rows old word tells some

          go : (w : Word) → Looks w word → Reads None (waiting_at rows k) (word ∷ words)
          go file l = step None (waiting_at rows k) word words (at false rows (Some ((option_at k).id, word ∷ [])) idle) (value_turn rows k word l) (value_walk rows k word l) (refused rows (Some ((option_at k).id, word ∷ [])) _ _ again idle tt words us)
          go (option n v) l = not_taken rows k (option n v) l (λ e. true≢false (sym (ap is_file e)))
          go end l = not_taken rows k end l (λ e. true≢false (sym (ap is_file e)))
          go other l = not_taken rows k other l (λ e. true≢false (sym (ap is_file e)))
      value None none = go (word_of word) (looks word u)
        where
          good : held_fault rows (Some ((option_at k).id, word ∷ [])) ≡ []
          good = one_value rows k word ∙ use_passes k said rows word tells none

          ends_wrong : IsDashed word → MatchOption (read words None (put k word said)) (Unit {0}) IsWrong
          ends_wrong dash = kept_wrong k word (read words None (put k word said)) dash (keeps words k word (put k word said) (put_same k word said)).0

          go : (w : Word) → Looks w word → Reads (read words None (put k word said)) (waiting_at rows k) (word ∷ words)
          go file l = step (read words None (put k word said)) (waiting_at rows k) word words (at false rows (Some ((option_at k).id, word ∷ [])) idle) (value_turn rows k word l) (value_walk rows k word l)
              (free (put k word said) rows (Some ((option_at k).id, word ∷ [])) idle tt good (settled_value k said rows word tells none))
          go (option n v) l = refuse (read words None (put k word said)) (waiting_at rows k) (word ∷ words) (not_taken rows k (option n v) l (λ e. true≢false (sym (ap is_file e)))) (ends_wrong l.2)
          go end l = refuse (read words None (put k word said)) (waiting_at rows k) (word ∷ words) (not_taken rows k end l (λ e. true≢false (sym (ap is_file e)))) (ends_wrong l.1)
          go other l = refuse (read words None (put k word said)) (waiting_at rows k) (word ∷ words) (not_taken rows k other l (λ e. true≢false (sym (ap is_file e)))) (ends_wrong l.2)

both_read : (words : List Text) → AllTexts words → Free words × Waits words
unfolding walk_fault
both_read [] us = (λ said rows pending z is_free good tells. inl ((refl, good), tells), λ said rows k name known tells p. nonempty (sym (no_value rows k) ∙ p.1))
both_read (word ∷ words) us =
    let rest = both_read words us.1 in
    (free_next word words us.0 us.1 rest.0 rest.1, waits_next word words us.0 us.1 rest.0 rest.1)

-- ---- the whole parse

default_none : (rows : List Row) (a : Rule) → a.defaults ≡ [] → default_fault rows a ≡ []
default_none rows a none = ap (λ (d : List Text). cond (has_row a.id rows || length d == 0) [] (given_default_fault a d)) none ∙ rw (or_true (has_row a.id rows)) refl

kept_rows : (rows : List Row) (a : Rule) → a.defaults ≡ [] → with_default rows a ≡ rows
kept_rows rows a none = ap (λ d. cond (has_row a.id rows) rows (default_rows a.id (reading_by a) d rows)) none ∙ same (has_row a.id rows)
  where
    same : (b : Bool) → cond b rows rows ≡ rows
    same true = refl
    same false = refl

no_defaults : (rows : List Row) → defaults_fault rows rules ≡ []
unfolding defaults_fault
no_defaults rows = rw (or_true (has_row (codes "seed") rows), kept_rows rows seed refl, or_true (has_row (codes "workers") rows), kept_rows rows workers refl, or_true (has_row (codes "file") rows)) refl

finished_rows : (h : Held) → finished rules h ≡ (settled rules h).rows
finished_rows h = rw (kept_rows (settled rules h).rows seed refl, kept_rows (settled rules h).rows workers refl, kept_rows (settled rules h).rows files refl) refl

first_passes : (a b : Kinds) → or_else a b ≡ [] → (a ≡ []) × (b ≡ [])
first_passes [] b e = (refl, e)
first_passes (k ∷ ks) b e = absurd (nonempty e)

-- what `clap` makes of the words, given what `read` makes of them
pub parses : (all : List Text) → AllTexts (drop 1 all)
    → MatchOption (read (drop 1 all) None nothing_said) (fault_of table_app all ≡ [] → ⊥)
    (λ said. ((fault_of table_app all ≡ []) × Tells said (matches_of table_app all)) ⊎ ((fault_of table_app all ≡ [] → ⊥) × IsWrong said))
parses all us = go (read (drop 1 all) None nothing_said) ((both_read (drop 1 all) us).0 nothing_said [] None idle tt refl (record { seed_told = refl; workers_told = refl; files_told = refl }))
  where
    walk : Kinds
    walk = walk_fault top [] (at false [] None idle) (drop 1 all)

    last : Held
    last = end_of (at false [] None idle) (drop 1 all)

    fault_is : fault_of table_app all ≡ or_else walk (or_else [] (or_else (settle_fault rules false last) (or_else (defaults_fault (settled rules last).rows rules) [])))
    fault_is = leaf_fault (built table_app) nothing_held (drop 1 all) refl

    passes : fault_of table_app all ≡ [] → Passes walk last
    passes e =
        let parts = first_passes walk _ (sym fault_is ∙ e) in
        (parts.0, (first_passes (settle_fault rules false last) _ parts.1).0)

    faultless : Passes walk last → fault_of table_app all ≡ []
    faultless p = fault_is ∙ ap (λ ks. or_else ks (or_else (settle_fault rules false last) (or_else (defaults_fault (settled rules last).rows rules) []))) p.0
        ∙ ap (λ ks. or_else ks (or_else (defaults_fault (settled rules last).rows rules) [])) p.1 ∙ ap (λ ks. or_else ks []) (no_defaults (settled rules last).rows)

    go : (answer : Option Said) → Answers answer walk last → MatchOption answer (fault_of table_app all ≡ [] → ⊥)
        (λ said. ((fault_of table_app all ≡ []) × Tells said (matches_of table_app all)) ⊎ ((fault_of table_app all ≡ [] → ⊥) × IsWrong said))
    go None bad = λ e. bad (passes e)
    go (Some said) (inl good) = inl (faultless good.0, subst (Tells said) (sym (finished_rows last)) good.1)
    go (Some said) (inr bad) = inr (λ e. bad.0 (passes e), bad.1)
