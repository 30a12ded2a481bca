-- A command that words ask for is within its limits.
use Rattle.std.proofs.Common.{◌≡◌, ℕ, ◌≤◌, ◌&&◌, nat_le, Bool, true, false, List, [], ◌∷◌, length, Option, Some, None, refl, ap, subst, ◌∙◌, arith}
use Rattle.std.specs.Prelude.{if◌then◌else◌, is_some, option_map, option_and_then, codes, bytes_eq, not, ◌==◌, ◌||◌}
use Rattle.std.specs.List.{list_all}
use Rattle.std.proofs.lemmas.Bool.Decides.{nat_tests}
use Rattle.ck_command.specs.Words.{Kind, table, list, RunCommand, JudgeCommand, Command, Run, Make, Judge, Said, are_file_names, number_of, number_within, setting, command_with, command_said, judgment_with, judgment_said, judged_after, judgment_after, read, nothing_said, said_after, make_with, make_said, command_of}

-- there are 1 to 64 query files and 1 to 16 workers
pub record IsCommand (c : RunCommand) : Type 0 where
  pub some_file : 1 ≤ length c.queries
  pub few_files : length c.queries ≤ 64
  pub some_worker : 1 ≤ c.workers
  pub few_workers : c.workers ≤ 16

-- the value of a choice that has one
chosen : {X : Type 0} (b : Bool) (o : Option X) (x : X) → (if b then o else None) ≡ Some x → (b ≡ true) × (o ≡ Some x)
chosen true o x e = (refl, e)
chosen false o x e = absurd (cc)

some_is : {X : Type 0} (x y : X) → Some x ≡ Some y → x ≡ y
some_is x y e = cc

-- both of two tests
both_true : (a b : Bool) → (a && b) ≡ true → (a ≡ true) × (b ≡ true)
both_true true b e = (refl, e)
both_true false b e = absurd (cc)

at_most : (a b : ℕ) → nat_le a b ≡ true → a ≤ b
at_most a b e = grind (arith, nat_tests)

-- a setting is within its limits
limited : (least most n : ℕ) (o : Option ℕ) → option_and_then (λ k. if nat_le least k && nat_le k most then Some k else None) o ≡ Some n → (least ≤ n) × (n ≤ most)
limited least most n None e = absurd (cc)
limited least most n (Some k) e =
    let c = chosen (nat_le least k && nat_le k most) (Some k) n e in
    let two = both_true (nat_le least k) (nat_le k most) c.0 in
    let same : k ≡ n = some_is k n c.1 in
    (subst (λ (j : ℕ). least ≤ j) same (at_most least k two.0), subst (λ (j : ℕ). j ≤ most) same (at_most k most two.1))

setting_within : (least most missing n : ℕ) (word : Option (List ℕ)) → least ≤ missing → missing ≤ most → setting least most missing word ≡ Some n → (least ≤ n) × (n ≤ most)
setting_within least most missing n None low high e = let same : missing ≡ n = some_is missing n e in (subst (λ (j : ℕ). least ≤ j) same low, subst (λ (j : ℕ). j ≤ most) same high)
setting_within least most missing n (Some word) low high e = limited least most n (number_of word) e

with_within : (kind : Kind) (seed workers : Option ℕ) (files : List (List ℕ)) (c : RunCommand) → command_with kind seed workers files ≡ Some c → ((n : ℕ) → workers ≡ Some n → (1 ≤ n) × (n ≤ 16)) → IsCommand c
with_within kind None workers files c e within = absurd (cc)
with_within kind (Some seed) None files c e within = absurd (cc)
with_within kind (Some seed) (Some workers) [] c e within = absurd (cc)
with_within kind (Some seed) (Some workers) (updates ∷ queries) c e within =
    let named = chosen (are_file_names 2 65 (updates ∷ queries)) (Some (record { kind = kind; seed = seed; workers = workers; updates = updates; queries = queries })) c e in
    let two = both_true (nat_le 2 (length (updates ∷ queries))) (nat_le (length (updates ∷ queries)) 65 && list_all (λ name. not (length name == 0)) (updates ∷ queries)) named.0 in
    let few = both_true (nat_le (length (updates ∷ queries)) 65) (list_all (λ name. not (length name == 0)) (updates ∷ queries)) two.1 in
    let low : 2 ≤ length (updates ∷ queries) = at_most 2 (length (updates ∷ queries)) two.0 in
    let high : length (updates ∷ queries) ≤ 65 = at_most (length (updates ∷ queries)) 65 few.0 in
    let bound = within workers refl in
    subst (λ (x : RunCommand). IsCommand x) (some_is (record { kind = kind; seed = seed; workers = workers; updates = updates; queries = queries }) c named.1)
    (record { some_file = omega arith; few_files = omega arith; some_worker = bound.0; few_workers = bound.1 })

then_within : (kind : Kind) (o : Option Said) (c : RunCommand) → option_and_then (command_said kind) o ≡ Some c → IsCommand c
then_within kind None c e = absurd (cc)
then_within kind (Some said) c e = with_within kind (setting 0 18446744073709551615 0 said.seed) (setting 1 16 4 said.workers) said.files c e (λ n is. setting_within 1 16 4 n said.workers (omega arith) (omega arith) is)

-- which command a kind may give
abbrev command_by : Bool → Bool → Bool → Bool → List (List ℕ) → Option Command
command_by t l b d words = if t then option_map Run (said_after table words) else if l then option_map Run (said_after list words) else if b then make_said words else if d then option_map Judge (judgment_after words) else None

of_run : (o : Option RunCommand) (c : Command) → option_map Run o ≡ Some c → (said : RunCommand) × (o ≡ Some said) × (c ≡ Run said)
of_run None c e = absurd (cc)
of_run (Some said) c e = (said, refl, cc)

of_judge : (o : Option JudgeCommand) (c : Command) → option_map Judge o ≡ Some c → (said : JudgeCommand) × (o ≡ Some said) × (c ≡ Judge said)
of_judge None c e = absurd (cc)
of_judge (Some said) c e = (said, refl, cc)

of_numbers : (s l : Option ℕ) (c : Command) → make_with s l ≡ Some c → (seed lines : ℕ) × (l ≡ Some lines) × (c ≡ Make seed lines)
of_numbers None l c e = absurd (cc)
of_numbers (Some s) None c e = absurd (cc)
of_numbers (Some s) (Some l) c e = (s, l, refl, cc)

of_make : (words : List (List ℕ)) (c : Command) → make_said words ≡ Some c → (seed lines : ℕ) × (lines ≤ 999999) × (c ≡ Make seed lines)
of_make [] c e = absurd (cc)
of_make (s ∷ []) c e = absurd (cc)
of_make (s ∷ l ∷ []) c e =
    let parts = of_numbers (number_within 0 18446744073709551615 s) (number_within 0 999999 l) c e in
    (parts.0, parts.1, (limited 0 999999 parts.1 (number_of l) parts.2).1, parts.3)
of_make (s ∷ l ∷ more ∷ words) c e = absurd (cc)

command_split : (words : List (List ℕ)) (c : Command) → command_of words ≡ Some c → (t l b d : Bool) × (more : List (List ℕ)) × (command_by t l b d more ≡ Some c)
command_split [] c e = absurd (cc)
command_split (kind ∷ words) c e = (bytes_eq kind (codes "table"), bytes_eq kind (codes "list"), bytes_eq kind (codes "make"), bytes_eq kind (codes "judge"), words, e)

run_by : (t l b d : Bool) (words : List (List ℕ)) (c : RunCommand) → command_by t l b d words ≡ Some (Run c) → (kind : Kind) × (said_after kind words ≡ Some c)
run_by true l b d words c e = let r = of_run (said_after table words) (Run c) e in let same : r.0 ≡ c = cc in (table, r.1 ∙ ap (λ x. Some x) same)
run_by false true b d words c e = let r = of_run (said_after list words) (Run c) e in let same : r.0 ≡ c = cc in (list, r.1 ∙ ap (λ x. Some x) same)
run_by false false true d words c e = let m = of_make words (Run c) e in let is = m.3 in absurd (cc)
run_by false false false true words c e = let j = of_judge (judgment_after words) (Run c) e in let is = j.2 in absurd (cc)
run_by false false false false words c e = absurd (cc)

pub command_within : (words : List (List ℕ)) (c : RunCommand) → command_of words ≡ Some (Run c) → IsCommand c
command_within words c e =
    let parts = command_split words (Run c) e in
    let run = run_by parts.0 parts.1 parts.2 parts.3 parts.4 c parts.5 in
    then_within run.0 (read parts.4 None nothing_said) c run.1

make_by : (t l b d : Bool) (words : List (List ℕ)) (seed lines : ℕ) → command_by t l b d words ≡ Some (Make seed lines) → lines ≤ 999999
make_by true l b d words seed lines e = let r = of_run (said_after table words) (Make seed lines) e in let is = r.2 in absurd (cc)
make_by false true b d words seed lines e = let r = of_run (said_after list words) (Make seed lines) e in let is = r.2 in absurd (cc)
make_by false false true d words seed lines e =
    let m = of_make words (Make seed lines) e in
    let is = m.3 in
    let same : m.1 ≡ lines = cc in
    subst (λ n. n ≤ 999999) same m.2
make_by false false false true words seed lines e = let j = of_judge (judgment_after words) (Make seed lines) e in let is = j.2 in absurd (cc)
make_by false false false false words seed lines e = absurd (cc)

-- a summary is of at most 999,999 lines
pub make_within : (words : List (List ℕ)) (seed lines : ℕ) → command_of words ≡ Some (Make seed lines) → lines ≤ 999999
make_within words seed lines e =
    let parts = command_split words (Make seed lines) e in
    make_by parts.0 parts.1 parts.2 parts.3 parts.4 seed lines parts.5

judged_with : (files : List (List ℕ)) (c : JudgeCommand) → judgment_with files ≡ Some c → 2 ≤ length c.others
judged_with [] c e = absurd (cc)
judged_with (updates ∷ others) c e =
    let named = chosen (are_file_names 3 66 (updates ∷ others)) (Some (record { updates = updates; others = others })) c e in
    let two = both_true (nat_le 3 (length (updates ∷ others))) (nat_le (length (updates ∷ others)) 66 && list_all (λ name. not (length name == 0)) (updates ∷ others)) named.0 in
    let low : 3 ≤ length (updates ∷ others) = at_most 3 (length (updates ∷ others)) two.0 in
    subst (λ (x : JudgeCommand). 2 ≤ length x.others) (some_is (record { updates = updates; others = others }) c named.1) (omega arith)

judged_said : (o : Option Said) (c : JudgeCommand) → option_and_then judgment_said o ≡ Some c → 2 ≤ length c.others
judged_said None c e = absurd (cc)
judged_said (Some said) c e = go (is_some said.seed || is_some said.workers) e
  where
    go : (b : Bool) → (if b then None else judgment_with said.files) ≡ Some c → 2 ≤ length c.others
    go true e = absurd (cc)
    go false e = judged_with said.files c e

judged_words : (words : List (List ℕ)) (c : JudgeCommand) → judgment_after words ≡ Some c → 2 ≤ length c.others
judged_words [] c e = absurd (cc)
judged_words (kind ∷ words) c e = judged_said (read words None nothing_said) c (chosen (bytes_eq kind (codes "table")) (judged_after words) c e).1

judge_by : (t l b d : Bool) (words : List (List ℕ)) (c : JudgeCommand) → command_by t l b d words ≡ Some (Judge c) → 2 ≤ length c.others
judge_by true l b d words c e = let r = of_run (said_after table words) (Judge c) e in let is = r.2 in absurd (cc)
judge_by false true b d words c e = let r = of_run (said_after list words) (Judge c) e in let is = r.2 in absurd (cc)
judge_by false false true d words c e = let m = of_make words (Judge c) e in let is = m.3 in absurd (cc)
judge_by false false false true words c e =
    let j = of_judge (judgment_after words) (Judge c) e in
    let is = j.2 in
    let same : j.0 ≡ c = cc in
    judged_words words c (j.1 ∙ ap (λ x. Some x) same)
judge_by false false false false words c e = absurd (cc)

-- beside the update file a judgment has a query file and a report
pub judge_within : (words : List (List ℕ)) (c : JudgeCommand) → command_of words ≡ Some (Judge c) → 2 ≤ length c.others
judge_within words c e =
    let parts = command_split words (Judge c) e in
    judge_by parts.0 parts.1 parts.2 parts.3 parts.4 c parts.5
