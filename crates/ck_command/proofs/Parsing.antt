-- From what `clap` and the checks say of the words to the command that they ask for.
use Rattle.std.proofs.Common.{◌≡◌, ℕ, Bool, true, false, cond, not, ◌==◌, ◌&&◌, ◌<◌, ◌≤◌, ◌^◌, List, [], ◌∷◌, map, drop, length, Option, Some, None, refl, ap, sym, ◌∙◌, subst, codes, decimal, arith, inl, inr, ◌⊎◌, le-leb, leb-true, string_bytes, String, Bor}
use Rattle.std.specs.Prelude.{MatchOption, option_map, option_and_then, unwrap_or, slice_get, find, nat_le}
use Rattle.std.specs.List.{list_all}
use Rattle.std.specs.Str.{bytes_eq}
use Rattle.std.specs.Str.Parse.{digits_value}
use Rattle.std.proofs.lemmas.Fmt.{decimal_is_IsNumeral}
use Rattle.std.proofs.lemmas.Str.{IsUtf8-string_bytes}
use Rattle.std.proofs.lemmas.Slice.Eq.{bytes_eq-Decides}
use Rattle.std.proofs.lemmas.List.{length-map}
use Rattle.clap.specs.Walk.{Row, Text, all_of, first_of}
use Rattle.clap.specs.Simple.{matches_of}
use Rattle.clap.specs.Kinds.{Kinds, IsAmong}
use Rattle.clap.specs.Faults.{fault_of}
use Rattle.clap.specs.declared.error.kind.ErrorKind.{ErrorKind}
use Rattle.clap.specs.declared.error.kind.ErrorKind.TheVariants.{OutOfMemory}
use Rattle.ck_command.specs.Parser.{table_app}
use Rattle.ck_command.specs.declared.words.Form.{Form}
use Rattle.ck_command.specs.declared.words.Form.TheVariants.{Run, Judgment}
use Rattle.ck_command.specs.Words.{Said, Run as AsRun, Judge, command_said, judgment_said, nothing_said, read, number_within}
use Rattle.ck_command.specs.Asked.{asked_by, kind_value, said_by}
use Rattle.ck_command.proofs.Rows.{Tells, one}
use Rattle.ck_command.proofs.Turns.{IsWrong}
use Rattle.ck_command.proofs.Walking.{AllTexts, parses, wrong_run, wrong_judgment}

all_texts : {Z : Type 0} (xs : List (String Z)) → AllTexts (map string_bytes xs)
all_texts [] = tt
all_texts (x ∷ xs) = (IsUtf8-string_bytes x, all_texts xs)

texts_after : {Z : Type 0} (xs : List (String Z)) → AllTexts (drop 1 (map string_bytes xs))
texts_after [] = tt
texts_after (x ∷ xs) = all_texts xs

among_nothing : (k : ErrorKind) (ks : Kinds) → IsAmong k ks → ks ≡ [] → ⊥
among_nothing k [] is e = is
among_nothing k (x ∷ xs) is e = subst (IsAmong k) e is

-- what isn't right for one form asks for nothing
wrong_said : (form : Form) (said : Said) → IsWrong said → said_by form said ≡ None
wrong_said (Run kind) said wrong = ap (option_map AsRun) (wrong_run (kind_value kind) said wrong)
wrong_said Judgment said wrong = ap (option_map Judge) (wrong_judgment said wrong)

-- what is made of the answer of a choice
map_and_then : {X Y Z : Type 0} (g : Y → Z) (f : X → Option Y) (o : Option X) → option_map g (option_and_then f o) ≡ option_and_then (λ x. option_map g (f x)) o
map_and_then g f None = refl
map_and_then g f (Some x) = refl

first_is : (id : Text) (rows : List Row) → first_of id rows ≡ option_and_then (λ (vs : List Text). slice_get vs 0) (all_of id rows)
first_is id rows = go (find (λ (r : Row). bytes_eq r.id id) rows)
  where
    go : (o : Option Row) → option_and_then (λ (r : Row). slice_get r.values 0) o ≡ option_and_then (λ (vs : List Text). slice_get vs 0) (option_map (λ (r : Row). r.values) o)
    go None = refl
    go (Some r) = refl

first_one : (o : Option Text) → option_and_then (λ (vs : List Text). slice_get vs 0) (one o) ≡ o
first_one None = refl
first_one (Some t) = refl

asked_is : (form : Form) (words : List Text) → asked_by form words ≡ option_and_then (said_by form) (read words None nothing_said)
asked_is (Run kind) words = map_and_then AsRun (command_said (kind_value kind)) (read words None nothing_said)
asked_is Judgment words = map_and_then Judge judgment_said (read words None nothing_said)

module _ (form : Form) where
  -- words that `clap` refuses, but for want of memory, ask for nothing
  pub refused_words : {Z : Type 0} (xs : List (String Z)) (k : ErrorKind) → (k ≡ OutOfMemory → ⊥)
      → (k ≡ OutOfMemory) ⊎ IsAmong k (fault_of table_app (map string_bytes xs)) → asked_by form (drop 1 (map string_bytes xs)) ≡ None
  refused_words {Z} xs k memory (inl is) = absurd (memory is)
  refused_words {Z} xs k memory (inr is) = asked_is form (drop 1 (map string_bytes xs)) ∙ go (read (drop 1 (map string_bytes xs)) None nothing_said) (parses (map string_bytes xs) (texts_after xs))
    where
      go : (answer : Option Said) → MatchOption answer (fault_of table_app (map string_bytes xs) ≡ [] → ⊥)
          (λ said. ((fault_of table_app (map string_bytes xs) ≡ []) × Tells said (matches_of table_app (map string_bytes xs))) ⊎ ((fault_of table_app (map string_bytes xs) ≡ [] → ⊥) × IsWrong said))
          → option_and_then (said_by form) answer ≡ None
      go None bad = refl
      go (Some said) (inl good) = absurd (among_nothing k _ is good.0)
      go (Some said) (inr bad) = wrong_said form said bad.1

  -- words that `clap` takes ask for what its values say
  pub taken_words : {Z : Type 0} (xs : List (String Z)) (rows : List Row) → fault_of table_app (map string_bytes xs) ≡ [] → rows ≡ matches_of table_app (map string_bytes xs)
      → asked_by form (drop 1 (map string_bytes xs)) ≡ said_by form (record { seed = first_of (codes "seed") rows; workers = first_of (codes "workers") rows; files = unwrap_or (all_of (codes "file") rows) [] })
  taken_words {Z} xs rows none is = asked_is form (drop 1 (map string_bytes xs)) ∙ go (read (drop 1 (map string_bytes xs)) None nothing_said) (parses (map string_bytes xs) (texts_after xs))
    where
      go : (answer : Option Said) → MatchOption answer (fault_of table_app (map string_bytes xs) ≡ [] → ⊥)
          (λ said. ((fault_of table_app (map string_bytes xs) ≡ []) × Tells said (matches_of table_app (map string_bytes xs))) ⊎ ((fault_of table_app (map string_bytes xs) ≡ [] → ⊥) × IsWrong said))
          → option_and_then (said_by form) answer ≡ said_by form (record { seed = first_of (codes "seed") rows; workers = first_of (codes "workers") rows; files = unwrap_or (all_of (codes "file") rows) [] })
      go None bad = absurd (bad none)
      go (Some said) (inr bad) = absurd (bad.0 none)
      go (Some said) (inl good) =
          let tells : Tells said rows = subst (Tells said) (sym is) good.1 in
          let seed_is : first_of (codes "seed") rows ≡ said.seed = first_is (codes "seed") rows ∙ ap (option_and_then (λ (vs : List Text). slice_get vs 0)) tells.seed_told ∙ first_one said.seed in
          let workers_is : first_of (codes "workers") rows ≡ said.workers = first_is (codes "workers") rows ∙ ap (option_and_then (λ (vs : List Text). slice_get vs 0)) tells.workers_told ∙ first_one said.workers in
          λ i. said_by form (record { seed = sym seed_is i; workers = sym workers_is i; files = sym tells.files_told i })

pub files_given : (r : Option (Bor (List (Bor Text)))) (d : Bor (List (Bor Text))) → d.now ≡ [] → map (λ name. name.now) (unwrap_or r d).now ≡ unwrap_or (option_map (λ s. map (λ name. name.now) s.now) r) []
files_given None d e = ap (map (λ (name : Bor Text). name.now)) e
files_given (Some s) d e = refl

-- ---- the checks

not_le : (a b : ℕ) → b < a → nat_le a b ≡ false
not_le a b lt = go (nat_le a b) refl
  where
    go : (p : Bool) → nat_le a b ≡ p → p ≡ false
    go false e = refl
    go true e =
        let le : a ≤ b = leb-true a b e in
        absurd (omega arith)

same_words : (word : Text) → bytes_eq word word ≡ true
same_words word = (bytes_eq-Decides word word).1 refl

module _ (least most n : ℕ) (word : Text) (fits : most < 2 ^ 64) where
  value_is : n ≤ most → word ≡ decimal n → digits_value 10 word ≡ n
  value_is small is =
      let small : n < 2 ^ 64 = omega arith in
      ap (digits_value 10) is ∙ (decimal_is_IsNumeral n small).1

  number_is : n ≤ most → word ≡ decimal n → number_within least most word ≡ cond (nat_le least n && nat_le n most) (Some n) None
  number_is small is =
      let value = value_is small is in
      let spelt : bytes_eq (decimal (digits_value 10 word)) word ≡ true = ap (λ k. bytes_eq (decimal k) word) value ∙ ap (λ t. bytes_eq t word) (sym is) ∙ same_words word in
      rw spelt (ap (λ k. cond (nat_le least k && nat_le k most) (Some k) None) value)

  pub within_some : n ≤ most → word ≡ decimal n → least ≤ n → number_within least most word ≡ Some n
  within_some small is enough = number_is small is ∙ rw (le-leb least n enough, le-leb n most small) refl

  pub within_low : n ≤ most → word ≡ decimal n → n < least → number_within least most word ≡ None
  within_low small is low = number_is small is ∙ ap (λ b. cond (b && nat_le n most) (Some n) None) (not_le least n low)

pub within_none : (least most : ℕ) (word : Text) → ((n : ℕ) → n ≤ most → decimal n ≡ word → ⊥) → number_within least most word ≡ None
within_none least most word none = go (bytes_eq (decimal n) word) (nat_le n most) refl refl
  where
    n : ℕ
    n = digits_value 10 word

    and_false : (b : Bool) → (b && false) ≡ false
    and_false true = refl
    and_false false = refl

    go : (p q : Bool) → bytes_eq (decimal n) word ≡ p → nat_le n most ≡ q → number_within least most word ≡ None
    go false q same within = rw same refl
    go true false same within = rw (same, within, and_false (nat_le least n)) refl
    go true true same within = absurd (none n (leb-true n most within) ((bytes_eq-Decides (decimal n) word).0 same))
