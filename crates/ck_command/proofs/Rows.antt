-- The rows that `clap` keeps of the options and the files, and what was said by them.
use Rattle.std.proofs.Common.{◌≡◌, Bool, true, false, cond, ◌&&◌, ◌||◌, List, [], ◌∷◌, ◌++◌, Option, Some, None, refl, ap, sym, ◌∙◌, codes, true≢false}
use Rattle.std.specs.Prelude.{is_some, option_map, option_and_then, unwrap_or, if◌then◌else◌}
use Rattle.std.specs.Str.{bytes_eq}
use Rattle.std.proofs.lemmas.Slice.Eq.{bytes_eq-Decides}
use Rattle.clap.specs.Walk.{Row, Rule, Text, all_of, has_row, used, with_values, without, arg_by_long}
use Rattle.clap.specs.Simple.{Shape, built, filled, with_index}
use Rattle.clap.specs.Kinds.{Kinds, or_else}
use Rattle.clap.specs.Faults.{use_fault}
use Rattle.clap.specs.declared.error.kind.ErrorKind.TheVariants.{ArgumentConflict}
use Rattle.clap.specs.declared.builder.value_parser.Reading.{Reading}
use Rattle.clap.specs.declared.parser.matches.ValueSource.{ValueSource}
use Rattle.ck_command.specs.Parser.{table_app, seed_option, workers_option, file_names}
use Rattle.ck_command.specs.Words.{Said, with_value}

-- ---- the rows

pub same_text : (xs ys : Text) → bytes_eq xs ys ≡ true → xs ≡ ys
same_text xs ys e = (bytes_eq-Decides xs ys).0 e

pub some_none : {X : Type 0} {x : X} → Some x ≡ None → ⊥
some_none e = true≢false (ap is_some e)

abbrev has_any : {X : Type 0} → List X → Bool
has_any [] = false
has_any (x ∷ xs) = true

pub nonempty : {X : Type 0} {x : X} {xs : List X} → x ∷ xs ≡ [] → ⊥
nonempty e = true≢false (ap has_any e)

pub or_nil : (a : Kinds) → or_else a [] ≡ a
or_nil [] = refl
or_nil (k ∷ ks) = refl

pub and_false : (b : Bool) → (b && false) ≡ false
and_false true = refl
and_false false = refl

pub or_true : (b : Bool) → (b || true) ≡ true
or_true true = refl
or_true false = refl

module _ (id : Text) (how : Reading) (source : ValueSource) (values : List Text) where
  -- the values of the same id grow
  all_of_same : (rows : List Row) → bytes_eq id id ≡ true → all_of id (with_values id how source values rows) ≡ Some (unwrap_or (all_of id rows) [] ++ values)
  all_of_same [] e = rw e refl
  all_of_same (r ∷ rows) e = go (bytes_eq r.id id) refl (all_of_same rows e)
    where
      go : (b : Bool) → bytes_eq r.id id ≡ b → all_of id (with_values id how source values rows) ≡ Some (unwrap_or (all_of id rows) [] ++ values)
          → all_of id (with_values id how source values (r ∷ rows)) ≡ Some (unwrap_or (all_of id (r ∷ rows)) [] ++ values)
      go true hit rest = rw hit (rw hit refl)
      go false miss rest = rw miss (rw miss rest)

  -- those of another stay
  all_of_other : (other_id : Text) (rows : List Row) → bytes_eq id other_id ≡ false → all_of other_id (with_values id how source values rows) ≡ all_of other_id rows
  all_of_other other_id [] e = rw e refl
  all_of_other other_id (r ∷ rows) e = go (bytes_eq r.id id) (bytes_eq r.id other_id) refl refl (all_of_other other_id rows e)
    where
      go : (b c : Bool) → bytes_eq r.id id ≡ b → bytes_eq r.id other_id ≡ c → all_of other_id (with_values id how source values rows) ≡ all_of other_id rows
          → all_of other_id (with_values id how source values (r ∷ rows)) ≡ all_of other_id (r ∷ rows)
      go true c hit is rest =
          let differs : bytes_eq r.id other_id ≡ false = ap (λ t. bytes_eq t other_id) (same_text r.id id hit) ∙ e in
          rw hit (rw differs refl)
      go false true miss is rest = rw miss (rw is refl)
      go false false miss is rest = rw miss (rw is rest)

-- an id with no values has no row
no_row : (id : Text) (rows : List Row) → all_of id rows ≡ None → has_row id rows ≡ false
no_row id [] e = refl
no_row id (r ∷ rows) e = go (bytes_eq r.id id) refl (no_row id rows)
  where
    go : (b : Bool) → bytes_eq r.id id ≡ b → (all_of id rows ≡ None → has_row id rows ≡ false) → has_row id (r ∷ rows) ≡ false
    go true hit rest = absurd (some_none (rw hit at e))
    go false miss rest = rw miss (rest (rw miss at e))

a_row : (id : Text) (rows : List Row) (vs : List Text) → all_of id rows ≡ Some vs → has_row id rows ≡ true
a_row id [] vs e = absurd (some_none (sym e))
a_row id (r ∷ rows) vs e = go (bytes_eq r.id id) refl (a_row id rows vs)
  where
    go : (b : Bool) → bytes_eq r.id id ≡ b → (all_of id rows ≡ Some vs → has_row id rows ≡ true) → has_row id (r ∷ rows) ≡ true
    go true hit rest = rw hit refl
    go false miss rest = rw miss (rest (rw miss at e))

without_none : (id : Text) (rows : List Row) → all_of id rows ≡ None → without id rows ≡ rows
without_none id [] e = refl
without_none id (r ∷ rows) e = go (bytes_eq r.id id) refl (without_none id rows)
  where
    go : (b : Bool) → bytes_eq r.id id ≡ b → (all_of id rows ≡ None → without id rows ≡ rows) → without id (r ∷ rows) ≡ r ∷ rows
    go true hit rest = absurd (some_none (rw hit at e))
    go false miss rest = rw miss (ap (λ rs. r ∷ rs) (rest (rw miss at e)))

-- ---- the rules of the command, and what its rows tell

abbrev pub top : Shape
top = (built table_app).top

abbrev pub rules : List Rule
rules = top.rules

abbrev pub seed : Rule
seed = with_index 1 (filled seed_option)

abbrev pub workers : Rule
workers = with_index 1 (filled workers_option)

abbrev pub files : Rule
files = with_index 1 (filled file_names)

rules_are : rules ≡ seed ∷ workers ∷ files ∷ []
rules_are = refl

-- the option: `--seed` for true, `--workers` for false
abbrev pub option_at : Bool → Rule
option_at true = seed
option_at false = workers

abbrev pub value_at : Bool → Said → Option Text
value_at true said = said.seed
value_at false said = said.workers

abbrev pub put : Bool → Text → Said → Said
put true value said = record said { seed = Some value }
put false value said = record said { workers = Some value }

abbrev pub which : Text → Option Bool
which name = if bytes_eq (codes "seed") name then Some true else if bytes_eq (codes "workers") name then Some false else None

abbrev pub once : Option Text → Bool → Text → Said → Option Said
once None k value said = Some (put k value said)
once (Some old) k value said = None

pub with_value_is : (name value : Text) (said : Said) → with_value name value said ≡ option_and_then (λ k. once (value_at k said) k value said) (which name)
with_value_is name value said = go (bytes_eq (codes "seed") name) (bytes_eq (codes "workers") name) refl refl
  where
    fresh : (k : Bool) (o : Option Text) → cond (is_some o) None (Some (put k value said)) ≡ once o k value said
    fresh k None = refl
    fresh k (Some old) = refl

    go : (a b : Bool) → bytes_eq (codes "seed") name ≡ a → bytes_eq (codes "workers") name ≡ b
        → with_value name value said ≡ option_and_then (λ k. once (value_at k said) k value said) (which name)
    go true b is_seed is_workers = rw is_seed (fresh true said.seed)
    go false true is_seed is_workers = rw (is_seed, is_workers) (fresh false said.workers)
    go false false is_seed is_workers = rw (is_seed, is_workers) refl

pub arg_is : (name : Text) → arg_by_long rules name ≡ option_map option_at (which name)
arg_is name = go (bytes_eq (codes "seed") name) (bytes_eq (codes "workers") name) refl refl
  where
    go : (a b : Bool) → bytes_eq (codes "seed") name ≡ a → bytes_eq (codes "workers") name ≡ b → arg_by_long rules name ≡ option_map option_at (which name)
    go true b is_seed is_workers = rw is_seed refl
    go false true is_seed is_workers = rw (is_seed, is_workers) refl
    go false false is_seed is_workers = rw (is_seed, is_workers) refl

abbrev pub one : Option Text → Option (List Text)
one = option_map (λ value. value ∷ [])

-- the rows have the values that were said
pub record Tells (said : Said) (rows : List Row) : Type 0 where
  pub seed_told : all_of (codes "seed") rows ≡ one said.seed
  pub workers_told : all_of (codes "workers") rows ≡ one said.workers
  pub files_told : unwrap_or (all_of (codes "file") rows) [] ≡ said.files

told : (k : Bool) (said : Said) (rows : List Row) → Tells said rows → all_of (option_at k).id rows ≡ one (value_at k said)
told true said rows t = t.seed_told
told false said rows t = t.workers_told

-- an option that wasn't said is used
pub tells_put : (k : Bool) (said : Said) (rows : List Row) (value : Text) → Tells said rows → value_at k said ≡ None → Tells (put k value said) (used (option_at k) (value ∷ []) rows)
tells_put true said rows value t none =
    let absent : all_of (codes "seed") rows ≡ None = t.seed_told ∙ ap one none in
    rw (without_none (codes "seed") rows absent) (record {
      seed_told = all_of_same (codes "seed") _ _ (value ∷ []) rows refl ∙ ap (λ o. Some (unwrap_or o [] ++ value ∷ [])) absent;
      workers_told = all_of_other (codes "seed") _ _ (value ∷ []) (codes "workers") rows refl ∙ t.workers_told;
      files_told = ap (λ o. unwrap_or o []) (all_of_other (codes "seed") _ _ (value ∷ []) (codes "file") rows refl) ∙ t.files_told;
    })
tells_put false said rows value t none =
    let absent : all_of (codes "workers") rows ≡ None = t.workers_told ∙ ap one none in
    rw (without_none (codes "workers") rows absent) (record {
      seed_told = all_of_other (codes "workers") _ _ (value ∷ []) (codes "seed") rows refl ∙ t.seed_told;
      workers_told = all_of_same (codes "workers") _ _ (value ∷ []) rows refl ∙ ap (λ o. Some (unwrap_or o [] ++ value ∷ [])) absent;
      files_told = ap (λ o. unwrap_or o []) (all_of_other (codes "workers") _ _ (value ∷ []) (codes "file") rows refl) ∙ t.files_told;
    })

-- and a file
pub tells_file : (said : Said) (rows : List Row) (word : Text) → Tells said rows → Tells (record said { files = said.files ++ word ∷ [] }) (used files (word ∷ []) rows)
tells_file said rows word t = record {
  seed_told = all_of_other (codes "file") _ _ (word ∷ []) (codes "seed") rows refl ∙ t.seed_told;
  workers_told = all_of_other (codes "file") _ _ (word ∷ []) (codes "workers") rows refl ∙ t.workers_told;
  files_told = ap (λ o. unwrap_or o []) (all_of_same (codes "file") _ _ (word ∷ []) rows refl) ∙ ap (λ xs. xs ++ word ∷ []) t.files_told;
}

pub use_passes : (k : Bool) (said : Said) (rows : List Row) (value : Text) → Tells said rows → value_at k said ≡ None → use_fault false (option_at k) (value ∷ []) rows ≡ []
use_passes true said rows value t none = rw (no_row (codes "seed") rows (t.seed_told ∙ ap one none)) refl
use_passes false said rows value t none = rw (no_row (codes "workers") rows (t.workers_told ∙ ap one none)) refl

pub use_again : (k : Bool) (said : Said) (rows : List Row) (old value : Text) → Tells said rows → value_at k said ≡ Some old → use_fault false (option_at k) (value ∷ []) rows ≡ ArgumentConflict ∷ []
use_again true said rows old value t some = rw (a_row (codes "seed") rows (old ∷ []) (t.seed_told ∙ ap one some)) refl
use_again false said rows old value t some = rw (a_row (codes "workers") rows (old ∷ []) (t.workers_told ∙ ap one some)) refl
