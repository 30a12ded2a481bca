-- What a report names at an index.
use Rattle.std.proofs.Common.{◌≡◌, ◌≢◌, ℕ, ◌+◌, ◌<◌, ◌≤◌, ◌==◌, cond, List, [], ◌∷◌, ◌++◌, length, map, drop, take, get_or, refl, ap, sym, ◌∙◌, arith, append_assoc, Vec, true, suc, subst, Result, Ok, Err, MatchResult}
use Rattle.std.specs.Option.{unwrap_or, option_map}
use Rattle.std.proofs.lemmas.List.{length-map, drop_all, map-append}
use Rattle.std.proofs.lemmas.Option.{slice_get-map, slice_get_read}
use Rattle.ck_history.specs.Legal.{Query}
use Rattle.ck_script.specs.declared.line.Numbered.{Numbered}
use Rattle.ck_script.specs.declared.line.AskLine.{AskLine}
use Rattle.ck_script.specs.Script.{HoldLine, said_of, queries, bounded, bounded_files}
use Rattle.ck_report.specs.declared.asked.Asked.{Asked}
use Rattle.ck_judge.specs.declared.bounds.Bounded.{Bounded}
use Rattle.ck_judge.specs.declared.bounds.Held.{Held}
use Rattle.ck_judge.specs.Bounds.{query_of, hold_line, AreLimits, RiseTo}
use Rattle.ck_judge.specs.Files.{as_lists, as_queries, next_answers, later_files}
use Rattle.ck_judge.specs.Verdict.{file_queries}
use Rattle.ck_judge.proofs.Holding.{drop_next}
use Rattle.ck_judge.proofs.Named.{same_itself, not_number}
use Rattle.ck_judge.proofs.Placed.{taken_next}
use Rattle.ck_judge.proofs.Recalling.{read_mapped}

drop_mapped : {X Y : Type 0} (f : X → Y) (xs : List X) (i : ℕ) (x : X) → i < length xs → x ≡ get_or xs i x → drop i (map f xs) ≡ f x ∷ drop (i + 1) (map f xs)
drop_mapped f xs i x lt is = drop_next (map f xs) i (f x) (omega (arith, length-map xs f)) (ap f is ∙ sym (read_mapped f xs i x))

module _ {K A : Type 0} (named : List (ℕ × Vec (Asked K) A)) (at : ℕ) (f : ℕ) where
  pub end_left : length named ≤ at → drop at (as_lists named) ≡ []
  end_left le =
      let listed : ℕ × Vec (Asked K) A → ℕ × List (Asked K) = λ file. (file.0, file.1.items) in
      let count = length-map named listed in
      drop_all at (as_lists named) (omega (arith, count))

  pub first_end : length named ≤ at → [] ≡ next_answers f (drop at (as_lists named))
  first_end le = sym (ap (next_answers f) (end_left le))

  pub past_end : length named ≤ at → drop at (as_lists named) ≡ later_files f (drop at (as_lists named))
  past_end le = end_left le ∙ sym (ap (later_files f) (end_left le))

  module _ (e : ℕ × Vec (Asked K) A) (lt : at < length named) (is : e ≡ get_or named at e) where
    pub left : drop at (as_lists named) ≡ (e.0, e.1.items) ∷ drop (at + 1) (as_lists named)
    left =
        let listed : ℕ × Vec (Asked K) A → ℕ × List (Asked K) = λ file. (file.0, file.1.items) in
        drop_mapped listed named at e lt is

    is_number : e.0 ≡ f → (e.0 == f) ≡ true
    is_number same = ap (λ n. e.0 == n) (sym same) ∙ same_itself e.0

    pub first_here : e.0 ≡ f → e.1.items ≡ next_answers f (drop at (as_lists named))
    first_here same = sym (ap (next_answers f) left ∙ ap (λ b. cond b e.1.items []) (is_number same))

    pub first_other : e.0 ≢ f → [] ≡ next_answers f (drop at (as_lists named))
    first_other apart = sym (ap (next_answers f) left ∙ ap (λ b. cond b e.1.items []) (not_number e.0 f apart))

    pub past_here : e.0 ≡ f → drop (at + 1) (as_lists named) ≡ later_files f (drop at (as_lists named))
    past_here same = sym (ap (later_files f) left ∙ ap (λ b. cond b (drop (at + 1) (as_lists named)) ((e.0, e.1.items) ∷ drop (at + 1) (as_lists named))) (is_number same))

    pub past_other : e.0 ≢ f → drop at (as_lists named) ≡ later_files f (drop at (as_lists named))
    past_other apart = left ∙ sym (ap (later_files f) left ∙ ap (λ b. cond b (drop (at + 1) (as_lists named)) ((e.0, e.1.items) ∷ drop (at + 1) (as_lists named))) (not_number e.0 f apart))

module _ {K A : Type 0} (files : List (Vec (Bounded K) A)) (i : ℕ) (file : Vec (Bounded K) A) (lt : i < length files) (is : file ≡ get_or files i file) where
  pub queries_here : file_queries (i + 1) (as_queries files) ≡ map query_of file.items
  queries_here =
      let next : i + 1 ≡ suc i = omega arith in
      ap (λ n. file_queries n (as_queries files)) next ∙ ap (λ o. unwrap_or o []) (slice_get-map (λ (f : Vec (Bounded K) A). map query_of f.items) files i ∙ ap (option_map (λ (f : Vec (Bounded K) A). map query_of f.items)) (slice_get_read files (length files) i file refl lt is))

  pub queries_taken : take (i + 1) (as_queries files) ≡ take i (as_queries files) ++ map query_of file.items ∷ []
  queries_taken = taken_next (as_queries files) i (map query_of file.items) (omega (arith, length-map files (λ (f : Vec (Bounded K) A). map query_of f.items)))
      (ap (λ (f : Vec (Bounded K) A). map query_of f.items) is ∙ sym (read_mapped (λ (f : Vec (Bounded K) A). map query_of f.items) files i file))

module _ {K F B : Type 0} (items : F → List (Numbered (AskLine K))) (all : ℕ) (hs : List HoldLine) (asks : List F) (i : ℕ) (file : F) (lt : i < length asks) (is : file ≡ get_or asks i file) where
  -- the queries of one more file
  pub files_next : (files files' : List (Vec (Bounded K) B)) (bounds : Vec (Bounded K) B) (whole : List (List (Query K))) → files' ≡ files ++ bounds ∷ [] → map query_of bounds.items ≡ bounded all hs (i + 1) 1 (queries 0 (said_of (items file))) →
      as_queries files ++ bounded_files all hs (i + 1) (map said_of (map items (drop i asks))) ≡ whole →
      as_queries files' ++ bounded_files all hs (i + 1 + 1) (map said_of (map items (drop (i + 1) asks))) ≡ whole
  files_next files files' bounds whole pushed here so_far =
      ap (λ fs. as_queries fs ++ bounded_files all hs (i + 1 + 1) (map said_of (map items (drop (i + 1) asks)))) pushed
      ∙ (ap (λ qs. qs ++ bounded_files all hs (i + 1 + 1) (map said_of (map items (drop (i + 1) asks)))) (map-append (λ (f : Vec (Bounded K) B). map query_of f.items) files (bounds ∷ []))
      ∙ (append_assoc (as_queries files) (map query_of bounds.items ∷ []) (bounded_files all hs (i + 1 + 1) (map said_of (map items (drop (i + 1) asks))))
      ∙ (ap (λ qs. as_queries files ++ qs ∷ bounded_files all hs (i + 1 + 1) (map said_of (map items (drop (i + 1) asks)))) here
      ∙ (ap (λ l. as_queries files ++ bounded_files all hs (i + 1) (map said_of (map items l))) (sym (drop_next asks i file lt is)) ∙ so_far))))

-- what is known of a result, where it is an error or not
pub at_err : {X : Type 0} (r : Result X ℕ) (x : ℕ) (P : X → Type 0) (Q : ℕ → Type 0) → MatchResult r P Q → r ≡ Err x → Q x
at_err r x P Q h e = let R : Result _ ℕ → Type 0 = λ s. MatchResult s P Q in subst R e h

pub at_ok : {X : Type 0} (r : Result X ℕ) (x : X) (P : X → Type 0) (Q : ℕ → Type 0) → MatchResult r P Q → r ≡ Ok x → P x
at_ok r x P Q h e = let R : Result _ ℕ → Type 0 = λ s. MatchResult s P Q in subst R e h

pub queries_count : {K A : Type 0} (files : List (Vec (Bounded K) A)) → length (as_queries files) ≡ length files
queries_count {K} {A} files = length-map files (λ (f : Vec (Bounded K) A). map query_of f.items)

-- the bounds that were read are those of the file's queries
pub bounds_read : {K : Type 0} (all f : ℕ) (hs : List HoldLine) (held : List Held) (limits limits' : List ℕ) (bounds : List (Bounded K)) (lines : List (Numbered (AskLine K))) → map hold_line held ≡ hs → RiseTo all 0 hs →
    ((most m : ℕ) → RiseTo most m (map hold_line held) → AreLimits most f (map hold_line held) limits) → limits' ≡ limits →
    ((g : ℕ) (gs : List HoldLine) → AreLimits all g gs limits' → map query_of bounds ≡ bounded all gs g 1 (queries 0 (said_of lines))) →
    map query_of bounds ≡ bounded all hs f 1 (queries 0 (said_of lines))
bounds_read all f hs held limits limits' bounds lines same rise limited lim_is bounded_by =
    let here : AreLimits all f hs limits = subst (λ l. AreLimits all f l limits) same (limited all 0 (subst (λ l. RiseTo all 0 l) (sym same) rise)) in
    bounded_by f hs (subst (λ l. AreLimits all f hs l) (sym lim_is) here)
