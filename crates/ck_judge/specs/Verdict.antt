-- What a verdict says of a report beside the scripts that it is to be of.
use Rattle.std.specs.Prelude.{◌≡◌, ℕ, zero, suc, ◌+◌, ◌-◌, ◌<◌, ◌≤◌, ◌==◌, if◌then◌else◌, List, [], ◌∷◌, length, take, map, slice_get, Option, Some, None, Bool, true, false}
use Rattle.std.specs.declared.cmp.Ordering.{Ordering}
use Rattle.std.specs.declared.cmp.Ordering.TheVariants.{Equal}
use Rattle.std.specs.List.{AllZip}
use Rattle.std.specs.List.Sorted.{IsNonDecreasing}
use Rattle.std.specs.Option.{unwrap_or}
use Rattle.ck_history.specs.declared.update.Update.{Update}
use Rattle.ck_history.specs.Map.{after, answer_after, replies}
use Rattle.ck_history.specs.Legal.{Query, ArePlaced, AreLegal}
use Rattle.ck_script.specs.Script.{Script}
use Rattle.ck_report.specs.declared.asked.Asked.{Asked}
use Rattle.ck_report.specs.Reports.{Parts}
use Rattle.ck_judge.specs.declared.verdict.Verdict.{Verdict}
use Rattle.ck_judge.specs.declared.verdict.Verdict.TheVariants.{Legal, Reply, Place, Table}

module _ {A : Type 0} (Same : A → A → Type 0) where
  -- neither list has an element there, or both have the same
  abbrev pub AgreeOn : Option A → Option A → Type 0
  AgreeOn None None = Unit {0}
  AgreeOn (Some x) (Some y) = Same x y
  AgreeOn None (Some y) = ⊥
  AgreeOn (Some x) None = ⊥

  -- the lists agree at the index i, where one that has ended agrees with none that goes on
  abbrev pub AgreeAt : List A → List A → ℕ → Type 0
  AgreeAt xs ys i = AgreeOn (slice_get xs i) (slice_get ys i)

  -- the lists agree everywhere
  abbrev pub Agree : List A → List A → Type 0
  Agree xs ys = (i : ℕ) → AgreeAt xs ys i

  -- the least number, counted from 1, at which they don't agree
  pub record DifferFirstAt (xs ys : List A) (at : ℕ) : Type 0 where
    pub counted : 0 < at
    pub before : (i : ℕ) → i + 1 < at → AgreeAt xs ys i
    pub here : AgreeAt xs ys (at - 1) → ⊥

-- the queries of query file f, where files are counted from 1
abbrev pub file_queries : {Q : Type 0} → ℕ → List (List Q) → List Q
file_queries zero files = []
file_queries (suc i) files = unwrap_or (slice_get files i) []

-- the answers of file f in a report that names the files that it has answers of
abbrev pub file_answers : {K : Type 0} → ℕ → List (ℕ × List (Asked K)) → List (Asked K)
file_answers f [] = []
file_answers f (file ∷ more) = if file.0 == f then file.1 else file_answers f more

module _ {K : Type 0} (cmp : K → K → Ordering) where
  -- pairs are the same where their keys are equal and their values are
  abbrev pub SamePair : K × ℕ → K × ℕ → Type 0
  SamePair p q = (cmp p.0 q.0 ≡ Equal) × (p.1 ≡ q.1)

  -- the answers are those of the queries, in order: there are as many, and they have their keys
  abbrev pub AreOf : List (Query K) → List (Asked K) → Type 0
  AreOf queries answers = AllZip (λ q a. cmp q.key a.key ≡ Equal) queries answers

  module _ (most : ℕ) (us : List (Update K)) where
    -- the answers are those of the queries of one file, and legal
    pub record IsLegalFile (queries : List (Query K)) (answers : List (Asked K)) : Type 0 where
      pub asked : AreOf queries answers
      pub legal : AreLegal (length us) (answer_after cmp most us) queries (map (λ a. a.found) answers)

    -- of the numbers of queries and answers the first up to which they aren't: the answer of this number is missing, surplus or of another key,
    -- or no places exist for the answers up to it
    pub record IsFirstWrong (queries : List (Query K)) (answers : List (Asked K)) (at : ℕ) : Type 0 where
      pub counted : 0 < at
      pub before : (n : ℕ) → n < at → IsLegalFile (take n queries) (take n answers)
      pub here : IsLegalFile (take at queries) (take at answers) → ⊥

    -- places at which the answers are legal, of which each is the least that it can be
    pub record AreLeast (queries : List (Query K)) (answers : List (Asked K)) (places : List ℕ) : Type 0 where
      pub never_fall : IsNonDecreasing places
      pub placed : ArePlaced (length us) (answer_after cmp most us) queries (map (λ a. a.found) answers) places
      pub least : (other : AreLegal (length us) (answer_after cmp most us) queries (map (λ a. a.found) answers)) → AllZip (λ p o. p ≤ o) places other.places

    -- those of each query file, the files counted from f on
    abbrev pub AreLeastFrom : ℕ → List (List (Query K)) → List (ℕ × List (Asked K)) → List (List ℕ) → Type 0
    AreLeastFrom f [] named [] = Unit {0}
    AreLeastFrom f (queries ∷ files) named (places ∷ more) = AreLeast queries (file_answers f named) places × AreLeastFrom (f + 1) files named more
    AreLeastFrom f [] named (places ∷ more) = ⊥
    AreLeastFrom f (queries ∷ files) named [] = ⊥

    -- .. where these are the queries of each file, and the answers of each file that a report names
    module _ (files : List (List (Query K))) (named : List (ℕ × List (Asked K))) where
      -- the answers of file f are legal, where a file that there isn't has no queries
      abbrev pub IsRightFile : ℕ → Type 0
      IsRightFile f = IsLegalFile (file_queries f files) (file_answers f named)

      -- the answers of each file are legal
      abbrev pub HasAnswers : Type 0
      HasAnswers = (f : ℕ) → 0 < f → IsRightFile f

      -- the first answer, by file and then by query, that is wrong
      pub record IsFirstWrongAnswer (file query : ℕ) : Type 0 where
        pub counted : 0 < file
        pub before : (f : ℕ) → 0 < f → f < file → IsRightFile f
        pub here : IsFirstWrong (file_queries file files) (file_answers file named) query

  module _ (most : ℕ) (script : Script K) (report : Parts K) where
    -- the replies are those of the updates
    abbrev pub HasReplies : Type 0
    HasReplies = Agree (λ x y. x ≡ y) report.replies (replies cmp most script.updates)

    -- the pairs are those of the map after all updates
    abbrev pub HasTable : Type 0
    HasTable = Agree SamePair report.pairs (after cmp most script.updates (length script.updates))

    -- the report could have come from the scripts
    pub record IsLegalReport : Type 0 where
      pub replies : HasReplies
      pub answers : HasAnswers most script.updates script.files report.files
      pub table : HasTable

    -- the verdict is the first that applies, in the order Reply, Place, Table, Legal
    abbrev pub IsVerdict : Verdict → Type 0
    IsVerdict (Reply at) = DifferFirstAt (λ x y. x ≡ y) report.replies (replies cmp most script.updates) at
    IsVerdict (Place file query) = HasReplies × IsFirstWrongAnswer most script.updates script.files report.files file query
    IsVerdict (Table at) = HasReplies × HasAnswers most script.updates script.files report.files × DifferFirstAt SamePair report.pairs (after cmp most script.updates (length script.updates)) at
    IsVerdict (Legal least) = IsLegalReport × AreLeastFrom most script.updates 1 script.files report.files least.items

-- whether the verdict is `Legal`
abbrev pub is_legal : Verdict → Bool
is_legal (Legal least) = true
is_legal (Reply at) = false
is_legal (Place file query) = false
is_legal (Table at) = false
