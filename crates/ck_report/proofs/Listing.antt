-- A report is a list of lines, each of which may follow the one before it, and of which the last is its end.
use Rattle.std.proofs.Common.{◌≡◌, ℕ, ◌+◌, ◌<◌, ◌≤◌, List, [], ◌∷◌, ◌++◌, length, refl, ap, arith, sym, ◌∙◌, subst, append_assoc, inl, inr}
use Rattle.std.specs.declared.cmp.Ordering.{Ordering}
use Rattle.std.specs.declared.cmp.Ordering.TheVariants.{Less}
use Rattle.std.specs.List.{AllByRecursion}
use Rattle.std.specs.List.Sorted.{IsStrictlySortedBy}
use Rattle.std.specs.Map.{keys_of}
use Rattle.ck_history.specs.declared.update.Reply.{Reply}
use Rattle.ck_report.specs.declared.asked.Asked.{Asked}
use Rattle.ck_report.specs.declared.line.ReportLine.{ReportLine}
use Rattle.ck_report.specs.declared.line.ReportLine.TheVariants.{Update, Answer, Pair, End}
use Rattle.ck_report.specs.declared.place.Place.{Place}
use Rattle.ck_report.specs.declared.place.Place.TheVariants.{AfterUpdate, AfterAnswer, AfterPair, AfterEnd}
use Rattle.ck_report.specs.Text.{reply_lines, answer_lines, file_lines, pair_lines, report_text}
use Rattle.ck_report.specs.Reports.{IsReply, IsAnswer, IsPair, AreLawful, IsReport}
use Rattle.ck_report.specs.Lines.{place_of, Next}
use Rattle.ck_report.proofs.Runs.{chunk, text_of, last_place, Runs}

module _ {K : Type 0} where
  abbrev pub replies_listed : ℕ → List Reply → List (ReportLine K)
  replies_listed i [] = []
  replies_listed i (r ∷ rs) = Update i r ∷ replies_listed (i + 1) rs

  abbrev pub answers_listed : ℕ → ℕ → List (Asked K) → List (ReportLine K)
  answers_listed f i [] = []
  answers_listed f i (a ∷ answers) = Answer f i a ∷ answers_listed f (i + 1) answers

  abbrev pub files_listed : ℕ → List (List (Asked K)) → List (ReportLine K)
  files_listed f [] = []
  files_listed f (answers ∷ files) = answers_listed f 1 answers ++ files_listed (f + 1) files

  abbrev pub pairs_listed : List (K × ℕ) → List (ReportLine K)
  pairs_listed [] = End ∷ []
  pairs_listed (p ∷ pairs) = Pair p.0 p.1 ∷ pairs_listed pairs

  -- the lines of a report
  abbrev pub listed : List Reply → List (List (Asked K)) → List (K × ℕ) → List (ReportLine K)
  listed replies files pairs = replies_listed 1 replies ++ (files_listed 1 files ++ pairs_listed pairs)

  -- before the pairs
  abbrev IsOpen : Place K → Type 0
  IsOpen (AfterUpdate i) = Unit {0}
  IsOpen (AfterAnswer f i) = Unit {0}
  IsOpen (AfterPair key) = ⊥
  IsOpen AfterEnd = ⊥

  -- before the answers of file f
  abbrev IsBefore : ℕ → Place K → Type 0
  IsBefore f (AfterUpdate i) = 1 ≤ f
  IsBefore f (AfterAnswer g i) = g < f
  IsBefore f (AfterPair key) = ⊥
  IsBefore f AfterEnd = ⊥

  open_before : (f : ℕ) (p : Place K) → IsBefore f p → IsOpen p
  open_before f (AfterUpdate i) before = tt
  open_before f (AfterAnswer g i) before = tt
  open_before f (AfterPair key) before = before
  open_before f AfterEnd before = before

  before_more : (f : ℕ) (p : Place K) → IsBefore f p → IsBefore (f + 1) p
  before_more f (AfterUpdate i) before = omega arith
  before_more f (AfterAnswer g i) before = omega arith
  before_more f (AfterPair key) before = before
  before_more f AfterEnd before = before

  pub last-append : (p : Place K) (xs ys : List (ReportLine K)) → last_place p (xs ++ ys) ≡ last_place (last_place p xs) ys
  last-append p [] ys = refl
  last-append p (x ∷ xs) ys = last-append (place_of x) xs ys

  last_pairs : (p : Place K) (pairs : List (K × ℕ)) → last_place p (pairs_listed pairs) ≡ AfterEnd
  last_pairs p [] = refl
  last_pairs p (pair ∷ pairs) = last_pairs (AfterPair pair.0) pairs

  pub last_listed : (p : Place K) (replies : List Reply) (files : List (List (Asked K))) (pairs : List (K × ℕ)) → last_place p (listed replies files pairs) ≡ AfterEnd
  last_listed p replies files pairs =
      last-append p (replies_listed 1 replies) (files_listed 1 files ++ pairs_listed pairs)
      ∙ (last-append _ (files_listed 1 files) (pairs_listed pairs) ∙ last_pairs _ pairs)

  module _ (spelling : K → List ℕ) where
    pub text-append : (xs ys : List (ReportLine K)) → text_of spelling (xs ++ ys) ≡ text_of spelling xs ++ text_of spelling ys
    text-append [] ys = refl
    text-append (x ∷ xs) ys = ap (λ t. chunk spelling x ++ t) (text-append xs ys) ∙ sym (append_assoc (chunk spelling x) (text_of spelling xs) (text_of spelling ys))

    text_replies : (i : ℕ) (rs : List Reply) → text_of spelling (replies_listed i rs) ≡ reply_lines i rs
    text_replies i [] = refl
    text_replies i (r ∷ rs) = ap (λ t. chunk spelling (Update i r) ++ t) (text_replies (i + 1) rs)

    text_answers : (f i : ℕ) (answers : List (Asked K)) → text_of spelling (answers_listed f i answers) ≡ answer_lines spelling f i answers
    text_answers f i [] = refl
    text_answers f i (a ∷ answers) = ap (λ t. chunk spelling (Answer f i a) ++ t) (text_answers f (i + 1) answers)

    text_files : (f : ℕ) (files : List (List (Asked K))) → text_of spelling (files_listed f files) ≡ file_lines spelling f files
    text_files f [] = refl
    text_files f (answers ∷ files) =
        text-append (answers_listed f 1 answers) (files_listed (f + 1) files)
        ∙ (ap (λ t. t ++ text_of spelling (files_listed (f + 1) files)) (text_answers f 1 answers) ∙ ap (λ t. answer_lines spelling f 1 answers ++ t) (text_files (f + 1) files))

    text_pairs : (pairs : List (K × ℕ)) → text_of spelling (pairs_listed pairs) ≡ pair_lines spelling pairs ++ chunk spelling End
    text_pairs [] = refl
    text_pairs (p ∷ pairs) =
        ap (λ t. chunk spelling (Pair p.0 p.1) ++ t) (text_pairs pairs) ∙ sym (append_assoc (chunk spelling (Pair p.0 p.1)) (pair_lines spelling pairs) (chunk spelling End))

    pub text_listed : (replies : List Reply) (files : List (List (Asked K))) (pairs : List (K × ℕ)) → text_of spelling (listed replies files pairs) ≡ report_text spelling replies files pairs
    text_listed replies files pairs =
        let fs = files_listed 1 files in
        let ps = pairs_listed pairs in
        text-append (replies_listed 1 replies) (fs ++ ps)
        ∙ (ap (λ t. t ++ text_of spelling (fs ++ ps)) (text_replies 1 replies)
        ∙ ap (λ t. reply_lines 1 replies ++ t)
        (text-append fs ps ∙ (ap (λ t. t ++ text_of spelling ps) (text_files 1 files) ∙ ap (λ t. file_lines spelling 1 files ++ t) (text_pairs pairs))))

  module _ (IsKey : K → Type 0) (cmp : K → K → Ordering) where
    pairs_run_after : (key : K) (pairs : List (K × ℕ)) → AllByRecursion (IsPair IsKey) pairs → AllByRecursion (λ k. cmp key k ≡ Less) (keys_of pairs) → IsStrictlySortedBy cmp (keys_of pairs) → Runs IsKey cmp (AfterPair key) (pairs_listed pairs)
    unfolding IsStrictlySortedBy
    pairs_run_after key [] fit above sorted = (tt, tt, tt)
    pairs_run_after key (p ∷ pairs) fit above sorted = (above.0, fit.0, pairs_run_after p.0 pairs fit.1 sorted.0 sorted.1)

    pairs_run : (q : Place K) (pairs : List (K × ℕ)) → IsOpen q → AllByRecursion (IsPair IsKey) pairs → IsStrictlySortedBy cmp (keys_of pairs) → Runs IsKey cmp q (pairs_listed pairs)
    unfolding IsStrictlySortedBy
    pairs_run (AfterUpdate i) [] early fit sorted = (tt, tt, tt)
    pairs_run (AfterUpdate i) (p ∷ pairs) early fit sorted = (tt, fit.0, pairs_run_after p.0 pairs fit.1 sorted.0 sorted.1)
    pairs_run (AfterAnswer f i) [] early fit sorted = (tt, tt, tt)
    pairs_run (AfterAnswer f i) (p ∷ pairs) early fit sorted = (tt, fit.0, pairs_run_after p.0 pairs fit.1 sorted.0 sorted.1)
    pairs_run (AfterPair key) pairs early fit sorted = absurd early
    pairs_run AfterEnd pairs early fit sorted = absurd early

    answers_run : (f i : ℕ) (answers : List (Asked K)) (tail : List (ReportLine K)) → AllByRecursion (IsAnswer IsKey) answers → ((j : ℕ) → Runs IsKey cmp (AfterAnswer f j) tail) → Runs IsKey cmp (AfterAnswer f i) (answers_listed f (i + 1) answers ++ tail)
    answers_run f i [] tail fit later = later i
    answers_run f i (a ∷ answers) tail fit later = (inl (refl, refl), fit.0, answers_run f (i + 1) answers tail fit.1 later)

    first_answer : (f : ℕ) (p : Place K) → IsBefore f p → f ≤ 64 → Next cmp p (AfterAnswer f 1)
    first_answer f (AfterUpdate i) before few = (before, few, refl)
    first_answer f (AfterAnswer g i) before few = inr (before, few, refl)
    first_answer f (AfterPair key) before few = absurd before
    first_answer f AfterEnd before few = absurd before

    files_run : (f : ℕ) (files : List (List (Asked K))) (p : Place K) (tail : List (ReportLine K)) → IsBefore f p → f + length files ≤ 65 → AllByRecursion (AllByRecursion (IsAnswer IsKey)) files → ((q : Place K) → IsOpen q → Runs IsKey cmp q tail) → Runs IsKey cmp p (files_listed f files ++ tail)
    files_run f [] p tail before few fit later = later p (open_before f p before)
    files_run f ([] ∷ files) p tail before few fit later = files_run (f + 1) files p tail (before_more f p before) (omega arith) fit.1 later
    files_run f ((a ∷ answers) ∷ files) p tail before few fit later =
        let rest = files_listed (f + 1) files in
        let more = answers_run f 1 answers (rest ++ tail) fit.0.1 (λ j. files_run (f + 1) files (AfterAnswer f j) tail (omega arith) (omega arith) fit.1 later) in
        let shaped = subst (λ ls. Runs IsKey cmp (AfterAnswer f 1) ls) (sym (append_assoc (answers_listed f 2 answers) rest tail)) more in
        (first_answer f p before (omega arith), fit.0.0, shaped)

    replies_run : (i : ℕ) (rs : List Reply) (tail : List (ReportLine K)) → AllByRecursion IsReply rs → ((j : ℕ) → Runs IsKey cmp (AfterUpdate j) tail) → Runs IsKey cmp (AfterUpdate i) (replies_listed (i + 1) rs ++ tail)
    replies_run i [] tail fit later = later i
    replies_run i (r ∷ rs) tail fit later = (refl, fit.0, replies_run (i + 1) rs tail fit.1 later)

    module _ (spelling : K → List ℕ) where
      pub listed_runs : (replies : List Reply) (files : List (List (Asked K))) (pairs : List (K × ℕ)) → AreLawful IsKey spelling cmp replies files pairs → Runs IsKey cmp (AfterUpdate 0) (listed replies files pairs)
      listed_runs replies files pairs law =
          replies_run 0 replies (files_listed 1 files ++ pairs_listed pairs) law.replies_fit
          (λ q. files_run 1 files (AfterUpdate q) (pairs_listed pairs) (omega arith) (omega (arith, law.few)) law.answers_fit (λ p early. pairs_run p pairs early law.pairs_fit law.ascending))

      -- the lines of a report
      pub record Lists (text : List ℕ) : Type 0 where
        pub lines : List (ReportLine K)
        pub runs : Runs IsKey cmp (AfterUpdate 0) lines
        pub last : last_place (AfterUpdate 0) lines ≡ AfterEnd
        pub printed : text ≡ text_of spelling lines

      pub lists : (text : List ℕ) → IsReport IsKey spelling cmp text → Lists text
      lists text report = record {
        lines = listed report.replies report.files report.pairs;
        runs = listed_runs report.replies report.files report.pairs report.lawful;
        last = last_listed (AfterUpdate 0) report.replies report.files report.pairs;
        printed = report.printed ∙ sym (text_listed spelling report.replies report.files report.pairs);
      }
