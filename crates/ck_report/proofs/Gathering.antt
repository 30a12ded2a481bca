-- The parts that lines gather, and their text.
use Rattle.std.proofs.Common.{◌≡◌, ℕ, zero, suc, ◌+◌, ◌-◌, ◌<◌, ◌≤◌, List, [], ◌∷◌, ◌++◌, length, refl, ap, arith, sym, ◌∙◌, append_assoc, append-nil}
use Rattle.std.specs.declared.cmp.Ordering.{Ordering}
use Rattle.std.specs.declared.cmp.Ordering.TheVariants.{Less}
use Rattle.std.specs.List.{AllByRecursion, repeat}
use Rattle.std.specs.List.Sorted.{IsStrictlySortedBy}
use Rattle.std.specs.Map.{keys_of}
use Rattle.ck_history.specs.declared.update.Reply.{Reply}
use Rattle.ck_report.specs.declared.asked.Asked.{Asked}
use Rattle.ck_report.specs.declared.line.ReportLine.TheVariants.{Update, Answer, Pair, End}
use Rattle.ck_report.specs.declared.place.Place.{Place}
use Rattle.ck_report.specs.declared.place.Place.TheVariants.{AfterUpdate, AfterAnswer, AfterPair, AfterEnd}
use Rattle.ck_report.specs.Text.{reply_lines, answer_lines, file_lines, pair_lines, report_text}
use Rattle.ck_report.specs.Reports.{IsReply, IsAnswer, IsPair, AreLawful, spread, AreNamed}
use Rattle.ck_text.proofs.Cutting.{All-append}
use Rattle.ck_report.proofs.Runs.{chunk}

-- lists and their last items

pub all_front : {X : Type 0} (P : X → Type 0) (xs ys : List X) → AllByRecursion P (xs ++ ys) → AllByRecursion P xs
all_front P [] ys all = tt
all_front P (x ∷ xs) ys all = (all.0, all_front P xs ys all.1)

pub all_last : {X : Type 0} (P : X → Type 0) (xs : List X) (y : X) → AllByRecursion P (xs ++ y ∷ []) → P y
all_last P [] y all = all.0
all_last P (x ∷ xs) y all = all_last P xs y all.1

pub sorted_push : {K : Type 0} (cmp : K → K → Ordering) → ((x y z : K) → cmp x y ≡ Less → cmp y z ≡ Less → cmp x z ≡ Less) → (ks : List K) (last k : K) → IsStrictlySortedBy cmp (ks ++ last ∷ []) → cmp last k ≡ Less → IsStrictlySortedBy cmp ((ks ++ last ∷ []) ++ k ∷ [])
unfolding IsStrictlySortedBy
sorted_push cmp trans [] last k sorted less = ((less, tt), (tt, tt))
sorted_push cmp trans (x ∷ ks) last k sorted less =
    let above = trans x last k (all_last (λ y. cmp x y ≡ Less) ks last sorted.0) less in
    (All-append (λ y. cmp x y ≡ Less) (ks ++ last ∷ []) (k ∷ []) sorted.0 (above, tt), sorted_push cmp trans ks last k sorted.1 less)

pub sorted_none : {K : Type 0} (cmp : K → K → Ordering) → IsStrictlySortedBy cmp []
unfolding IsStrictlySortedBy
sorted_none cmp = tt

pub sorted_one : {K : Type 0} (cmp : K → K → Ordering) (k : K) → IsStrictlySortedBy cmp (k ∷ [])
unfolding IsStrictlySortedBy
sorted_one cmp k = (tt, tt)

pub keys_push : {K : Type 0} (pairs : List (K × ℕ)) (p : K × ℕ) → keys_of (pairs ++ p ∷ []) ≡ keys_of pairs ++ p.0 ∷ []
keys_push [] p = refl
keys_push (q ∷ pairs) p = ap (λ ks. q.0 ∷ ks) (keys_push pairs p)

module _ {K : Type 0} where
  -- files that are named

  pub named_push : (h : ℕ) (front : List (ℕ × List (Asked K))) (g : ℕ) (xs : List (Asked K)) (f : ℕ) (ys : List (Asked K)) → AreNamed h (front ++ (g, xs) ∷ []) → g < f → 0 < length ys → AreNamed h ((front ++ (g, xs) ∷ []) ++ (f, ys) ∷ [])
  named_push h [] g xs f ys named above some = (named.0, named.1, (omega arith, some, tt))
  named_push h (e ∷ front) g xs f ys named above some = (named.0, named.1, named_push (e.0 + 1) front g xs f ys named.2 above some)

  pub named_same : (h : ℕ) (front : List (ℕ × List (Asked K))) (f : ℕ) (xs ys : List (Asked K)) → AreNamed h (front ++ (f, xs) ∷ []) → 0 < length ys → AreNamed h (front ++ (f, ys) ∷ [])
  named_same h [] f xs ys named some = (named.0, some, tt)
  named_same h (e ∷ front) f xs ys named some = (named.0, named.1, named_same (e.0 + 1) front f xs ys named.2 some)

  pub named_last : (h : ℕ) (front : List (ℕ × List (Asked K))) (f : ℕ) (xs : List (Asked K)) → AreNamed h (front ++ (f, xs) ∷ []) → 0 < length xs
  named_last h [] f xs named = named.1
  named_last h (e ∷ front) f xs named = named_last (e.0 + 1) front f xs named.2

  pub some_push : (xs : List (Asked K)) (a : Asked K) → 0 < length (xs ++ a ∷ [])
  some_push [] a = omega arith
  some_push (b ∷ xs) a = omega arith

  module _ (IsKey : K → Type 0) where
    -- a file's number and its answers may be in a report
    abbrev pub FileFits : ℕ × List (Asked K) → Type 0
    FileFits file = (file.0 ≤ 64) × AllByRecursion (IsAnswer IsKey) file.1

    empty_fit : (n : ℕ) (files : List (List (Asked K))) → AllByRecursion (AllByRecursion (IsAnswer IsKey)) files → AllByRecursion (AllByRecursion (IsAnswer IsKey)) (repeat n ([] ∷ []) ++ files)
    empty_fit zero files fit = fit
    empty_fit (suc n) files fit = (tt, empty_fit n files fit)

    spread_fits : (h : ℕ) (files : List (ℕ × List (Asked K))) → AllByRecursion FileFits files → AllByRecursion (AllByRecursion (IsAnswer IsKey)) (spread h files)
    spread_fits h [] fit = tt
    spread_fits h (e ∷ files) fit = empty_fit (e.0 - h) (e.1 ∷ spread (e.0 + 1) files) (fit.0.1, spread_fits (e.0 + 1) files fit.1)

    length_empty : (n : ℕ) (files : List (List (Asked K))) → length (repeat n ([] ∷ []) ++ files) ≡ n + length files
    length_empty zero files = omega arith
    length_empty (suc n) files = omega (arith, length_empty n files)

    spread_few : (h : ℕ) (files : List (ℕ × List (Asked K))) → AreNamed h files → AllByRecursion FileFits files → h ≤ 65 → h + length (spread h files) ≤ 65
    spread_few h [] named fit low = omega arith
    spread_few h (e ∷ files) named fit low =
        let later = spread_few (e.0 + 1) files named.2 fit.1 (omega (arith, fit.0.0)) in
        omega (arith, length_empty (e.0 - h) (e.1 ∷ spread (e.0 + 1) files), named.0, later)

  module _ (spelling : K → List ℕ) where
    -- the lines of the files that are named
    abbrev pub named_lines : List (ℕ × List (Asked K)) → List ℕ
    named_lines [] = []
    named_lines (file ∷ files) = answer_lines spelling file.0 1 file.1 ++ named_lines files

    -- the text of parts without their end
    abbrev pub front_text : List Reply → List (ℕ × List (Asked K)) → List (K × ℕ) → List ℕ
    front_text replies files pairs = reply_lines 1 replies ++ (named_lines files ++ pair_lines spelling pairs)

    empty_text : (n f : ℕ) (files : List (List (Asked K))) → file_lines spelling f (repeat n ([] ∷ []) ++ files) ≡ file_lines spelling (f + n) files
    empty_text zero f files = let same : f ≡ f + 0 = omega arith in ap (λ g. file_lines spelling g files) same
    empty_text (suc n) f files = let same : f + 1 + n ≡ f + suc n = omega arith in empty_text n (f + 1) files ∙ ap (λ g. file_lines spelling g files) same

    spread_text : (h : ℕ) (files : List (ℕ × List (Asked K))) → AreNamed h files → file_lines spelling h (spread h files) ≡ named_lines files
    spread_text h [] named = refl
    spread_text h (e ∷ files) named =
        let same : h + (e.0 - h) ≡ e.0 = omega (arith, named.0) in
        empty_text (e.0 - h) h (e.1 ∷ spread (e.0 + 1) files)
        ∙ (ap (λ g. file_lines spelling g (e.1 ∷ spread (e.0 + 1) files)) same ∙ ap (λ t. answer_lines spelling e.0 1 e.1 ++ t) (spread_text (e.0 + 1) files named.2))

    -- with an end the parts are a report's
    pub printed : (replies : List Reply) (files : List (ℕ × List (Asked K))) (pairs : List (K × ℕ)) → AreNamed 1 files → front_text replies files pairs ++ chunk spelling End ≡ report_text spelling replies (spread 1 files) pairs
    printed replies files pairs named = rw (spread_text 1 files named) (simp append_assoc)

    pub replies_push : (i : ℕ) (rs : List Reply) (r : Reply) (j : ℕ) → j ≡ i + length rs → reply_lines i (rs ++ r ∷ []) ≡ reply_lines i rs ++ chunk spelling (Update j r)
    replies_push i [] r j is =
        let same : i ≡ j = omega arith in
        append-nil (chunk spelling (Update i r)) ∙ ap (λ n. chunk spelling (Update n r)) same
    replies_push i (q ∷ rs) r j is =
        let first = chunk spelling (Update i q) in
        ap (λ t. first ++ t) (replies_push (i + 1) rs r j (omega arith)) ∙ sym (append_assoc first (reply_lines (i + 1) rs) (chunk spelling (Update j r)))

    answers_push : (f i : ℕ) (xs : List (Asked K)) (a : Asked K) (j : ℕ) → j ≡ i + length xs → answer_lines spelling f i (xs ++ a ∷ []) ≡ answer_lines spelling f i xs ++ chunk spelling (Answer f j a)
    answers_push f i [] a j is =
        let same : i ≡ j = omega arith in
        append-nil (chunk spelling (Answer f i a)) ∙ ap (λ n. chunk spelling (Answer f n a)) same
    answers_push f i (b ∷ xs) a j is =
        let first = chunk spelling (Answer f i b) in
        ap (λ t. first ++ t) (answers_push f (i + 1) xs a j (omega arith)) ∙ sym (append_assoc first (answer_lines spelling f (i + 1) xs) (chunk spelling (Answer f j a)))

    pub pairs_push : (pairs : List (K × ℕ)) (k : K) (v : ℕ) → pair_lines spelling (pairs ++ (k, v) ∷ []) ≡ pair_lines spelling pairs ++ chunk spelling (Pair k v)
    pairs_push [] k v = append-nil (chunk spelling (Pair k v))
    pairs_push (p ∷ pairs) k v =
        let first = chunk spelling (Pair p.0 p.1) in
        ap (λ t. first ++ t) (pairs_push pairs k v) ∙ sym (append_assoc first (pair_lines spelling pairs) (chunk spelling (Pair k v)))

    named_lines_last : (front : List (ℕ × List (Asked K))) (f : ℕ) (xs : List (Asked K)) → named_lines (front ++ (f, xs) ∷ []) ≡ named_lines front ++ answer_lines spelling f 1 xs
    named_lines_last [] f xs = append-nil (answer_lines spelling f 1 xs)
    named_lines_last (e ∷ front) f xs =
        let first = answer_lines spelling e.0 1 e.1 in
        ap (λ t. first ++ t) (named_lines_last front f xs) ∙ sym (append_assoc first (named_lines front) (answer_lines spelling f 1 xs))

    -- a further file with its first answer
    pub named_lines_new : (files : List (ℕ × List (Asked K))) (f : ℕ) (a : Asked K) → named_lines (files ++ (f, a ∷ []) ∷ []) ≡ named_lines files ++ chunk spelling (Answer f 1 a)
    named_lines_new files f a = named_lines_last files f (a ∷ []) ∙ ap (λ t. named_lines files ++ t) (append-nil (chunk spelling (Answer f 1 a)))

    -- a further answer of the last file
    pub named_lines_same : (front : List (ℕ × List (Asked K))) (f : ℕ) (xs : List (Asked K)) (a : Asked K) (j : ℕ) → j ≡ 1 + length xs → named_lines (front ++ (f, xs ++ a ∷ []) ∷ []) ≡ named_lines (front ++ (f, xs) ∷ []) ++ chunk spelling (Answer f j a)
    named_lines_same front f xs a j is =
        named_lines_last front f (xs ++ a ∷ [])
        ∙ (ap (λ t. named_lines front ++ t) (answers_push f 1 xs a j is)
        ∙ (sym (append_assoc (named_lines front) (answer_lines spelling f 1 xs) (chunk spelling (Answer f j a)))
        ∙ ap (λ t. t ++ chunk spelling (Answer f j a)) (sym (named_lines_last front f xs))))

    -- what stands after the parts at a place
    abbrev pub end_text : Place K → List ℕ
    end_text AfterEnd = chunk spelling End
    end_text (AfterUpdate i) = []
    end_text (AfterAnswer f i) = []
    end_text (AfterPair key) = []

  -- the last file and the number of its answers
  pub record LastFile (f i : ℕ) (files : List (ℕ × List (Asked K))) : Type 0 where
    pub front : List (ℕ × List (Asked K))
    pub answers : List (Asked K)
    pub here : files ≡ front ++ (f, answers) ∷ []
    pub count : i ≡ length answers

  -- the last pair
  pub record LastPair (key : K) (pairs : List (K × ℕ)) : Type 0 where
    pub front : List (K × ℕ)
    pub value : ℕ
    pub here : pairs ≡ front ++ (key, value) ∷ []

  -- the parts reach to this place
  abbrev pub IsAt : Place K → List Reply → List (ℕ × List (Asked K)) → List (K × ℕ) → Type 0
  IsAt (AfterUpdate i) replies files pairs = (i ≡ length replies) × (files ≡ []) × (pairs ≡ [])
  IsAt (AfterAnswer f i) replies files pairs = LastFile f i files × (pairs ≡ [])
  IsAt (AfterPair key) replies files pairs = LastPair key pairs
  IsAt AfterEnd replies files pairs = Unit {0}

  module _ (IsKey : K → Type 0) (spelling : K → List ℕ) (cmp : K → K → Ordering) where
    -- parts that lines to this place may have
    pub record Holds (place : Place K) (replies : List Reply) (files : List (ℕ × List (Asked K))) (pairs : List (K × ℕ)) : Type 0 where
      pub stands : IsAt place replies files pairs
      pub named : AreNamed 1 files
      pub replies_fit : AllByRecursion IsReply replies
      pub files_fit : AllByRecursion (FileFits IsKey) files
      pub pairs_fit : AllByRecursion (IsPair IsKey) pairs
      pub ascending : IsStrictlySortedBy cmp (keys_of pairs)

    pub lawful : (place : Place K) (replies : List Reply) (files : List (ℕ × List (Asked K))) (pairs : List (K × ℕ)) → Holds place replies files pairs → AreLawful IsKey spelling cmp replies (spread 1 files) pairs
    lawful place replies files pairs holds = record {
      replies_fit = holds.replies_fit;
      answers_fit = spread_fits IsKey 1 files holds.files_fit;
      few = omega (arith, spread_few IsKey 1 files holds.named holds.files_fit (omega arith));
      pairs_fit = holds.pairs_fit;
      ascending = holds.ascending;
    }
