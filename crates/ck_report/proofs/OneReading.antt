-- A text is the report of one triple of parts at most: its lines tell them.
use Rattle.std.proofs.Common.{◌≡◌, ℕ, zero, suc, ◌+◌, ◌-◌, ◌<◌, ◌≤◌, ◌^◌, List, [], ◌∷◌, ◌++◌, length, map, cond, eqb, eq-eqb, refl, ap, arith, sym, ◌∙◌, append_assoc, append-nil, length-append}
use Rattle.std.specs.declared.cmp.Ordering.{Ordering}
use Rattle.std.specs.List.{repeat, join_with_byte}
use Rattle.std.proofs.lemmas.Bool.{ne_eqb}
use Rattle.ck_history.specs.declared.update.Reply.{Reply}
use Rattle.ck_text.specs.Lines.{lines_with_feeds}
use Rattle.ck_text.specs.Words.{IsWord}
use Rattle.ck_report.specs.declared.asked.Asked.{Asked}
use Rattle.ck_report.specs.declared.line.ReportLine.{ReportLine}
use Rattle.ck_report.specs.declared.line.ReportLine.TheVariants.{Update, Answer, Pair, End}
use Rattle.ck_report.specs.declared.place.Place.TheVariants.{AfterUpdate}
use Rattle.ck_report.specs.Reports.{spread, AreNamed, Parts, Reads}
use Rattle.ck_report.specs.Lines.{line_words}
use Rattle.ck_report.proofs.Runs.{chunk, text_of, Runs, after, lines_of_runs}
use Rattle.ck_report.proofs.Listing.{replies_listed, answers_listed, files_listed, pairs_listed, listed, text-append, listed_runs, text_listed}

module _ {K : Type 0} where
  -- the answer before those of its file
  abbrev put_asked : ℕ → Asked K → List (ℕ × List (Asked K)) → List (ℕ × List (Asked K))
  put_asked f a [] = (f, a ∷ []) ∷ []
  put_asked f a (file ∷ files) = cond (eqb file.0 f) ((f, a ∷ file.1) ∷ files) ((f, a ∷ []) ∷ file ∷ files)

  -- the parts that the line and those after it tell, where these tell the given ones
  abbrev put_line : ReportLine K → Parts K → Parts K
  put_line (Update i r) p = record { replies = r ∷ p.replies; files = p.files; pairs = p.pairs }
  put_line (Answer f i a) p = record { replies = p.replies; files = put_asked f a p.files; pairs = p.pairs }
  put_line (Pair k v) p = record { replies = p.replies; files = p.files; pairs = (k, v) ∷ p.pairs }
  put_line End p = p

  abbrev told : List (ReportLine K) → Parts K
  told [] = record { replies = []; files = []; pairs = [] }
  told (said ∷ lines) = put_line said (told lines)

  told_pairs : (pairs : List (K × ℕ)) → told (pairs_listed pairs) ≡ record { replies = []; files = []; pairs = pairs }
  told_pairs [] = refl
  told_pairs (p ∷ pairs) = ap (put_line (Pair p.0 p.1)) (told_pairs pairs)

  put_first : (f : ℕ) (a : Asked K) (files : List (ℕ × List (Asked K))) → AreNamed (f + 1) files → put_asked f a files ≡ (f, a ∷ []) ∷ files
  put_first f a [] named = refl
  put_first f a (file ∷ files) named = rw (ne_eqb file.0 f (λ e. omega (arith, named.0))) refl

  told_answers : (f i : ℕ) (a : Asked K) (answers : List (Asked K)) (tail : List (ReportLine K)) (files : List (ℕ × List (Asked K))) (pairs : List (K × ℕ))
      → told tail ≡ record { replies = []; files = files; pairs = pairs } → AreNamed (f + 1) files → told (answers_listed f i (a ∷ answers) ++ tail) ≡ record { replies = []; files = (f, a ∷ answers) ∷ files; pairs = pairs }
  told_answers f i a [] tail files pairs is named =
      ap (put_line (Answer f i a)) is ∙ ap (λ fs. record { replies = []; files = fs; pairs = pairs }) (put_first f a files named)
  told_answers f i a (b ∷ answers) tail files pairs is named =
      ap (put_line (Answer f i a)) (told_answers f (i + 1) b answers tail files pairs is named) ∙ rw (eq-eqb f f refl) refl

  -- the lines of the files that are named
  abbrev named_listed : List (ℕ × List (Asked K)) → List (ReportLine K)
  named_listed [] = []
  named_listed (file ∷ files) = answers_listed file.0 1 file.1 ++ named_listed files

  told_files : (h : ℕ) (files : List (ℕ × List (Asked K))) (pairs : List (K × ℕ)) → AreNamed h files → told (named_listed files ++ pairs_listed pairs) ≡ record { replies = []; files = files; pairs = pairs }
  told_files h [] pairs named = told_pairs pairs
  told_files h ((f, []) ∷ files) pairs named = absurd (omega (arith, named.1))
  told_files h ((f, a ∷ answers) ∷ files) pairs named =
      ap told (append_assoc (answers_listed f 1 (a ∷ answers)) (named_listed files) (pairs_listed pairs))
      ∙ told_answers f 1 a answers (named_listed files ++ pairs_listed pairs) files pairs (told_files (f + 1) files pairs named.2) named.2

  told_replies : (i : ℕ) (replies : List Reply) (tail : List (ReportLine K)) (files : List (ℕ × List (Asked K))) (pairs : List (K × ℕ))
      → told tail ≡ record { replies = []; files = files; pairs = pairs } → told (replies_listed i replies ++ tail) ≡ record { replies = replies; files = files; pairs = pairs }
  told_replies i [] tail files pairs is = is
  told_replies i (r ∷ replies) tail files pairs is = ap (put_line (Update i r)) (told_replies (i + 1) replies tail files pairs is)

  -- a file without answers has no lines
  empty_listed : (n f : ℕ) (files : List (List (Asked K))) → files_listed f (repeat n ([] ∷ []) ++ files) ≡ files_listed (f + n) files
  empty_listed zero f files = let same : f ≡ f + 0 = omega arith in ap (λ g. files_listed g files) same
  empty_listed (suc n) f files = let same : f + 1 + n ≡ f + suc n = omega arith in empty_listed n (f + 1) files ∙ ap (λ g. files_listed g files) same

  spread_listed : (h : ℕ) (files : List (ℕ × List (Asked K))) → AreNamed h files → files_listed h (spread h files) ≡ named_listed files
  spread_listed h [] named = refl
  spread_listed h (file ∷ files) named =
      let same : h + (file.0 - h) ≡ file.0 = omega (arith, named.0) in
      empty_listed (file.0 - h) h (file.1 ∷ spread (file.0 + 1) files)
      ∙ (ap (λ g. files_listed g (file.1 ∷ spread (file.0 + 1) files)) same ∙ ap (λ lines. answers_listed file.0 1 file.1 ++ lines) (spread_listed (file.0 + 1) files named.2))

  -- the lines of a report tell its parts
  told_parts : (parts : Parts K) → AreNamed 1 parts.files → told (listed parts.replies (spread 1 parts.files) parts.pairs) ≡ parts
  told_parts parts named =
      ap (λ lines. told (replies_listed 1 parts.replies ++ (lines ++ pairs_listed parts.pairs))) (spread_listed 1 parts.files named)
      ∙ told_replies 1 parts.replies (named_listed parts.files ++ pairs_listed parts.pairs) parts.files parts.pairs (told_files 1 parts.files parts.pairs named)

-- each line has a byte
lines_long : {K : Type 0} (spelling : K → List ℕ) (ls : List (ReportLine K)) → length ls ≤ length (text_of spelling ls)
lines_long spelling [] = omega arith
lines_long spelling (l ∷ ls) =
    omega (arith, length-append (chunk spelling l) (text_of spelling ls), length-append (join_with_byte 32 (line_words spelling l)) (10 ∷ []), lines_long spelling ls)

no_lines : {K : Type 0} (ls : List (ReportLine K)) → length ls ≡ 0 → ls ≡ []
no_lines [] none = refl
no_lines (l ∷ ls) none = absurd (omega arith)

module _ {K : Type 0} (IsKey : K → Type 0) (spelling : K → List ℕ) (cmp : K → K → Ordering) (one_key : (j k : K) → IsKey j → IsKey k → spelling j ≡ spelling k → j ≡ k) (one_word : (k : K) → IsKey k → IsWord (spelling k)) where
  -- lines that may stand one after another, of one text
  one_listing : (ls ms : List (ReportLine K)) → length ls < 2 ^ 64 → Runs IsKey cmp (AfterUpdate 0) ls → Runs IsKey cmp (AfterUpdate 0) ms → text_of spelling ms ≡ text_of spelling ls → ms ≡ ls
  one_listing ls ms small runs_l runs_m same =
      let e : lines_with_feeds (text_of spelling ms) ≡ map (chunk spelling) ls ++ [] = ap lines_with_feeds (same ∙ sym (append-nil (text_of spelling ls))) ∙ lines_of_runs IsKey spelling cmp one_key one_word 0 (AfterUpdate 0) ls [] (omega arith) (omega arith) runs_l in
      let left = after IsKey spelling cmp one_key one_word 0 (AfterUpdate 0) ls ms [] (omega arith) (omega arith) runs_l runs_m e in
      let whole = ap length (ap (text_of spelling) left.whole ∙ text-append spelling ls left.rest) in
      let none = no_lines left.rest (omega (arith, whole, ap length same, length-append (text_of spelling ls) (text_of spelling left.rest), lines_long spelling left.rest)) in
      left.whole ∙ (ap (λ rest. ls ++ rest) none ∙ append-nil ls)

  pub one_reading : (text : List ℕ) (parts others : Parts K) → length text < 2 ^ 64 → Reads IsKey spelling cmp text parts → Reads IsKey spelling cmp text others → parts ≡ others
  one_reading text parts others small reads also =
      let ls = listed parts.replies (spread 1 parts.files) parts.pairs in
      let ms = listed others.replies (spread 1 others.files) others.pairs in
      let printed : text ≡ text_of spelling ls = reads.printed ∙ sym (text_listed spelling parts.replies (spread 1 parts.files) parts.pairs) in
      let also_printed : text ≡ text_of spelling ms = also.printed ∙ sym (text_listed spelling others.replies (spread 1 others.files) others.pairs) in
      let runs_l = listed_runs IsKey cmp spelling parts.replies (spread 1 parts.files) parts.pairs reads.lawful in
      let runs_m = listed_runs IsKey cmp spelling others.replies (spread 1 others.files) others.pairs also.lawful in
      let same = one_listing ls ms (omega (arith, lines_long spelling ls, ap length printed)) runs_l runs_m (sym also_printed ∙ printed) in
      sym (told_parts parts reads.named) ∙ (ap told (sym same) ∙ told_parts others also.named)
