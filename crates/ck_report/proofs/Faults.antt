-- What was read of a text, and the first fault of a text that is no report.
use Rattle.std.proofs.Common.{◌≡◌, ℕ, ◌+◌, ◌<◌, ◌^◌, List, [], ◌∷◌, ◌++◌, length, map, refl, ap, arith, sym, ◌∙◌, subst, append_assoc, append-nil}
use Rattle.std.specs.declared.cmp.Ordering.{Ordering}
use Rattle.std.specs.declared.cmp.Ordering.TheVariants.{Less}
use Rattle.std.proofs.lemmas.List.{length_push}
use Rattle.ck_text.specs.Words.{IsWord}
use Rattle.ck_report.specs.declared.line.ReportLine.{ReportLine}
use Rattle.ck_report.specs.declared.line.ReportLine.TheVariants.{End}
use Rattle.ck_report.specs.declared.place.Place.{Place}
use Rattle.ck_report.specs.declared.place.Place.TheVariants.{AfterUpdate, AfterAnswer, AfterPair, AfterEnd}
use Rattle.ck_report.specs.Text.{report_text}
use Rattle.ck_report.specs.Reports.{Parts, spread, IsReport, Reads, CanBegin, FailsAfter, BreaksAt}
use Rattle.ck_report.specs.Lines.{place_of, CanFollow, AddsLine, NoneBegins}
use Rattle.ck_text.specs.Lines.{lines_with_feeds}
use Rattle.ck_text.proofs.Feeds.{some_lines}
use Rattle.ck_report.proofs.Runs.{chunk, text_of, last_place, Runs, after, near_last, first_of, lines_of_runs, nothing_left}
use Rattle.ck_report.proofs.Listing.{text-append, last-append, lists}
use Rattle.ck_report.proofs.Gathering.{Holds, front_text, end_text, printed, lawful, sorted_none}
use Rattle.ck_report.proofs.Stepping.{step}

abbrev start : {K : Type 0} → Place K
start = AfterUpdate 0

length_map : {X Y : Type 0} (f : X → Y) (xs : List X) → length (map f xs) ≡ length xs
length_map f [] = refl
length_map f (x ∷ xs) = omega (arith, length_map f xs)

runs_push : {K : Type 0} (IsKey : K → Type 0) (cmp : K → K → Ordering) (p : Place K) (ls : List (ReportLine K)) (said : ReportLine K) → Runs IsKey cmp p ls → CanFollow IsKey cmp (last_place p ls) said → Runs IsKey cmp p (ls ++ said ∷ [])
runs_push IsKey cmp p [] said runs follows = (follows.next, follows.taken, tt)
runs_push IsKey cmp p (l ∷ ls) said runs follows = (runs.0, runs.1, runs_push IsKey cmp (place_of l) ls said runs.2 follows)

module _ {K : Type 0} (IsKey : K → Type 0) (spelling : K → List ℕ) (cmp : K → K → Ordering) where
  -- the text's first lines are read, they lead to this place, and the rest has the others
  pub record Read (bytes : List ℕ) (number : ℕ) (rest : List ℕ) (place : Place K) (read : Parts K) : Type 0 where
    pub lines : List (ReportLine K)
    pub runs : Runs IsKey cmp start lines
    pub here : last_place start lines ≡ place
    pub text : bytes ≡ text_of spelling lines ++ rest
    pub count : length lines ≡ number
    pub holds : Holds IsKey spelling cmp place read.replies read.files read.pairs
    pub same : text_of spelling lines ≡ front_text spelling read.replies read.files read.pairs ++ end_text spelling place

  pub read_none : (bytes : List ℕ) (read : Parts K) → read.replies ≡ [] → read.files ≡ [] → read.pairs ≡ [] → Read bytes 0 bytes start read
  read_none bytes read replies files pairs = record {
    lines = [];
    runs = tt;
    here = refl;
    text = refl;
    count = refl;
    holds = record {
      stands = (rw replies refl, files, pairs);
      named = rw files tt;
      replies_fit = rw replies tt;
      files_fit = rw files tt;
      pairs_fit = rw pairs tt;
      ascending = rw pairs (sorted_none cmp);
    };
    same = rw (replies, files, pairs) refl;
  }

  pub read_more : ((x y z : K) → cmp x y ≡ Less → cmp y z ≡ Less → cmp x z ≡ Less) → (bytes : List ℕ) (number : ℕ) (rest : List ℕ) (place : Place K) (old new : Parts K) (said : ReportLine K) (later : List ℕ) → Read bytes number rest place old → CanFollow IsKey cmp place said → rest ≡ chunk spelling said ++ later → AddsLine said old new → Read bytes (number + 1) later (place_of said) new
  read_more trans bytes number rest place old new said later read follows cut adds =
      let next = step IsKey spelling cmp trans place said old new read.holds follows adds in
      let follows_here : CanFollow IsKey cmp (last_place start read.lines) said = subst (λ p. CanFollow IsKey cmp p said) (sym read.here) follows in
      let longer : text_of spelling (read.lines ++ said ∷ []) ≡ text_of spelling read.lines ++ chunk spelling said = text-append spelling read.lines (said ∷ []) ∙ ap (λ t. text_of spelling read.lines ++ t) (append-nil (chunk spelling said)) in
      record {
        lines = read.lines ++ said ∷ [];
        runs = runs_push IsKey cmp start read.lines said read.runs follows_here;
        here = last-append start read.lines (said ∷ []);
        text = read.text ∙ (ap (λ t. text_of spelling read.lines ++ t) cut ∙ (sym (append_assoc (text_of spelling read.lines) (chunk spelling said) later) ∙ ap (λ t. t ++ later) (sym longer)));
        count = omega (arith, length_push read.lines said, read.count);
        holds = next.holds;
        same = longer ∙ (ap (λ t. t ++ chunk spelling said) read.same ∙ sym next.text);
      }

  -- a text that ends where the report does is read
  pub whole : (bytes : List ℕ) (number : ℕ) (rest : List ℕ) (place : Place K) (read : Parts K) → Read bytes number rest place read → length rest ≡ 0 → place ≡ AfterEnd → Reads IsKey spelling cmp bytes read
  whole bytes number (b ∷ rest) place read r none over = absurd (omega arith)
  whole bytes number [] place read r none over = record {
    named = r.holds.named;
    lawful = lawful IsKey spelling cmp place read.replies read.files read.pairs r.holds;
    printed = r.text ∙ (append-nil (text_of spelling r.lines) ∙ (r.same ∙ (ap (λ p. front_text spelling read.replies read.files read.pairs ++ end_text spelling p) over ∙ printed spelling read.replies read.files read.pairs r.holds.named)));
  }

  -- what a place still lacks
  lacking : (place : Place K) (front : List ℕ) → (tail : List ℕ) × (front ++ chunk spelling End ≡ (front ++ end_text spelling place) ++ tail)
  lacking (AfterUpdate i) front = (chunk spelling End, ap (λ t. t ++ chunk spelling End) (sym (append-nil front)))
  lacking (AfterAnswer f i) front = (chunk spelling End, ap (λ t. t ++ chunk spelling End) (sym (append-nil front)))
  lacking (AfterPair key) front = (chunk spelling End, ap (λ t. t ++ chunk spelling End) (sym (append-nil front)))
  lacking AfterEnd front = ([], sym (append-nil (front ++ chunk spelling End)))

  -- a text with a fault is no report
  fails : (text : List ℕ) (before after : List (List ℕ)) → lines_with_feeds text ≡ before ++ after → FailsAfter IsKey spelling cmp text before after → IsReport IsKey spelling cmp text → ⊥
  fails text before [] here faulty report = faulty report
  fails text before (line ∷ later) here faulty report = faulty (record { text = text; report = report; later = later; lines = here ∙ sym (append_assoc before (line ∷ []) later) })

  pub refused : (text : List ℕ) (number : ℕ) → BreaksAt IsKey spelling cmp text number → IsReport IsKey spelling cmp text → ⊥
  refused text number fault report = fails text fault.before fault.after fault.here fault.faulty report

  module _ (one_key : (j k : K) → IsKey j → IsKey k → spelling j ≡ spelling k → j ≡ k) (one_word : (k : K) → IsKey k → IsWord (spelling k)) where
    -- the lines that were read
    cut_so_far : (bytes : List ℕ) (number : ℕ) (rest : List ℕ) (place : Place K) (read : Parts K) (r : Read bytes number rest place read) → number < 2 ^ 64 → lines_with_feeds bytes ≡ map (chunk spelling) r.lines ++ lines_with_feeds rest
    cut_so_far bytes number rest place read r small =
        ap lines_with_feeds r.text ∙ lines_of_runs IsKey spelling cmp one_key one_word 0 start r.lines rest (omega arith) (omega (arith, r.count)) r.runs

    -- some report begins with the lines that were read
    begins : (bytes : List ℕ) (number : ℕ) (rest : List ℕ) (place : Place K) (read : Parts K) (r : Read bytes number rest place read) → number < 2 ^ 64 → CanBegin IsKey spelling cmp (map (chunk spelling) r.lines)
    begins bytes number rest place read r small =
        let front = front_text spelling read.replies read.files read.pairs in
        let text = report_text spelling read.replies (spread 1 read.files) read.pairs in
        let lack = lacking place front in
        let shape : text ≡ text_of spelling r.lines ++ lack.0 = sym (printed spelling read.replies read.files read.pairs r.holds.named) ∙ (lack.1 ∙ ap (λ t. t ++ lack.0) (sym r.same)) in
        record {
          text = text;
          report = record {
            replies = read.replies;
            files = spread 1 read.files;
            pairs = read.pairs;
            lawful = lawful IsKey spelling cmp place read.replies read.files read.pairs r.holds;
            printed = refl;
          };
          later = lines_with_feeds lack.0;
          lines = ap lines_with_feeds shape ∙ lines_of_runs IsKey spelling cmp one_key one_word 0 start r.lines lack.0 (omega arith) (omega (arith, r.count)) r.runs;
        }

    -- a line that may not stand where it stands is the first fault
    pub first_fault : (bytes : List ℕ) (number : ℕ) (rest : List ℕ) (place : Place K) (read : Parts K) → Read bytes number rest place read → number + 1 < 2 ^ 64 → 0 < length rest → NoneBegins IsKey spelling cmp place rest → BreaksAt IsKey spelling cmp bytes (number + 1)
    first_fault bytes number rest place read r small some none =
        let first = some_lines rest some in
        let before = map (chunk spelling) r.lines in
        record {
          before = before;
          after = first.0 ∷ first.1;
          here = cut_so_far bytes number rest place read r (omega arith) ∙ ap (λ ls. before ++ ls) first.2;
          counted = omega (arith, length_map (chunk spelling) r.lines, r.count);
          earlier = begins bytes number rest place read r (omega arith);
          faulty = λ begun.
              let listed = lists IsKey cmp spelling begun.text begun.report in
              let e : lines_with_feeds (text_of spelling listed.lines) ≡ before ++ (first.0 ∷ begun.later) = ap lines_with_feeds (sym listed.printed) ∙ (begun.lines ∙ append_assoc before (first.0 ∷ []) begun.later) in
              let left = after IsKey spelling cmp one_key one_word 0 start r.lines listed.lines (first.0 ∷ begun.later) (omega arith) (omega (arith, r.count)) r.runs listed.runs e in
              let near = near_last IsKey spelling cmp one_key one_word 0 start r.lines (omega arith) r.runs in
              let next = first_of IsKey spelling cmp one_key one_word (0 + length r.lines) (last_place start r.lines) left.rest first.0 begun.later near (omega (arith, r.count)) left.runs left.lines in
              none next.0 first.1 (subst (λ p. CanFollow IsKey cmp p next.0) r.here next.1) (first.2 ∙ ap (λ l. l ∷ first.1) next.2);
        }

    -- a text that stops before the report does lacks a line
    pub stops_early : (bytes : List ℕ) (number : ℕ) (rest : List ℕ) (place : Place K) (read : Parts K) → Read bytes number rest place read → length rest ≡ 0 → number + 1 < 2 ^ 64 → (place ≡ AfterEnd → ⊥) → BreaksAt IsKey spelling cmp bytes (number + 1)
    stops_early bytes number (b ∷ rest) place read r none small early = absurd (omega arith)
    stops_early bytes number [] place read r none small early =
        let before = map (chunk spelling) r.lines in
        let here = cut_so_far bytes number [] place read r (omega arith) in
        record {
          before = before;
          after = [];
          here = here;
          counted = omega (arith, length_map (chunk spelling) r.lines, r.count);
          earlier = begins bytes number [] place read r (omega arith);
          faulty = λ report.
              let listed = lists IsKey cmp spelling bytes report in
              let e : lines_with_feeds (text_of spelling listed.lines) ≡ before ++ [] = ap lines_with_feeds (sym listed.printed) ∙ here in
              let left = after IsKey spelling cmp one_key one_word 0 start r.lines listed.lines [] (omega arith) (omega (arith, r.count)) r.runs listed.runs e in
              let near = near_last IsKey spelling cmp one_key one_word 0 start r.lines (omega arith) r.runs in
              let over = nothing_left IsKey spelling cmp one_key one_word (0 + length r.lines) (last_place start r.lines) left.rest near (omega (arith, r.count)) left.runs left.lines in
              early (sym r.here ∙ (sym over ∙ (sym (last-append start r.lines left.rest) ∙ (ap (last_place start) (sym left.whole) ∙ listed.last))));
        }
