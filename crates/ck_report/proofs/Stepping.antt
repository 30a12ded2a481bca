-- A line that may follow carries the parts to its place.
use Rattle.std.proofs.Common.{◌≡◌, ℕ, ◌+◌, ◌<◌, ◌≤◌, inl, inr, List, [], ◌∷◌, ◌++◌, length, refl, ap, arith, sym, ◌∙◌, subst, append_assoc, append-nil}
use Rattle.std.specs.declared.cmp.Ordering.{Ordering}
use Rattle.std.specs.declared.cmp.Ordering.TheVariants.{Less}
use Rattle.std.specs.List.{AllByRecursion}
use Rattle.std.specs.List.Sorted.{IsStrictlySortedBy}
use Rattle.std.specs.Map.{keys_of}
use Rattle.std.proofs.lemmas.List.{length_push}
use Rattle.ck_history.specs.declared.update.Reply.{Reply}
use Rattle.ck_report.specs.declared.asked.Asked.{Asked}
use Rattle.ck_report.specs.declared.line.ReportLine.{ReportLine}
use Rattle.ck_report.specs.declared.line.ReportLine.TheVariants.{Update, Answer, Pair, End}
use Rattle.ck_report.specs.declared.place.Place.{Place}
use Rattle.ck_report.specs.declared.place.Place.TheVariants.{AfterUpdate, AfterAnswer, AfterPair, AfterEnd}
use Rattle.ck_report.specs.Text.{reply_lines}
use Rattle.ck_report.specs.Reports.{IsReply, IsAnswer, IsPair, AreNamed, Parts}
use Rattle.ck_report.specs.Lines.{place_of, CanFollow, AddsLine}
use Rattle.ck_text.proofs.Cutting.{All-append}
use Rattle.ck_report.proofs.Runs.{chunk}
use Rattle.ck_report.proofs.Gathering.{FileFits, Holds, LastPair, front_text, end_text, named_lines, replies_push, pairs_push, named_lines_new, named_lines_same, named_push, named_same, named_last, some_push, all_front, all_last, sorted_push, sorted_one, keys_push}

module _ {K : Type 0} (IsKey : K → Type 0) (spelling : K → List ℕ) (cmp : K → K → Ordering) (trans : (x y z : K) → cmp x y ≡ Less → cmp y z ≡ Less → cmp x z ≡ Less) where
  -- what a line that was added gives
  pub record Steps (place : Place K) (said : ReportLine K) (old new : Parts K) : Type 0 where
    pub holds : Holds IsKey spelling cmp (place_of said) new.replies new.files new.pairs
    pub text : front_text spelling new.replies new.files new.pairs ++ end_text spelling (place_of said) ≡ (front_text spelling old.replies old.files old.pairs ++ end_text spelling place) ++ chunk spelling said

  step_update : (i j : ℕ) (r : Reply) (old new : Parts K) → Holds IsKey spelling cmp (AfterUpdate i) old.replies old.files old.pairs → IsReply r → j ≡ i + 1 → AddsLine (Update j r) old new → Steps (AfterUpdate i) (Update j r) old new
  step_update i j r old new holds fits next adds =
      let none : old.files ≡ [] = holds.stands.1 in
      let no_pair : old.pairs ≡ [] = holds.stands.2 in
      let files : new.files ≡ [] = adds.1 ∙ none in
      let pairs : new.pairs ≡ [] = adds.2 ∙ no_pair in
      record {
        holds = record {
          stands = (omega (arith, ap length adds.0, length_push old.replies r, holds.stands.0), files, pairs);
          named = rw files tt;
          replies_fit = rw adds.0 (All-append IsReply old.replies (r ∷ []) holds.replies_fit (fits, tt));
          files_fit = rw files tt;
          pairs_fit = rw pairs tt;
          ascending = subst (λ ps. IsStrictlySortedBy cmp (keys_of ps)) (sym adds.2) holds.ascending;
        };
        text = rw (files, pairs, none, no_pair, adds.0) (simp append-nil (replies_push spelling 1 old.replies r j (omega (arith, holds.stands.0))));
      }

  -- a text between the replies and no pairs grows at its end
  grows : (replies : List Reply) (files more : List (ℕ × List (Asked K))) (line : List ℕ) → named_lines spelling more ≡ named_lines spelling files ++ line → front_text spelling replies more [] ++ [] ≡ (front_text spelling replies files [] ++ []) ++ line
  grows replies files more line e =
      simp append-nil (ap (λ t. reply_lines 1 replies ++ t) e ∙ sym (append_assoc (reply_lines 1 replies) (named_lines spelling files) line))

  -- the first answer of a file
  step_first : (place : Place K) (f : ℕ) (a : Asked K) (old new : Parts K) → end_text spelling place ≡ [] → old.pairs ≡ [] → AreNamed 1 new.files → f ≤ 64 → Holds IsKey spelling cmp place old.replies old.files old.pairs → IsAnswer IsKey a → new.files ≡ old.files ++ (f, a ∷ []) ∷ [] → AddsLine (Answer f 1 a) old new → Steps place (Answer f 1 a) old new
  step_first place f a old new before no_pair named few holds fits files adds =
      let pairs : new.pairs ≡ [] = adds.2 ∙ no_pair in
      record {
        holds = record {
          stands = (record { front = old.files; answers = a ∷ []; here = files; count = refl }, pairs);
          named = named;
          replies_fit = rw adds.0 holds.replies_fit;
          files_fit = rw files (All-append (FileFits IsKey) old.files ((f, a ∷ []) ∷ []) holds.files_fit ((few, (fits, tt)), tt));
          pairs_fit = rw pairs tt;
          ascending = subst (λ ps. IsStrictlySortedBy cmp (keys_of ps)) (sym adds.2) holds.ascending;
        };
        text = rw (before, pairs, no_pair, adds.0, files) (grows old.replies old.files (old.files ++ (f, a ∷ []) ∷ []) (chunk spelling (Answer f 1 a)) (named_lines_new spelling old.files f a));
      }

  -- a later answer of the last file
  step_later : (f i j : ℕ) (a : Asked K) (old new : Parts K) → Holds IsKey spelling cmp (AfterAnswer f i) old.replies old.files old.pairs → IsAnswer IsKey a → j ≡ i + 1 → AddsLine (Answer f j a) old new → Steps (AfterAnswer f i) (Answer f j a) old new
  step_later f i j a old new holds fits next adds =
      let last = holds.stands.0 in
      let no_pair : old.pairs ≡ [] = holds.stands.1 in
      let pairs : new.pairs ≡ [] = adds.2 ∙ no_pair in
      let here = last.here in
      let named_old : AreNamed 1 (last.front ++ (f, last.answers) ∷ []) = rw here at holds.named in
      let fit_old : AllByRecursion (FileFits IsKey) (last.front ++ (f, last.answers) ∷ []) = rw here at holds.files_fit in
      let some : 0 < length last.answers = named_last 1 last.front f last.answers named_old in
      let longer = last.answers ++ a ∷ [] in
      let files : new.files ≡ last.front ++ (f, longer) ∷ [] = adds.1.later (λ one. omega (arith, last.count)) last.front f last.answers here in
      let fit_last = all_last (FileFits IsKey) last.front (f, last.answers) fit_old in
      record {
        holds = record {
          stands = (record { front = last.front; answers = longer; here = files; count = omega (arith, length_push last.answers a, last.count) }, pairs);
          named = rw files (named_same 1 last.front f last.answers longer named_old (some_push last.answers a));
          replies_fit = rw adds.0 holds.replies_fit;
          files_fit = rw files (All-append (FileFits IsKey) last.front ((f, longer) ∷ []) (all_front (FileFits IsKey) last.front ((f, last.answers) ∷ []) fit_old)
              ((fit_last.0, All-append (IsAnswer IsKey) last.answers (a ∷ []) fit_last.1 (fits, tt)), tt));
          pairs_fit = rw pairs tt;
          ascending = subst (λ ps. IsStrictlySortedBy cmp (keys_of ps)) (sym adds.2) holds.ascending;
        };
        text = rw (pairs, no_pair, adds.0, files, here) (grows old.replies (last.front ++ (f, last.answers) ∷ []) (last.front ++ (f, longer) ∷ []) (chunk spelling (Answer f j a)) (named_lines_same spelling last.front f last.answers a j (omega (arith, last.count))));
      }

  step_pair : (place : Place K) (k : K) (v : ℕ) (old new : Parts K) → end_text spelling place ≡ [] → IsStrictlySortedBy cmp (keys_of (old.pairs ++ (k, v) ∷ [])) → Holds IsKey spelling cmp place old.replies old.files old.pairs → IsPair IsKey (k, v) → AddsLine (Pair k v) old new → Steps place (Pair k v) old new
  step_pair place k v old new before sorted holds fits adds = record {
    holds = record {
      stands = record { front = old.pairs; value = v; here = adds.2 };
      named = rw adds.1 holds.named;
      replies_fit = rw adds.0 holds.replies_fit;
      files_fit = rw adds.1 holds.files_fit;
      pairs_fit = rw adds.2 (All-append (IsPair IsKey) old.pairs ((k, v) ∷ []) holds.pairs_fit (fits, tt));
      ascending = rw adds.2 sorted;
    };
    text = rw (before, adds.0, adds.1, adds.2) (simp append-nil (ap (λ t. reply_lines 1 old.replies ++ (named_lines spelling old.files ++ t)) (pairs_push spelling old.pairs k v) ∙ simp append_assoc));
  }

  step_end : (place : Place K) (old new : Parts K) → end_text spelling place ≡ [] → Holds IsKey spelling cmp place old.replies old.files old.pairs → AddsLine End old new → Steps place End old new
  step_end place old new before holds adds = record {
    holds = record {
      stands = tt;
      named = rw adds.1 holds.named;
      replies_fit = rw adds.0 holds.replies_fit;
      files_fit = rw adds.1 holds.files_fit;
      pairs_fit = rw adds.2 holds.pairs_fit;
      ascending = rw adds.2 holds.ascending;
    };
    text = rw (before, adds.0, adds.1, adds.2) (simp append-nil);
  }

  first_pair : (pairs : List (K × ℕ)) (k : K) (v : ℕ) → pairs ≡ [] → IsStrictlySortedBy cmp (keys_of (pairs ++ (k, v) ∷ []))
  first_pair pairs k v none = rw none (sorted_one cmp k)

  later_pair : (pairs : List (K × ℕ)) (last k : K) (v : ℕ) → LastPair last pairs → IsStrictlySortedBy cmp (keys_of pairs) → cmp last k ≡ Less → IsStrictlySortedBy cmp (keys_of (pairs ++ (k, v) ∷ []))
  later_pair pairs last k v is sorted less =
      let keys : keys_of pairs ≡ keys_of is.front ++ last ∷ [] = ap keys_of is.here ∙ keys_push is.front (last, is.value) in
      rw (keys_push pairs (k, v), keys) (sorted_push cmp trans (keys_of is.front) last k (rw keys at sorted) less)

  pub step : (place : Place K) (said : ReportLine K) (old new : Parts K) → Holds IsKey spelling cmp place old.replies old.files old.pairs → CanFollow IsKey cmp place said → AddsLine said old new → Steps place said old new
  step (AfterUpdate i) (Update j r) old new holds follows adds = step_update i j r old new holds follows.taken follows.next adds
  step (AfterUpdate i) (Answer f j a) old new holds follows adds =
      let one : j ≡ 1 = follows.next.2 in
      let files : new.files ≡ old.files ++ (f, a ∷ []) ∷ [] = adds.1.first one in
      let named : AreNamed 1 new.files = rw (files, holds.stands.1) (follows.next.0, omega arith, tt) in
      subst (λ n. Steps (AfterUpdate i) (Answer f n a) old new) (sym one)
      (step_first (AfterUpdate i) f a old new refl holds.stands.2 named follows.next.1 holds follows.taken files (subst (λ n. AddsLine (Answer f n a) old new) one adds))
  step (AfterUpdate i) (Pair k v) old new holds follows adds = step_pair (AfterUpdate i) k v old new refl (first_pair old.pairs k v holds.stands.2) holds follows.taken adds
  step (AfterUpdate i) End old new holds follows adds = step_end (AfterUpdate i) old new refl holds adds
  step (AfterAnswer g i) (Update j r) old new holds follows adds = absurd follows.next
  step (AfterAnswer g i) (Answer f j a) old new holds follows adds = elim follows.next [
    | inl next ↦ subst (λ h. Steps (AfterAnswer g i) (Answer h j a) old new) (sym next.0)
        (step_later g i j a old new holds follows.taken next.1 (subst (λ h. AddsLine (Answer h j a) old new) next.0 adds))
    | inr next ↦
        let one : j ≡ 1 = next.2 in
        let last = holds.stands.0 in
        let files : new.files ≡ old.files ++ (f, a ∷ []) ∷ [] = adds.1.first one in
        let here = last.here in
        let named : AreNamed 1 new.files = rw (files, here) (named_push 1 last.front g last.answers f (a ∷ []) (rw here at holds.named) next.0 (omega arith)) in
        subst (λ n. Steps (AfterAnswer g i) (Answer f n a) old new) (sym one)
        (step_first (AfterAnswer g i) f a old new refl holds.stands.1 named next.1 holds follows.taken files (subst (λ n. AddsLine (Answer f n a) old new) one adds))
  ]
  step (AfterAnswer g i) (Pair k v) old new holds follows adds = step_pair (AfterAnswer g i) k v old new refl (first_pair old.pairs k v holds.stands.1) holds follows.taken adds
  step (AfterAnswer g i) End old new holds follows adds = step_end (AfterAnswer g i) old new refl holds adds
  step (AfterPair last) (Update j r) old new holds follows adds = absurd follows.next
  step (AfterPair last) (Answer f j a) old new holds follows adds = absurd follows.next
  step (AfterPair last) (Pair k v) old new holds follows adds = step_pair (AfterPair last) k v old new refl (later_pair old.pairs last k v holds.stands holds.ascending follows.next) holds follows.taken adds
  step (AfterPair last) End old new holds follows adds = step_end (AfterPair last) old new refl holds adds
  step AfterEnd said old new holds follows adds = absurd follows.next
