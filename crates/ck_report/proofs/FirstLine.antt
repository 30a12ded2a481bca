-- The first line of a text, at a place.
use Rattle.std.proofs.Common.{◌≡◌, ℕ, ◌<◌, List, [], ◌∷◌, ◌++◌, length, ap, sym, ◌∙◌, subst}
use Rattle.std.specs.declared.cmp.Ordering.{Ordering}
use Rattle.std.specs.List.{join_with_byte}
use Rattle.ck_text.specs.Lines.{parts, lines_with_feeds}
use Rattle.ck_text.specs.Words.{words, IsWord}
use Rattle.ck_text.proofs.Words.{joined_lacks_feed, joined_words}
use Rattle.ck_text.proofs.Feeds.{not_fed, lines_with_feeds_alone, lines_with_feeds_cut, cut_here}
use Rattle.ck_report.specs.declared.line.ReportLine.{ReportLine}
use Rattle.ck_report.specs.declared.place.Place.{Place}
use Rattle.ck_report.specs.Lines.{place_of, Next, IsTaken, IsShort, line_words, CanFollow, NoneBegins}
use Rattle.ck_report.proofs.Runs.{chunk, line_are_words, taken_words, same_line}

-- the line stands at the head of the text
pub line_here : {K : Type 0} (spelling : K → List ℕ) (text bytes rest : List ℕ) (said : ReportLine K) → parts 10 text ≡ bytes ∷ parts 10 rest → words bytes ≡ line_words spelling said → text ≡ chunk spelling said ++ rest
line_here spelling text bytes rest said cut spelt =
    cut_here text bytes rest cut ∙ ap (λ b. (b ++ 10 ∷ []) ++ rest) (sym (joined_words bytes) ∙ ap (join_with_byte 32) spelt)

module _ {K : Type 0} (IsKey : K → Type 0) (spelling : K → List ℕ) (cmp : K → K → Ordering) (one_key : (j k : K) → IsKey j → IsKey k → spelling j ≡ spelling k → j ≡ k) (one_word : (k : K) → IsKey k → IsWord (spelling k)) where
  -- bytes with no line feed
  pub none_unfed : (place : Place K) (text : List ℕ) → parts 10 text ≡ text ∷ [] → 0 < length text → NoneBegins IsKey spelling cmp place text
  none_unfed place text one some said later follows e =
      let ws = line_words spelling said in
      let both : text ∷ [] ≡ chunk spelling said ∷ later = sym (lines_with_feeds_alone text one some) ∙ e in
      let same : text ≡ chunk spelling said = cc in
      not_fed text (join_with_byte 32 ws) one (joined_lacks_feed ws (line_are_words IsKey spelling cmp one_key one_word said follows.taken follows.short)) same

  -- a line that says nothing that may stand there
  pub none_said : (place : Place K) (text bytes rest : List ℕ) → parts 10 text ≡ bytes ∷ parts 10 rest → ((said : ReportLine K) → CanFollow IsKey cmp place said → words bytes ≡ line_words spelling said → ⊥) → NoneBegins IsKey spelling cmp place text
  none_said place text bytes rest cut none said later follows e =
      let both : (bytes ++ 10 ∷ []) ∷ lines_with_feeds rest ≡ chunk spelling said ∷ later = sym (lines_with_feeds_cut text bytes rest cut) ∙ e in
      let same : bytes ++ 10 ∷ [] ≡ chunk spelling said = cc in
      none said follows (taken_words IsKey spelling cmp one_key one_word said bytes follows.taken follows.short same)

  -- what the same words say leads to the same place
  pub not_next : (place : Place K) (bytes : List ℕ) (read : ReportLine K) → IsTaken IsKey read → IsShort read → words bytes ≡ line_words spelling read → (Next cmp place (place_of read) → ⊥) → (said : ReportLine K) → CanFollow IsKey cmp place said → words bytes ≡ line_words spelling said → ⊥
  not_next place bytes read taken short read_is none said follows spelt =
      let same = same_line IsKey spelling cmp one_key one_word said read follows.taken taken follows.short short (sym spelt ∙ read_is) in
      none (subst (λ line. Next cmp place (place_of line)) same follows.next)
