-- Placed answers stay placed when updates are added, and go on with one more answer or one more `reached`.
use Rattle.std.proofs.Common.{◌≡◌, ℕ, ◌≤◌, max, List, [], ◌∷◌, ◌++◌, length, Result, sym, ap, ◌∙◌, arith, le_trans}
use Rattle.std.proofs.lemmas.List.{take-append-le}
use Rattle.std.specs.declared.cmp.Ordering.{Ordering}
use Rattle.ck_history.specs.declared.update.Update.{Update}
use Rattle.ck_history.specs.declared.edit.Edit.{Edit}
use Rattle.ck_history.specs.Lists.{empty_lists, lists_after_from, committed_after}
use Rattle.ck_history.specs.Map.{find, after_from, answer_after}
use Rattle.ck_history.specs.declared.event.ReaderEvent.{ReaderEvent}
use Rattle.ck_history.specs.declared.event.ReaderEvent.TheVariants.{Answered, Reached}
use Rattle.ck_history.specs.Events.{known_by}
use Rattle.ck_history.specs.Places.{ArePlacedAt}

module _ {Q A : Type 0} where
  -- what was told is at most the number of updates
  pub least_within : (count : ℕ) (gives : ℕ → Q → A) (least : ℕ) (es : List (ReaderEvent Q A)) (ps : List ℕ) → ArePlacedAt count gives least es ps → least ≤ count
  least_within count gives least [] [] h = h
  least_within count gives least [] (p ∷ ps) h = absurd h
  least_within count gives least (Answered q a ∷ es) [] h = absurd h
  least_within count gives least (Answered q a ∷ es) (p ∷ ps) h = le_trans h.0 (least_within count gives p es ps h.2)
  least_within count gives least (Reached n result ∷ es) ps h = let all = least_within count gives (max least (known_by n result)) es ps h in omega arith

  -- more updates change no answer at a place that there was before
  module _ (count more : ℕ) (gives later : ℕ → Q → A) (le : count ≤ more) (same : (p : ℕ) (q : Q) → p ≤ count → later p q ≡ gives p q) where
    pub placed_later : (least : ℕ) (es : List (ReaderEvent Q A)) (ps : List ℕ) → ArePlacedAt count gives least es ps → ArePlacedAt more later least es ps
    placed_later least [] [] h = le_trans h le
    placed_later least [] (p ∷ ps) h = absurd h
    placed_later least (Answered q a ∷ es) [] h = absurd h
    placed_later least (Answered q a ∷ es) (p ∷ ps) h = (
      h.0,
      record { within = le_trans h.1.within le; right = h.1.right ∙ sym (same p q h.1.within) },
      placed_later p es ps h.2,
    )
    placed_later least (Reached n result ∷ es) ps h = placed_later (max least (known_by n result)) es ps h

  module _ (count : ℕ) (gives : ℕ → Q → A) where
    -- one more answer, after all updates
    pub placed_answered : (least : ℕ) (es : List (ReaderEvent Q A)) (ps : List ℕ) (q : Q) (a : A) → ArePlacedAt count gives least es ps → a ≡ gives count q → ArePlacedAt count gives least (es ++ Answered q a ∷ []) (ps ++ count ∷ [])
    placed_answered least [] [] q a h is = (h, record { within = omega arith; right = is }, omega arith)
    placed_answered least [] (p ∷ ps) q a h is = absurd h
    placed_answered least (Answered r b ∷ es) [] q a h is = absurd h
    placed_answered least (Answered r b ∷ es) (p ∷ ps) q a h is = (h.0, h.1, placed_answered p es ps q a h.2 is)
    placed_answered least (Reached n result ∷ es) ps q a h is = placed_answered (max least (known_by n result)) es ps q a h is

    -- one more `reached`, which told of no more updates than there are
    pub placed_reached : (least : ℕ) (es : List (ReaderEvent Q A)) (ps : List ℕ) (m : ℕ) (told : Result (Unit {0}) ℕ) → ArePlacedAt count gives least es ps → known_by m told ≤ count → ArePlacedAt count gives least (es ++ Reached m told ∷ []) ps
    placed_reached least [] [] m told h le = omega arith
    placed_reached least [] (p ∷ ps) m told h le = absurd h
    placed_reached least (Answered r b ∷ es) [] m told h le = absurd h
    placed_reached least (Answered r b ∷ es) (p ∷ ps) m told h le = (h.0, h.1, placed_reached p es ps m told h.2 le)
    placed_reached least (Reached n result ∷ es) ps m told h le = placed_reached (max least (known_by n result)) es ps m told h le

-- in a map, later updates change no answer after fewer of them
pub answer_after-append : {K : Type 0} (cmp : K → K → Ordering) (most : ℕ) (us more : List (Update K)) (p : ℕ) (k : K) → p ≤ length us → answer_after cmp most (us ++ more) p k ≡ answer_after cmp most us p k
answer_after-append cmp most us more p k le = ap (λ vs. find cmp (after_from cmp most [] vs) k) (take-append-le p us more le)

-- nor do later edits change what a reader of the list is given after fewer of them
pub committed_after-append : (es more : List Edit) (p : ℕ) → p ≤ length es → committed_after (es ++ more) p ≡ committed_after es p
committed_after-append es more p le = ap (λ ds. (lists_after_from empty_lists ds).committed) (take-append-le p es more le)
