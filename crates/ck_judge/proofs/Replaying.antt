-- One more update, of those that are left.
use Rattle.std.proofs.Common.{◌≡◌, ℕ, ◌+◌, ◌<◌, List, [], ◌∷◌, ◌++◌, length, drop, get_or, refl, ap, sym, ◌∙◌, append_assoc, Option, Some}
use Rattle.std.specs.List.{slice_get}
use Rattle.std.specs.declared.cmp.Ordering.{Ordering}
use Rattle.ck_history.specs.declared.update.Update.{Update}
use Rattle.ck_history.specs.declared.update.Update.TheVariants.{Set, Put, Del, Tidy}
use Rattle.ck_history.specs.declared.update.Reply.{Reply}
use Rattle.ck_history.specs.Map.{Map, find, step, after_from, replies_from}
use Rattle.ck_script.specs.declared.line.Numbered.{Numbered}
use Rattle.ck_script.specs.declared.line.UpLine.{UpLine}
use Rattle.ck_script.specs.declared.line.UpLine.TheVariants.{Call, Hold}
use Rattle.ck_script.specs.Script.{said_of, updates}
use Rattle.ck_script.proofs.Standing.{said_there}
use Rattle.ck_judge.specs.declared.changes.Change.{Change}
use Rattle.ck_judge.specs.Changes.{update_key, changes_at, touched_by, changes_from}
use Rattle.ck_judge.proofs.Holding.{drop_next}

module _ {K : Type 0} (cmp : K → K → Ordering) (most : ℕ) (us : List (Update K)) (i : ℕ) (u : Update K) (lt : i < length us) (is : u ≡ get_or us i u) (m m' : Map K) (made : m' ≡ (step cmp most m u).0) where
  pub replayed_map : (whole : Map K) → after_from cmp most m (drop i us) ≡ whole → after_from cmp most m' (drop (i + 1) us) ≡ whole
  replayed_map whole so_far = ap (λ x. after_from cmp most x (drop (i + 1) us)) made ∙ (sym (ap (λ l. after_from cmp most m l) (drop_next us i u lt is)) ∙ so_far)

  pub replayed_replies : (rs rs' : List Reply) (r : Reply) (whole : List Reply) → r ≡ (step cmp most m u).1 → rs' ≡ rs ++ r ∷ [] → rs ++ replies_from cmp most m (drop i us) ≡ whole → rs' ++ replies_from cmp most m' (drop (i + 1) us) ≡ whole
  replayed_replies rs rs' r whole replied pushed so_far =
      ap (λ l. l ++ replies_from cmp most m' (drop (i + 1) us)) pushed
      ∙ (ap (λ x. (rs ++ r ∷ []) ++ replies_from cmp most x (drop (i + 1) us)) made
      ∙ (append_assoc rs (r ∷ []) (replies_from cmp most (step cmp most m u).0 (drop (i + 1) us))
      ∙ (ap (λ x. rs ++ x ∷ replies_from cmp most (step cmp most m u).0 (drop (i + 1) us)) replied
      ∙ (sym (ap (λ l. rs ++ replies_from cmp most m l) (drop_next us i u lt is)) ∙ so_far))))

  -- what the update touches, by its key and what that has after it
  touched_as : (place : ℕ) (value : Option ℕ) (u : Update K) → ((k : K) → update_key u ≡ Some k → value ≡ find cmp (step cmp most m u).0 k) → changes_at (update_key u) place value ≡ touched_by cmp most m place u
  touched_as place value (Set k x) is = ap (λ v. changes_at (Some k) place v) (is k refl)
  touched_as place value (Put k x) is = ap (λ v. changes_at (Some k) place v) (is k refl)
  touched_as place value (Del k) is = ap (λ v. changes_at (Some k) place v) (is k refl)
  touched_as place value Tidy is = refl

  pub replayed_changes : (place : ℕ) (key : Option K) (value : Option ℕ) (cs cs' whole : List (Change K)) → key ≡ update_key u → ((k : K) → update_key u ≡ Some k → value ≡ find cmp m' k) → cs' ≡ cs ++ changes_at key place value → cs ++ changes_from cmp most m place (drop i us) ≡ whole → cs' ++ changes_from cmp most m' (place + 1) (drop (i + 1) us) ≡ whole
  replayed_changes place key value cs cs' whole same told noted so_far =
      let touched = touched_as place value u (λ k e. told k e ∙ ap (λ x. find cmp x k) made) in
      ap (λ l. l ++ changes_from cmp most m' (place + 1) (drop (i + 1) us)) (noted ∙ ap (λ l. cs ++ l) (ap (λ k. changes_at k place value) same ∙ touched))
      ∙ (ap (λ x. (cs ++ touched_by cmp most m place u) ++ changes_from cmp most x (place + 1) (drop (i + 1) us)) made
      ∙ (append_assoc cs (touched_by cmp most m place u) (changes_from cmp most (step cmp most m u).0 (place + 1) (drop (i + 1) us))
      ∙ (sym (ap (λ l. cs ++ changes_from cmp most m place l) (drop_next us i u lt is)) ∙ so_far)))

module _ {C : Type 0} (ups : List (Numbered (UpLine C))) (i : ℕ) (said : UpLine C) (is : slice_get (said_of ups) i ≡ Some said) (us us' whole : List C) (so_far : us ++ updates (said_of (drop i ups)) ≡ whole) where
  line_next : (what : UpLine C) → said ≡ what → updates (said_of (drop i ups)) ≡ updates (what ∷ said_of (drop (i + 1) ups))
  line_next what says = ap updates (said_there ups i said is ∙ ap (λ w. w ∷ said_of (drop (i + 1) ups)) says)

  pub listed_call : (u : C) → said ≡ Call u → us' ≡ us ++ u ∷ [] → us' ++ updates (said_of (drop (i + 1) ups)) ≡ whole
  listed_call u says pushed =
      ap (λ l. l ++ updates (said_of (drop (i + 1) ups))) pushed
      ∙ (append_assoc us (u ∷ []) (updates (said_of (drop (i + 1) ups)))
      ∙ (ap (λ l. us ++ l) (sym (line_next (Call u) says)) ∙ so_far))

  pub listed_hold : (file count : ℕ) → said ≡ Hold file count → us' ≡ us → us' ++ updates (said_of (drop (i + 1) ups)) ≡ whole
  listed_hold file count says same =
      ap (λ l. l ++ updates (said_of (drop (i + 1) ups))) same ∙ (ap (λ l. us ++ l) (sym (line_next (Hold file count) says)) ∙ so_far)
