-- The words of a lawful line have no fault.
use Rattle.std.specs.Prelude.{◌≡◌, ℕ, List, [], ◌∷◌, length, decimal, refl}
use Rattle.std.proofs.Common.{inl, inr, subst}
use Rattle.ck_history.specs.declared.update.Update.{Update}
use Rattle.ck_history.specs.declared.update.Update.TheVariants.{Set, Put, Del, Tidy}
use Rattle.ck_history.specs.declared.edit.Edit.{Edit}
use Rattle.ck_history.specs.declared.edit.Edit.TheVariants.{Add, Drop, Commit}
use Rattle.ck_script.specs.declared.line.UpLine.{UpLine}
use Rattle.ck_script.specs.declared.line.UpLine.TheVariants.{Call, Hold}
use Rattle.ck_script.specs.declared.line.AskLine.{AskLine}
use Rattle.ck_script.specs.declared.line.AskLine.TheVariants.{Ask, Wait}
use Rattle.ck_script.specs.declared.fault.Why.{Why}
use Rattle.ck_script.specs.Grammar.{Argument, key, number, IsRight, IsWrong, FirstWrong, HasArgumentFault, HasFault, up_words, ask_words, IsUpLine, IsAskLine, up_verbs, ask_verbs, map_call_words, map_ask_words, IsMapCall, map_call_verbs, map_ask_verbs, update_words, query_words, IsUpdateLine, IsQueryLine, update_verbs, query_verbs}
use Rattle.ck_script.specs.ListGrammar.{list_call_words, list_ask_words, IsListCall, IsListAsk, list_call_verbs, list_ask_verbs, edit_words, view_words, IsEditLine, IsViewLine, edit_verbs, view_verbs}

module _ {K : Type 0} (IsKey : K → Type 0) (spelling : K → List ℕ) (IsKeyFault : List ℕ → Why → Type 0) (faultless : (k : K) (why : Why) → IsKey k → IsKeyFault (spelling k) why → ⊥) where
  -- each word is what stands for its argument
  abbrev pub AreRight : List Argument → List (List ℕ) → Type 0
  AreRight [] [] = Unit {0}
  AreRight (a ∷ more) (w ∷ ws) = IsRight IsKey spelling IsKeyFault a w × AreRight more ws
  AreRight _ _ = ⊥

  right_not_wrong : (a : Argument) (w : List ℕ) (why : Why) → IsRight IsKey spelling IsKeyFault a w → IsWrong IsKey spelling IsKeyFault a w why → ⊥
  right_not_wrong key w why right wrong = faultless right.0 why right.1 (subst (λ v. IsKeyFault v why) right.2 wrong)
  right_not_wrong number w why right wrong = wrong.1 right

  none_wrong : (wanted : List Argument) (ws : List (List ℕ)) (why : Why) → AreRight wanted ws → FirstWrong IsKey spelling IsKeyFault wanted ws why → ⊥
  none_wrong [] [] why right wrong = wrong
  none_wrong [] (w ∷ ws) why right wrong = wrong
  none_wrong (a ∷ more) [] why right wrong = wrong
  none_wrong (a ∷ more) (w ∷ ws) why right (inl wrong) = right_not_wrong a w why right.0 wrong
  none_wrong (a ∷ more) (w ∷ ws) why right (inr later) = none_wrong more ws why right.1 later.1

  pub no_argument_fault : (wanted : List Argument) (ws : List (List ℕ)) (why : Why) → AreRight wanted ws → length ws ≡ length wanted → HasArgumentFault IsKey spelling IsKeyFault wanted ws why → ⊥
  no_argument_fault wanted ws why right same (inl shape) = shape.1 same
  no_argument_fault wanted ws why right same (inr wrong) = none_wrong wanted ws why right wrong.1

  abbrev HasFaultBy : List (List ℕ × List Argument) → List (List ℕ) → Why → Type 0
  HasFaultBy = HasFault IsKey spelling IsKeyFault

  -- update files, by their calls
  up_faultless : {C : Type 0} (IsCall : C → Type 0) (call_words : C → List (List ℕ)) (calls : List (List ℕ × List Argument)) → ((call : C) (why : Why) → IsCall call → HasFaultBy (up_verbs calls) (call_words call) why → ⊥) → (u : UpLine C) (why : Why) → IsUpLine IsCall u → HasFaultBy (up_verbs calls) (up_words call_words u) why → ⊥
  up_faultless IsCall call_words calls by_call (Call call) why h fault = by_call call why h fault
  up_faultless IsCall call_words calls by_call (Hold file count) why h fault =
      let right : AreRight (number ∷ number ∷ []) (decimal file ∷ decimal count ∷ []) = ((file, h.0, refl), ((count, h.1, refl), tt)) in
      no_argument_fault (number ∷ number ∷ []) (decimal file ∷ decimal count ∷ []) why right refl fault

  -- query files, by their queries
  ask_faultless : {A : Type 0} (IsAsk : A → Type 0) (words_of : A → List (List ℕ)) (asks : List (List ℕ × List Argument)) → ((ask : A) (why : Why) → IsAsk ask → HasFaultBy (ask_verbs asks) (words_of ask) why → ⊥) → (q : AskLine A) (why : Why) → IsAskLine IsAsk q → HasFaultBy (ask_verbs asks) (ask_words words_of q) why → ⊥
  ask_faultless IsAsk words_of asks by_ask (Ask ask) why h fault = by_ask ask why h fault
  ask_faultless IsAsk words_of asks by_ask (Wait count) why h fault =
      let right : AreRight (number ∷ []) (decimal count ∷ []) = ((count, h, refl), tt) in
      no_argument_fault (number ∷ []) (decimal count ∷ []) why right refl fault

  -- maps

  map_call_faultless : (u : Update K) (why : Why) → IsMapCall IsKey u → HasFaultBy update_verbs (map_call_words spelling u) why → ⊥
  map_call_faultless (Set k v) why h fault =
      let right : AreRight (key ∷ number ∷ []) (spelling k ∷ decimal v ∷ []) = ((k, h.0, refl), ((v, h.1, refl), tt)) in
      no_argument_fault (key ∷ number ∷ []) (spelling k ∷ decimal v ∷ []) why right refl fault
  map_call_faultless (Put k v) why h fault =
      let right : AreRight (key ∷ number ∷ []) (spelling k ∷ decimal v ∷ []) = ((k, h.0, refl), ((v, h.1, refl), tt)) in
      no_argument_fault (key ∷ number ∷ []) (spelling k ∷ decimal v ∷ []) why right refl fault
  map_call_faultless (Del k) why h fault =
      let right : AreRight (key ∷ []) (spelling k ∷ []) = ((k, h, refl), tt) in
      no_argument_fault (key ∷ []) (spelling k ∷ []) why right refl fault
  map_call_faultless Tidy why h fault = no_argument_fault [] [] why tt refl fault

  map_ask_faultless : (k : K) (why : Why) → IsKey k → HasFaultBy query_verbs (map_ask_words spelling k) why → ⊥
  map_ask_faultless k why h fault =
      let right : AreRight (key ∷ []) (spelling k ∷ []) = ((k, h, refl), tt) in
      no_argument_fault (key ∷ []) (spelling k ∷ []) why right refl fault

  pub update_faultless : (u : UpLine (Update K)) (why : Why) → IsUpdateLine IsKey u → HasFault IsKey spelling IsKeyFault update_verbs (update_words spelling u) why → ⊥
  update_faultless u why h fault = up_faultless (IsMapCall IsKey) (map_call_words spelling) map_call_verbs map_call_faultless u why h fault

  pub query_faultless : (q : AskLine K) (why : Why) → IsQueryLine IsKey q → HasFault IsKey spelling IsKeyFault query_verbs (query_words spelling q) why → ⊥
  query_faultless q why h fault = ask_faultless IsKey (map_ask_words spelling) map_ask_verbs map_ask_faultless q why h fault

  -- lists

  list_call_faultless : (edit : Edit) (why : Why) → IsListCall edit → HasFaultBy edit_verbs (list_call_words edit) why → ⊥
  list_call_faultless (Add v) why h fault =
      let right : AreRight (number ∷ []) (decimal v ∷ []) = ((v, h, refl), tt) in
      no_argument_fault (number ∷ []) (decimal v ∷ []) why right refl fault
  list_call_faultless (Drop v) why h fault =
      let right : AreRight (number ∷ []) (decimal v ∷ []) = ((v, h, refl), tt) in
      no_argument_fault (number ∷ []) (decimal v ∷ []) why right refl fault
  list_call_faultless Commit why h fault = no_argument_fault [] [] why tt refl fault

  pub edit_faultless : (u : UpLine Edit) (why : Why) → IsEditLine u → HasFault IsKey spelling IsKeyFault edit_verbs (edit_words u) why → ⊥
  edit_faultless u why h fault = up_faultless IsListCall list_call_words list_call_verbs list_call_faultless u why h fault

  pub view_faultless : (q : AskLine (Unit {0})) (why : Why) → IsViewLine q → HasFault IsKey spelling IsKeyFault view_verbs (view_words q) why → ⊥
  view_faultless q why h fault = ask_faultless IsListAsk list_ask_words list_ask_verbs (λ ask why h fault. no_argument_fault [] [] why tt refl fault) q why h fault
