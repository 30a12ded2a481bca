-- No two lines have the same words, and no line that speaks has the words of a silent one.
use Rattle.std.specs.Prelude.{◌≡◌, ◌≢◌, ℕ, ◌<◌, ◌⊎◌, List, [], ◌∷◌, codes, decimal, nat_lt, true, false, ◌==◌, refl}
use Rattle.std.proofs.Common.{inl, inr, ap, arith, lit<, sym, ◌∙◌}
use Rattle.std.proofs.lemmas.Bool.Decides.{nat_tests}
use Rattle.std.specs.List.{onto_first}
use Rattle.std.proofs.lemmas.Bool.{ne_eqb}
use Rattle.std.proofs.lemmas.List.Splits.{slice_split-cons_no}
use Rattle.ck_history.specs.declared.update.Update.{Update}
use Rattle.ck_history.specs.declared.update.Update.TheVariants.{Set, Put, Del, Tidy}
use Rattle.ck_history.specs.declared.edit.Edit.{Edit}
use Rattle.ck_history.specs.declared.edit.Edit.TheVariants.{Add, Drop, Commit}
use Rattle.ck_script.specs.declared.line.UpLine.{UpLine}
use Rattle.ck_script.specs.declared.line.UpLine.TheVariants.{Call, Hold}
use Rattle.ck_script.specs.declared.line.AskLine.{AskLine}
use Rattle.ck_script.specs.declared.line.AskLine.TheVariants.{Ask, Wait}
use Rattle.ck_text.specs.Words.{words, first_byte}
use Rattle.ck_text.specs.Laws.{one_number}
use Rattle.ck_script.specs.Grammar.{IsSilent, up_words, ask_words, IsUpLine, IsAskLine, map_call_words, map_ask_words, IsMapCall, update_words, query_words, IsUpdateLine, IsQueryLine}
use Rattle.ck_script.specs.ListGrammar.{list_call_words, list_ask_words, IsListCall, IsListAsk, edit_words, view_words, IsEditLine, IsViewLine}

-- what a byte that is put before a first word makes the first byte
onto_first_byte : (b : ℕ) (ws : List (List ℕ)) → first_byte (onto_first b ws) ≡ b
onto_first_byte b [] = refl
onto_first_byte b (w ∷ ws) = refl

-- a silent line has no first byte, or `#`
silent_first : (line : List ℕ) → IsSilent line → (first_byte (words line) ≡ 0) ⊎ (first_byte (words line) ≡ 35)
silent_first [] silent = inl refl
silent_first (b ∷ line) silent =
    let no = slice_split-cons_no (λ c. c == 32) b line (ne_eqb b 32 (λ (e : b ≡ 32). omega arith)) in
    inr (ap first_byte no ∙ (onto_first_byte b (words line) ∙ silent))

-- the words begin with a byte that is above `#` and isn't this one
abbrev pub BeginBut : ℕ → List (List ℕ) → Type 0
BeginBut b ws = (35 < first_byte ws) × (first_byte ws ≢ b)

-- words that begin so aren't those of a silent line
not_silent : (line : List ℕ) (ws : List (List ℕ)) → 35 < first_byte ws → words line ≡ ws → IsSilent line → ⊥
not_silent line ws above e silent = elim (silent_first line silent) [ inl none ↦ omega (arith, above, ap first_byte e) | inr hash ↦ omega (arith, above, ap first_byte e) ]

-- update files, whose calls don't begin as a `hold` line does
module _ {C : Type 0} (IsCall : C → Type 0) (call_words : C → List (List ℕ)) (begin : (call : C) → BeginBut 104 (call_words call)) where
  pub up_speaks : (u : UpLine C) (line : List ℕ) → IsUpLine IsCall u → words line ≡ up_words call_words u → IsSilent line → ⊥
  up_speaks (Call call) line h e silent = not_silent line (call_words call) (begin call).0 e silent
  up_speaks (Hold file count) line h e silent = not_silent line (codes "hold" ∷ decimal file ∷ decimal count ∷ []) (lit< tt) e silent

  pub one_up_line : ((a b : C) → IsCall a → IsCall b → call_words a ≡ call_words b → a ≡ b) → (a b : UpLine C) → IsUpLine IsCall a → IsUpLine IsCall b → up_words call_words a ≡ up_words call_words b → a ≡ b
  one_up_line one_call (Call a) (Call b) ha hb e = ap Call (one_call a b ha hb e)
  one_up_line one_call (Call a) (Hold g n) ha hb e = absurd ((begin a).1 (ap first_byte e))
  one_up_line one_call (Hold f m) (Call b) ha hb e = absurd ((begin b).1 (sym (ap first_byte e)))
  one_up_line one_call (Hold f m) (Hold g n) ha hb e =
      let files : decimal f ≡ decimal g = cc in
      let counts : decimal m ≡ decimal n = cc in
      ap (λ x. Hold x m) (one_number f g ha.0 hb.0 files) ∙ ap (Hold g) (one_number m n ha.1 hb.1 counts)

-- query files, whose queries don't begin as a `wait` line does
module _ {A : Type 0} (IsAsk : A → Type 0) (words_of : A → List (List ℕ)) (begin : (ask : A) → BeginBut 119 (words_of ask)) where
  pub ask_speaks : (q : AskLine A) (line : List ℕ) → IsAskLine IsAsk q → words line ≡ ask_words words_of q → IsSilent line → ⊥
  ask_speaks (Ask ask) line h e silent = not_silent line (words_of ask) (begin ask).0 e silent
  ask_speaks (Wait count) line h e silent = not_silent line (codes "wait" ∷ decimal count ∷ []) (lit< tt) e silent

  pub one_ask_line : ((a b : A) → IsAsk a → IsAsk b → words_of a ≡ words_of b → a ≡ b) → (a b : AskLine A) → IsAskLine IsAsk a → IsAskLine IsAsk b → ask_words words_of a ≡ ask_words words_of b → a ≡ b
  one_ask_line one_ask (Ask a) (Ask b) ha hb e = ap Ask (one_ask a b ha hb e)
  one_ask_line one_ask (Ask a) (Wait n) ha hb e = absurd ((begin a).1 (ap first_byte e))
  one_ask_line one_ask (Wait m) (Ask b) ha hb e = absurd ((begin b).1 (sym (ap first_byte e)))
  one_ask_line one_ask (Wait m) (Wait n) ha hb e =
      let counts : decimal m ≡ decimal n = cc in
      ap Wait (one_number m n ha hb counts)

-- a byte that is another
other_byte : (f b : ℕ) → nat_lt 35 f ≡ true → (f == b) ≡ false → (35 < f) × (f ≢ b)
other_byte f b above other = (grind (arith, nat_tests), λ same. grind (arith, nat_tests))

-- maps
module _ {K : Type 0} (IsKey : K → Type 0) (spelling : K → List ℕ) where
  updates_begin : (u : Update K) → BeginBut 104 (map_call_words spelling u)
  updates_begin (Set k v) = other_byte 115 104 refl refl
  updates_begin (Put k v) = other_byte 112 104 refl refl
  updates_begin (Del k) = other_byte 100 104 refl refl
  updates_begin Tidy = other_byte 116 104 refl refl

  queries_begin : (k : K) → BeginBut 119 (map_ask_words spelling k)
  queries_begin k = other_byte 103 119 refl refl

  pub update_speaks : (u : UpLine (Update K)) (line : List ℕ) → IsUpdateLine IsKey u → words line ≡ update_words spelling u → IsSilent line → ⊥
  update_speaks u line h e silent = up_speaks (IsMapCall IsKey) (map_call_words spelling) updates_begin u line h e silent

  pub query_speaks : (q : AskLine K) (line : List ℕ) → IsQueryLine IsKey q → words line ≡ query_words spelling q → IsSilent line → ⊥
  query_speaks q line h e silent = ask_speaks IsKey (map_ask_words spelling) queries_begin q line h e silent

  module _ (one_key : (j k : K) → IsKey j → IsKey k → spelling j ≡ spelling k → j ≡ k) where
    one_update : (a b : Update K) → IsMapCall IsKey a → IsMapCall IsKey b → map_call_words spelling a ≡ map_call_words spelling b → a ≡ b
    one_update (Set k v) (Set j w) ha hb e =
        let keys : spelling k ≡ spelling j = cc in
        let values : decimal v ≡ decimal w = cc in
        ap (λ x. Set x v) (one_key k j ha.0 hb.0 keys) ∙ ap (Set j) (one_number v w ha.1 hb.1 values)
    one_update (Put k v) (Put j w) ha hb e =
        let keys : spelling k ≡ spelling j = cc in
        let values : decimal v ≡ decimal w = cc in
        ap (λ x. Put x v) (one_key k j ha.0 hb.0 keys) ∙ ap (Put j) (one_number v w ha.1 hb.1 values)
    one_update (Del k) (Del j) ha hb e =
        let keys : spelling k ≡ spelling j = cc in
        ap Del (one_key k j ha hb keys)
    one_update Tidy Tidy ha hb e = refl
    one_update a b ha hb e = absurd (omega (arith, ap first_byte e))

    one_query : (a b : K) → IsKey a → IsKey b → map_ask_words spelling a ≡ map_ask_words spelling b → a ≡ b
    one_query a b ha hb e =
        let keys : spelling a ≡ spelling b = cc in
        one_key a b ha hb keys

    pub one_update_line : (a b : UpLine (Update K)) → IsUpdateLine IsKey a → IsUpdateLine IsKey b → update_words spelling a ≡ update_words spelling b → a ≡ b
    one_update_line a b ha hb e = one_up_line (IsMapCall IsKey) (map_call_words spelling) updates_begin one_update a b ha hb e

    pub one_query_line : (a b : AskLine K) → IsQueryLine IsKey a → IsQueryLine IsKey b → query_words spelling a ≡ query_words spelling b → a ≡ b
    one_query_line a b ha hb e = one_ask_line IsKey (map_ask_words spelling) queries_begin one_query a b ha hb e

-- lists

edits_begin : (edit : Edit) → BeginBut 104 (list_call_words edit)
edits_begin (Add v) = other_byte 97 104 refl refl
edits_begin (Drop v) = other_byte 100 104 refl refl
edits_begin Commit = other_byte 99 104 refl refl

views_begin : (ask : Unit {0}) → BeginBut 119 (list_ask_words ask)
views_begin ask = other_byte 97 119 refl refl

pub edit_speaks : (u : UpLine Edit) (line : List ℕ) → IsEditLine u → words line ≡ edit_words u → IsSilent line → ⊥
edit_speaks u line h e silent = up_speaks IsListCall list_call_words edits_begin u line h e silent

pub view_speaks : (q : AskLine (Unit {0})) (line : List ℕ) → IsViewLine q → words line ≡ view_words q → IsSilent line → ⊥
view_speaks q line h e silent = ask_speaks IsListAsk list_ask_words views_begin q line h e silent

one_edit : (a b : Edit) → IsListCall a → IsListCall b → list_call_words a ≡ list_call_words b → a ≡ b
one_edit (Add v) (Add w) ha hb e =
    let members : decimal v ≡ decimal w = cc in
    ap Add (one_number v w ha hb members)
one_edit (Drop v) (Drop w) ha hb e =
    let members : decimal v ≡ decimal w = cc in
    ap Drop (one_number v w ha hb members)
one_edit Commit Commit ha hb e = refl
one_edit a b ha hb e = absurd (omega (arith, ap first_byte e))

pub one_edit_line : (a b : UpLine Edit) → IsEditLine a → IsEditLine b → edit_words a ≡ edit_words b → a ≡ b
one_edit_line a b ha hb e = one_up_line IsListCall list_call_words edits_begin one_edit a b ha hb e

pub one_view_line : (a b : AskLine (Unit {0})) → IsViewLine a → IsViewLine b → view_words a ≡ view_words b → a ≡ b
one_view_line a b ha hb e = one_ask_line IsListAsk list_ask_words views_begin (λ x y hx hy same. refl) a b ha hb e
