-- A whole look.
use Rattle.std.proofs.Common.{◌≡◌, ◌≢◌, ℕ, suc, ◌+◌, ◌-◌, ◌/◌, ◌<◌, ◌≤◌, le_refl, Bool, true, cond, ◌==◌, ◌&&◌, eq-eqb, ne_eqb, List, [], ◌∷◌, ◌++◌, map, length, length-append, append-nil, refl, sym, ap, ◌∙◌, subst, arith}
use Rattle.std.specs.Prelude.{Option, Some, None}
use Rattle.std.proofs.lemmas.List.{map-append, append_cancel_left}
use Rattle.std.proofs.lemmas.Nat.{pow_pos}
use Rattle.ck_run.specs.declared.account.Step.{Step}
use Rattle.ck_run.specs.declared.account.Step.TheVariants.{Load}
use Rattle.ck_run.specs.declared.account.Entry.{Entry}
use Rattle.ck_run.specs.Run.{entry, further, call, account, replay}
use Rattle.ck_run.specs.Tokens.{adding, did, origin}
use Rattle.ck_run.proofs.Runs.{account-append, true_parts}
use Rattle.ck_run.proofs.Moments.{adding-append}
use Rattle.ck_epoch.specs.State.{Origin, Token}
use Rattle.ck_epoch.specs.Ends.{Pass, IsDomainToken}
use Rattle.ck_epoch.specs.Calls.{MayFollow}
use Rattle.ck_epoch.specs.Within.{IsWithin}
use Rattle.ck_slots.specs.Slots.{Order}
use Rattle.ck_htlaw.specs.Calls.{look, key_of}
use Rattle.ck_htlaw.specs.Actions.{action}
use Rattle.ck_htlaw.specs.Law.{TableLaw, IsTableRun, look_state_of, retries_of}
use Rattle.ck_htlaw.specs.Layout.{counters_of, arena, table_words, at_of, log_of, words_of}
use Rattle.ck_htlaw.specs.Look.{LookState, no_look, at_version}
use Rattle.ck_htlaw.specs.Table.{Layout, ReaderState, LocalState, reader, is_table_word, MayLookStep, LooksOn, after_own, after_other, after_look_step}
use Rattle.ck_htlaw.specs.Client.{Answers, answers_after, table, table_next, look_ends, looks_next}
use Rattle.ck_history.specs.declared.log.Look.{Look}
use Rattle.ck_history.specs.declared.log.Look.TheVariants.{Again}
use lib.ListN.{get_elem?}
use Rattle.atomic_table.proofs.Lists.{at_last}
use Rattle.ck_htread.specs.Answered.{IsOut, PlacesLaw, HasAnswered, steps_of, AnswersAlone}
use Rattle.ck_htread.proofs.Telling.{record_of, has_answered}
use Rattle.ck_htread.proofs.Alone.{account_of, counter_stands, gives}
use Rattle.ck_htread.specs.declared.search.Search.{Search}
use Rattle.ck_htread.specs.Scan.{state_after_scan, scan_loads}
use Rattle.ck_htread.specs.Reading.{IsInLook, IsDueAt, state_then, LookTotals, totals_of, totals_after_look, totals_after_load, IsInState, IsBetweenLooks, LoadsSlots, LoadsLook, look_entries, look_result}
use Rattle.ck_htlaw.specs.Host.{Host, lies}
use Rattle.ck_htlaw.specs.Known.{knows}
use Rattle.ck_htlaw.proofs.Tokens.{local_after_all, is_inside, knows_next}
use Rattle.ck_htread.proofs.Loads.{may_read}

plus_zero : (n : ℕ) → n ≡ n + 0
plus_zero n = omega arith

plus_one : (n : ℕ) → suc n ≡ n + 1
plus_one n = omega arith

-- what was found is told by the answer
pub found_is : (found x : Option ℕ) → look_result found ≡ look_result x → found ≡ x
found_is (Some v) (Some z) e = let s : v ≡ z = cc in ap Some s
found_is (Some v) None e = absurd cc
found_is None (Some z) e = absurd cc
found_is None None e = refl

module _ {D : Type 0} (host : Host D) (o : Origin D) where
  abbrev l : Layout
  l = lies host o

  -- the load of the root
  pub may_enter : IsWithin table host.client host.place host.part → (t : Token D) → origin t ≡ o → IsDomainToken host.client t → (y : ReaderState) → (knows host o t).local ≡ reader y → y.look_state ≡ no_look
      → (opens : List ℕ) (key n : ℕ) → opens ≡ look ∷ key ∷ [] → MayFollow host.client t (entry opens (Load l.base n))
  may_enter h t same run y local between opens key n name =
      subst (λ (os : List ℕ). MayFollow host.client t (entry os (Load l.base n))) (sym name)
      (may_read host o h t same run y local (look ∷ key ∷ []) l.base n refl
      (subst (λ (s : LookState). MayLookStep l y.root s (Load l.base n)) (sym between) refl)
      (subst (λ (s : LookState). LooksOn s (look ∷ key ∷ [])) (sym between) refl)
      (le_refl l.base) (omega arith))

  pub enters : (t u : Token D) (y : ReaderState) (key x : ℕ) → (knows host o t).local ≡ reader y → y.look_state ≡ no_look → u ≡ adding t (entry (look ∷ key ∷ []) (Load l.base x) ∷ [])
      → IsInState host o x (at_version key) (totals_of (knows host o t)) u
  enters t u y key x local between made =
      let e : Entry = entry (look ∷ key ∷ []) (Load l.base x) in
      let own : is_table_word l e.step ≡ true = is_inside l e.step (le_refl l.base) (omega arith) in
      let after = knows_next host o t u e made in
      let answered : List (ℕ × Option ℕ) = (knows host o t).looks in
      record {
        local = ap (λ (a : Answers). a.local) after
            ∙ (ap (λ (a : LocalState). table_next l a e) local
            ∙ (ap (λ (b : Bool). cond b (after_own l (action l) key_of (reader y) e) (after_other l (reader y) e)) own
            ∙ (ap (λ (s : LookState). reader (after_look_step l y key s (Load l.base x))) between ∙ ap (λ (n : ℕ). reader (record { root = x; look_state = at_version key; retries = n })) (sym (ap retries_of local)))));
        looks = ap (λ (a : Answers). a.looks) after
            ∙ (ap (λ (a : LocalState). answered ++ looks_next l a e) local
            ∙ (ap (λ (b : Bool). answered ++ cond (b && true) (look_ends y.look_state (Load l.base x)) []) own
            ∙ (ap (λ (s : LookState). answered ++ look_ends s (Load l.base x)) between ∙ append-nil answered)));
      }

module _ {D : Type 0} (host : Host D) (o : Origin D) (root key c : ℕ) where
  abbrev k : Layout
  k = lies host o

  abbrev order : Order
  order = k.order root

  pub at_end_within : (found : Option ℕ) → IsInLook (state_after_scan order key c found)
  at_end_within (Some v) = tt
  at_end_within None = tt

  pub due_at_end : (found : Option ℕ) (w : ℕ) → w ≡ k.counter root → IsDueAt k root (state_after_scan order key c found) w
  due_at_end (Some v) w e n = e
  due_at_end None w e n = e

  -- the second load of the counter
  pub ended : (found : Option ℕ) (totals : LookTotals) (x : ℕ) (t : Token D) → IsInState host o root (state_then order (state_after_scan order key c found) x) (totals_after_load totals (state_after_scan order key c found) x) t
      → IsInState host o root no_look (totals_after_look key c x found totals) t
  ended (Some v) totals x t at = at
  ended None totals x t at = at

  -- the steps, put together
  pub all_steps : (t t1 t2 t3 t4 : Token D) (base counter x : ℕ) (ss : List Step) → t1 ≡ adding t (entry (look ∷ key ∷ []) (Load base root) ∷ []) → t2 ≡ adding t1 (further (Load counter c) ∷ [])
      → t3 ≡ adding t2 (map further ss) → t4 ≡ adding t3 (further (Load counter x) ∷ []) → t4 ≡ adding t (call look (key ∷ []) (Load base root ∷ Load counter c ∷ (ss ++ Load counter x ∷ [])))
  all_steps t t1 t2 t3 t4 base counter x ss a b d e =
      let two : t2 ≡ adding t (entry (look ∷ key ∷ []) (Load base root) ∷ further (Load counter c) ∷ []) = b ∙ (ap (λ (w : Token D). adding w (further (Load counter c) ∷ [])) a ∙ adding-append t _ _) in
      let three : t3 ≡ adding t (entry (look ∷ key ∷ []) (Load base root) ∷ further (Load counter c) ∷ map further ss) = d ∙ (ap (λ (w : Token D). adding w (map further ss)) two ∙ adding-append t _ _) in
      e ∙ (ap (λ (w : Token D). adding w (further (Load counter x) ∷ [])) three
      ∙ (adding-append t _ _ ∙ ap (λ (es : List Entry). adding t (entry (look ∷ key ∷ []) (Load base root) ∷ further (Load counter c) ∷ es)) (sym (map-append further ss (Load counter x ∷ [])))))

module _ {D : Type 0} (host : Host D) (o : Origin D) where
  abbrev w : Layout
  w = lies host o

  -- all that a look loaded
  pub looked : (t t1 t2 t3 u : Token D) (p : Search) (found : Option ℕ) (x at : ℕ) → t1 ≡ adding t (entry (look ∷ p.key ∷ []) (Load w.base p.root) ∷ [])
      → t2 ≡ adding t1 (further (Load at p.counter) ∷ []) → LoadsSlots host o p (totals_of (knows host o t)) t2 found t3 → u ≡ adding t3 (further (Load at x) ∷ []) → at ≡ w.counter p.root
      → IsInState host o p.root no_look (totals_after_look p.key p.counter x found (totals_of (knows host o t))) u → p.counter ≤ x → LoadsLook host o p.key t p.counter x found u
  looked t t1 t2 t3 u p found x at a b h e at_is is risen = record {
    root = p.root;
    slots = h.slots;
    finds = h.finds;
    steps = all_steps host o p.root p.key p.counter t t1 t2 t3 u w.base (w.counter p.root) x (scan_loads w p.root p.key 0 h.slots) a
        (b ∙ ap (λ (k : ℕ). adding t1 (further (Load k p.counter) ∷ [])) at_is) h.steps (e ∙ ap (λ (k : ℕ). adding t3 (further (Load k x) ∷ [])) at_is);
    at = is;
    risen = risen;
  }

  -- its answer, by what it loaded
  module _ (key : ℕ) (t u : Token D) (before after : ℕ) (found : Option ℕ) (h : LoadsLook host o key t before after found u) where
    pub looks_more : before ≡ after → (knows host o u).looks ≡ (knows host o t).looks ++ (key, found) ∷ []
    looks_more e = h.at.looks ∙ ap (λ (b : Bool). (knows host o t).looks ++ cond b ((key, found) ∷ []) []) (eq-eqb before after e)

    pub looks_same : before ≢ after → (knows host o u).looks ≡ (knows host o t).looks ++ []
    looks_same e = h.at.looks ∙ ap (λ (b : Bool). (knows host o t).looks ++ cond b ((key, found) ∷ []) []) (ne_eqb before after e)

    abbrev y : ReaderState
    y = record { root = h.root; look_state = no_look; retries = (totals_after_look key before after found (totals_of (knows host o t))).retries }

    -- how many looks were to be made again
    pub none_retried : before ≡ after → (v : Token D) → v ≡ u → retries_of (knows host o v).local ≡ retries_of (knows host o t).local + 0
    none_retried e v is = ap (λ (v : Token D). retries_of (knows host o v).local) is ∙ (ap retries_of h.at.local ∙ (ap (λ (b : Bool). cond b (retries_of (knows host o t).local) (suc (retries_of (knows host o t).local))) (eq-eqb before after e) ∙ plus_zero (retries_of (knows host o t).local)))

    pub one_retried : before ≢ after → (v : Token D) → v ≡ u → retries_of (knows host o v).local ≡ retries_of (knows host o t).local + 1
    one_retried e v is = ap (λ (v : Token D). retries_of (knows host o v).local) is ∙ (ap retries_of h.at.local ∙ (ap (λ (b : Bool). cond b (retries_of (knows host o t).local) (suc (retries_of (knows host o t).local))) (ne_eqb before after e) ∙ plus_one (retries_of (knows host o t).local)))

    -- where the pass is then, by its tally and the looks that are answered now
    between_then : (more : List (ℕ × Option ℕ)) → (knows host o u).looks ≡ (knows host o t).looks ++ more → (p q : Pass D) → IsBetweenLooks host o p → p.token ≡ t → q.token ≡ u → q.tally ≡ p.tally + length more → q.calls ≡ p.calls + length more → IsBetweenLooks host o q
    between_then more looks p q was is_t is_u tally calls = record {
      reader_state = y;
      local = ap (λ (v : Token D). (knows host o v).local) is_u ∙ h.at.local;
      outside = refl;
      tally = (let n = ap (λ (v : Token D). length (knows host o v).looks) is_u ∙ (ap length looks ∙ length-append (knows host o t).looks more) in
          let m = was.tally ∙ ap (λ (v : Token D). length (knows host o v).looks) is_t in omega arith);
      few = (let f = was.few in omega arith);
    }

    pub between_answered : before ≡ after → (p q : Pass D) → IsBetweenLooks host o p → p.token ≡ t → q.token ≡ u → q.tally ≡ p.tally + 1 → q.calls ≡ p.calls + 1 → IsBetweenLooks host o q
    between_answered e = between_then ((key, found) ∷ []) (looks_more e)

    pub between_retried : before ≢ after → (p q : Pass D) → IsBetweenLooks host o p → p.token ≡ t → q.token ≡ u → q.tally ≡ p.tally + 0 → q.calls ≡ p.calls + 0 → IsBetweenLooks host o q
    between_retried e = between_then [] (looks_same e)

    -- the answer has a place
    pub answered : PlacesLaw host o → before ≡ after → (v : Token D) → v ≡ u → (x : Option ℕ) → found ≡ x → HasAnswered host o v (length (knows host o t).looks) key x
    answered law e v is x same = subst (λ (v : Token D). HasAnswered host o v (length (knows host o t).looks) key x) (sym is)
        (has_answered host o law u y h.at.local (length (knows host o t).looks) key x
        (ap (λ (ls : List (ℕ × Option ℕ)). get_elem? ls (length (knows host o t).looks)) (looks_more e ∙ ap (λ (z : Option ℕ). (knows host o t).looks ++ (key, z) ∷ []) same)
        ∙ at_last (knows host o t).looks (key, x) (length (knows host o t).looks) refl))

    -- where no other token's step is among its steps, the counter stands, and its answer is the map's
    pub alone : PlacesLaw host o → TableLaw host o → (y : ReaderState) → (knows host o t).local ≡ reader y → y.look_state ≡ no_look → (v : Token D) → v ≡ u → (answer : Look) → answer ≡ cond (before == after) (look_result found) (Again before after) → AnswersAlone host o t key answer v
    alone places law y local between v is_u answer is past run is_true s =
        let n = record_of host o t y local in
        let r : ℕ = n.0 in
        let es : List Entry = look_entries host o key h.root before h.slots after in
        let same : s.steps ≡ es = append_cancel_left (did t) s.steps es (ap did (sym s.made ∙ (is_u ∙ h.steps))) in
        let splits : run ≡ past ++ (steps_of (suc r) es ++ s.rest) = s.splits ∙ (λ j. past ++ (steps_of (n.1 j) (same j) ++ s.rest)) in
        let is_run = subst (IsTableRun host o) splits is_true in
        let was : account (suc r) past ≡ did t = subst (λ (k : ℕ). account k past ≡ did t) n.1 s.before in
        let at_first : answers_after w o.words (suc r) (account (suc r) past) ≡ knows host o t = λ j. answers_after w o.words (sym n.1 j) (was j) in
        let at_last : answers_after w o.words (suc r) (account (suc r) (past ++ steps_of (suc r) es)) ≡ knows host o u =
        ap (answers_after w o.words (suc r)) (account-append (suc r) past (steps_of (suc r) es) ∙ (λ j. was j ++ account_of (suc r) es j))
        ∙ ((λ j. answers_after w o.words (sym n.1 j) (did t ++ es)) ∙ ap (knows host o) (sym h.steps)) in
        let stands : before ≡ after = counter_stands host o (replay o.words past) (suc r) key h.root before after h.slots s.rest (true_parts o.words past _ is_run.is_true).1 in
        let out : IsOut host o r past = ap look_state_of (sym (local_after_all w (answers_after w o.words (suc r) []) (account (suc r) past)) ∙ (ap (λ (a : Answers). a.local) at_first ∙ local)) ∙ between in
        let gave = gives host o places law r past s.rest es is_run out key found (ap (λ (a : Answers). a.looks) at_last ∙ (looks_more stands ∙ ap (λ (a : Answers). a.looks ++ (key, found) ∷ []) (sym at_first))) in
        is ∙ (ap (λ (b : Bool). cond b (look_result found) (Again before after)) (eq-eqb before after stands) ∙ ap look_result (sym gave))

  pub again_is : (b a : ℕ) (x : Option ℕ) → Again b a ≡ look_result x → ⊥
  again_is b a (Some z) e = cc
  again_is b a None e = cc

  pub stood : (c x : ℕ) (a b : Look) → c ≡ x → a ≡ cond (c == x) a b
  stood c x a b e = sym (ap (λ (t : Bool). cond t a b) (eq-eqb c x e))

  pub moved_on : (c x : ℕ) (a b : Look) → c ≢ x → b ≡ cond (c == x) a b
  moved_on c x a b e = sym (ap (λ (t : Bool). cond t a b) (ne_eqb c x e))

  -- the counter of a region lies where a look loads it
  pub counter_is : (root counters : ℕ) → counters ≡ counters_of (host.part o.config.client) → w.base + (1 + (root / 32 - (1 + counters)) / 32) ≡ w.counter root
  counter_is root counters e = subst (λ (n : ℕ). w.base + (1 + (root / 32 - (1 + counters)) / 32) ≡ w.base + 1 + (root / 32 - (1 + n)) / 32) e (omega arith)

-- and that is one of the table's words
pub counter_inside : (base counters n root : ℕ) → counters ≡ n → arena n ≤ at_of root → at_of root + words_of root ≤ table_words n → base + (1 + (root / 32 - (1 + counters)) / 32) < base + table_words n
counter_inside base counters n root e low high = let some = pow_pos (log_of root) in omega arith
