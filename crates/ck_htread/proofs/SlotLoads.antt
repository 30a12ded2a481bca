-- The loads of one slot, and of the slots of a scan: pure steps over tokens.
use Rattle.std.proofs.Common.{◌≡◌, ◌≢◌, ℕ, ◌+◌, ◌*◌, ◌/◌, ◌%◌, Bool, true, false, cond, ◌==◌, ◌&&◌, eq-eqb, ne_eqb, List, [], ◌∷◌, map, refl, sym, ap, ◌∙◌, subst, arith}
use Rattle.ck_run.specs.declared.account.Step.{Step}
use Rattle.ck_run.specs.declared.account.Step.TheVariants.{Load}
use Rattle.ck_run.specs.declared.account.Entry.{Entry}
use Rattle.ck_run.specs.Run.{further}
use Rattle.ck_run.specs.Tokens.{adding}
use Rattle.ck_run.proofs.Moments.{adding-append}
use Rattle.ck_epoch.specs.State.{Origin, Token}
use Rattle.ck_slots.specs.Slots.{Order}
use Rattle.ck_probe.specs.ProbeOrder.{slot_of}
use Rattle.ck_htlaw.specs.Client.{hash_of}
use Rattle.ck_htread.specs.declared.search.Search.{Search}
use Rattle.ck_htread.specs.declared.search.Finding.TheVariants.{Vacant, Other, Match}
use Rattle.ck_htlaw.specs.Look.{LookState, at_state, at_low, at_high, at_value, checking_value, checking_absence, passed}
use Rattle.ck_htlaw.specs.Table.{Layout}
use Rattle.ck_htread.specs.Scan.{SlotContent, has_key_words, slot_word, value_loads, slot_loads}
use Rattle.ck_htread.specs.Reading.{state_then, LookTotals, totals_after_load, IsInState, LoadsSlot}
use Rattle.ck_htlaw.specs.Host.{Host, lies}

-- the steps of a slot, by what its state and its words are
module _ (l : Layout) (root key i : ℕ) (s : SlotContent) where
  abbrev o : Order
  o = l.order root

  no_words : (s.state == 1) ≡ false → slot_loads l root key i s ≡ Load (slot_word l root key i 0) s.state ∷ []
  no_words e = ap (λ (b : Bool). Load (slot_word l root key i 0) s.state ∷ cond b (Load (slot_word l root key i 1) s.low ∷ Load (slot_word l root key i 2) s.high ∷ value_loads l root key i s) []) e

  some_words : s.state ≡ 1 → (b : Bool) → has_key_words o key s ≡ b
      → slot_loads l root key i s ≡ Load (slot_word l root key i 0) s.state ∷ Load (slot_word l root key i 1) s.low ∷ Load (slot_word l root key i 2) s.high ∷ cond b (Load (slot_word l root key i 3) s.value ∷ []) []
  some_words e b h =
      ap (λ (b : Bool). Load (slot_word l root key i 0) s.state ∷ cond b (Load (slot_word l root key i 1) s.low ∷ Load (slot_word l root key i 2) s.high ∷ value_loads l root key i s) []) (eq-eqb s.state 1 e)
      ∙ ap (λ (b : Bool). Load (slot_word l root key i 0) s.state ∷ Load (slot_word l root key i 1) s.low ∷ Load (slot_word l root key i 2) s.high ∷ cond b (Load (slot_word l root key i 3) s.value ∷ []) []) h

both : (a b : Bool) (x y : LookState) → cond a (cond b x y) y ≡ cond (a && b) x y
both true b x y = refl
both false b x y = refl

module _ {D : Type 0} (host : Host D) (o : Origin D) (p : Search) (i : ℕ) (totals : LookTotals) where
  abbrev l : Layout
  l = lies host o

  abbrev order : Order
  order = l.order p.root

  abbrev At : LookState → Token D → Type 0
  At look_state t = IsInState host o p.root look_state totals t

  -- after a load that ends no look
  abbrev Then : LookState → ℕ → Token D → Type 0
  Then look_state x t = IsInState host o p.root (state_then order look_state x) (totals_after_load totals look_state x) t

  moves : (look_state spot' : LookState) (t : Token D) → look_state ≡ spot' → IsInState host o p.root look_state totals t → At spot' t
  moves look_state spot' t e at = subst (λ (s : LookState). At s t) e at

  -- by the state
  pub vacant_goes : (t : Token D) (x : ℕ) → x ≡ 0 → Then (at_state p.key p.counter i) x t → At (checking_absence p.key p.counter) t
  vacant_goes t x e at = moves _ _ t (ap (λ (b : Bool). cond b (checking_absence p.key p.counter) (cond (x == 1) (at_low p.key p.counter i) (passed order p.key p.counter i))) (eq-eqb x 0 e)) at

  pub full_goes : (t : Token D) (x : ℕ) → x ≡ 1 → Then (at_state p.key p.counter i) x t → At (at_low p.key p.counter i) t
  full_goes t x e at = moves _ _ t
      (ap (λ (b : Bool). cond b (checking_absence p.key p.counter) (cond (x == 1) (at_low p.key p.counter i) (passed order p.key p.counter i))) (ne_eqb x 0 (λ z. omega arith))
      ∙ ap (λ (b : Bool). cond b (at_low p.key p.counter i) (passed order p.key p.counter i)) (eq-eqb x 1 e)) at

  pub other_goes : (t : Token D) (x : ℕ) → x ≢ 0 → x ≢ 1 → Then (at_state p.key p.counter i) x t → At (passed order p.key p.counter i) t
  other_goes t x n0 n1 at = moves _ _ t
      (ap (λ (b : Bool). cond b (checking_absence p.key p.counter) (cond (x == 1) (at_low p.key p.counter i) (passed order p.key p.counter i))) (ne_eqb x 0 n0)
      ∙ ap (λ (b : Bool). cond b (at_low p.key p.counter i) (passed order p.key p.counter i)) (ne_eqb x 1 n1)) at

  -- by the two words of the key
  pub low_goes : (t : Token D) (y : ℕ) → Then (at_low p.key p.counter i) y t → At (at_high p.key p.counter i y) t
  low_goes t y at = moves _ _ t refl at

  pub key_goes : (t : Token D) (y z : ℕ) (b : Bool) → ((y == order.low_of p.key) && (z == order.high_of p.key)) ≡ b → Then (at_high p.key p.counter i y) z t
      → At (cond b (at_value p.key p.counter i) (passed order p.key p.counter i)) t
  key_goes t y z b e at = moves _ _ t
      (both (y == order.low_of p.key) (z == order.high_of p.key) (at_value p.key p.counter i) (passed order p.key p.counter i) ∙ ap (λ (c : Bool). cond c (at_value p.key p.counter i) (passed order p.key p.counter i)) e) at

  pub value_goes : (t : Token D) (v : ℕ) → Then (at_value p.key p.counter i) v t → At (checking_value p.key p.counter v) t
  value_goes t v at = moves _ _ t refl at

  -- the word j of the slot
  pub word_of_slot : (slot j : ℕ) → slot ≡ order.probe p.key i → l.base + (p.root / 32 + 4 * slot + j) ≡ slot_word l p.root p.key i j
  word_of_slot slot j e = subst (λ (s : ℕ). l.base + (p.root / 32 + 4 * slot + j) ≡ l.word p.root s j) e (omega arith)

  abbrev Loads : Token D → ℕ → ℕ → Token D → Type 0
  Loads t j x u = u ≡ adding t (further (Load (slot_word l p.root p.key i j) x) ∷ [])

  pub loads_is : (t u : Token D) (j k x : ℕ) → u ≡ adding t (further (Load k x) ∷ []) → k ≡ slot_word l p.root p.key i j → Loads t j x u
  loads_is t u j k x made e = made ∙ ap (λ (w : ℕ). adding t (further (Load w x) ∷ [])) e

  -- what a slot told
  pub tells_vacant : (t u : Token D) (x : ℕ) → Loads t 0 x u → x ≡ 0 → At (checking_absence p.key p.counter) u → LoadsSlot host o p i totals t Vacant u
  tells_vacant t u x made e at =
      let s : SlotContent = record { state = x; low = 0; high = 0; value = 0 } in
      record {
        slot = s;
        tells = e;
        steps = made ∙ ap (λ (ss : List Step). adding t (map further ss)) (sym (no_words l p.root p.key i s (ne_eqb x 1 (λ z. omega arith))));
        at = at;
      }

  pub tells_other : (t u : Token D) (x : ℕ) → Loads t 0 x u → x ≢ 0 → x ≢ 1 → At (passed order p.key p.counter i) u → LoadsSlot host o p i totals t Other u
  tells_other t u x made n0 n1 at =
      let s : SlotContent = record { state = x; low = 0; high = 0; value = 0 } in
      let no_state : (x == 1) ≡ false = ne_eqb x 1 n1 in
      record {
        slot = s;
        tells = record { not_empty = n0; other = ap (λ (b : Bool). b && has_key_words order p.key s) no_state };
        steps = made ∙ ap (λ (ss : List Step). adding t (map further ss)) (sym (no_words l p.root p.key i s no_state));
        at = at;
      }

  module _ (t t1 t2 t3 : Token D) (x y z : ℕ) (first : Loads t 0 x t1) (second : Loads t1 1 y t2) (third : Loads t2 2 z t3) (full : x ≡ 1) where
    abbrev three : List Entry
    three = further (Load (slot_word l p.root p.key i 0) x) ∷ further (Load (slot_word l p.root p.key i 1) y) ∷ further (Load (slot_word l p.root p.key i 2) z) ∷ []

    made_three : t3 ≡ adding t three
    made_three = third ∙ (ap (λ (w : Token D). adding w (further (Load (slot_word l p.root p.key i 2) z) ∷ [])) (second ∙ (ap (λ (w : Token D). adding w (further (Load (slot_word l p.root p.key i 1) y) ∷ [])) first ∙ adding-append t _ _)) ∙ adding-append t _ _)

    pub tells_other_key : ((y == order.low_of p.key) && (z == order.high_of p.key)) ≡ false → At (passed order p.key p.counter i) t3 → LoadsSlot host o p i totals t Other t3
    tells_other_key other at =
        let s : SlotContent = record { state = x; low = y; high = z; value = 0 } in
        record {
          slot = s;
          tells = record { not_empty = (λ e. omega arith); other = ap (λ (b : Bool). b && has_key_words order p.key s) (eq-eqb x 1 full) ∙ other };
          steps = made_three ∙ ap (λ (ss : List Step). adding t (map further ss)) (sym (some_words l p.root p.key i s full false other));
          at = at;
        }

    pub tells_match : (t4 : Token D) (v : ℕ) → Loads t3 3 v t4 → ((y == order.low_of p.key) && (z == order.high_of p.key)) ≡ true → At (checking_value p.key p.counter v) t4 → LoadsSlot host o p i totals t (Match v) t4
    tells_match t4 v fourth here at =
        let s : SlotContent = record { state = x; low = y; high = z; value = v } in
        record {
          slot = s;
          tells = (ap (λ (b : Bool). b && has_key_words order p.key s) (eq-eqb x 1 full) ∙ here, refl);
          steps = fourth ∙ (ap (λ (w : Token D). adding w (further (Load (slot_word l p.root p.key i 3) v) ∷ [])) made_three ∙ (adding-append t three _
              ∙ ap (λ (ss : List Step). adding t (map further ss)) (sym (some_words l p.root p.key i s full true here))));
          at = at;
        }

  -- the word j of the slot, by the hash
  pub word_in : (slot j hash : ℕ) → slot ≡ slot_of hash (p.root % 32) i → hash ≡ hash_of (host.part o.config.client) p.key → l.base + (p.root / 32 + 4 * slot + j) ≡ slot_word l p.root p.key i j
  word_in slot j hash e h = word_of_slot slot j (e ∙ ap (λ (n : ℕ). slot_of n (p.root % 32) i) h)
