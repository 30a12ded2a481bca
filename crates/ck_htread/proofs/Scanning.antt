-- The slots of a scan.
use Rattle.std.proofs.Common.{◌≡◌, ℕ, suc, ◌+◌, ◌^◌, ◌<◌, Bool, cond, ◌==◌, eq-eqb, ne_eqb, inl, inr, List, [], ◌∷◌, ◌++◌, map, length, length-append, append-nil, append_assoc, add-zero, refl, sym, ap, ◌∙◌, subst, arith}
use Rattle.std.specs.Prelude.{Some, None, All}
use Rattle.std.proofs.lemmas.List.Elements.{All-nil, All-push}
use Rattle.std.proofs.lemmas.List.{map-append}
use Rattle.ck_run.specs.declared.account.Step.{Step}
use Rattle.ck_run.specs.declared.account.Entry.{Entry}
use Rattle.ck_run.specs.Run.{further}
use Rattle.ck_run.specs.Tokens.{adding, did, viewing}
use Rattle.ck_run.proofs.Moments.{adding-append}
use Rattle.ck_epoch.specs.State.{Origin, Token}
use Rattle.ck_slots.specs.Slots.{Order}
use Rattle.ck_htread.specs.declared.search.Search.{Search}
use Rattle.ck_htread.specs.declared.search.Finding.TheVariants.{Vacant, Other, Match}
use Rattle.ck_htlaw.specs.Layout.{log_of}
use Rattle.ck_htlaw.specs.Look.{LookState, at_state, checking_absence}
use Rattle.ck_htlaw.specs.Table.{Layout}
use Rattle.ck_htread.specs.Scan.{SlotContent, IsOtherSlot, slot_loads, scan_loads}
use Rattle.ck_htread.specs.Reading.{LookTotals, IsInState, LoadsSlot, LoadsSlots}
use Rattle.ck_htlaw.specs.Host.{Host, lies}

scan_more : (l : Layout) (root key i : ℕ) (ss : List SlotContent) (s : SlotContent) → scan_loads l root key i (ss ++ s ∷ []) ≡ scan_loads l root key i ss ++ slot_loads l root key (i + length ss) s
scan_more l root key i [] s = append-nil (slot_loads l root key i s) ∙ ap (λ (n : ℕ). slot_loads l root key n s) (sym (add-zero i))
scan_more l root key i (x ∷ ss) s =
    ap (λ (more : List Step). slot_loads l root key i x ++ more) (scan_more l root key (suc i) ss s ∙ ap (λ (n : ℕ). scan_loads l root key (suc i) ss ++ slot_loads l root key n s) (omega arith))
    ∙ sym (append_assoc (slot_loads l root key i x) (scan_loads l root key (suc i) ss) (slot_loads l root key (i + length (x ∷ ss)) s))

module _ {D : Type 0} (host : Host D) (o : Origin D) (p : Search) (totals : LookTotals) where
  abbrev l : Layout
  l = lies host o

  abbrev order : Order
  order = l.order p.root

  -- about to load the slot at step i, where there is one
  abbrev state_at : ℕ → LookState
  state_at i = cond (i == order.slots) (checking_absence p.key p.counter) (at_state p.key p.counter i)

  -- the slots before step i were loaded, and passed
  pub record HasPassed (i : ℕ) (t u : Token D) : Type 0 where
    pub slots : List SlotContent
    pub many : length slots ≡ i
    pub others : All (IsOtherSlot order p.key) slots
    pub steps : u ≡ adding t (map further (scan_loads l p.root p.key 0 slots))
    pub at : IsInState host o p.root (state_at i) totals u

  -- at a step at which there is a slot
  pub at_slot : (i : ℕ) (t : Token D) → i < 2 ^ log_of p.root → IsInState host o p.root (state_at i) totals t → IsInState host o p.root (at_state p.key p.counter i) totals t
  at_slot i t low at = subst (λ (b : Bool). IsInState host o p.root (cond b (checking_absence p.key p.counter) (at_state p.key p.counter i)) totals t) (ne_eqb i order.slots (λ e. omega arith)) at

  pub none_passed : (t : Token D) → 0 < 2 ^ log_of p.root → IsInState host o p.root (at_state p.key p.counter 0) totals t → HasPassed 0 t t
  none_passed t some at = record {
    slots = [];
    many = refl;
    others = All-nil (IsOtherSlot order p.key);
    steps = ap (λ (es : List Entry). viewing t (record t.view { own = record t.view.own { entries = es } })) (sym (append-nil (did t)));
    at = subst (λ (b : Bool). IsInState host o p.root (cond b (checking_absence p.key p.counter) (at_state p.key p.counter 0)) totals t) (sym (ne_eqb 0 order.slots (λ e. omega arith))) at;
  }

  more_steps : (i : ℕ) (t u v : Token D) (h : HasPassed i t u) (s : SlotContent) → v ≡ adding u (map further (slot_loads l p.root p.key i s)) → v ≡ adding t (map further (scan_loads l p.root p.key 0 (h.slots ++ s ∷ [])))
  more_steps i t u v h s made =
      made ∙ (ap (λ (w : Token D). adding w (map further (slot_loads l p.root p.key i s))) h.steps
      ∙ (adding-append t _ _
      ∙ ap (λ (es : List Entry). adding t es) (sym (map-append further (scan_loads l p.root p.key 0 h.slots) (slot_loads l p.root p.key i s))
      ∙ ap (λ (ss : List Step). map further ss) (ap (λ (n : ℕ). scan_loads l p.root p.key 0 h.slots ++ slot_loads l p.root p.key n s) (sym h.many ∙ omega arith) ∙ sym (scan_more l p.root p.key 0 h.slots s)))))

  pub passes_more : (i j : ℕ) (t u v : Token D) → HasPassed i t u → j ≡ i + 1 → LoadsSlot host o p i totals u Other v → HasPassed j t v
  passes_more i j t u v h e s = record {
    slots = h.slots ++ s.slot ∷ [];
    many = (let n = length-append h.slots (s.slot ∷ []) in let m = h.many in omega arith);
    others = All-push (IsOtherSlot order p.key) h.slots s.slot h.others s.tells;
    steps = more_steps i t u v h s.slot s.steps;
    at = subst (λ (n : ℕ). IsInState host o p.root (state_at n) totals v) (let z : suc i ≡ j = omega arith in z) s.at;
  }

  -- the scan ends at a slot, or after all
  pub stops_vacant : (i : ℕ) (t u v : Token D) → i < 2 ^ log_of p.root → HasPassed i t u → LoadsSlot host o p i totals u Vacant v → LoadsSlots host o p totals t None v
  stops_vacant i t u v low h s = record {
    slots = h.slots ++ s.slot ∷ [];
    finds = record { before = h.slots; others = h.others; ends = inl (s.slot, refl, s.tells) };
    few = (let n = length-append h.slots (s.slot ∷ []) in let m = h.many in omega arith);
    steps = more_steps i t u v h s.slot s.steps;
    at = s.at;
  }

  pub stops_match : (i value : ℕ) (t u v : Token D) → i < 2 ^ log_of p.root → HasPassed i t u → LoadsSlot host o p i totals u (Match value) v → LoadsSlots host o p totals t (Some value) v
  stops_match i value t u v low h s = record {
    slots = h.slots ++ s.slot ∷ [];
    finds = record { before = h.slots; last = s.slot; parts = refl; others = h.others; tells = s.tells };
    few = (let n = length-append h.slots (s.slot ∷ []) in let m = h.many in omega arith);
    steps = more_steps i t u v h s.slot s.steps;
    at = s.at;
  }

  pub passed_all : (i : ℕ) (t u : Token D) → i ≡ 2 ^ log_of p.root → HasPassed i t u → LoadsSlots host o p totals t None u
  passed_all i t u all h = record {
    slots = h.slots;
    finds = record { before = h.slots; others = h.others; ends = inr (refl, h.many ∙ all) };
    few = (let m = h.many in omega arith);
    steps = h.steps;
    at = subst (λ (b : Bool). IsInState host o p.root (cond b (checking_absence p.key p.counter) (at_state p.key p.counter i)) totals u) (eq-eqb i order.slots all) h.at;
  }
