-- The steps of a scan.
use Rattle.std.proofs.Common.{◌≡◌, ◌≢◌, ℕ, ◌+◌, ◌<◌, ◌≤◌, ◌^◌, inr, Bool, true, false, cond, ◌==◌, eq-eqb, ne_eqb, Option, Some, None, [], ◌∷◌, ◌++◌, refl, sym, ap, ◌∙◌, subst, arith}
use Rattle.std.proofs.lemmas.List.Elements.{All-nil}
use Rattle.ck_run.specs.declared.account.Step.TheVariants.{Load}
use Rattle.ck_run.specs.declared.account.Entry.{Entry}
use Rattle.ck_run.specs.Run.{entry, further, call}
use Rattle.ck_run.specs.Machine.{follows_of}
use Rattle.ck_run.specs.Tokens.{Table, table, adding, number, origin, MayMake}
use Rattle.ck_epoch.specs.State.{active_word, epoch_word, first_busy}
use Rattle.ck_epoch.specs.Calls.{RecordLook, scan_steps}
use Rattle.ck_epoch.proofs.Looks.{one_more, inactive_steps, active_steps, found_inactive, found_current, are_current}
use Rattle.ck_registry.specs.declared.answers.Finding.TheVariants.{AllInactive, AllCurrent, OneBehind}
use Rattle.ck_registry.specs.State.{Origin, Token, TokenState, Activity, resting, passing, checking, after_scan, scan, records_of, registry, state}
use Rattle.ck_registry.specs.Ends.{IsHolder}
use Rattle.ck_registry.specs.Scan.{begun, scanned, HasLookedAt, HasScanned}
use Rattle.ck_registry.proofs.Stepping.{Steps, Went, stays, opened, may_go, goes, went_as, passing_late, may_load, after_idle_load}

-- a number of a token's is that of the one that it began as
pub low_after : (t u : Token) (s : TokenState) → Went t u s → number t < (origin t).tokens → number u < (origin u).tokens
low_after t u s w low = subst (λ (n : ℕ). n < (origin u).tokens) (sym w.number) (subst (λ (o : Origin). number t < o.tokens) (sym w.same) low)

-- the first step
module _ (t : Token) (rec d : ℕ) (h : IsHolder t rec d) (few : (state t).calls < 2 ^ 40) where
  abbrev starts : ℕ → Entry
  starts n = entry (scan ∷ []) (Load 0 n)

  abbrev R : ℕ
  R = records_of (origin t)

  at_rest : Went t t (state t)
  at_rest = stays t (state t) h.part refl

  pub may_start : (n : ℕ) → MayMake (follows_of registry) t (starts n)
  may_start n = may_go t t (state t) at_rest (starts n) h.low
      (may_load R (state t) (scan ∷ []) [] (state t).activity d h.section.0 0 n h.stands h.section.1 (refl, few, inr (refl, refl)))

  module _ (u : Token) (n : ℕ) (made : Steps t (starts n) u) where
    abbrev s1 : TokenState
    s1 = record (begun n (state t)) { activity = passing n 0 None; steps = (state t).steps + 1 }

    at_first : Went t u s1
    at_first = went_as t u _ s1 (goes t t (state t) at_rest u (starts n) made)
        (ap (λ (x : TokenState). record x { steps = (state t).steps + 1 }) (after_idle_load R (state t) [] (state t).activity d h.section.0 0 n h.stands h.section.1))

    pub start_late : 4 ≤ n
    start_late = (passing_late t u s1 at_first n 0 None refl).0

    not_done : (0 == R) ≡ false
    not_done = ne_eqb 0 R (λ z. let b = (opened t h.part).some_records in omega arith)

    pub start : HasLookedAt t u n 0 None
    start = record {
      low = low_after t u s1 at_first h.low;
      made = (state t).steps + 1;
      at = (went_as t u s1 (record (scanned R (begun n (state t)) n 0 None) { steps = (state t).steps + 1 }) at_first
          (ap (λ (b : Bool). record (cond b (after_scan (begun n (state t)) n None) (record (begun n (state t)) { activity = passing n 0 None })) { steps = (state t).steps + 1 }) (sym not_done))).at;
      looked = [];
      count = refl;
      found = All-nil (λ (x : RecordLook). x.active ≡ 0);
      steps = made.0;
    }

-- what was passed, where the state has been written otherwise
scanned_as : (b : TokenState) (a : Activity) (k k' e rec : ℕ) (busy : Option ℕ) (all : Bool)
    → record (cond all (after_scan (record b { activity = a; steps = k }) e busy) (record (record b { activity = a; steps = k }) { activity = passing e rec busy })) { steps = k' }
    ≡ record (cond all (after_scan b e busy) (record b { activity = passing e rec busy })) { steps = k' }
scanned_as b a k k' e rec None true = refl
scanned_as b a k k' e rec (Some r) true = refl
scanned_as b a k k' e rec busy false = refl

-- one record
module _ (t u : Token) (e rec : ℕ) (busy : Option ℕ) (at : HasLookedAt t u e rec busy) (low : rec < records_of (origin t)) where
  abbrev S : ℕ
  S = records_of (origin t)

  abbrev b : TokenState
  b = begun e (state t)

  abbrev here : TokenState
  here = record b { activity = passing e rec busy; steps = at.made }

  at_record : Went t u here
  at_record = went_as t u (record (scanned S b e rec busy) { steps = at.made }) here (record { at = at.at; same = ap origin at.steps; number = ap number at.steps })
      (ap (λ (x : Bool). record (cond x (after_scan b e busy) (record b { activity = passing e rec busy })) { steps = at.made }) (ne_eqb rec S (λ z. let l = low in omega arith)))

  number_low : number t < (origin t).tokens
  number_low = subst (λ (n : ℕ). n < (origin t).tokens) at_record.number (subst (λ (o : Origin). number u < o.tokens) at_record.same at.low)

  pub may_see : (w n : ℕ) → w ≡ active_word rec → MayMake (follows_of registry) u (further (Load w n))
  may_see w n is = may_go t u here at_record (further (Load w n)) number_low (is, low, (refl, refl))

  module _ (v : Token) (w n : ℕ) (w_is : w ≡ active_word rec) (made : Steps u (further (Load w n)) v) where
    seen_state : (x : Bool) → (n == 0) ≡ x
        → Went t v (record (cond x (scanned S here e (rec + 1) busy) (record here { activity = checking e rec busy })) { steps = at.made + 1 })
    seen_state x test = went_as t v _ (record (cond x (scanned S here e (rec + 1) busy) (record here { activity = checking e rec busy })) { steps = at.made + 1 })
        (goes t u here at_record v (further (Load w n)) made)
        (ap (λ (y : Bool). record (cond y (scanned S here e (rec + 1) busy) (record here { activity = checking e rec busy })) { steps = at.made + 1 }) test)

    pub inactive : n ≡ 0 → HasLookedAt t v e (rec + 1) busy
    inactive none =
        let l : RecordLook = record { active = n; epoch = 0 } in
        let s = seen_state true (eq-eqb n 0 none) in
        record {
          low = low_after t v _ s number_low;
          made = at.made + 1;
          at = (went_as t v _ (record (scanned S b e (rec + 1) busy) { steps = at.made + 1 }) s (scanned_as b (passing e rec busy) at.made (at.made + 1) e (rec + 1) busy (rec + 1 == S))).at;
          looked = at.looked ++ l ∷ [];
          count = one_more rec at.looked l at.count;
          found = found_inactive e at.looked busy l none at.found;
          steps = inactive_steps (follows_of registry) t u scan e rec at.looked at.count at.steps v w n w_is made none;
        }

    -- it is active
    module _ (active : n ≢ 0) where
      abbrev there : TokenState
      there = record here { activity = checking e rec busy; steps = at.made + 1 }

      at_checking : Went t v there
      at_checking = seen_state false (ne_eqb n 0 active)

      pub may_compare : (x m : ℕ) → x ≡ epoch_word rec → MayMake (follows_of registry) v (further (Load x m))
      may_compare x m is = may_go t v there at_checking (further (Load x m)) number_low (is, low, (refl, refl))

      module _ (z : Token) (x m : ℕ) (x_is : x ≡ epoch_word rec) (compared : Steps v (further (Load x m)) z) where
        abbrev busier : Option ℕ
        busier = first_busy busy rec

        compared_state : (y : Bool) → (m == e) ≡ y
            → Went t z (record (cond y (scanned S there e (rec + 1) busier) (record there { activity = resting })) { steps = at.made + 1 + 1 })
        compared_state y test = went_as t z _ (record (cond y (scanned S there e (rec + 1) busier) (record there { activity = resting })) { steps = at.made + 1 + 1 })
            (goes t v there at_checking z (further (Load x m)) compared)
            (ap (λ (y : Bool). record (cond y (scanned S there e (rec + 1) busier) (record there { activity = resting })) { steps = at.made + 1 + 1 }) test)

        abbrev l : RecordLook
        l = record { active = n; epoch = m }

        compared_steps : z ≡ adding t (call scan [] (Load 0 e ∷ scan_steps 0 (at.looked ++ l ∷ [])))
        compared_steps = active_steps (follows_of registry) t u scan e rec at.looked at.count at.steps v w n w_is made active z x m x_is compared

        pub current : m ≡ e → HasLookedAt t z e (rec + 1) busier
        current is = let s = compared_state true (eq-eqb m e is) in record {
          low = low_after t z _ s number_low;
          made = at.made + 1 + 1;
          at = (went_as t z _ (record (scanned S b e (rec + 1) busier) { steps = at.made + 1 + 1 }) s
              (scanned_as b (checking e rec busy) (at.made + 1) (at.made + 1 + 1) e (rec + 1) busier (rec + 1 == S))).at;
          looked = at.looked ++ l ∷ [];
          count = one_more rec at.looked l at.count;
          found = found_current e n m rec at.looked busy active is at.count at.found;
          steps = compared_steps;
        }

        pub behind : m ≢ e → HasScanned t z e (OneBehind rec m)
        behind other = let s = compared_state false (ne_eqb m e other) in record {
          low = low_after t z _ s number_low;
          made = at.made + 1 + 1;
          at = s.at;
          finds = record {
            before = at.looked;
            active = n;
            at = at.count;
            current = are_current e at.looked busy at.found;
            is_active = active;
            other = other;
            steps = compared_steps;
          };
        }

-- all records were passed
module _ (t u : Token) (e : ℕ) where
  abbrev N : ℕ
  N = records_of (origin t)

  all_passed : (busy : Option ℕ) → (at : HasLookedAt t u e N busy) → Went t u (record (after_scan (begun e (state t)) e busy) { steps = at.made })
  all_passed busy at = went_as t u (record (scanned N (begun e (state t)) e N busy) { steps = at.made }) (record (after_scan (begun e (state t)) e busy) { steps = at.made })
      (record { at = at.at; same = ap origin at.steps; number = ap number at.steps })
      (ap (λ (x : Bool). record (cond x (after_scan (begun e (state t)) e busy) (record (begun e (state t)) { activity = passing e N busy })) { steps = at.made }) (eq-eqb N N refl))

  pub clear : HasLookedAt t u e N None → HasScanned t u e AllInactive
  clear at = record { low = at.low; made = at.made; at = (all_passed None at).at; finds = record { looked = at.looked; all = at.count; inactive = at.found; steps = at.steps } }

  pub all_current : (rec : ℕ) → HasLookedAt t u e N (Some rec) → HasScanned t u e (AllCurrent rec)
  all_current rec at = record { low = at.low; made = at.made; at = (all_passed (Some rec) at).at; finds = record { looked = at.looked; all = at.count; found = at.found; steps = at.steps } }

-- a record of the registry is one of the token's
pub low_record : (t u : Token) (e rec : ℕ) (busy : Option ℕ) (now : Table ℕ) → HasLookedAt t u e rec busy → table u ≡ now → rec < records_of now.origin → rec < records_of (origin t)
low_record t u e rec busy now at is low = subst (λ (o : Origin). rec < records_of o) (sym (ap (λ (x : Table ℕ). x.origin) is) ∙ ap origin at.steps) low

-- after the last record
pub end_record : (t u : Token) (e rec records : ℕ) (busy : Option ℕ) (d now : Table ℕ) → HasLookedAt t u e rec busy → table u ≡ now → d ≡ now → d.origin.config ≡ records → rec ≡ records
    → HasLookedAt t u e (records_of (origin t)) busy
end_record t u e rec records busy d now at is keeps told all = subst (λ (k : ℕ). HasLookedAt t u e k busy)
    (all ∙ (sym told ∙ (ap (λ (x : Table ℕ). records_of x.origin) (keeps ∙ sym is) ∙ ap records_of (ap origin at.steps)))) at
