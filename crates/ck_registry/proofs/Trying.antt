-- The exchanges of `register`.
use Rattle.std.proofs.Common.{◌≡◌, ◌≢◌, ℕ, zero, suc, ◌+◌, ◌<◌, ◌≤◌, Bool, true, false, cond, ◌==◌, eq-eqb, eqb-true, ne_eqb, append-nil, List, [], ◌∷◌, ◌++◌, length, length-append, refl, sym, ap, ◌∙◌, subst, arith}
use Rattle.std.proofs.lemmas.List.Elements.{All-nil, All-push}
use Rattle.ck_run.specs.declared.account.Step.{Step}
use Rattle.ck_run.specs.declared.account.Step.TheVariants.{Exchange}
use Rattle.ck_run.specs.declared.account.Entry.{Entry}
use Rattle.ck_run.specs.Run.{entry, call}
use Rattle.ck_run.specs.Machine.{follows_of}
use Rattle.ck_run.specs.Tokens.{Table, table, viewing, adding, did, number, origin, MayMake}
use Rattle.ck_run.proofs.Moments.{adds_one}
use Rattle.ck_epoch.specs.State.{outside, depth_of, queue, Retirement}
use Rattle.ck_epoch.specs.Lists.{AreListsOf}
use Rattle.ck_epoch.proofs.Looks.{call_more}
use Rattle.ck_registry.specs.State.{Origin, Token, TokenState, Activity, away, trying, resting, state_word, register, after_try, after_step, MayStep, records_of, registry, state}
use Rattle.ck_registry.specs.Deferred.{Deferred, IsLeftOf}
use Rattle.ck_registry.specs.Ends.{IsVisitor, IsHolder, IsIdle, AreDeferred, depth}
use Rattle.ck_registry.specs.Calls.{tries, FindsNoRecord}
use Rattle.ck_registry.specs.Scan.{activity_at, opens_at, IsTrying, HasTaken, HasTried}
use Rattle.ck_registry.proofs.Stepping.{Steps, Went, opened, may_go, goes, went_as, state_found}
use Rattle.ck_registry.proofs.ScanSteps.{low_after}

tries_more : (records rec : ℕ) (found : List ℕ) (n : ℕ) → tries records rec (found ++ n ∷ []) ≡ tries records rec found ++ Exchange (state_word records (rec + length found)) 0 1 n ∷ []
tries_more records rec [] n = ap (λ (k : ℕ). Exchange (state_word records k) 0 1 n ∷ []) (omega arith)
tries_more records rec (x ∷ found) n = ap (λ (ss : List Step). Exchange (state_word records rec) 0 1 x ∷ ss) (tries_more records (rec + 1) found n ∙ ap (λ (k : ℕ). tries records (rec + 1) found ++ Exchange (state_word records k) 0 1 n ∷ []) (omega arith))

-- one exchange more of the call: its first one has its name
one_try : (records : ℕ) (found : List ℕ) (n : ℕ) → call register [] (tries records 0 found) ++ entry (opens_at (length found)) (Exchange (state_word records (length found)) 0 1 n) ∷ [] ≡ call register [] (tries records 0 (found ++ n ∷ []))
one_try records [] n = refl
one_try records (x ∷ found) n =
    let s : Step = Exchange (state_word records 0) 0 1 x in
    let more : ℕ = 1 + length found in
    let count : more ≡ suc (length found) = omega arith in
    call_more register [] s (tries records 1 found) (Exchange (state_word records (suc (length found))) 0 1 n ∷ [])
    ∙ ap (λ (ss : List Step). call register [] (s ∷ ss)) (ap (λ (k : ℕ). tries records 1 found ++ Exchange (state_word records k) 0 1 n ∷ []) (sym count) ∙ sym (tries_more records 1 found n))

-- where `register` stands before it tries a record that there is
may_try_at : (R rec : ℕ) (s : TokenState) (found : ℕ) → rec < R → MayStep R s (opens_at rec) [] (activity_at R rec) (Exchange (state_word R rec) 0 1 found)
may_try_at R zero s found low = ((refl, low, refl, refl), (refl, refl))
may_try_at R (suc rec) s found low = subst (λ (b : Bool). MayStep R s [] [] (cond b away (trying (suc rec))) (Exchange (state_word R (suc rec)) 0 1 found)) (sym (ne_eqb (suc rec) R (λ z. omega arith)))
    ((refl, low, refl, refl), (refl, refl))

after_try_at : (R rec : ℕ) (s : TokenState) (found : ℕ) → rec < R → after_step R s [] (activity_at R rec) (Exchange (state_word R rec) 0 1 found) ≡ after_try R s rec found
after_try_at R zero s found low = refl
after_try_at R (suc rec) s found low = ap (λ (b : Bool). after_step R s [] (cond b away (trying (suc rec))) (Exchange (state_word R (suc rec)) 0 1 found)) (ne_eqb (suc rec) R (λ z. omega arith))

next_activity : (R rec : ℕ) → activity_at R (rec + 1) ≡ cond (rec + 1 == R) away (trying (rec + 1))
next_activity R rec = let next : suc rec ≡ rec + 1 = omega arith in subst (λ (k : ℕ). activity_at R k ≡ cond (k == R) away (trying k)) next refl

-- a visitor between two calls may register
pub tries_first : (t : Token) (d : Deferred) → IsVisitor t d → IsTrying t t 0
tries_first t d v = record {
  low = v.low;
  made = (state t).steps;
  at = record { part = v.part; state = ap (λ (a : Activity). record (state t) { activity = a }) v.stands };
  found = [];
  count = refl;
  taken = All-nil (λ (n : ℕ). n ≡ 1);
  steps = ap (λ (es : List Entry). viewing t (record t.view { own = record t.view.own { entries = es } })) (sym (append-nil (did t)));
}

one_of : (n : ℕ) → n ≤ 1 → n ≢ 0 → n ≡ 1
one_of zero low other = absurd (other refl)
one_of (suc n) low other = omega arith

pushed : (s : TokenState) (k : ℕ) (x y : Activity) (b : Bool) → record (cond b (record s { activity = x }) (record s { activity = y })) { steps = k } ≡ record s { activity = cond b x y; steps = k }
pushed s k x y true = refl
pushed s k x y false = refl

-- one record
module _ (t u : Token) (rec : ℕ) (at : IsTrying t u rec) (low : rec < records_of (origin t)) where
  abbrev R : ℕ
  R = records_of (origin t)

  abbrev here : TokenState
  here = record (state t) { activity = activity_at R rec; steps = at.made }

  at_record : Went t u here
  at_record = record { at = at.at; same = ap origin at.steps; number = ap number at.steps }

  number_low : number t < (origin t).tokens
  number_low = subst (λ (n : ℕ). n < (origin t).tokens) at_record.number (subst (λ (o : Origin). number u < o.tokens) at_record.same at.low)

  abbrev exchanges : ℕ → ℕ → Entry
  exchanges w n = entry (opens_at rec) (Exchange w 0 1 n)

  pub may_try : (w n : ℕ) → w ≡ state_word R rec → MayMake (follows_of registry) u (exchanges w n)
  may_try w n is = may_go t u here at_record (exchanges w n) number_low
      (subst (λ (x : ℕ). MayStep R here (opens_at rec) [] (activity_at R rec) (Exchange x 0 1 n)) (sym is) (may_try_at R rec here n low))

  module _ (v : Token) (w n : ℕ) (w_is : w ≡ state_word R rec) (made : Steps u (exchanges w n) v) where
    tried_state : Went t v (record (after_try R here rec n) { steps = at.made + 1 })
    tried_state = went_as t v _ (record (after_try R here rec n) { steps = at.made + 1 }) (goes t u here at_record v (exchanges w n) made)
        (ap (λ (x : TokenState). record x { steps = at.made + 1 }) (ap (λ (x : ℕ). after_step R here [] (activity_at R rec) (Exchange x 0 1 n)) w_is ∙ after_try_at R rec here n low))

    abbrev shown : ℕ → ℕ → Token
    shown r x = adding t (call register [] (tries R 0 at.found) ++ entry (opens_at r) (Exchange x 0 1 n) ∷ [])

    tried_steps : v ≡ adding t (call register [] (tries R 0 (at.found ++ n ∷ [])))
    tried_steps = adds_one (follows_of registry) t u v (call register [] (tries R 0 at.found)) (exchanges w n) at.steps made
        ∙ (ap (shown rec) w_is ∙ (ap (λ (r : ℕ). shown r (state_word R r)) (sym at.count) ∙ ap (adding t) (one_try R at.found n)))

    taken : n ≡ 0 → HasTaken t v rec
    taken free =
        let s1 : TokenState = record (state t) { activity = resting; section = outside; rec = rec; steps = at.made + 1 } in
        let w = went_as t v _ s1 tried_state
        (ap (λ (b : Bool). record (cond b (record here { activity = resting; section = outside; rec = rec }) (cond (rec + 1 == R) (record here { activity = away }) (record here { activity = trying (rec + 1) }))) { steps = at.made + 1 }) (eq-eqb n 0 free)) in
        record {
          low = low_after t v s1 w number_low;
          made = at.made + 1;
          at = w.at;
          registers = record { found = at.found; count = at.count; taken = at.taken; steps = tried_steps ∙ ap (λ (k : ℕ). adding t (call register [] (tries R 0 (at.found ++ k ∷ [])))) free };
        }

    is_held : n ≢ 0 → n ≡ 1
    is_held other = one_of n
        (state_found u v (opens_at rec) rec 0 1 n at.at.part (subst (λ (o : Origin). rec < records_of o) (sym at_record.same) low)
        (subst (λ (x : ℕ). Steps u (exchanges x n) v) (w_is ∙ ap (λ (o : Origin). state_word (records_of o) rec) (sym at_record.same)) made)) other

    held_by_other : n ≢ 0 → IsTrying t v (rec + 1)
    held_by_other other =
        let s1 : TokenState = record (state t) { activity = activity_at R (rec + 1); steps = at.made + 1 } in
        let w = went_as t v _ s1 tried_state
        (ap (λ (b : Bool). record (cond b (record here { activity = resting; section = outside; rec = rec }) (cond (rec + 1 == R) (record here { activity = away }) (record here { activity = trying (rec + 1) }))) { steps = at.made + 1 }) (ne_eqb n 0 other)
        ∙ (pushed here (at.made + 1) away (trying (rec + 1)) (rec + 1 == R) ∙ ap (λ (a : Activity). record (state t) { activity = a; steps = at.made + 1 }) (sym (next_activity R rec)))) in
        record {
          low = low_after t v s1 w number_low;
          made = at.made + 1;
          at = w.at;
          found = at.found ++ n ∷ [];
          count = length-append at.found (n ∷ []) ∙ ap (λ (k : ℕ). k + 1) at.count;
          taken = All-push (λ (k : ℕ). k ≡ 1) at.found n at.taken (is_held other);
          steps = tried_steps;
        }

    by_test : (b : Bool) → (n == 0) ≡ b → HasTried t v rec b
    by_test true test = taken (eqb-true n 0 test)
    by_test false test = held_by_other (λ (z : n ≡ 0). absurd (let yes = eq-eqb n 0 z in cc))

    pub tried : HasTried t v rec (n == 0)
    tried = by_test (n == 0) refl

-- it holds a record now
pub holds : (t u : Token) (rec : ℕ) (d : Deferred) → rec < records_of (origin t) → IsVisitor t d → HasTaken t u rec → IsHolder u rec 0 × AreDeferred u d
holds t u rec d low v h =
    let same : origin u ≡ origin t = ap origin h.registers.steps in (
      record {
        part = h.at.part;
        low = h.low;
        stands = subst (λ (s : TokenState). IsIdle s.activity) (sym h.at.state) tt;
        held = ap (λ (s : TokenState). s.rec) h.at.state;
        record_low = subst (λ (o : Origin). rec < records_of o) (sym same) low;
        section = (0, ap (λ (s : TokenState). s.section) h.at.state);
      },
      record {
        pending = subst (λ (ks : List Retirement). AreListsOf d.lists (queue ks)) (sym (ap (λ (s : TokenState). s.pending) h.at.state ∙ v.none)) v.pending;
        waits = subst (λ (s : TokenState). IsLeftOf d.waiting (queue s.dispatched)) (sym h.at.state) v.waits;
      },
    )

-- and no section is open, nothing is pending, and no call more is counted
pub begins : (t u : Token) (rec : ℕ) (d : Deferred) → IsVisitor t d → HasTaken t u rec → (depth u ≡ 0) × ((state u).pending ≡ []) × ((state u).calls ≡ (state t).calls) × ((state u).rec ≡ rec)
begins t u rec d v h = (
  ap (λ (s : TokenState). depth_of s.section) h.at.state,
  ap (λ (s : TokenState). s.pending) h.at.state ∙ v.none,
  ap (λ (s : TokenState). s.calls) h.at.state,
  ap (λ (s : TokenState). s.rec) h.at.state,
)

-- no record was free
at_end : (R : ℕ) → 1 ≤ R → activity_at R R ≡ away
at_end zero some = absurd (omega arith)
at_end (suc R) some = ap (λ (b : Bool). cond b away (trying (suc R))) (eq-eqb (suc R) (suc R) refl)

module _ (t u : Token) (d : Deferred) (v : IsVisitor t d) (at : IsTrying t u (records_of (origin t))) where
  pub none_free : FindsNoRecord (records_of (origin t)) t u
  none_free = record { found = at.found; count = at.count; taken = at.taken; steps = at.steps }

  pub still_visitor : IsVisitor u d
  still_visitor = record {
    part = at.at.part;
    low = at.low;
    stands = ap (λ (s : TokenState). s.activity) at.at.state ∙ at_end (records_of (origin t)) (opened t v.part).some_records;
    none = ap (λ (s : TokenState). s.pending) at.at.state ∙ v.none;
    pending = v.pending;
    empty = v.empty;
    waits = subst (λ (s : TokenState). IsLeftOf d.waiting (queue s.dispatched)) (sym at.at.state) v.waits;
  }

  pub still_calls : (state u).calls ≡ (state t).calls
  still_calls = ap (λ (s : TokenState). s.calls) at.at.state

-- the records of the registry are those of the token's table
pub trying_low : (t u : Token) (rec : ℕ) (now : Table ℕ) → IsTrying t u rec → table u ≡ now → rec < records_of now.origin → rec < records_of (origin t)
trying_low t u rec now at is low = subst (λ (o : Origin). rec < records_of o) (sym (ap (λ (x : Table ℕ). x.origin) is) ∙ ap origin at.steps) low
