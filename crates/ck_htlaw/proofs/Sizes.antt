-- No region has more than 2^19 slots.
use Rattle.std.proofs.Common.{◌≡◌, ℕ, ◌+◌, ◌-◌, ◌*◌, ◌%◌, ◌^◌, ◌<◌, ◌≤◌, Bool, true, false, cond, nat_lt, nat_le, ◌==◌, refl, ap, subst, arith}
use Rattle.std.proofs.lemmas.Bool.Decides.{nat_tests}
use mathlib.Core.Logic.{dite}
use native.Mathlib.Decide.{ℕ_discrete}
use Rattle.ck_run.specs.declared.account.Entry.{Entry}
use Rattle.ck_run.specs.Range.{word_of}
use Rattle.ck_slots.specs.Counting.{rebuilt_log}
use Rattle.ck_htplan.specs.declared.cases.Plan.{Plan}
use Rattle.ck_htplan.specs.declared.cases.Plan.TheVariants.{Empty, Reuse, Stand, Move}
use Rattle.ck_htlaw.specs.Calls.{Opening, setting, putting, removing, tidying, looking, other, opening_of}
use Rattle.ck_htlaw.specs.Stages.{Target, empty, reuse, move, Stage, idle, after_rebuild}
use Rattle.ck_htlaw.specs.Table.{Layout, Action, inserts, nothing, begins_rebuild, WriterState}
use Rattle.ck_htlaw.specs.Actions.{most, job, keys_now, tombstones_now, plan_now, root_at, goes_in, adds, to_set, to_put, to_remove, by_call, by_stage, action}
use Rattle.ck_htlaw.specs.Layout.{log_of}
use Rattle.ck_htlaw.specs.Invariant.{BeginsRebuild, IsTaking}

abbrev Small : Action → Type 0
Small a = (root : ℕ) → BeginsRebuild a root → log_of root ≤ 19

named : (x c : ℕ) → c ≤ 19 → (32 * x + c) % 32 ≤ 19
named x c h = omega arith

-- a rebuild for a fresh key doesn't go beyond
rebuilt_small : (c keys : ℕ) → c ≤ 19 → nat_lt keys most ≡ true → rebuilt_log c keys ≤ 19
rebuilt_small c keys low room = by (nat_lt (2 ^ c) (2 * (keys + 1))) refl
  where
    few : (keys : ℕ) → nat_lt keys most ≡ true → 2 * (keys + 1) ≤ 524288
    few keys h = let b : keys < 262144 = grind (arith, nat_tests) in omega arith

    over : (a b : ℕ) → nat_lt a b ≡ true → a < b
    over a b h = grind (arith, nat_tests)

    by : (b : Bool) → nat_lt (2 ^ c) (2 * (keys + 1)) ≡ b → cond b (c + 1) c ≤ 19
    by true is = let f = few keys room in let g = over (2 ^ c) (2 * (keys + 1)) is in dite (ℕ_discrete c 19)
        (λ (e : c ≡ 19). absurd (let z : 2 ^ c ≡ 524288 = ap (λ (i : ℕ). 2 ^ i) e in omega arith))
        (λ n. omega arith)
    by false is = low

module _ (l : Layout) (p : WriterState) (low : log_of p.root ≤ 19) where
  if : (b : Bool) (a c : Action) → (b ≡ true → Small a) → (b ≡ false → Small c) → Small (cond b a c)
  if true a c x y = x refl
  if false a c x y = y refl

  at_version : (word c : ℕ) → c ≤ 19 → Small (begins_rebuild (root_at l p word c))
  at_version word c h root is = subst (λ (r : ℕ). log_of r ≤ 19) is (named (word - l.base) c h)

  adds_small : (c : Target) (k n s word : ℕ) → Small (adds l p c (job l p k n s) word)
  adds_small empty k n s word = if (nat_lt (keys_now l p) most) (goes_in l p empty (job l p k n s) word) nothing
      (λ room. if (nat_le (4 * (keys_now l p + tombstones_now l p + 1)) (3 * (l.order p.root).slots)) (inserts empty (job l p k n s)) (begins_rebuild (root_at l p word (rebuilt_log (log_of p.root) (keys_now l p))))
      (λ _ root h. absurd h) (λ _. at_version word (rebuilt_log (log_of p.root) (keys_now l p)) (rebuilt_small (log_of p.root) (keys_now l p) low room)))
      (λ _ root h. absurd h)
  adds_small reuse k n s word = if (nat_lt (keys_now l p) most) (inserts reuse (job l p k n s)) nothing (λ _ root h. absurd h) (λ _ root h. absurd h)
  adds_small (move from) k n s word = if (nat_lt (keys_now l p) most) (inserts (move from) (job l p k n s)) nothing (λ _ root h. absurd h) (λ _ root h. absurd h)

  set_small : (plan : Plan) (k n word : ℕ) → Small (to_set l p plan k n word)
  set_small (Empty s) k n word = adds_small empty k n s word
  set_small (Reuse s) k n word = adds_small reuse k n s word
  set_small (Stand s) k n word = λ root h. absurd h
  set_small (Move t s) k n word = λ root h. absurd h

  put_small : (plan : Plan) (k n word : ℕ) → Small (to_put l p plan k n word)
  put_small (Empty s) k n word = adds_small empty k n s word
  put_small (Reuse s) k n word = adds_small reuse k n s word
  put_small (Stand s) k n word = λ root h. absurd h
  put_small (Move t s) k n word = λ root h. absurd h

  remove_small : (plan : Plan) (k : ℕ) → Small (to_remove l p plan k)
  remove_small (Empty s) k = λ root h. absurd h
  remove_small (Reuse s) k = λ root h. absurd h
  remove_small (Stand s) k = λ root h. absurd h
  remove_small (Move t s) k = λ root h. absurd h

  call_small : (c : Opening) (word : ℕ) → Small (by_call l p c word)
  call_small (setting k n) word = set_small (plan_now l p k) k n word
  call_small (putting k n) word = put_small (plan_now l p k) k n word
  call_small (removing k) word = remove_small (plan_now l p k) k
  call_small tidying word = if (tombstones_now l p == 0) nothing (begins_rebuild (root_at l p word (log_of p.root))) (λ _ root h. absurd h) (λ _. at_version word (log_of p.root) low)
  call_small (looking k) word = λ root h. absurd h
  call_small other word = λ root h. absurd h

  taking_small : (g : Stage) (e : Entry) (root : ℕ) → IsTaking (by_stage l p g e) g root → log_of root ≤ 19
  taking_small idle e root h = call_small (opening_of e.opens) (word_of e.step) root h
  taking_small (after_rebuild c) e root h = call_small (opening_of c) (word_of e.step) root h
  taking_small g e root h = absurd h

  -- a region that is taken has no more than 2^19 slots
  pub takes_small : (e : Entry) (root : ℕ) → IsTaking (action l p e) p.stage root → log_of root ≤ 19
  takes_small e root h = taking_small p.stage e root h
