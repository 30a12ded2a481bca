-- A fresh key after a rebuild.
use Rattle.std.proofs.Common.{◌≡◌, ◌≢◌, ℕ, ◌+◌, ◌*◌, ◌^◌, ◌<◌, ◌≤◌, Bool, true, false, cond, nat_lt, nat_le, List, [], refl, sym, ap, ◌∙◌, arith, pow-add}
use mathlib.Core.Logic.{dite}
use native.Mathlib.Decide.{ℕ_discrete}
use Rattle.std.proofs.lemmas.Bool.Decides.{nat_tests}
use Rattle.std.proofs.Math.Nat.{pow-le-pow_right}
use Rattle.ck_run.specs.declared.account.Step.{Step}
use Rattle.ck_run.specs.Range.{word_of}
use Rattle.ck_run.specs.Run.{entry}
use Rattle.ck_slots.specs.Counting.{rebuilt_log}
use Rattle.ck_slots.proofs.Counts.{used_below, count_used}
use Rattle.ck_htplan.specs.declared.cases.Plan.TheVariants.{Empty}
use Rattle.ck_htplan.specs.Region.{view_of}
use Rattle.ck_htlaw.specs.declared.client.HtClient.{HtClient}
use Rattle.ck_htlaw.specs.Stages.{Insertion, empty, Stage, idle, after_rebuild}
use Rattle.ck_htlaw.specs.Layout.{log_of, counters_of, layout}
use Rattle.ck_htlaw.specs.Table.{Layout, WriterState, inserts, begins_rebuild}
use Rattle.ck_htlaw.specs.Actions.{action, by_stage, keys_now, plan_now, root_at}
use Rattle.ck_htlaw.specs.Client.{orders_of}
use Rattle.ck_htwrite.specs.declared.state.HtState.{HtState}
use Rattle.ck_htwrite.specs.Rebuild.{BeginsRebuildAt}
use Rattle.ck_htwrite.specs.State.{Reflects}
use Rattle.ck_htwrite.specs.Updates.{AddsFresh, IsAdding, IsRoomy}
use Rattle.ck_htwrite.proofs.Agree.{keys_are, tombstones_are}
use Rattle.ck_htwrite.proofs.Finding.{le_true}
use Rattle.ck_htwrite.proofs.Plans.{room, about_in, about_insert, rule_is}

-- how many slots a rebuild takes
pub record IsGrownLog (c keys log : ℕ) : Type 0 where
  pub least : 3 ≤ log
  pub most : log ≤ 19
  pub fits : keys + 2 ≤ 2 ^ log
  pub roomy : 4 * (keys + 1) ≤ 3 * 2 ^ log

twice : (c : ℕ) → 2 ^ (c + 1) ≡ 2 ^ c * 2
twice c = pow-add 2 c 1

eight : (c : ℕ) → 3 ≤ c → 8 ≤ 2 ^ c
eight c low = pow-le-pow_right (let two : 0 < 2 = omega arith in two) low

lt_is : (a b : ℕ) → nat_lt a b ≡ true → a < b
lt_is a b e = grind (arith, nat_tests)

lt_not : (a b : ℕ) → nat_lt a b ≡ false → b ≤ a
lt_not a b e = grind (arith, nat_tests)

pub grown_log : (c keys : ℕ) → 3 ≤ c → c ≤ 19 → keys < 262144 → keys + 1 ≤ 2 ^ c → IsGrownLog c keys (rebuilt_log c keys)
grown_log c keys low high few hole = by (nat_lt (2 ^ c) (2 * (keys + 1))) refl
  where
    by : (b : Bool) → nat_lt (2 ^ c) (2 * (keys + 1)) ≡ b → IsGrownLog c keys (cond b (c + 1) c)
    by true e = let more = lt_is (2 ^ c) (2 * (keys + 1)) e in let t = twice c in let g = eight c low in record {
      least = omega arith;
      most = dite (ℕ_discrete c 19)
          (λ (z : c ≡ 19). absurd (let y : 2 ^ c ≡ 524288 = ap (λ (k : ℕ). 2 ^ k) z in omega arith))
          (λ (z : c ≢ 19). omega arith);
      fits = omega arith;
      roomy = omega arith;
    }
    by false e = let less = lt_not (2 ^ c) (2 * (keys + 1)) e in let g = eight c low in record { least = low; most = high; fits = omega arith; roomy = omega arith }

module _ (floor base : ℕ) (client : HtClient) (p : WriterState) (s : HtState) where
  abbrev n : ℕ
  n = counters_of client

  abbrev l : Layout
  l = layout floor base n (orders_of client)

  module _ (h : Reflects n l p s) where
    -- not all slots are full
    pub keys_below : s.keys + 1 ≤ 2 ^ log_of s.root
    keys_below =
        let hole = h.hole in let f = (view_of s.words.items).state in
        let some = used_below f hole.0 (2 ^ log_of s.root) hole.1 hole.2 in let fewer = count_used f (2 ^ log_of s.root) in
        let k = h.mirrors.keys in omega arith

    module _ (opens : List ℕ) (key value at : ℕ) (adds_fresh : AddsFresh opens key value) (planned : plan_now l p key ≡ Empty at) where
      abbrev pair : Insertion
      pair = record { key = key; number = value; to = at }

      -- what the call is about, at its first step
      pub adding_idle : p.stage ≡ idle → IsAdding l p opens empty pair
      adding_idle idles x = ap (λ (g : Stage). by_stage l p g (entry opens x)) idles ∙ adds_fresh l p at planned (word_of x)

      -- and where it goes on
      pub adding_after : p.stage ≡ after_rebuild opens → IsAdding l p [] empty pair
      adding_after after x = ap (λ (g : Stage). by_stage l p g (entry [] x)) after ∙ adds_fresh l p at planned (word_of x)

      -- its first step begins a rebuild
      pub begins_rebuilding : p.stage ≡ idle → s.keys < 262144 → 3 * 2 ^ log_of s.root < 4 * (s.keys + s.tombstones + 1) → (root : ℕ) → log_of root ≡ rebuilt_log (log_of s.root) s.keys → BeginsRebuildAt l p opens root
      begins_rebuilding idles few full root is x = about_in floor base client p s h opens empty pair (adding_idle idles) (room floor base client p s h few) x
          ∙ (ap (λ (b : Bool). cond b (inserts empty pair) (begins_rebuild (root_at l p (word_of x) (rebuilt_log (log_of p.root) (keys_now l p))))) (rule_is floor base client p s h false (sym (over (4 * (s.keys + s.tombstones + 1)) (3 * 2 ^ log_of s.root) full)))
          ∙ ap (λ (c : ℕ). begins_rebuild (root_at l p (word_of x) c)) ((λ i. rebuilt_log (log_of (h.root i)) (sym (keys_are floor base n client p s h) i)) ∙ sym is))
        where
          over : (a b : ℕ) → b < a → nat_le a b ≡ false
          over a b h = grind (arith, nat_tests)

      -- after it the key goes in
      pub goes_in_after : p.stage ≡ after_rebuild opens → s.keys < 262144 → s.tombstones ≡ 0 → 4 * (s.keys + 1) ≤ 3 * 2 ^ log_of s.root → (x : Step) → action l p (entry [] x) ≡ inserts empty pair
      goes_in_after after few clean roomy = about_insert floor base client p s h [] pair (adding_after after) (room floor base client p s h few) true (sym (le_true (4 * (s.keys + s.tombstones + 1)) (3 * 2 ^ log_of s.root) (omega arith))) refl

    -- a rebuild is due
    pub not_roomy : 3 * 2 ^ log_of s.root < 4 * (s.keys + s.tombstones + 1) → IsRoomy l p → ⊥
    not_roomy full roomy = let k = keys_are floor base n client p s h in let t = tombstones_are floor base n client p s h in
        let r : 2 ^ log_of p.root ≡ 2 ^ log_of s.root = ap (λ (x : ℕ). 2 ^ log_of x) h.root in omega arith

    pub roomy_now : (b : Bool) → b ≡ nat_le (4 * (s.keys + s.tombstones + 1)) (3 * 2 ^ log_of s.root) → b ≡ true → IsRoomy l p
    roomy_now b e on = let k = keys_are floor base n client p s h in let t = tombstones_are floor base n client p s h in
        let r : 2 ^ log_of p.root ≡ 2 ^ log_of s.root = ap (λ (x : ℕ). 2 ^ log_of x) h.root in let z = le_is (4 * (s.keys + s.tombstones + 1)) (3 * 2 ^ log_of s.root) (sym e ∙ on) in omega arith
      where
        le_is : (a b : ℕ) → nat_le a b ≡ true → a ≤ b
        le_is a b e = grind (arith, nat_tests)

    pub log_now : rebuilt_log (log_of s.root) s.keys ≡ rebuilt_log (log_of p.root) (keys_now l p)
    log_now = λ i. rebuilt_log (log_of (sym h.root i)) (keys_are floor base n client p s h i)
