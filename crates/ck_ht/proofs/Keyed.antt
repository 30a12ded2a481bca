-- Each key of a table's map is one.
use Rattle.std.proofs.Common.{◌≡◌, ◌≢◌, ℕ, Bool, true, false, cond, nat_lt, List, [], ◌∷◌, ◌++◌, length, sym, ap, ◌∙◌, subst}
use Rattle.std.specs.Prelude.{Option, Some, None}
use Rattle.std.specs.Ordering.{nat_cmp}
use Rattle.std.specs.Option.{option_map_or}
use Rattle.std.specs.List.Sorted.{IsStrictlySortedBy}
use Rattle.std.specs.Map.{remove_entry}
use Rattle.std.specs.BTreeMap.{insert_entry, is_at}
use Rattle.std.proofs.lemmas.Cmp.{nat_cmp_total}
use mathlib.Core.Logic.{dite}
use native.Mathlib.Decide.{ℕ_discrete}
use Rattle.ck_history.specs.declared.log.LogEntry.{LogEntry}
use Rattle.ck_history.specs.declared.update.Reply.{Reply}
use Rattle.ck_history.specs.declared.update.Reply.TheVariants.{Fresh, Was, Has, Missing, Full}
use Rattle.ck_history.specs.declared.update.Update.{Update}
use Rattle.ck_history.specs.declared.update.Update.TheVariants.{Set, Put, Del, Tidy}
use Rattle.ck_history.specs.Key.{IsKey}
use Rattle.ck_history.specs.Map.{Map, IsMap, add, find, step}
use Rattle.ck_history.proofs.Order.{IsMap-after_from}
use Rattle.ck_slots.proofs.Lives.{nat_exact}
use Rattle.ck_slots.proofs.Maps.{find-insert_entry_other, find-remove_entry, find-remove_entry_other}
use Rattle.ck_htlaw.specs.Actions.{most}
use Rattle.ck_htlaw.specs.Linearized.{map_after, updates}
use Rattle.ck_htlaw.proofs.Effects.{map_next}
use Rattle.ck_htwrite.specs.Entries.{HasKeys}
use Rattle.ck_ht.specs.Updating.{IsKeyed}

module _ (m : Map ℕ) (keys : HasKeys m) (k : ℕ) where
  module _ (x : ℕ) (is_key : IsKey k) where
    inserted : HasKeys (insert_entry nat_cmp m k x)
    inserted j y found = dite (ℕ_discrete j k)
        (λ (same : j ≡ k). subst IsKey (sym same) is_key)
        (λ (other : j ≢ k). keys j y (sym (find-insert_entry_other nat_cmp nat_cmp_total nat_exact k x j other m) ∙ found))

    added : (b : Bool) → HasKeys (cond {A = Map ℕ × Reply} b (insert_entry nat_cmp m k x, Fresh) (m, Full)).0
    added true = inserted
    added false = keys

    after_set : (r : Option ℕ) → HasKeys (option_map_or {U = Map ℕ × Reply} (λ v. (insert_entry nat_cmp m k x, Was v)) r (add nat_cmp most m k x)).0
    after_set None = added (nat_lt (length m) most)
    after_set (Some v) = inserted

    after_put : (r : Option ℕ) → HasKeys (option_map_or {U = Map ℕ × Reply} (λ v. (m, Has v)) r (add nat_cmp most m k x)).0
    after_put None = added (nat_lt (length m) most)
    after_put (Some v) = keys

  after_del : IsMap nat_cmp m → (r : Option ℕ) → HasKeys (option_map_or {U = Map ℕ × Reply} (λ v. (remove_entry (is_at (nat_cmp k)) m, Was v)) r (m, Missing)).0
  after_del sorted None = keys
  after_del sorted (Some v) = λ j y found. dite (ℕ_discrete j k)
      (λ (same : j ≡ k). absurd (let z : None ≡ Some y = sym (find-remove_entry nat_cmp nat_cmp_total nat_exact k m sorted) ∙ (ap (find nat_cmp (remove_entry (is_at (nat_cmp k)) m)) (sym same) ∙ found) in cc))
      (λ (other : j ≢ k). keys j y (sym (find-remove_entry_other nat_cmp nat_cmp_total nat_exact k j other m) ∙ found))

keyed_step : (m : Map ℕ) (u : Update ℕ) → IsMap nat_cmp m → IsKeyed u → HasKeys m → HasKeys (step nat_cmp most m u).0
keyed_step m (Set k x) sorted is keys = after_set m keys k x is (find nat_cmp m k)
keyed_step m (Put k x) sorted is keys = after_put m keys k x is (find nat_cmp m k)
keyed_step m (Del k) sorted is keys = after_del m keys k sorted (find nat_cmp m k)
keyed_step m Tidy sorted is keys = keys

pub none_keyed : HasKeys (map_after [])
none_keyed k x found = absurd (let z : None ≡ Some x = found in cc)

none_sorted : IsMap nat_cmp []
unfolding IsStrictlySortedBy
none_sorted = tt

-- after one more update
pub keyed_next : (us vs : List (LogEntry ℕ)) (e : LogEntry ℕ) → vs ≡ us ++ e ∷ [] → IsKeyed e.update → HasKeys (map_after us) → HasKeys (map_after vs)
keyed_next us vs e more is keys = subst (λ (ws : List (LogEntry ℕ)). HasKeys (map_after ws)) (sym more) (subst HasKeys (sym (map_next us e)) (keyed_step (map_after us) e.update (IsMap-after_from nat_cmp_total most [] (updates us) none_sorted) is keys))
