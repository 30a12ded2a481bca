-- What an update does, by what its key has.
use Rattle.std.proofs.Common.{◌≡◌, ℕ, ap, Some, None}
use Rattle.std.specs.declared.cmp.Ordering.{Ordering}
use Rattle.std.specs.Option.{option_map_or}
use Rattle.std.specs.Map.{remove_entry}
use Rattle.std.specs.BTreeMap.{is_at, insert_entry}
use Rattle.ck_history.specs.declared.update.Update.TheVariants.{Set, Put, Del}
use Rattle.ck_history.specs.declared.update.Reply.{Reply}
use Rattle.ck_history.specs.declared.update.Reply.TheVariants.{Was, Has, Missing}
use Rattle.ck_history.specs.Map.{Map, find, add, step}

module _ {K : Type 0} (cmp : K → K → Ordering) (most : ℕ) (m : Map K) (k : K) where
  -- the key is there
  module _ (v : ℕ) (found : find cmp m k ≡ Some v) where
    pub step-Set_found : (x : ℕ) → step cmp most m (Set k x) ≡ (insert_entry cmp m k x, Was v)
    step-Set_found x = ap (λ r. option_map_or {U = Map K × Reply} (λ v. (insert_entry cmp m k x, Was v)) r (add cmp most m k x)) found

    pub step-Put_found : (x : ℕ) → step cmp most m (Put k x) ≡ (m, Has v)
    step-Put_found x = ap (λ r. option_map_or {U = Map K × Reply} (λ v. (m, Has v)) r (add cmp most m k x)) found

    pub step-Del_found : step cmp most m (Del k) ≡ (remove_entry (is_at (cmp k)) m, Was v)
    step-Del_found = ap (λ r. option_map_or {U = Map K × Reply} (λ v. (remove_entry (is_at (cmp k)) m, Was v)) r (m, Missing)) found

  -- it is absent
  module _ (absent : find cmp m k ≡ None) where
    pub step-Set_absent : (x : ℕ) → step cmp most m (Set k x) ≡ add cmp most m k x
    step-Set_absent x = ap (λ r. option_map_or {U = Map K × Reply} (λ v. (insert_entry cmp m k x, Was v)) r (add cmp most m k x)) absent

    pub step-Put_absent : (x : ℕ) → step cmp most m (Put k x) ≡ add cmp most m k x
    step-Put_absent x = ap (λ r. option_map_or {U = Map K × Reply} (λ v. (m, Has v)) r (add cmp most m k x)) absent

    pub step-Del_absent : step cmp most m (Del k) ≡ (m, Missing)
    step-Del_absent = ap (λ r. option_map_or {U = Map K × Reply} (λ v. (remove_entry (is_at (cmp k)) m, Was v)) r (m, Missing)) absent
