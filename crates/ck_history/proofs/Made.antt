-- What the edit of the pairs at an index is to the map.
use Rattle.std.proofs.Common.{◌≡◌, ℕ, ◌<◌, ◌∙◌, length, get_or, set, sym, ap, Some}
use Rattle.std.proofs.lemmas.Bool.{cond_below}
use Rattle.std.specs.declared.cmp.Ordering.{Ordering}
use Rattle.std.specs.Cmp.{IsTotalOrder}
use Rattle.std.specs.List.{insert, remove}
use Rattle.std.specs.BTreeMap.{insert_entry}
use Rattle.ck_history.specs.declared.update.Update.TheVariants.{Set, Put, Del}
use Rattle.ck_history.specs.declared.update.Reply.TheVariants.{Fresh, Was, Has, Missing}
use Rattle.ck_history.specs.Map.{Map, IsMap, find, add, step}
use Rattle.ck_history.specs.Index.{StandsAt, BelongsAt}
use Rattle.ck_history.proofs.Order.{IsMap-insert_entry}
use Rattle.ck_history.proofs.Index.{found, absent}
use Rattle.ck_history.proofs.Step.{step-Set_found, step-Put_found, step-Del_found, step-Set_absent, step-Put_absent, step-Del_absent}

module _ {K : Type 0} {cmp : K → K → Ordering} (total : IsTotalOrder cmp) (most : ℕ) (m : Map K) (k : K) (at : ℕ) where
  -- e is the pair at the key's index
  module _ (stands : StandsAt cmp k m at) (e : K × ℕ) (is : e ≡ get_or m at e) where
    -- the look-up finds its value, ..
    pub find_at : find cmp m k ≡ Some e.1
    find_at = let here = found total k m at stands in here.value e ∙ ap (λ (p : K × ℕ). Some p.1) (sym is)

    -- .. and a write over it is the map with the key's new value
    written : (v : ℕ) → set m at (e.0, v) ≡ insert_entry cmp m k v
    written v = let here = found total k m at stands in ap (λ (p : K × ℕ). set m at (p.0, v)) is ∙ here.writes e v

    pub IsMap-set : (v : ℕ) → IsMap cmp m → IsMap cmp (set m at (e.0, v))
    IsMap-set v ordered = rw (written v) (IsMap-insert_entry total k v m ordered)

    pub made-set_over : (v : ℕ) → step cmp most m (Set k v) ≡ (set m at (e.0, v), Was e.1)
    made-set_over v = step-Set_found cmp most m k e.1 find_at v ∙ ap (λ l. (l, Was e.1)) (sym (written v))

    pub made-put_over : (v : ℕ) → step cmp most m (Put k v) ≡ (m, Has e.1)
    made-put_over v = step-Put_found cmp most m k e.1 find_at v

    pub made-remove : step cmp most m (Del k) ≡ (remove m at, Was e.1)
    made-remove = let here = found total k m at stands in step-Del_found cmp most m k e.1 find_at ∙ ap (λ l. (l, Was e.1)) (sym here.removes)

  -- the key is absent, and its pair belongs at the index
  module _ (ordered : IsMap cmp m) (belongs : BelongsAt cmp k m at) where
    pub made-set_new : (v : ℕ) → step cmp most m (Set k v) ≡ add cmp most m k v
    made-set_new v = let gap = absent total k m at ordered belongs in step-Set_absent cmp most m k gap.value v

    pub made-put_new : (v : ℕ) → step cmp most m (Put k v) ≡ add cmp most m k v
    made-put_new v = let gap = absent total k m at ordered belongs in step-Put_absent cmp most m k gap.value v

    pub made-remove_none : step cmp most m (Del k) ≡ (m, Missing)
    made-remove_none = let gap = absent total k m at ordered belongs in step-Del_absent cmp most m k gap.value

    pub made-insert : (v : ℕ) → length m < most → add cmp most m k v ≡ (insert m at (k, v), Fresh)
    made-insert v room = let gap = absent total k m at ordered belongs in sym (cond_below _ _ _ _ room) ∙ ap (λ l. (l, Fresh)) (sym (gap.inserts v))
