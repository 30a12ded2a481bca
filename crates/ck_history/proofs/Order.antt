-- An update leaves the keys in order.
use Rattle.std.proofs.Common.{◌≡◌, ℕ, ◌∙◌, Bool, true, false, List, [], ◌∷◌, length, cond, refl, ap, Some, None}
use Rattle.std.specs.Prelude.{nat_lt}
use Rattle.std.specs.declared.cmp.Ordering.{Ordering}
use Rattle.std.specs.declared.cmp.Ordering.TheVariants.{Less, Equal, Greater}
use Rattle.std.specs.Ordering.{match_ordering, ordering_reverse}
use Rattle.std.specs.Option.{option_map_or}
use Rattle.std.specs.Cmp.{IsTotalOrder}
use Rattle.std.specs.List.{AllByRecursion}
use Rattle.std.specs.List.Sorted.{IsStrictlySortedBy}
use Rattle.std.specs.Map.{keys_of, remove_entry}
use Rattle.std.specs.BTreeMap.{is_at, insert_entry}
use Rattle.ck_history.specs.declared.update.Update.{Update}
use Rattle.ck_history.specs.declared.update.Update.TheVariants.{Set, Put, Del, Tidy}
use Rattle.ck_history.specs.declared.update.Reply.{Reply}
use Rattle.ck_history.specs.declared.update.Reply.TheVariants.{Fresh, Was, Has, Missing, Full}
use Rattle.ck_history.specs.Map.{Map, IsMap, find, add, step, after_from}

module _ {K : Type 0} (cmp : K → K → Ordering) where
  -- x is below each of the keys
  abbrev IsBelow : K → List K → Type 0
  IsBelow x ks = AllByRecursion (λ y. cmp x y ≡ Less) ks

  module _ (test : K → Bool) where
    IsBelow-remove_entry : (x : K) (m : Map K) → IsBelow x (keys_of m) → IsBelow x (keys_of (remove_entry test m))
    IsBelow-remove_entry x [] below = tt
    IsBelow-remove_entry x (e ∷ m) below =
        elim (test e.0) as (λ b. IsBelow x (keys_of (cond b m (e ∷ remove_entry test m)))) [
          | true ↦ below.1
          | false ↦ (below.0, IsBelow-remove_entry x m below.1)
        ]

    pub IsMap-remove_entry : (m : Map K) → IsMap cmp m → IsMap cmp (remove_entry test m)
    unfolding IsStrictlySortedBy
    IsMap-remove_entry [] ordered = tt
    IsMap-remove_entry (e ∷ m) ordered =
        elim (test e.0) as (λ b. IsMap cmp (cond b m (e ∷ remove_entry test m))) [
          | true ↦ ordered.1
          | false ↦ (IsBelow-remove_entry e.0 m ordered.0, IsMap-remove_entry m ordered.1)
        ]

module _ {K : Type 0} {cmp : K → K → Ordering} (total : IsTotalOrder cmp) where
  -- what is below a key is below the keys above it
  IsBelow-trans : (x y : K) (ks : List K) → cmp x y ≡ Less → IsBelow cmp y ks → IsBelow cmp x ks
  IsBelow-trans x y [] first below = tt
  IsBelow-trans x y (z ∷ ks) first below = (total.trans x y z first below.0, IsBelow-trans x y ks first below.1)

  module _ (k : K) (v : ℕ) where
    IsBelow-insert_entry : (x : K) (m : Map K) → cmp x k ≡ Less → IsBelow cmp x (keys_of m) → IsBelow cmp x (keys_of (insert_entry cmp m k v))
    IsBelow-insert_entry x [] first below = (first, tt)
    IsBelow-insert_entry x (e ∷ m) first below =
        elim (cmp k e.0) as (λ r. IsBelow cmp x (keys_of (match_ordering r ((k, v) ∷ e ∷ m) ((e.0, v) ∷ m) (e ∷ insert_entry cmp m k v)))) [
          | Less ↦ (first, below)
          | Equal ↦ below
          | Greater ↦ (below.0, IsBelow-insert_entry x m first below.1)
        ]

    pub IsMap-insert_entry : (m : Map K) → IsMap cmp m → IsMap cmp (insert_entry cmp m k v)
    unfolding IsStrictlySortedBy
    IsMap-insert_entry [] ordered = (tt, tt)
    IsMap-insert_entry (e ∷ m) ordered =
        (elim (cmp k e.0) as (λ r. cmp k e.0 ≡ r → IsMap cmp (match_ordering r ((k, v) ∷ e ∷ m) ((e.0, v) ∷ m) (e ∷ insert_entry cmp m k v))) [
          | Less ↦ λ less. ((less, IsBelow-trans k e.0 (keys_of m) less ordered.0), ordered)
          | Equal ↦ λ equal. ordered
          | Greater ↦ λ greater. (IsBelow-insert_entry e.0 m (total.antisymm e.0 k ∙ ap ordering_reverse greater) ordered.0, IsMap-insert_entry m ordered.1)
        ]) refl

    IsMap-add : (most : ℕ) (m : Map K) → IsMap cmp m → IsMap cmp (add cmp most m k v).0
    IsMap-add most m ordered =
        elim (nat_lt (length m) most) as (λ b. let answer : Map K × Reply = cond b (insert_entry cmp m k v, Fresh) (m, Full) in IsMap cmp answer.0) [
          | true ↦ IsMap-insert_entry m ordered
          | false ↦ ordered
        ]

  module _ (most : ℕ) where
    -- one update leaves a map ..
    pub IsMap-step : (m : Map K) (u : Update K) → IsMap cmp m → IsMap cmp (step cmp most m u).0
    IsMap-step m (Set k x) ordered =
        elim (find cmp m k) as (λ r. let answer = option_map_or {U = Map K × Reply} (λ v. (insert_entry cmp m k x, Was v)) r (add cmp most m k x) in IsMap cmp answer.0) [
          | None ↦ IsMap-add k x most m ordered
          | Some v ↦ IsMap-insert_entry k x m ordered
        ]
    IsMap-step m (Put k x) ordered =
        elim (find cmp m k) as (λ r. let answer = option_map_or {U = Map K × Reply} (λ v. (m, Has v)) r (add cmp most m k x) in IsMap cmp answer.0) [
          | None ↦ IsMap-add k x most m ordered
          | Some v ↦ ordered
        ]
    IsMap-step m (Del k) ordered =
        elim (find cmp m k) as (λ r. let answer = option_map_or {U = Map K × Reply} (λ v. (remove_entry (is_at (cmp k)) m, Was v)) r (m, Missing) in IsMap cmp answer.0) [
          | None ↦ ordered
          | Some v ↦ IsMap-remove_entry cmp (is_at (cmp k)) m ordered
        ]
    IsMap-step m Tidy ordered = ordered

    -- .. and so do updates one after another
    pub IsMap-after_from : (m : Map K) (us : List (Update K)) → IsMap cmp m → IsMap cmp (after_from cmp most m us)
    IsMap-after_from m [] ordered = ordered
    IsMap-after_from m (u ∷ us) ordered = IsMap-after_from (step cmp most m u).0 us (IsMap-step m u ordered)
