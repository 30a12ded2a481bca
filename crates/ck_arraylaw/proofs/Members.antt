-- Lists after edits: they have few members, edits go on from those before, and a region has room. And a region is an item.
use Rattle.std.proofs.Common.{◌≡◌, ℕ, zero, suc, ◌+◌, ◌-◌, ◌^◌, ◌<◌, ◌≤◌, ◌==◌, Bool, true, false, cond, nat_lt, List, [], ◌∷◌, ◌++◌, length, set, get_or, Option, Some, None, if◌then◌else◌, refl, subst, length-append, length-set, arith, zero-add}
use Rattle.std.proofs.lemmas.Bool.Decides.{nat_tests}
use Rattle.std.proofs.lemmas.List.{length-take}
use Rattle.std.specs.Option.{option_map_or}
use Rattle.std.specs.List.{position, swap_remove}
use Rattle.ck_history.specs.declared.edit.TheConstants.{MOST_MEMBERS}
use Rattle.ck_history.specs.declared.edit.Edit.{Edit}
use Rattle.ck_history.specs.declared.edit.Edit.TheVariants.{Add, Drop, Commit}
use Rattle.ck_history.specs.declared.edit.EditReply.{EditReply}
use Rattle.ck_history.specs.declared.edit.EditReply.TheVariants.{Added, Full, Dropped, Missing}
use Rattle.ck_history.specs.Lists.{ListState, add_member, drop_member, list_step, empty_lists, lists_after_from}
use Rattle.ck_arraylaw.specs.declared.client.TheConstants.{LEAST_LOG}
use Rattle.ck_arraylaw.specs.Layout.{log_from, log_for, IsRegion, IsArrayItem}
use Rattle.std.proofs.lemmas.Nat.{pow_pos}
use Rattle.ck_epoch.specs.declared.item.Item.{Item}
use Rattle.ck_epoch.specs.Within.{item_from}

pub after-append : (s : ListState) (es fs : List Edit) → lists_after_from s (es ++ fs) ≡ lists_after_from (lists_after_from s es) fs
after-append s [] fs = refl
after-append s (e ∷ es) fs = after-append (list_step s e).0 es fs

pub record IsFew (s : ListState) : Type 0 where
  pub pending : length s.pending ≤ MOST_MEMBERS
  pub committed : length s.committed ≤ MOST_MEMBERS

added_few : (xs : List ℕ) (v : ℕ) → length xs ≤ MOST_MEMBERS → length (add_member xs v).0 ≤ MOST_MEMBERS
added_few xs v few = go (nat_lt (length xs) MOST_MEMBERS) refl
  where
    go : (b : Bool) → nat_lt (length xs) MOST_MEMBERS ≡ b → length (if◌then◌else◌ {A = List ℕ × EditReply} b (xs ++ v ∷ [], Added) (xs, Full)).0 ≤ MOST_MEMBERS
    go true e = let low : length xs < MOST_MEMBERS = grind (arith, nat_tests) in let l = length-append xs (v ∷ []) in omega arith
    go false e = few

dropped_few : (xs : List ℕ) (v : ℕ) → length xs ≤ MOST_MEMBERS → length (drop_member xs v).0 ≤ MOST_MEMBERS
dropped_few xs v few = go (position (λ x. x == v) xs)
  where
    go : (o : Option ℕ) → length (option_map_or {U = List ℕ × EditReply} (λ at. (swap_remove xs at v, Dropped)) o (xs, Missing)).0 ≤ MOST_MEMBERS
    go (Some at) = let ys = set xs at (get_or xs (length xs - 1) v) in let l = length-take (length xs - 1) ys in let k = length-set xs at (get_or xs (length xs - 1) v) in omega arith
    go None = few

pub few_after : (s : ListState) (es : List Edit) → IsFew s → IsFew (lists_after_from s es)
few_after s [] few = few
few_after s (e ∷ es) few = few_after (list_step s e).0 es (step e)
  where
    step : (e : Edit) → IsFew (list_step s e).0
    step (Add v) = record { pending = added_few s.pending v few.pending; committed = few.committed }
    step (Drop v) = record { pending = dropped_few s.pending v few.pending; committed = few.committed }
    step Commit = record { pending = few.pending; committed = few.pending }

pub few_lists : (es : List Edit) → IsFew (lists_after_from empty_lists es)
few_lists es = few_after empty_lists es (record { pending = omega arith; committed = omega arith })

room_from : (more l n : ℕ) → n < 2 ^ (more + l) → n < 2 ^ log_from more l n
room_from zero l n h = subst (λ (k : ℕ). n < 2 ^ k) (zero-add l) h
room_from (suc more) l n h = go (nat_lt n (2 ^ l)) refl (room_from more (suc l) n (subst (λ (k : ℕ). n < 2 ^ k) (along more l) h))
  where
    along : (more l : ℕ) → suc more + l ≡ more + suc l
    along more l = omega arith

    go : (b : Bool) → nat_lt n (2 ^ l) ≡ b → n < 2 ^ log_from more (suc l) n → n < 2 ^ cond b l (log_from more (suc l) n)
    go true e later = grind (arith, nat_tests)
    go false e later = later

pub room_for : (n : ℕ) → n ≤ MOST_MEMBERS → n < 2 ^ log_for n
room_for n few = room_from 10 LEAST_LOG n (omega arith)

-- a region of the array is one of its items
pub region_is_item : (place : ℕ) (region : Item) → IsRegion region → IsArrayItem place (item_from place region)
region_is_item place region inside = let low = inside.low in let high = inside.high in let some = pow_pos region.log in (omega arith, omega arith)
