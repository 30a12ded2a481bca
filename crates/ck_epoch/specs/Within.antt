-- A client that holds another one.
use Rattle.std.specs.Prelude.{◌≡◌, ℕ, ◌+◌, ◌<◌, ◌≤◌, true, List, ◌++◌, ◌∷◌, []}
use Rattle.ck_run.specs.declared.account.Entry.{Entry}
use Rattle.ck_epoch.specs.declared.item.Item.{Item}
use Rattle.ck_epoch.specs.State.{Origin, base_of}
use Rattle.ck_epoch.specs.Client.{Client, IsOwn}

-- how the table began, as the inner client sees it
abbrev pub inner_origin : {C D : Type 0} → (D → C) → Origin D → Origin C
inner_origin part origin = record { words = origin.words; tokens = origin.tokens; config = record { client = part origin.config.client; records = origin.config.records } }

-- an item of the inner client, whose words begin at this place, as the larger client names it
abbrev pub item_from : ℕ → Item → Item
item_from place i = record i { at = place + i.at }

-- The client `small` is a part of `large`: its words begin at `place` among the words of the larger one
pub record IsWithin {C D : Type 0} (small : Client C) (large : Client D) (place : D → ℕ) (part : D → C) : Type 0 where
  -- its words are those from `place` on
  pub fits : (d : D) → place d + small.size (part d) ≤ large.size d
  pub first : (d : D) (at : ℕ) → at < small.size (part d) → large.first d (place d + at) ≡ small.first (part d) at
  pub guarded : (d : D) (at : ℕ) → at < small.size (part d) → large.guarded d (place d + at) ≡ small.guarded (part d) at
  -- its items are items of the larger one, and go back where they did
  pub retires : (d : D) (i : Item) → small.retires (part d) i ≡ true → large.retires d (item_from (place d) i) ≡ true
  pub home : (d : D) (i : Item) → small.retires (part d) i ≡ true → large.home d (item_from (place d) i) ≡ small.home (part d) i
  -- the accounts of the larger one are its own
  pub shows : (first : ℕ) (origin : Origin D) (n : ℕ) (es : List Entry) → large.follows first origin n es → small.follows (first + place origin.config.client) (inner_origin part origin) n es
  -- and a step of its own that it allows is allowed
  pub lifts : (first : ℕ) (origin : Origin D) (n : ℕ) (es : List Entry) (e : Entry) → base_of origin ≤ first → large.follows first origin n es
      → IsOwn small (first + place origin.config.client) (inner_origin part origin) e
      → small.follows (first + place origin.config.client) (inner_origin part origin) n (es ++ e ∷ []) → large.follows first origin n (es ++ e ∷ [])
