-- What a visitor has retired and not yet handed out.
use Rattle.std.specs.Prelude.{◌≡◌, ℕ, List, ◌++◌, map}
use Rattle.ck_epoch.specs.declared.item.Item.{Item}
use Rattle.ck_epoch.specs.declared.item.Retired.{Retired}

-- The items that are pending, on each list in order of retirement, those that were dispatched and wait, in order of dispatch, and how many
-- of both there is room for
pub record Deferred : Type 0 where
  pub lists : List (List Retired)
  pub waiting : List Item
  pub room : ℕ

-- the items of these retirements
abbrev pub items_of : List Retired → List Item
items_of rs = map (λ (r : Retired). r.item) rs

-- Of what was dispatched the first items were handed out, and these wait, in order of dispatch
abbrev pub IsLeftOf : List Item → List Retired → Type 0
IsLeftOf waiting dispatched = (given : List Item) × (given ++ waiting ≡ items_of dispatched)
