-- The pending items, in order of retirement. Each stands on one of four lists, which is numbered by its epoch modulo 4.
use Rattle.std.specs.Prelude.{◌≡◌, ◌≢◌, ℕ, ◌+◌, ◌%◌, ◌<◌, ◌≤◌, ◌==◌, Bool, true, not, List, [], ◌++◌, map, filter, length, slice_index_or, vec_len, All}
use Rattle.std.specs.declared.vec.Vec.{Vec}
use Rattle.ck_words.specs.declared.back.Back.{Back}
use Rattle.ck_epoch.specs.declared.item.Item.{Item}
use Rattle.ck_epoch.specs.declared.item.Retired.{Retired}

abbrev pub is_on : ℕ → Retired → Bool
is_on list r = r.epoch % 4 == list

-- the items of one list, and all others
abbrev pub on : ℕ → List Retired → List Retired
on list pending = filter (is_on list) pending

abbrev pub off : ℕ → List Retired → List Retired
off list pending = filter (λ r. not (is_on list r)) pending

-- all items, list by list
abbrev pub by_list : List Retired → List Retired
by_list pending = on 0 pending ++ (on 1 pending ++ (on 2 pending ++ on 3 pending))

-- the items of the list with this number
abbrev pub items_on : List (List Retired) → ℕ → List Retired
items_on lists list = slice_index_or lists list []

-- the items of all four, list by list
abbrev pub in_a_row : List (List Retired) → List Retired
in_a_row lists = items_on lists 0 ++ (items_on lists 1 ++ (items_on lists 2 ++ items_on lists 3))

-- on each of the four lists are those of these items that stand on it
abbrev pub AreListsOf : List (List Retired) → List Retired → Type 0
AreListsOf lists pending = (list : ℕ) → list < 4 → items_on lists list ≡ on list pending

-- where these items go back
abbrev pub homes : (Item → Back) → List Retired → List Back
homes home items = map (λ (r : Retired). home r.item) items

-- What a writer has retired and not yet given back: the items that are pending, on each list in order of retirement, the answers that wait,
-- and how many of both there is room for
pub record Backlog : Type 0 where
  pub lists : List (List Retired)
  pub waiting : List Back
  pub room : ℕ

-- One list as it is kept, with room for so many items
pub record PendingList (P : Type 0) : Type 0 where
  pub items : List P
  pub room : ℕ

abbrev pub RetiredList : Type 0
RetiredList = PendingList Retired

-- what contracts see of the lists as they are kept
abbrev pub lists_view : List RetiredList → List (List Retired)
lists_view lists = map (λ (l : RetiredList). l.items) lists

-- Four lists, each of this room. Their items and so many answers that wait are together no more than that
pub record ListsHaveRoom {Z : Type 0} (lists : Vec RetiredList Z) (waiting room : ℕ) : Type 0 where
  pub four : vec_len lists ≡ 4
  pub roomy : All (λ (l : RetiredList). l.room ≡ room) lists.items
  pub fits : length (in_a_row (lists_view lists.items)) + waiting ≤ room

-- the handler may be called on each item that the client may retire, and answers its home
abbrev pub Answers : (Item → Bool) → (Item → Back) → (Item → Type 0) → (Item → Back → Type 0) → Type 0
Answers retires home pre post = (i : Item) → retires i ≡ true → pre i × ((b : Back) → post i b → b ≡ home i)

-- each of these items is one that the client may retire
abbrev pub AreRetired : (Item → Bool) → List Retired → Type 0
AreRetired retires items = All (λ (r : Retired). retires r.item ≡ true) items

-- an item that the client may retire, and that isn't among these pending ones
abbrev pub IsDispatched : (Item → Bool) → List Retired → Retired → Type 0
IsDispatched retires pending r = (retires r.item ≡ true) × All (λ (p : Retired). p ≢ r) pending

abbrev pub AreDispatched : (Item → Bool) → List Retired → List Retired → Type 0
AreDispatched retires pending items = All (IsDispatched retires pending) items
