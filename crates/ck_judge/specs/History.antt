-- What a history is, and what is searched for in it.
use Rattle.std.specs.Prelude.{◌≡◌, ℕ, ◌≤◌, length, Option, MatchOption}
use Rattle.std.specs.declared.cmp.Ordering.{Ordering}
use Rattle.std.specs.declared.cmp.Ordering.TheVariants.{Equal}
use Rattle.std.specs.List.{Contains}
use Rattle.std.specs.List.Sorted.{IsSorted}
use Rattle.ck_history.specs.Map.{answer_after}
use Rattle.ck_history.specs.Places.{IsAnswerAt}
use Rattle.ck_judge.specs.declared.changes.Change.{Change}
use Rattle.ck_judge.specs.declared.changes.Given.{Given}
use Rattle.ck_judge.specs.declared.history.History.{History}
use Rattle.ck_judge.specs.Changes.{AreEntries}
use Rattle.ck_judge.specs.Searches.{change_cmp, given_cmp}

-- a change, in the form that is sorted by value
abbrev pub given_by : {K : Type 0} → Change K → Given K
given_by c = record { key = c.key; value = c.value; place = c.place }

module _ {K : Type 0} (cmp : K → K → Ordering) where
  -- what the key has after p updates of a history
  abbrev pub has_at : History K → ℕ → K → Option ℕ
  has_at h p k = answer_after cmp h.most h.updates.items p k

  -- both lists are sorted, and have what each update touched
  pub record IsHistory (h : History K) : Type 0 where
    pub sorted_changes : IsSorted (change_cmp cmp) h.changes.items
    pub changes : AreEntries cmp (λ c. c.key) (λ c. c.place) (λ c. c.value) (length h.updates.items) (has_at h) h.changes.items
    pub sorted_given : IsSorted (given_cmp cmp) h.given.items
    pub given : AreEntries cmp (λ c. c.key) (λ c. c.place) (λ c. c.value) (length h.updates.items) (has_at h) h.given.items

  module _ (h : History K) (k : K) (v : Option ℕ) (from : ℕ) where
    -- the key has this value at no place from there on
    abbrev pub NoAnswerFrom : Type 0
    NoAnswerFrom = (o : ℕ) → from ≤ o → IsAnswerAt (length h.updates.items) (has_at h) k v o → ⊥

    -- this is the first place from there on at which it has
    pub record IsNextAnswer (p : ℕ) : Type 0 where
      pub after : from ≤ p
      pub here : IsAnswerAt (length h.updates.items) (has_at h) k v p
      pub least : (o : ℕ) → from ≤ o → IsAnswerAt (length h.updates.items) (has_at h) k v o → p ≤ o

    -- an update after the place gave the key this value
    pub record IsGiven (g : Given K) : Type 0 where
      pub there : Contains h.given.items g
      pub key : cmp k g.key ≡ Equal
      pub value : g.value ≡ v
      pub after : from ≤ g.place

    -- the first place at which one did
    pub record IsFirstGiven (p : ℕ) : Type 0 where
      pub after : from ≤ p
      pub here : IsAnswerAt (length h.updates.items) (has_at h) k v p
      pub least : (g : Given K) → IsGiven g → p ≤ g.place

    -- .. if there is one
    abbrev pub GivesNext : Option ℕ → Type 0
    GivesNext result = MatchOption result ((g : Given K) → IsGiven g → ⊥) IsFirstGiven
