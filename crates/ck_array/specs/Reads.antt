-- What a reader's `all` loads and answers, in a domain whose client holds the array.
use Rattle.std.specs.Prelude.{◌≡◌, ℕ, suc, ◌+◌, false, List, [], ◌∷◌, length}
use Rattle.ck_run.specs.declared.account.Step.TheVariants.{Load}
use Rattle.ck_run.specs.declared.account.Entry.{Entry}
use Rattle.ck_run.specs.Run.{entry, further}
use Rattle.ck_run.specs.Tokens.{adding}
use Rattle.ck_epoch.specs.State.{Origin, Token}
use Rattle.ck_arraylaw.specs.Calls.{all, is_single_load}
use Rattle.ck_arraylaw.specs.Host.{Host, base_word}
use Rattle.ck_arraylaw.specs.Layout.{region_at, members_at}
use Rattle.ck_arraylaw.specs.Array.{no_read, ReaderState, reader, MayReadNext}
use Rattle.ck_arraylaw.specs.Known.{knows}

-- a reader between two calls that gave these answers
abbrev pub resting : List (List ℕ) → ReaderState
resting answers = record { stage = no_read; answers = answers }

-- the loads of these members, which stand from this word on
abbrev pub member_loads : ℕ → List ℕ → List Entry
member_loads word [] = []
member_loads word (x ∷ xs) = further (Load word x) ∷ member_loads (suc word) xs

module _ {D : Type 0} (h : Host D) (o : Origin D) where
  -- the pass is between two calls of the array's, by its account
  abbrev pub IsResting : Token D → Type 0
  IsResting t = (answers : List (List ℕ)) × (knows h o t ≡ reader (resting answers))

  -- the array's word `at` is the one that this reader loads next, by a step that puts this down
  pub record IsDueAt (t : Token D) (opens : List ℕ) (at : ℕ) : Type 0 where
    pub state : ReaderState
    pub local : knows h o t ≡ reader state
    pub own : is_single_load opens ≡ false
    pub due : (n : ℕ) → MayReadNext (base_word h o) state.stage opens (Load (base_word h o + at) n)

  -- An `all`: it loaded this root and this number of members, and then these members
  pub record ReadsAll (t u : Token D) (root count : ℕ) (members : List ℕ) : Type 0 where
    pub steps : u ≡ adding t (entry (all ∷ []) (Load (base_word h o) root) ∷ further (Load (base_word h o + region_at root) count) ∷ member_loads (base_word h o + region_at root + 1) members)
    pub all_loaded : length members ≡ members_at (region_at root) count
