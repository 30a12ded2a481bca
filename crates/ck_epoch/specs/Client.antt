-- A structure over the words of a domain, as far as the laws of the domain speak of it.
use Rattle.std.specs.Prelude.{◌≡◌, ℕ, ◌+◌, ◌<◌, ◌≤◌, ◌⊎◌, Bool, true, List, [], ◌++◌, ◌∷◌, length, slice_index}
use Rattle.ck_run.specs.declared.account.Entry.{Entry}
use Rattle.ck_run.specs.declared.account.Step.TheVariants.{Load}
use Rattle.ck_run.specs.Range.{word_of, IsInside, IsOutside}
use Rattle.ck_run.specs.Rule.{Follows}
use Rattle.ck_run.specs.Machine.{Obeys, follows_of}
use Rattle.ck_words.specs.declared.back.Back.{Back}
use Rattle.ck_epoch.specs.declared.about.About.{About}
use Rattle.ck_epoch.specs.declared.item.Item.{Item}
use Rattle.ck_epoch.specs.State.{Origin, TokenState, epochs, base_of, depth_of}

-- What a client means: how many words it has, the word at each place at opening, and which words a reader loads within a section alone;
-- the accounts that its calls make: of the word at which its words begin, how the table began, a token's number and all its entries;
-- which items its writer may retire, and where each goes back;
-- the log that a writer's account gives, and the number of answered calls that a reader's account gives
pub record Client (C : Type 0) : Type 1 where
  pub size : C → ℕ
  pub first : C → ℕ → ℕ
  pub guarded : C → ℕ → Bool
  pub follows : ℕ → Origin C → ℕ → List Entry → Type 0
  pub retires : C → Item → Bool
  pub home : C → Item → Back
  pub Update : Type 0
  pub log : ℕ → Origin C → List Entry → List Update
  pub answered : ℕ → Origin C → List Entry → ℕ

module _ {C : Type 0} (client : Client C) where
  -- where the words end that begin at `first`
  abbrev pub last : ℕ → Origin C → ℕ
  last first origin = first + client.size origin.config.client

  -- A step that is the client's: it is on one of its words, or it is on a word of the epochs and hands an item of its words over.
  -- Items are placed from the first word of the domain's client on, of which this one may be a part
  abbrev pub IsOwn : ℕ → Origin C → Entry → Type 0
  IsOwn first origin e = IsInside first (last first origin) e
      ⊎ ((at : ℕ) × (log : ℕ) × (e.item ≡ at ∷ log ∷ []) × (word_of e.step < base_of origin) × (first ≤ base_of origin + at) × (base_of origin + at < last first origin))

  -- a step that is another's
  abbrev pub IsOthers : ℕ → Origin C → Entry → Type 0
  IsOthers first origin e = IsOutside first (last first origin) e
      × ((at log : ℕ) → e.item ≡ at ∷ log ∷ [] → (base_of origin + at < first) ⊎ (last first origin ≤ base_of origin + at))

  -- each step of another may stand between its steps
  abbrev pub Passes : Type 0
  Passes = (first : ℕ) (origin : Origin C) (n : ℕ) (es : List Entry) (e : Entry) → client.follows first origin n es → IsOthers first origin e → client.follows first origin n (es ++ e ∷ [])

  -- As an account grows, the log before is a prefix of the log after
  abbrev pub LogGrows : Type 0
  LogGrows = (first : ℕ) (origin : Origin C) (es : List Entry) (e : Entry) → (more : List client.Update) × (client.log first origin (es ++ e ∷ []) ≡ client.log first origin es ++ more)

  -- and the number of answered calls doesn't fall
  abbrev pub AnsweredRises : Type 0
  AnsweredRises = (first : ℕ) (origin : Origin C) (es : List Entry) (e : Entry) → client.answered first origin es ≤ client.answered first origin (es ++ e ∷ [])

  -- the words from `first` on are its words at opening
  abbrev pub AreOpeningWords : ℕ → Origin C → Type 0
  AreOpeningWords first origin = (i : ℕ) → i < client.size origin.config.client → slice_index origin.words (first + i) ≡ client.first origin.config.client i

  -- tokens that made no step are its own
  abbrev pub Starts : Type 0
  Starts = (first : ℕ) (origin : Origin C) → AreOpeningWords first origin → (n : ℕ) → client.follows first origin n []

  -- its words come after those of the epochs
  pub record IsClientOpening (origin : Origin C) : Type 0 where
    pub long : length origin.words ≡ base_of origin + client.size origin.config.client
    pub words : AreOpeningWords (base_of origin) origin

  -- a load of a guarded word stands within a section
  abbrev pub IsGuarded : Origin C → TokenState → Entry → Type 0
  IsGuarded origin t e = (at found : ℕ) → e.step ≡ Load (base_of origin + at) found → client.guarded origin.config.client at ≡ true → 0 < depth_of t.stage

  -- and so does each of a reader
  abbrev pub AreGuarded : Follows (About C)
  AreGuarded origin n entries = 0 < n → Obeys (epochs.next origin) (IsGuarded origin) (epochs.start origin n) entries

  -- the accounts of a domain with this client: they are of the epochs' calls, and the client allows them
  abbrev pub program : Follows (About C)
  program origin n entries = follows_of epochs origin n entries × IsClientOpening origin × AreGuarded origin n entries × client.follows (base_of origin) origin n entries
