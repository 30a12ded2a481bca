-- What a look loads of the slots in its key's order, and what it finds in them.
use Rattle.std.specs.Prelude.{◌≡◌, ◌≢◌, ℕ, suc, ◌⊎◌, Bool, ◌&&◌, true, false, cond, ◌==◌, Option, Some, None, List, [], ◌∷◌, ◌++◌, length, All}
use Rattle.ck_run.specs.declared.account.Step.{Step}
use Rattle.ck_run.specs.declared.account.Step.TheVariants.{Load}
use Rattle.ck_slots.specs.Slots.{Order}
use Rattle.ck_htlaw.specs.Look.{LookState, checking_value, checking_absence, passed}
use Rattle.ck_htlaw.specs.Table.{Layout}
use Rattle.ck_htread.specs.declared.search.Finding.{Finding}
use Rattle.ck_htread.specs.declared.search.Finding.TheVariants.{Vacant, Other, Match}

-- What was loaded of a slot: its state, where that is 1 the two words of a key, and where these are the look's key the value
pub record SlotContent : Type 0 where
  pub state : ℕ
  pub low : ℕ
  pub high : ℕ
  pub value : ℕ

module _ (o : Order) (key : ℕ) where
  abbrev pub has_key_words : SlotContent → Bool
  has_key_words s = (s.low == o.low_of key) && (s.high == o.high_of key)

  -- the slot holds the key
  abbrev pub holds_key : SlotContent → Bool
  holds_key s = (s.state == 1) && has_key_words s

  -- it is neither empty nor the key's
  pub record IsOtherSlot (s : SlotContent) : Type 0 where
    pub not_empty : s.state ≢ 0
    pub other : holds_key s ≡ false

  -- what a look finds in the slot
  abbrev pub Tells : SlotContent → Finding → Type 0
  Tells s Vacant = s.state ≡ 0
  Tells s Other = IsOtherSlot s
  Tells s (Match value) = (holds_key s ≡ true) × (s.value ≡ value)

  -- where that leaves a look that loaded the counter c, at step i of the key's order
  abbrev pub state_after_slot : ℕ → ℕ → Finding → LookState
  state_after_slot c i Vacant = checking_absence key c
  state_after_slot c i Other = passed o key c i
  state_after_slot c i (Match value) = checking_value key c value

  -- The last slot that was loaded holds the key with this value, and those before it are others
  pub record FindsKey (value : ℕ) (slots : List SlotContent) : Type 0 where
    pub before : List SlotContent
    pub last : SlotContent
    pub parts : slots ≡ before ++ last ∷ []
    pub others : All IsOtherSlot before
    pub tells : Tells last (Match value)

  -- The last slot that was loaded is empty, or there is no further one, and those before it are others
  pub record FindsNone (slots : List SlotContent) : Type 0 where
    pub before : List SlotContent
    pub others : All IsOtherSlot before
    pub ends : ((last : SlotContent) × (slots ≡ before ++ last ∷ []) × (last.state ≡ 0)) ⊎ ((slots ≡ before) × (length before ≡ o.slots))

  -- what a look finds in these slots
  abbrev pub Finds : List SlotContent → Option ℕ → Type 0
  Finds slots (Some value) = FindsKey value slots
  Finds slots None = FindsNone slots

  abbrev pub state_after_scan : ℕ → Option ℕ → LookState
  state_after_scan c (Some value) = checking_value key c value
  state_after_scan c None = checking_absence key c

module _ (l : Layout) (root key : ℕ) where
  -- the word j of the slot at step i of the key's order
  abbrev pub slot_word : ℕ → ℕ → ℕ
  slot_word i j = l.word root ((l.order root).probe key i) j

  -- the loads by which a look learns this of that slot
  abbrev pub value_loads : ℕ → SlotContent → List Step
  value_loads i s = cond (has_key_words (l.order root) key s) (Load (slot_word i 3) s.value ∷ []) []

  abbrev pub slot_loads : ℕ → SlotContent → List Step
  slot_loads i s = Load (slot_word i 0) s.state ∷ cond (s.state == 1) (Load (slot_word i 1) s.low ∷ Load (slot_word i 2) s.high ∷ value_loads i s) []

  -- of the slots from step i on
  abbrev pub scan_loads : ℕ → List SlotContent → List Step
  scan_loads i [] = []
  scan_loads i (s ∷ ss) = slot_loads i s ++ scan_loads (suc i) ss
