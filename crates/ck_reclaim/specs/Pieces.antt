-- Pieces of a structure's words, as the regions of a table or the entries of a set are: the writer links them, unlinks them and retires
-- them, and takes their words again for other pieces. All is read off the writer's account; no reader occurs.
use Rattle.std.specs.Prelude.{◌≡◌, ℕ, ◌+◌, ◌^◌, ◌<◌, ◌≤◌, ◌⊎◌, List, [], ◌∷◌, ◌++◌, length, All, Contains}
use Rattle.ck_run.specs.declared.account.Entry.{Entry}
use Rattle.ck_run.specs.Run.{Run, account}
use Rattle.ck_epoch.specs.declared.item.Item.{Item}
use Rattle.ck_epoch.specs.State.{Origin, Retirement, records_of}
use Rattle.ck_epoch.specs.Epochs.{IsOpen, IsOlder, writer_in}
use Rattle.ck_epoch.specs.Client.{Client}

-- What a structure says of its pieces, in a domain whose client it is, or is a part of
pub record Pieces (C : Type 0) : Type 1 where
  pub client : Client C
  pub Piece : Type 0
  -- the item as which a piece is retired
  pub item : Origin C → Piece → Item
  -- the item is of the structure's words
  pub IsItem : Origin C → Item → Type 0
  -- by these entries of the writer's the piece is linked, or it is unlinked and the writer is to retire it
  pub IsLinked : Origin C → List Entry → Piece → Type 0

-- two items share no word
abbrev pub AreApart : Item → Item → Type 0
AreApart i j = (i.at + 2 ^ i.log ≤ j.at) ⊎ (j.at + 2 ^ j.log ≤ i.at)

-- the step hands this item over
abbrev pub HandsOver : Entry → Item → Type 0
HandsOver e i = e.item ≡ i.at ∷ i.log ∷ []

module _ {C : Type 0} (s : Pieces C) (origin : Origin C) where
  -- the piece was linked at a moment of the run after its step o
  pub record WasLinked (run : Run) (o : ℕ) (x : s.Piece) : Type 0 where
    pub past : Run
    pub more : Run
    pub whole : run ≡ past ++ more
    pub after : o < length past
    pub linked : s.IsLinked origin (account 0 past) x

  -- a retirement of the piece is pending, and came after the section that opened at the step o
  pub record IsPendingSince (run : Run) (o : ℕ) (x : s.Piece) : Type 0 where
    pub by : Retirement
    pub pending : Contains (writer_in origin run).pending by
    pub same : by.retired.item ≡ s.item origin x
    pub since : IsOlder run o by.number

  -- The writer's step e, after these entries, leaves each piece linked that was, or hands it over
  abbrev pub LinkedOrRetired : List Entry → Entry → Type 0
  LinkedOrRetired entries e = (x : s.Piece) → s.IsLinked origin entries x → s.IsLinked origin (entries ++ e ∷ []) x ⊎ HandsOver e (s.item origin x)

  -- Each piece that was linked since a section opened that is still open is linked, or a retirement of it is pending that came since
  abbrev pub LinkedOrPending : Run → Type 0
  LinkedOrPending run = (r o : ℕ) (x : s.Piece) → r < records_of origin → IsOpen run r o → WasLinked run o x → s.IsLinked origin (account 0 run) x ⊎ IsPendingSince run o x

  -- By these entries of the writer's, and by what is pending, the words of the item may be taken again: they are none of a piece that is linked, nor of
  -- an item of the structure's that is pending
  pub record IsReusable (entries : List Entry) (pending : List Retirement) (i : Item) : Type 0 where
    pub unlinked : (x : s.Piece) → s.IsLinked origin entries x → AreApart (s.item origin x) i
    pub unused : All (λ (k : Retirement). s.IsItem origin k.retired.item → AreApart k.retired.item i) pending
