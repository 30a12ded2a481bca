-- The law of a structure's pieces, of every true run of a domain in which the structure stands. A moment is the part of a run that is past.
use Rattle.std.specs.Prelude.{◌≡◌, ℕ, suc, ◌+◌, ◌<◌, true, [], ◌∷◌, ◌++◌, All}
use Rattle.ck_run.specs.declared.account.Step.TheVariants.{Load, Store}
use Rattle.ck_run.specs.declared.account.Entry.{Entry}
use Rattle.ck_run.specs.Run.{Run, account}
use Rattle.ck_run.specs.Rule.{IsRun}
use Rattle.ck_epoch.specs.declared.item.Item.{Item}
use Rattle.ck_epoch.specs.State.{Origin, Retirement, records_of, base_of, active_word}
use Rattle.ck_epoch.specs.Epochs.{IsOpen, IsOlder, writer_in}
use Rattle.ck_epoch.specs.Client.{program}
use Rattle.ck_reclaim.specs.Pieces.{Pieces, AreApart, WasLinked, LinkedOrRetired, LinkedOrPending, IsReusable}

module _ {C : Type 0} (s : Pieces C) where
  -- it is a true run of the calls of the domain
  abbrev pub IsDomainRun : Origin C → Run → Type 0
  IsDomainRun origin run = IsRun (program s.client) origin run

  -- no step of the writer unlinks a piece without retiring it, or being about to
  abbrev pub RetiresWhatItUnlinks : Type 0
  RetiresWhatItUnlinks = (origin : Origin C) (past rest : Run) (e : Entry) → IsDomainRun origin (past ++ (0, e) ∷ rest) → LinkedOrRetired s origin (account 0 past) e

  module _ (origin : Origin C) (past : Run) where
    -- the words of the item are free at this moment, by the writer's own account
    abbrev pub IsReusableIn : Item → Type 0
    IsReusableIn i = IsReusable s origin (account 0 past) (writer_in origin past).pending i

    -- the item shares no word with what was retired of the structure's since the section opened at the step o
    abbrev pub IsApartFromRetired : ℕ → Item → Type 0
    IsApartFromRetired o i = All (λ (k : Retirement). IsOlder past o k.number → s.IsItem origin k.retired.item → AreApart k.retired.item i)
        ((writer_in origin past).pending ++ (writer_in origin past).dispatched)

  pub record ReclaimsPieces : Type 0 where
    -- what was linked since a section opened that is still open is linked, or a retirement of it is pending
    pub linked : (origin : Origin C) (past rest : Run) → IsDomainRun origin (past ++ rest) → LinkedOrPending s origin past
    -- So free words are none of a piece that was linked since such a section opened ..
    pub apart : (origin : Origin C) (past rest : Run) (i : Item) → IsDomainRun origin (past ++ rest) → IsReusableIn origin past i
        → (r o : ℕ) (x : s.Piece) → r < records_of origin → IsOpen past r o → WasLinked s origin past o x → s.IsItem origin (s.item origin x) → AreApart (s.item origin x) i
    -- .. nor of an item that was retired since
    pub retired : (origin : Origin C) (past rest : Run) (i : Item) → IsDomainRun origin (past ++ rest) → IsReusableIn origin past i
        → (r o : ℕ) → r < records_of origin → IsOpen past r o → IsApartFromRetired origin past o i
    -- a pass that loads a word which the client has read within a section alone is one of a record, and has a section open
    pub guarded : (origin : Origin C) (past rest : Run) (r : ℕ) (e : Entry) (at found : ℕ) → IsDomainRun origin (past ++ (suc r, e) ∷ rest) → e.step ≡ Load (base_of origin + at) found
        → s.client.guarded origin.config.client at ≡ true → (r < records_of origin) × ((o : ℕ) × IsOpen past r o)
    -- and that section stays open at each step that doesn't end it
    pub lasts : (past : Run) (n : ℕ) (e : Entry) (r o : ℕ) → IsOpen past r o → (n ≡ suc r → e.step ≡ Store (active_word r) 0 → ⊥) → IsOpen (past ++ (n, e) ∷ []) r o
