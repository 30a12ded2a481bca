-- The regions of a table as pieces of its words: the writer links one by the store of the root, unlinks it by the next such store, and retires it.
use Rattle.std.specs.Prelude.{◌≡◌, ℕ, ◌-◌, ◌⊎◌, List}
use Rattle.ck_run.specs.declared.account.Entry.{Entry}
use Rattle.ck_epoch.specs.State.{Origin, base_of}
use Rattle.ck_reclaim.specs.Pieces.{Pieces}
use Rattle.ck_htlaw.specs.Host.{Host, first, inner, lies}
use Rattle.ck_htlaw.specs.Stages.{Stage, retiring, retiring_at_end}
use Rattle.ck_htlaw.specs.Table.{WriterState, writer}
use Rattle.ck_htlaw.specs.Layout.{counters_of, region_item, IsTableItem}
use Rattle.ck_htlaw.specs.Client.{local_after}

-- the region was replaced, and is to be retired
abbrev pub IsReplaced : Stage → ℕ → Type 0
IsReplaced (retiring old c) root = root ≡ old
IsReplaced (retiring_at_end old) root = root ≡ old
IsReplaced g root = ⊥

-- it is the present one, or was replaced and is to be retired
abbrev pub Stands : ℕ → Stage → ℕ → Type 0
Stands root g other = (other ≡ root) ⊎ IsReplaced g other

module _ {D : Type 0} (host : Host D) where
  -- By these entries the region of this root is the present one, or it was replaced and is to be retired
  abbrev pub IsLinkedRegion : Origin D → List Entry → ℕ → Type 0
  IsLinkedRegion origin es root = (p : WriterState) × (local_after (lies host origin) origin.words 0 es ≡ writer p) × Stands p.root p.stage root

  abbrev pub regions : Pieces D
  regions = record {
    client = host.client;
    Piece = ℕ;
    item = λ origin root. region_item (first host origin - base_of origin) root;
    IsItem = λ origin i. IsTableItem (counters_of (inner host origin).config.client) (first host origin - base_of origin) i;
    IsLinked = IsLinkedRegion;
  }
