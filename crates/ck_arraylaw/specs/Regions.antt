-- The regions of an array as pieces of its words: the writer links one by the store of the root, unlinks it by the next such store, and
-- retires it.
use Rattle.std.specs.Prelude.{◌≡◌, ℕ, ◌-◌, ◌⊎◌, List}
use Rattle.ck_run.specs.declared.account.Entry.{Entry}
use Rattle.ck_epoch.specs.declared.item.Item.{Item}
use Rattle.ck_epoch.specs.State.{Origin}
use Rattle.ck_epoch.specs.Within.{item_from}
use Rattle.ck_reclaim.specs.Pieces.{Pieces}
use Rattle.ck_arraylaw.specs.Host.{Host, floor_word, base_word}
use Rattle.ck_arraylaw.specs.Layout.{IsArrayItem}
use Rattle.ck_arraylaw.specs.Array.{CommitStage, replaced, WriterState, writer}
use Rattle.ck_arraylaw.specs.Client.{local_after}

-- the region was replaced, and is to be retired
abbrev pub IsReplaced : CommitStage → Item → Type 0
IsReplaced (replaced old) region = region ≡ old
IsReplaced g region = ⊥

-- it is the present one, or was replaced and is to be retired
abbrev pub IsStanding : WriterState → Item → Type 0
IsStanding p region = (region ≡ p.region) ⊎ IsReplaced p.stage region

module _ {D : Type 0} (host : Host D) where
  -- where the array's words begin among those of the domain's client
  abbrev pub place_in : Origin D → ℕ
  place_in origin = base_word host origin - floor_word host origin

  abbrev pub IsLinkedRegion : Origin D → List Entry → Item → Type 0
  IsLinkedRegion origin es region = (p : WriterState) × (local_after (floor_word host origin) (base_word host origin) 0 es ≡ writer p) × IsStanding p region

  abbrev pub regions : Pieces D
  regions = record {
    client = host.client;
    Piece = Item;
    item = λ origin region. item_from (place_in origin) region;
    IsItem = λ origin i. IsArrayItem (place_in origin) i;
    IsLinked = IsLinkedRegion;
  }
