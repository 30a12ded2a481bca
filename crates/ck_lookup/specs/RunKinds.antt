-- The kind that a command names.
use Rattle.std.specs.Prelude.{ℕ}
use Rattle.ck_history.specs.declared.update.Update.{Update}
use Rattle.ck_history.specs.declared.edit.Edit.{Edit}
use Rattle.ck_command.specs.Words.{Kind as Named, table, list}
use Rattle.ck_lookup.specs.Kinds.{Kind}
use Rattle.ck_lookup.specs.Tables.{table_kind}
use Rattle.ck_lookup.specs.Lists.{list_kind}

-- a kind, of whatever calls and queries
pub record AnyKind : Type 1 where
  pub Call : Type 0
  pub Query : Type 0
  pub kind : Kind Call Query

abbrev pub kind_of : Named → AnyKind
kind_of table = record { Call = Update ℕ; Query = ℕ; kind = table_kind }
kind_of list = record { Call = Edit; Query = Unit {0}; kind = list_kind }
