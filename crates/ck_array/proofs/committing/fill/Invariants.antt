use Rattle.std.proofs.Common.{◌≡◌, ◌+◌, List}
use Rattle.ck_run.specs.Tokens.{adding}
use Rattle.ck_epoch.specs.declared.item.Item.{Item}
use Rattle.ck_epoch.specs.Calls.{SameItemsAndEpoch}
use Rattle.ck_epoch.specs.Ends.{IsDomainToken}
use Rattle.ck_history.specs.declared.edit.Edit.{Edit}
use Rattle.ck_history.specs.Lists.{empty_lists, lists_after_from}
use Rattle.ck_arraylaw.specs.Array.{writer}
use Rattle.ck_arraylaw.specs.Host.{host, base_word}
use Rattle.ck_arraylaw.specs.Known.{knows}
use Rattle.ck_array.specs.Writes.{filling_by, member_stores}
use Rattle.ck_array.proofs.committing.fill.Given as goal

abbrev pub invariant-loop-i : goal.invariant-loop-i
invariant-loop-i g l = let h = host g.D.Client.meaning g.D.Within.place g.D.Within.part in let o = l.domain.origin in record {
  made : l.writer ≡ record l.initial.writer { token = adding l.initial.writer.token (member_stores (base_word h o + l.region.at + 1) l.members l.i) };
  local : (log : List Edit) (present : Item) → knows h o l.initial.writer.token ≡ writer (filling_by log present l.region 0) → (lists_after_from empty_lists log).pending ≡ l.members → knows h o l.writer.token ≡ writer (filling_by log present l.region l.i);
  same : SameItemsAndEpoch l.initial.writer.token l.writer.token;
  part : IsDomainToken g.D.Client.meaning l.writer.token;
}
