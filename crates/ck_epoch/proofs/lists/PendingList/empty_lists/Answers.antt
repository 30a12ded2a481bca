use Rattle.std.proofs.Common.{◌≡◌, [], ap, sym, ◌∙◌, subst, All, arith}
use Rattle.std.proofs.lemmas.List.Elements.{All-push}
use Rattle.ck_epoch.specs.Lists.{PendingList}
use Rattle.ck_epoch.proofs.lists.PendingList.empty_lists.Goals as goal

pub loop-i-preserved : goal.loop-i-preserved
loop-i-preserved g c =
    let L : Type 0 = PendingList g.row.P.Denot in
    let IsNew : L → Type 0 = λ k. (k.room ≡ c.args.room) × (k.items ≡ []) in
    record {
      count = let a = c.push_reserved.ensures.len in let b = c.loop-i.invariant.count in omega arith;
      room = c.push_reserved.ensures.capacity ∙ c.loop-i.invariant.room;
      each = subst (All IsNew) (sym c.push_reserved.ensures.items)
          (All-push IsNew c.loop-i.lists.items c.in_ok-new.field-0 c.loop-i.invariant.each (ap (λ (k : L). k.room) c.in_ok-new.ensures, ap (λ (k : L). k.items) c.in_ok-new.ensures));
    }
