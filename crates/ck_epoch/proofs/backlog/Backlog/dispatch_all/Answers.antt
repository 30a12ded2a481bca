use Rattle.ck_epoch.specs.declared.item.Retired.{Retired}
use Rattle.ck_epoch.proofs.Emptying.{all_wait}
use Rattle.ck_epoch.proofs.backlog.Backlog.dispatch_all.Goals as goal

pub returns-clause-waiting : goal.returns-clause-waiting
returns-clause-waiting g c = all_wait (λ (r : Retired). g.C.Client.meaning.home c.args.client.now r.item) _ _ _ _ _ _ _ _ _
    c.dispatch_list.ensures.waiting c.dispatch_list-2.ensures.waiting c.dispatch_list-3.ensures.waiting c.dispatch_list-4.ensures.waiting
    c.dispatch_list.ensures.lists c.dispatch_list-2.ensures.lists c.dispatch_list-3.ensures.lists
