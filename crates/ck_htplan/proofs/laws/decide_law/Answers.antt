use Rattle.std.proofs.Common.{refl}
use Rattle.std.specs.Ordering.{nat_cmp}
use Rattle.ck_history.specs.Map.{find}
use Rattle.ck_slots.proofs.Lives.{live_keys}
use Rattle.ck_htplan.proofs.Decided.{decided}
use Rattle.ck_htplan.proofs.Replies.{does_as_update, replies_as_map}
use Rattle.ck_htplan.proofs.laws.decide_law.Goals as goal

pub returns-clause-decided : goal.returns-clause-decided
returns-clause-decided c o v m most n u s = (
  decided o s.order v (find nat_cmp m) s.held s.states most n u,
  does_as_update o s.order v s.states s.keyed most n m s.sorted s.held u,
  replies_as_map o s.order v s.states s.keyed most n m s.sorted s.held u,
)

pub returns-clause-live : goal.returns-clause-live
returns-clause-live c o v m s = live_keys o s.order v s.keyed (find nat_cmp m) s.held m s.sorted (λ k. refl)
