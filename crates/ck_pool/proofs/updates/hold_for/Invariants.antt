use Rattle.std.proofs.Common.{◌≡◌, ℕ, List, ◌++◌, ◌<◌, All}
use Rattle.ck_pool.specs.Runs.{answer_loads}
use Rattle.ck_pool.proofs.updates.hold_for.Given as goal

abbrev pub invariant-loop : goal.invariant-loop
invariant-loop g l = record {
  ready : (g.D.Dict.hands l.context.dict.now).ready l.hand;
  calls : (g.D.Dict.hands l.context.dict.now).calls l.hand ≡ (g.D.Dict.hands l.context.dict.now).calls l.fn.hand;
  done : (ms : List ℕ) × ((g.D.Dict.hands l.context.dict.now).done l.hand ≡ (g.D.Dict.hands l.context.dict.now).done l.fn.hand ++ answer_loads l.reader ms) × All (λ m. m < l.n) ms;
}
