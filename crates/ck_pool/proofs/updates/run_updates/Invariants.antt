use Rattle.std.proofs.Common.{◌≡◌, ◌+◌, ◌*◌, ◌≤◌, List, ◌++◌, take}
use Rattle.ck_history.specs.declared.event.WriterEvent.{WriterEvent}
use Rattle.ck_pool.specs.Runs.{UpdatesRan}
use Rattle.ck_pool.proofs.updates.run_updates.Given as goal

abbrev pub invariant-loop-i : goal.invariant-loop-i
invariant-loop-i g l = record {
  ready : (g.D.Dict.hands l.context.dict.now).ready l.hand;
  calls : (g.D.Dict.hands l.context.dict.now).calls l.hand ≤ (g.D.Dict.hands l.context.dict.now).calls l.fn.hand + 8 * l.i;
  ran : (ds : List (WriterEvent g.row.D-Call.Denot g.row.D-Reply.Denot)) × ((g.D.Dict.hands l.context.dict.now).done l.hand ≡ (g.D.Dict.hands l.context.dict.now).done l.fn.hand ++ ds) × UpdatesRan (take l.i (g.D.UpFile.LineList.items l.lines)) ds l.replies.items;
}
