use Rattle.std.proofs.Common.{◌≡◌, ◌+◌, ◌≤◌, ◌*◌, ◌++◌, List, take}
use Rattle.ck_history.specs.declared.event.ReaderEvent.{ReaderEvent}
use Rattle.ck_pool.specs.Limits.{start_call_bound}
use Rattle.ck_pool.specs.Runs.{QueriesRan}
use Rattle.ck_pool.proofs.query_lines.run_from.Given as goal

abbrev pub invariant-loop-i : goal.invariant-loop-i
invariant-loop-i g l = record {
  ready : (g.D.Dict.eyes l.context.dict.now).ready l.eye;
  number : (g.D.Dict.eyes l.context.dict.now).number l.eye ≡ (g.D.Dict.eyes l.context.dict.now).number l.fn.eye;
  calls : (g.D.Dict.eyes l.context.dict.now).calls l.eye ≤ start_call_bound + 8 * l.i;
  ran : (ds : List (ReaderEvent g.row.D-Ask.Denot g.row.D-Answer.Denot)) × ((g.D.Dict.eyes l.context.dict.now).done l.eye ≡ (g.D.Dict.eyes l.context.dict.now).done l.fn.eye ++ ds)
      × ((before : List (ReaderEvent g.row.D-Ask.Denot g.row.D-Answer.Denot)) → QueriesRan (take l.next (g.D.AskFile.LineList.items l.lines)) before l.fn.answers.items → QueriesRan (take l.i (g.D.AskFile.LineList.items l.lines)) (before ++ ds) l.answers.items);
}
