use Rattle.std.proofs.Common.{◌≡◌, take, map, length}
use Rattle.ck_script.specs.Fronts.{any_wait}
use Rattle.ck_script.specs.Script.{AsksSay}
use Rattle.ck_lookup.proofs.scripts.gather.Given as goal

-- the files so far are put together
abbrev pub invariant-loop-one : goal.invariant-loop-one
invariant-loop-one g l = record {
  read : AsksSay g.T.RunKind.kind.queries.is_line g.T.RunKind.kind.queries.words (take (length l.yielded) (map (λ file. file.items) l.files)) (map g.T.AskFile.LineList.items l.asks.items);
  waits : l.waits ≡ any_wait (map g.T.AskFile.LineList.items l.asks.items);
}
