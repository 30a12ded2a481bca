use Rattle.std.proofs.Common.{◌≡◌, take, map}
use Rattle.ck_script.specs.Fronts.{any_wait}
use Rattle.ck_script.specs.Script.{AsksSay}
use Rattle.ck_lookup.proofs.scripts.queries_in.Given as goal

-- the files so far are read
abbrev pub invariant-loop-file : goal.invariant-loop-file
invariant-loop-file g l = record {
  count : l.number ≡ l.file-index;
  read : AsksSay g.T.RunKind.kind.queries.is_line g.T.RunKind.kind.queries.words (take l.file-index (map (λ file. file.items) l.files)) (map g.T.AskFile.LineList.items l.asks.items);
  waits : l.waits ≡ any_wait (map g.T.AskFile.LineList.items l.asks.items);
}
