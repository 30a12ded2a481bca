use Rattle.std.proofs.Common.{◌≡◌, ◌+◌, ◌++◌, map, drop}
use Rattle.ck_script.specs.Script.{said_of, holds, bounded_files}
use Rattle.ck_judge.specs.Files.{as_queries}
use Rattle.ck_judge.proofs.files.read_files.Given as goal

-- the files so far, and those that are left
abbrev pub invariant-loop-i : goal.invariant-loop-i
invariant-loop-i g l = as_queries l.files.items ++ bounded_files l.all (holds 0 (said_of (g.U.LineList.items l.ups))) (l.i + 1) (map said_of (map g.F.LineList.items (drop l.i l.asks))) ≡ bounded_files l.all (holds 0 (said_of (g.U.LineList.items l.ups))) 1 (map said_of (map g.F.LineList.items l.asks))
