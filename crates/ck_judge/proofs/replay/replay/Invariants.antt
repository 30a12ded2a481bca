use Rattle.std.proofs.Common.{◌≡◌, ◌++◌, [], drop}
use Rattle.ck_history.specs.Map.{after_from, replies_from, replies}
use Rattle.ck_judge.specs.Changes.{changes_from}
use Rattle.ck_judge.proofs.replay.replay.Given as goal

-- what the updates so far did, and what those that are left do
abbrev pub invariant-loop-i : goal.invariant-loop-i
invariant-loop-i g l = record {
  map : after_from g.K.Ord.cmp l.most l.table.entries (drop l.i l.us) ≡ after_from g.K.Ord.cmp l.most [] l.us;
  replies : l.replies.items ++ replies_from g.K.Ord.cmp l.most l.table.entries (drop l.i l.us) ≡ replies g.K.Ord.cmp l.most l.us;
  changes : l.changes.items ++ changes_from g.K.Ord.cmp l.most l.table.entries l.i (drop l.i l.us) ≡ changes_from g.K.Ord.cmp l.most [] 0 l.us;
}
