use Rattle.ck_judge.proofs.Placed.{ArePlacedTo}
use Rattle.ck_judge.proofs.places.place_file.Given as goal

-- the answers so far have their least places
abbrev pub invariant-loop-i : goal.invariant-loop-i
invariant-loop-i g l = ArePlacedTo g.K.Ord.cmp l.history.most l.history.updates.items l.queries l.answers l.i l.places.items l.last
