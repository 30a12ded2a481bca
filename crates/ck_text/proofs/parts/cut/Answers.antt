use Rattle.ck_text.proofs.Cutting.{parts_at, parts_none, none_before}
use Rattle.ck_text.proofs.parts.cut.Goals as goal

pub returns-in-Some-clause-parts : goal.returns-in-Some-clause-parts
returns-in-Some-clause-parts c = let found = c.in-Some.ensures in parts_at _ _ _ found.0 found.1

pub returns-in-None-clause-parts : goal.returns-in-None-clause-parts
returns-in-None-clause-parts c = parts_none _ _ (none_before _ _ _ c.in-None.ensures)
