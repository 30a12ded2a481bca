use Rattle.std.proofs.Common.{refl}
use Rattle.ck_lookup.proofs.Verdicts.{without_ends, verdict_ends}
use Rattle.ck_lookup.proofs.judging.run_judge.Goals as goal

pub returns-in-Err-clause-ends : goal.returns-in-Err-clause-ends
returns-in-Err-clause-ends g c = without_ends _ _ _ c.in-Err.ensures.refused refl

pub returns-in-Ok-clause-ends : goal.returns-in-Ok-clause-ends
returns-in-Ok-clause-ends g c = verdict_ends _ _ _ _ c.in-Ok.ensures.fetched c.in-Ok.ensures.verdict c.put_verdict.ensures.put
