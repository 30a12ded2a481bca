use Rattle.std.proofs.Common.{sym, ◌∙◌}
use Rattle.ck_judge.proofs.tests.verdict_text.Goals as goal

pub judge-requires-clause-ranges : goal.judge-requires-clause-ranges
judge-requires-clause-ranges c = rw (c.deref-2.ensures.value, sym c.deref.ensures.value) (sym c.check_ranges.ensures ∙ c.in_default.is)
