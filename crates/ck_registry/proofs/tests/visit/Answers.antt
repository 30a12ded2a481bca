use Rattle.ck_registry.proofs.tests.visit.Goals as goal

pub advance_after-requires-clause-scanned : goal.advance_after-requires-clause-scanned
advance_after-requires-clause-scanned c = c.scan-answer.ensures.scan.1.activity
