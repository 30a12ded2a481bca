use Rattle.ck_registry.proofs.tests.reuse.Goals as goal

pub advance_after-moved-requires-clause-scanned : goal.advance_after-moved-requires-clause-scanned
advance_after-moved-requires-clause-scanned c = c.scan-ready.ensures.scan.1.activity
