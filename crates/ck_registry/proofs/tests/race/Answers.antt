use Rattle.ck_registry.proofs.tests.race.Goals as goal

pub advance_after-moved-requires-clause-scanned : goal.advance_after-moved-requires-clause-scanned
advance_after-moved-requires-clause-scanned c = c.scan-second.ensures.scan.1.activity

pub advance_after-raced-requires-clause-scanned : goal.advance_after-raced-requires-clause-scanned
advance_after-raced-requires-clause-scanned c = c.scan-first.ensures.scan.1.activity
