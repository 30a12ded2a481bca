use Rattle.ck_registry.proofs.ScanSteps.{may_start, start_late, start}
use Rattle.ck_registry.proofs.registry.Registry.start_scan.Goals as goal

pub load-requires-clause-may : goal.load-requires-clause-may
load-requires-clause-may c n fits = may_start c.args.token.now c.args.rec c.args.depth c.requires.holder c.requires.calls n

pub returns-clause-late : goal.returns-clause-late
returns-clause-late c = start_late c.args.token.now c.args.rec c.args.depth c.requires.holder c.requires.calls c.load.new.token c.load.result c.load.ensures.step

pub returns-clause-scanning : goal.returns-clause-scanning
returns-clause-scanning c = start c.args.token.now c.args.rec c.args.depth c.requires.holder c.requires.calls c.load.new.token c.load.result c.load.ensures.step
