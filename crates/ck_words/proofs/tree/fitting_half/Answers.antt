use Rattle.std.proofs.Common.{arith}
use Rattle.ck_words.proofs.Descending.{right_fits}
use Rattle.ck_words.proofs.tree.fitting_half.Goals as goal

pub returns-else-from-spare-clause-fits : goal.returns-else-from-spare-clause-fits
returns-else-from-spare-clause-fits c =
    right_fits _ c.args.node _ (c.requires.consistent c.args.node c.requires.positive (omega arith)) c.requires.inner c.requires.small c.requires.cut c.requires.fits (omega (arith, c.from.ensures, c.if-from-spare.false))
