use Rattle.ck_htlaw.specs.Host.{host}
use Rattle.ck_htlaw.proofs.Linked.{retires_regions}
use Rattle.ck_htread.proofs.RootsHold.{roots_hold}
use Rattle.ck_htread.proofs.laws.roots_law.Goals as goal

pub pieces_law-requires : goal.pieces_law-requires
pieces_law-requires g c = record { retires = retires_regions (host g.D.Client.meaning g.D.Within.place g.D.Within.part) g.met.D.Within.within }

pub returns : goal.returns
returns g c = λ origin. roots_hold (host g.D.Client.meaning g.D.Within.place g.D.Within.part) g.met.D.Within.within c.reclamation_law.ensures c.pieces_law.ensures origin
