use Rattle.ck_arraylaw.specs.Host.{host}
use Rattle.ck_arraylaw.proofs.Linked.{retires_regions}
use Rattle.ck_arraylaw.proofs.LawHolds.{array_law}
use Rattle.ck_arraylaw.proofs.laws.array_law.Goals as goal

pub pieces_law-requires : goal.pieces_law-requires
pieces_law-requires g c = record { retires = retires_regions (host g.D.Client.meaning g.D.Within.place g.D.Within.part) g.met.D.Within.within }

pub returns : goal.returns
returns g c = λ origin. array_law (record { host = host g.D.Client.meaning g.D.Within.place g.D.Within.part; within = g.met.D.Within.within; law = c.reclamation_law.ensures; pieces = c.pieces_law.ensures; origin = origin })
