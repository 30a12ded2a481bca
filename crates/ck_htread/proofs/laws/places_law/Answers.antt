use Rattle.ck_htlaw.specs.Host.{host}
use Rattle.ck_htread.proofs.Placing.{places_law}
use Rattle.ck_htread.proofs.laws.places_law.Goals as goal

pub returns : goal.returns
returns g c = λ origin. places_law (host g.D.Client.meaning g.D.Within.place g.D.Within.part) origin (c.table_law.ensures origin)
