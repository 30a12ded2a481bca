use Rattle.ck_epoch.proofs.Parting.{new_pass}
use Rattle.ck_epoch.proofs.ends.Pass.new.Goals as goal

pub invariant_of-result : goal.invariant_of-result
invariant_of-result g c = let f = c.requires.fresh in new_pass g.C.Client.meaning g.met.C.Client.starts f.0 f.4 c.args.token c.args.number f.1 f.2 f.3
