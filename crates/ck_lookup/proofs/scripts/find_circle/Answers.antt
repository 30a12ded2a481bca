use Rattle.std.proofs.Common.{sym, ◌∙◌, map}
use Rattle.ck_script.proofs.Circles.{no_hold_no_circle}
use Rattle.ck_lookup.proofs.scripts.find_circle.Goals as goal

pub returns-then-not-holds : goal.returns-then-not-holds
returns-then-not-holds g c = sym (no_hold_no_circle (g.U.LineList.items c.args.ups.now) (map g.F.LineList.items c.args.asks.now) (sym c.requires ∙ c.if-not-holds.true))
