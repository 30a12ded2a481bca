use Rattle.std.proofs.Common.{sym, ◌∙◌, map}
use Rattle.ck_script.proofs.Shorts.{in_range_without_waits}
use Rattle.ck_lookup.proofs.scripts.find_beyond.Goals as goal

pub returns-then-not-waits : goal.returns-then-not-waits
returns-then-not-waits g c =
    sym (in_range_without_waits (g.U.LineList.items c.args.ups.now) (map g.F.LineList.items c.args.asks.now) (sym c.requires.holds ∙ c.if-not-holds.true) (sym c.requires.waits ∙ c.if-not-waits.true))
