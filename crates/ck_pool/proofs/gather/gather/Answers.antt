use Rattle.std.proofs.Common.{◌≡◌, ◌+◌, IfOk, None, ap, vec_len, arith, map}
use Rattle.ck_pool.specs.Desk.{ClerkView}
use Rattle.ck_pool.specs.Working.{IsQueryRun, IsWorked}
use Rattle.ck_pool.proofs.Files.{all_front, all_last, ok_of, each_joined, gathered_all, joined_clerk}
use Rattle.ck_pool.proofs.gather.gather.Goals as goal

pub loop-one-preserved : goal.loop-one-preserved
loop-one-preserved g c =
    let inv = c.loop-one.invariant in
    let whole = c.in-Some.ensures.items in
    let clerk = c.in_ok-other.field-0.clerk in
    let more = c.in_ok-other.field-0.runs in
    let old = c.loop-one.clerk in
    let new = c.join.new.clerk in
    let said = ok_of (IsWorked (g.D.Dict.eyes c.args.context.now.dict.now) c.args.desk.now.eyes (map g.D.AskFile.LineList.items c.args.asks.now) c.args.desk.now) c.in-Some.one c.in_ok-other.field-0 c.in_ok-other.was
    (all_last (λ one. IfOk one (IsWorked (g.D.Dict.eyes c.args.context.now.dict.now) c.args.desk.now.eyes (map g.D.AskFile.LineList.items c.args.asks.now) c.args.desk.now)) c.loop-one.left.items c.pop.new.self.items c.in-Some.one whole inv.left) in
    let one_part : clerk.known.parts ≡ 1 = said.part in
    let parts : new.known.parts ≡ old.known.parts + clerk.known.parts = ap (λ (k : ClerkView g.row.D-Eye.Denot). k.known.parts) c.join.ensures in
    let len : vec_len c.pop.new.self + 1 ≡ vec_len c.loop-one.left = c.in-Some.ensures.cases in
    let before = inv.parts in
    record {
      clerk = joined_clerk c.args.desk.now old new clerk c.join.ensures inv.clerk;
      parts = omega arith;
      left = all_front (λ one. IfOk one (IsWorked (g.D.Dict.eyes c.args.context.now.dict.now) c.args.desk.now.eyes (map g.D.AskFile.LineList.items c.args.asks.now) c.args.desk.now)) c.loop-one.left.items c.pop.new.self.items c.in-Some.one whole inv.left;
      each = each_joined (λ r. IsQueryRun (g.D.Dict.eyes c.args.context.now.dict.now) c.args.desk.now.eyes (map g.D.AskFile.LineList.items c.args.asks.now) r × (r.waits_at ≡ None)) c.loop-one.runs.items more.items c.append.new.self.items c.in_ok-append.ensures.items inv.each
          said.ended;
      all = gathered_all old.known.took new.known.took clerk.known.took c.loop-one.runs.items c.append.new.self.items more.items (ap (λ (k : ClerkView g.row.D-Eye.Denot). k.known.took) c.join.ensures) c.in_ok-append.ensures.items inv.all
          said.all;
    }
