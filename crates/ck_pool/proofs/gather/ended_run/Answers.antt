use Rattle.std.proofs.Common.{◌≡◌, ◌∙◌, ◌<◌, List, length, Some, None, ap, subst, map}
use Rattle.std.specs.Prelude.{slice_get}
use Rattle.ck_pool.specs.declared.query_run.QueryRun.{QueryRun}
use Rattle.ck_pool.specs.Working.{IsQueryRun}
use Rattle.ck_pool.proofs.Running.{get_at}
use Rattle.ck_pool.proofs.Files.{each_remove, held_else}
use Rattle.ck_pool.proofs.gather.ended_run.Goals as goal

pub returns-in-Some-clause-run : goal.returns-in-Some-clause-run
returns-in-Some-clause-run g c =
    let runs = c.args.runs.now.items in
    let k = c.in-Some.k in
    let lt : k < length runs = subst (λ (l : List (QueryRun g.row.D-Eye.Denot g.row.D-Answer.Denot)). k < length l) c.deref.ensures.value c.in-Some.ensures.0 in
    c.requires.each k c.remove.result (get_at runs k c.remove.result lt c.remove.ensures.value)

pub returns-in-Some-clause-each : goal.returns-in-Some-clause-each
returns-in-Some-clause-each g c =
    each_remove (λ r. IsQueryRun (g.D.Dict.eyes c.args.context.now.dict.now) c.args.desk.now.eyes (map g.D.AskFile.LineList.items c.args.asks.now) r × (r.waits_at ≡ None)) c.args.runs.now.items c.remove.new.self.items c.in-Some.k c.remove.ensures.by_index.2 c.requires.each

pub returns-in-Some-clause-rest : goal.returns-in-Some-clause-rest
returns-in-Some-clause-rest g c =
    let runs = c.args.runs.now.items in
    let k = c.in-Some.k in
    let same : c.deref.result.now ≡ runs = c.deref.ensures.value in
    let lt : k < length runs = subst (λ (l : List (QueryRun g.row.D-Eye.Denot g.row.D-Answer.Denot)). k < length l) same c.in-Some.ensures.0 in
    let here : slice_get runs k ≡ Some c.remove.result = get_at runs k c.remove.result lt c.remove.ensures.value in
    held_else c.args.file runs c.remove.new.self.items k c.remove.result here (c.in-Some.ensures.1 c.remove.result (ap (λ (l : List (QueryRun g.row.D-Eye.Denot g.row.D-Answer.Denot)). slice_get l k) same ∙ here)) c.remove.ensures.by_index.2
