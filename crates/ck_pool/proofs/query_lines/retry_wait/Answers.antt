use Rattle.std.proofs.Common.{◌≡◌, ◌∙◌, [], ◌∷◌, ◌++◌, true, false, rules, sym, ap, subst, append_assoc, arith}
use Rattle.ck_script.specs.declared.line.AskLine.{AskLine}
use Rattle.ck_pool.specs.Runs.{short_loads, QueryLineRan}
use Rattle.ck_pool.proofs.Running.{get_lt, halts_again, resumes}
use Rattle.ck_pool.proofs.Files.{said_at, take_get}
use Rattle.ck_pool.proofs.query_lines.retry_wait.Goals as goal

pub returns-then-not-branch-clause-ran : goal.returns-then-not-branch-clause-ran
returns-then-not-branch-clause-ran g c =
    let lines = g.D.AskFile.LineList.items c.args.lines.now in
    let i = c.args.at in
    let at = c.requires.waits in
    let fact : c.in_ok-run_line.field-0 ≡ false = search rules in
    let two = rw fact at c.in_ok-run_line.ensures.ran in
    let said = said_at lines i at.line c.what-line.result at.here c.what-line.ensures in (
      short_loads two.0 (two.1 ∷ []),
      two.3,
      halts_again lines i c.args.answers.now.items c.run_line.new.answers.items two.0 two.1 at.line at.here (sym said ∙ two.2) two.5,
    )

pub overflow_add-at : goal.overflow_add-at
overflow_add-at g c =
    let lt = get_lt (g.D.AskFile.LineList.items c.args.lines.now) c.args.at c.requires.waits.line c.requires.waits.here in
    let short = c.requires.lines in
    omega arith

pub run_from-requires-clause-lines : goal.run_from-requires-clause-lines
run_from-requires-clause-lines g c κs within =
    let lt = get_lt (g.D.AskFile.LineList.items c.args.lines.now) c.args.at c.requires.waits.line c.requires.waits.here in
    let short = c.requires.lines in
    (omega arith, omega arith)

pub returns-clause-ran : goal.returns-clause-ran
returns-clause-ran g c =
    let lines = g.D.AskFile.LineList.items c.args.lines.now in
    let i = c.args.at in
    let at = c.requires.waits in
    let fact : c.in_ok-run_line.field-0 ≡ true = search rules in
    let one = rw fact at c.in_ok-run_line.ensures.ran in
    let go = c.in_ok-waits_at.ensures.ran in
    let said = said_at lines i at.line c.what-line.result at.here c.what-line.ensures in
    let ran = subst (λ (l : AskLine g.row.D-Ask.Denot). QueryLineRan l one.0 one.1) said one.4 in (
      one.0 ++ go.0,
      go.1 ∙ (ap (λ l. l ++ go.0) one.2 ∙ append_assoc ((g.D.Dict.eyes c.args.context.now.dict.now).done c.args.eye.now) one.0 go.0),
      resumes lines i c.in_ok-waits_at.waits_at c.args.answers.now.items c.run_line.new.answers.items c.run_from.new.answers.items one.1 one.0 go.0 at.line at.here (take_get lines i at.line at.here) ran one.3 go.2,
    )
