use Rattle.std.proofs.Common.{◌≡◌, ◌+◌, ◌∙◌, List, [], ◌∷◌, ◌++◌, take, true, false, Some, rules, sym, ap, subst, append_assoc, arith}
use Rattle.std.specs.Prelude.{slice_get}
use Rattle.std.proofs.lemmas.List.{append-nil, take_all}
use Rattle.ck_script.specs.declared.line.Numbered.{Numbered}
use Rattle.ck_script.specs.declared.line.AskLine.{AskLine}
use Rattle.ck_pool.specs.Runs.{short_loads, QueriesRan}
use Rattle.ck_pool.proofs.Running.{halts, goes_on}
use Rattle.ck_pool.proofs.Files.{take_get}
use Rattle.ck_pool.proofs.query_lines.run_from.Goals as goal

pub loop-i-init : goal.loop-i-init
loop-i-init g c = record {
  ready = c.requires.ready;
  number = search rules;
  calls = c.requires.calls;
  ran = ([], sym (append-nil ((g.D.Dict.eyes c.args.context.now.dict.now).done c.args.eye.now)), λ before asks. rw (append-nil before) asks);
}

pub returns-then-not-branch-clause-ran : goal.returns-then-not-branch-clause-ran
returns-then-not-branch-clause-ran g c =
    let lines = g.D.AskFile.LineList.items c.args.lines.now in
    let i = c.loop-i.i in
    let line = c.get-line.result in
    let inv = c.loop-i.invariant.ran in
    let fact : c.in_ok-run_line.field-0 ≡ false = search rules in
    let two = rw fact at c.in_ok-run_line.ensures.ran in
    let load = short_loads two.0 (two.1 ∷ []) in
    let here : slice_get lines i ≡ Some line = c.get-line.ensures in (
      inv.0 ++ load,
      two.3 ∙ (ap (λ l. l ++ load) inv.1 ∙ append_assoc ((g.D.Dict.eyes c.args.context.now.dict.now).done c.args.eye.now) inv.0 load),
      halts lines c.args.next i c.args.answers.now.items c.loop-i.answers.items c.run_line.new.answers.items inv.0 two.0 two.1 line here two.2 two.5 inv.2,
    )

pub loop-i-preserved : goal.loop-i-preserved
loop-i-preserved g c =
    let lines = g.D.AskFile.LineList.items c.args.lines.now in
    let i = c.loop-i.i in
    let line = c.get-line.result in
    let inv = c.loop-i.invariant.ran in
    let fact : c.in_ok-run_line.field-0 ≡ true = search rules in
    let one = rw fact at c.in_ok-run_line.ensures.ran in
    let taken : take (i + 1) lines ≡ take i lines ++ line ∷ [] = take_get lines i line c.get-line.ensures in
    record {
      ready = c.in_ok-run_line.ensures.ready;
      number = c.in_ok-run_line.ensures.number ∙ c.loop-i.invariant.number;
      calls = let a = c.loop-i.invariant.calls in let b = c.in_ok-run_line.ensures.calls in omega arith;
      ran = (
        inv.0 ++ one.0,
        one.2 ∙ (ap (λ l. l ++ one.0) inv.1 ∙ append_assoc ((g.D.Dict.eyes c.args.context.now.dict.now).done c.args.eye.now) inv.0 one.0),
        goes_on lines c.args.next i c.args.answers.now.items c.loop-i.answers.items c.run_line.new.answers.items one.1 inv.0 one.0 line taken one.3 one.4 inv.2,
      );
    }

pub returns-clause-ran : goal.returns-clause-ran
returns-clause-ran g c =
    let lines = g.D.AskFile.LineList.items c.args.lines.now in
    let i = c.loop-i.i in
    let inv = c.loop-i.invariant.ran in
    let all : take i lines ≡ lines = take_all i lines (omega (arith, c.loop-i-test.false)) in (
      inv.0,
      inv.1,
      λ before asks. subst (λ (ls : List (Numbered (AskLine g.row.D-Ask.Denot))). QueriesRan ls (before ++ inv.0) c.loop-i.answers.items) all (inv.2 before asks),
    )
