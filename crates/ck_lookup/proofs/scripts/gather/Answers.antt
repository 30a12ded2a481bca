use Rattle.std.proofs.Common.{◌+◌, ◌<◌, ◌≤◌, ℕ, List, length, refl, subst, arith, rules, map}
use Rattle.std.proofs.lemmas.Iterator.Consumers.{YieldsList-turn, YieldsList-end}
use Rattle.std.proofs.lemmas.Iterator.Adapters.{YieldsList-from_vec}
use Rattle.std.proofs.lemmas.List.{length_push, take_all}
use Rattle.std.proofs.lemmas.Result.{err_from_is_err_and, MatchResult-at_ok, MatchResult-at_err}
use Rattle.std.proofs.lemmas.Option.{slice_get_read}
use Rattle.ck_script.specs.Script.{AsksSay}
use Rattle.ck_lookup.proofs.Reporting.{map_long}
use Rattle.ck_lookup.proofs.Scripting.{next_of, map_push, queries_push, any_wait_push, refused_queries}
use Rattle.ck_lookup.proofs.scripts.gather.Goals as goal

pub returns-in_err-lines : goal.returns-in_err-lines
returns-in_err-lines g c =
    let i : ℕ = length c.loop-one.yielded in
    let files : List (List ℕ) = map (λ file. file.items) c.args.files.now in
    let turn = YieldsList-turn (YieldsList-from_vec {s = c.into_iter-one-iterator.result} c.args.said.items (search rules) (search rules))
    c.loop-one.yielded c.loop-one.one-iterator c.loop-one.yielded_by c.next.result c.next.new.self c.in-Some.one c.in-Some.is c.next.ensures.steps in
    let within : i < length files = omega (arith, turn.0, c.requires.len, map_long (λ file. file.items) c.args.files.now) in
    let next = next_of files i within in
    let there = slice_get_read c.args.said.items (length c.args.said.items) i c.in-Some.one refl turn.0 turn.1 in
    let p = err_from_is_err_and c.from_residual.result c.from_residual.ensures.1 in
    rw (p.1, p.2) (refused_queries g.T.RunKind.kind files _ i (i + 1) next.0 _ refl next.1 c.loop-one.invariant.read (MatchResult-at_err _ _ _ c.in_err-lines.was (c.requires.each i next.0 c.in-Some.one next.1 there)))

pub loop-one-preserved : goal.loop-one-preserved
loop-one-preserved g c =
    let i : ℕ = length c.loop-one.yielded in
    let files : List (List ℕ) = map (λ file. file.items) c.args.files.now in
    let turn = YieldsList-turn (YieldsList-from_vec {s = c.into_iter-one-iterator.result} c.args.said.items (search rules) (search rules))
    c.loop-one.yielded c.loop-one.one-iterator c.loop-one.yielded_by c.next.result c.next.new.self c.in-Some.one c.in-Some.is c.next.ensures.steps in
    let within : i < length files = omega (arith, turn.0, c.requires.len, map_long (λ file. file.items) c.args.files.now) in
    let next = next_of files i within in
    let there = slice_get_read c.args.said.items (length c.args.said.items) i c.in-Some.one refl turn.0 turn.1 in
    let one = MatchResult-at_ok _ _ _ c.in_ok-lines.was (c.requires.each i next.0 c.in-Some.one next.1 there) in
    record {
      read = rw (length_push, next.2, c.in_ok-push.ensures.items, map_push) (queries_push g.T.RunKind.kind _ _ _ _ c.loop-one.invariant.read one.0);
      waits = rw (c.in_ok-push.ensures.items, map_push) (any_wait_push (map g.T.AskFile.LineList.items c.loop-one.asks.items) (g.T.AskFile.LineList.items c.in_ok-lines.lines) _ _ c.loop-one.invariant.waits one.1);
    }

pub returns : goal.returns
returns g c =
    let files : List (List ℕ) = map (λ file. file.items) c.args.files.now in
    let end = YieldsList-end (YieldsList-from_vec {s = c.into_iter-one-iterator.result} c.args.said.items (search rules) (search rules))
    c.loop-one.yielded c.loop-one.one-iterator c.loop-one.yielded_by c.next.result c.next.new.self c.in-None.is c.next.ensures.steps in
    let all : length files ≤ length c.loop-one.yielded = omega (arith, end.1, c.requires.len, map_long (λ file. file.items) c.args.files.now) in
    (subst (λ fs. AsksSay g.T.RunKind.kind.queries.is_line g.T.RunKind.kind.queries.words fs (map g.T.AskFile.LineList.items c.loop-one.asks.items)) (take_all (length c.loop-one.yielded) files all) c.loop-one.invariant.read, c.loop-one.invariant.waits)
