use Rattle.std.proofs.Common.{ℕ, ◌+◌, List, length, inr, sym, ap, ◌∙◌, refl, subst, arith}
use Rattle.std.specs.Prelude.{IsNone}
use Rattle.ck_run.specs.Tokens.{adding}
use Rattle.ck_history.specs.declared.edit.Edit.TheVariants.{Commit}
use Rattle.ck_history.specs.Lists.{ListState}
use Rattle.ck_epoch.specs.declared.item.Retired.{Retired}
use Rattle.ck_epoch.specs.Within.{item_from}
use Rattle.ck_arena.specs.Arena.{HasNoneFree}
use Rattle.ck_arraylaw.specs.Layout.{log_for}
use Rattle.ck_arraylaw.specs.Reached.{with_signals}
use Rattle.ck_arraylaw.specs.Regions.{place_in}
use Rattle.ck_array.specs.Writes.{commit_entries}
use Rattle.ck_array.proofs.Edits.{edited_by, commit_quiet, lists_are}
use Rattle.ck_array.proofs.editing.attempt.Goals as goal
use Rattle.ck_arraylaw.proofs.Members.{region_is_item}

pub returns-in-None : goal.returns-in-None
returns-in-None g c =
    let o = c.args.domain.now.origin in let e = c.commit.ensures in
    record {
      made = record {
        same = c.in-None.ensures.unchanged;
        none = subst (λ (xs : List ℕ). HasNoneFree c.args.state.now.arena (log_for (length xs))) (ap (λ (l : ListState). l.pending) (lists_are g.row.F.Denot o c.args.writer.now c.args.state.now c.requires.ready.ready)) (e.none.0 (subst (λ x. IsNone x) (sym c.in-None.is) refl));
      };
    }

pub returns-in-Some : goal.returns-in-Some
returns-in-Some g c =
    let F = g.row.F.Denot in let o = c.args.domain.now.origin in let w = c.args.writer.now in let s = c.args.state.now in let v = c.commit.new.writer in let s' = c.commit.new.state in let m = c.in-Some.ensures in let r = c.requires.ready in
    let es = commit_entries with_signals o s.lists.pending s'.region s.region m.steps.0 in
    let k : Retired = record { item = item_from (place_in with_signals o) s.region; epoch = m.items.0 } in
    let counted = c.set_tally.ensures ∙ ap (λ (n : ℕ). record v { calls = v.calls + 1; tally = n + 1 }) (c.tally-edits.ensures.tally ∙ ap (λ x. x.tally) m.steps.1) in
    record {
      made = record {
        edited = edited_by F o w v c.set_tally.new.self s s' Commit c.in-Some.reply es 1 r (omega arith) m.steps.1 counted m.reply m.log (commit_quiet with_signals o s.lists.pending s'.region s.region m.steps.0) (inr (k, region_is_item (place_in with_signals o) s.region r.ready.inside, m.items.1)) c.commit.ensures.ready;
        fewer_calls = (let a = ap (λ x. x.calls) c.set_tally.ensures in let b = ap (λ x. x.calls) m.steps.1 in omega arith);
        epoch = m.steps.0;
        made = ap (λ x. x.token) c.set_tally.ensures ∙ (ap (λ x. x.token) m.steps.1 ∙ ap (λ (xs : List ℕ). adding w.token (commit_entries with_signals o xs s'.region s.region m.steps.0)) (ap (λ (l : ListState). l.pending) (lists_are F o w s r.ready)));
      };
    }
