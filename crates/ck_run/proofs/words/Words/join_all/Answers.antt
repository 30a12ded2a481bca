use Rattle.std.proofs.Common.{[], ◌∷◌, ◌++◌, ◌∙◌, sym, ap}
use Rattle.ck_run.specs.Rule.{joined}
use Rattle.ck_run.proofs.Ends.{tied_snoc, joined_snoc}
use Rattle.ck_run.proofs.words.Words.join_all.Goals as goal

pub loop-end-preserved : goal.loop-end-preserved
loop-end-preserved g c =
    let before = c.loop-end.invariant.joins in
    let other = c.release-other.result in
    record {
      can = tt;
      finite = tt;
      callable = c.loop-end.invariant.callable;
      same_table = c.join.ensures.table ∙ c.loop-end.invariant.same_table;
      joins = (
        before.0 ++ other ∷ [],
        tied_snoc (goal.F-post g c.args.release) c.loop-end.yielded before.0 c.in-Some.end other before.1 c.release-other.ensures,
        ap (λ t. t.view) c.join.ensures.token ∙ (ap (λ v. joined v other.view) before.2 ∙ sym (joined_snoc c.args.token.now.view before.0 other)),
      );
    }
