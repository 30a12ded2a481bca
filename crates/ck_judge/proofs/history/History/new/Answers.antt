use Rattle.std.proofs.Common.{◌∙◌, ap, length, sym, subst, map}
use Rattle.ck_history.specs.Map.{answer_after}
use Rattle.ck_judge.specs.History.{given_by}
use Rattle.ck_judge.specs.Changes.{AreEntries}
use Rattle.ck_judge.proofs.Recalling.{entries_moved, entries_given}
use Rattle.ck_judge.proofs.Touching.{changes_are}
use Rattle.ck_judge.proofs.history.History.new.Goals as goal

pub returns-clause-history : goal.returns-clause-history
returns-clause-history g c =
    let us = c.args.updates.items in
    let gives = answer_after g.K.Ord.cmp c.args.most us in
    let here = subst (λ cs. AreEntries g.K.Ord.cmp (λ c. c.key) (λ c. c.place) (λ c. c.value) (length us) gives cs) (sym c.requires) (changes_are g.met.K.Ord.total c.args.most us) in
    let changes = entries_moved g.K.Ord.cmp (λ c. c.key) (λ c. c.place) (λ c. c.value) (length us) gives _ _ c.sort_unstable.ensures.permutation here in
    let given = subst (λ gs. AreEntries g.K.Ord.cmp (λ c. c.key) (λ c. c.place) (λ c. c.value) (length us) gives gs) (sym (c.in_ok-given.ensures ∙ ap (map given_by) c.deref.ensures.value)) (entries_given g.K.Ord.cmp (length us) gives _ changes) in
    record {
      sorted_changes = c.sort_unstable.ensures.sorted;
      changes = changes;
      sorted_given = c.sort_unstable-2.ensures.sorted;
      given = entries_moved g.K.Ord.cmp (λ c. c.key) (λ c. c.place) (λ c. c.value) (length us) gives _ _ c.sort_unstable-2.ensures.permutation given;
    }
