use Rattle.std.proofs.Common.{◌≡◌, ◌-◌, ◌<◌, arith, sym, subst, get_or, refl, true≢false}
use Rattle.std.proofs.lemmas.Cmp.{tied_back}
use Rattle.ck_judge.specs.Searches.{change_cmp, EndsAt}
use Rattle.ck_judge.proofs.Recalling.{value_none, value_last}
use Rattle.ck_judge.proofs.Searching.{past, change_found, last_within, last_latest}
use Rattle.ck_judge.proofs.history.History.value_at.Given as given
use Rattle.ck_judge.proofs.history.History.value_at.Goals as goal
use Rattle.ck_judge.proofs.history.History.value_at.Goals.{After-first_not_below-at, After-index-changes-at}

-- the search ended behind the last change of the key up to the place
ended : (g : given.Over) (c : After-first_not_below-at g) → EndsAt (change_cmp g.K.Ord.cmp) c.args.self.now.changes.items (past g.met.K.Ord.total c.args.key.now c.args.place) c.first_not_below-at.result
ended g c = subst (λ cs. EndsAt (change_cmp g.K.Ord.cmp) cs (past g.met.K.Ord.total c.args.key.now c.args.place) c.first_not_below-at.result) c.as_slice-changes.ensures.value c.first_not_below-at.ensures

-- the change before it
last_is : (g : given.Over) (c : After-index-changes-at g) → c.index-changes-at.result ≡ get_or c.args.self.now.changes.items (c.first_not_below-at.result - 1) c.index-changes-at.result
last_is g c = subst (λ cs. c.index-changes-at.result ≡ get_or cs (c.first_not_below-at.result - 1) c.index-changes-at.result) c.as_slice-changes.ensures.value c.index-changes-at.is

pub returns-then-at-eq0 : goal.returns-then-at-eq0
returns-then-at-eq0 g c =
    let total = g.met.K.Ord.total in
    let ends = ended g (goal.at.returns-then-at-eq0 g c).After-first_not_below-at in
    value_none total c.args.self.now c.requires.history c.args.key.now c.args.place c.requires.within
    (λ e there equal low. let pos = change_found total c.args.key.now _ c.args.place _ ends e there equal low in omega (arith, pos, c.if-at-eq0.true))

pub returns-then-same_key : goal.returns-then-same_key
returns-then-same_key g c =
    let total = g.met.K.Ord.total in
    let at = c.first_not_below-at.result in
    let last = c.index-changes-at.result in
    let ends = ended g (goal.at.returns-then-same_key g c).After-first_not_below-at in let is = last_is g (goal.at.returns-then-same_key g c).After-index-changes-at in
    let pos : 0 < at = omega (arith, c.if-at-eq0.false) in
    let equal = c.if-same_key.ensures.0 refl in
    value_last total c.args.self.now c.requires.history c.args.key.now c.args.place c.requires.within last (at - 1, omega (arith, pos, ends.bound), sym is) (tied_back total last.key c.args.key.now equal)
    (last_within total c.args.key.now _ c.args.place _ ends last pos is equal)
    (λ e there alike low. (last_latest total c.args.key.now _ c.args.place _ ends e last there alike low is).1)

pub returns-else-same_key : goal.returns-else-same_key
returns-else-same_key g c =
    let total = g.met.K.Ord.total in
    let at = c.first_not_below-at.result in
    let last = c.index-changes-at.result in
    let ends = ended g (goal.at.returns-else-same_key g c).After-first_not_below-at in let is = last_is g (goal.at.returns-else-same_key g c).After-index-changes-at in
    value_none total c.args.self.now c.requires.history c.args.key.now c.args.place c.requires.within
    (λ e there alike low. true≢false (sym (c.if-same_key.ensures.1 (last_latest total c.args.key.now _ c.args.place _ ends e last there alike low is).0)))
