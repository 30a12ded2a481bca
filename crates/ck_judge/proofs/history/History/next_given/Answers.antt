use Rattle.std.proofs.Common.{◌≡◌, ◌<◌, arith, sym, ap, subst, get_or, length, refl, true≢false}
use Rattle.std.proofs.lemmas.Cmp.{tied_back}
use Rattle.ck_judge.specs.Searches.{given_cmp, EndsAt}
use Rattle.ck_judge.proofs.Recalling.{given_answers}
use Rattle.ck_judge.proofs.Searching.{from_on, given_found, first_within, first_least}
use Rattle.ck_judge.proofs.history.History.next_given.Given as given
use Rattle.ck_judge.proofs.history.History.next_given.Goals as goal
use Rattle.ck_judge.proofs.history.History.next_given.Goals.{After-first_not_below-at, After-index-given-at}

-- the search ended at the first place of the key and the value that isn't below
ended : (g : given.Over) (c : After-first_not_below-at g) → EndsAt (given_cmp g.K.Ord.cmp) c.args.self.now.given.items (from_on g.met.K.Ord.total c.args.key.now c.args.value c.args.from) c.first_not_below-at.result
ended g c = subst (λ gs. EndsAt (given_cmp g.K.Ord.cmp) gs (from_on g.met.K.Ord.total c.args.key.now c.args.value c.args.from) c.first_not_below-at.result) c.as_slice-given.ensures.value c.first_not_below-at.ensures

-- what stands there
first_is : (g : given.Over) (c : After-index-given-at g) → c.index-given-at.result ≡ get_or c.args.self.now.given.items c.first_not_below-at.result c.index-given-at.result
first_is g c = subst (λ gs. c.index-given-at.result ≡ get_or gs c.first_not_below-at.result c.index-given-at.result) c.as_slice-given.ensures.value c.index-given-at.is

pub returns-then-at-given : goal.returns-then-at-given
returns-then-at-given g c =
    let total = g.met.K.Ord.total in
    let at = c.first_not_below-at.result in
    let ends = ended g (goal.at.returns-then-at-given g c).After-first_not_below-at in
    λ e is.
    let lt = given_found total c.args.key.now _ c.args.value c.args.from at ends e is.there is.key is.value is.after in
    let all = ap length c.as_slice-given.ensures.value in
    omega (arith, lt, all, c.if-at-given.true)

pub returns-then-gives : goal.returns-then-gives
returns-then-gives g c =
    let total = g.met.K.Ord.total in
    let at = c.first_not_below-at.result in
    let first = c.index-given-at.result in
    let ends = ended g (goal.at.returns-then-gives g c).After-first_not_below-at in
    let is = first_is g (goal.at.returns-then-gives g c).After-index-given-at in
    let all = ap length c.as_slice-given.ensures.value in
    let lt : at < length c.args.self.now.given.items = omega (arith, all, c.if-at-given.false, ends.bound) in
    let both = c.if-gives.ensures.0 refl in
    let from = first_within total c.args.key.now _ c.args.value c.args.from at ends first lt is both.0 both.1 in
    record {
      after = from;
      here = given_answers total c.args.self.now c.requires c.args.key.now c.args.value c.args.from first (record { there = (at, lt, sym is); key = tied_back total first.key c.args.key.now both.0; value = both.1; after = from });
      least = λ e other. (first_least total c.args.key.now _ c.args.value c.args.from at ends e first other.there other.key other.value other.after is).2;
    }

pub returns-else-gives : goal.returns-else-gives
returns-else-gives g c =
    let total = g.met.K.Ord.total in
    let at = c.first_not_below-at.result in
    let first = c.index-given-at.result in
    let ends = ended g (goal.at.returns-else-gives g c).After-first_not_below-at in
    let is = first_is g (goal.at.returns-else-gives g c).After-index-given-at in
    λ e other.
    let found = first_least total c.args.key.now _ c.args.value c.args.from at ends e first other.there other.key other.value other.after is in
    true≢false (sym (c.if-gives.ensures.1 (found.0, found.1)))
