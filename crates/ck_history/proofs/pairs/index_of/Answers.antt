use Rattle.std.proofs.Common.{rules}
use Rattle.std.proofs.lemmas.List.Sorted.{answers_always}
use Rattle.ck_history.proofs.Index.{searched}
use Rattle.ck_history.proofs.pairs.index_of.Goals as goal

-- the closure gives a pair's key
pub returns : goal.returns
returns g c =
    let facts = c.binary_search_by_key.ensures in
    let by_key = facts.position (λ pair. pair.0) (answers_always _ _ _ (λ f a r g called. search rules)) in
    searched g.met.K.Ord.total c.args.key.now _ _ c.requires facts.bound by_key
