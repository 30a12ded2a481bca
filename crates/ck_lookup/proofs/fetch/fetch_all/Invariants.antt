use Rattle.std.proofs.Common.{◌≡◌, take, ◌∷◌, map}
use Rattle.ck_lookup.specs.Limits.{AreWithin}
use Rattle.ck_lookup.specs.Causes.{AreRead}
use Rattle.ck_lookup.proofs.fetch.fetch_all.Given as goal

-- the update file and the query files so far are read
abbrev pub invariant-loop-query : goal.invariant-loop-query
invariant-loop-query g l = record {
  count : l.number ≡ l.query-index;
  read : AreRead (g.S.Shelf.held l.fn.shelf) (l.updates ∷ map (λ name. name.now) (take l.query-index l.queries)) l.files;
  within : AreWithin l.files;
  held : g.S.Shelf.held l.shelf ≡ g.S.Shelf.held l.fn.shelf;
  fetched : g.S.Shelf.faults l.shelf ≡ g.S.Shelf.faults l.fn.shelf;
}
