use Rattle.std.proofs.Common.{◌≡◌, refl, sym, ◌∙◌, arith, rules, length, ap, Some}
use Rattle.ck_io.specs.contracts.mem_shelf.MemShelf.{the_view}
use Rattle.ck_io.specs.MemShelf.{contents, place, bytes_under}
use Rattle.ck_io.proofs.Shelves.{counted, bytes_under-at, bytes_under-past, numbered, fetch_fails-unheld, fetch_fails-numbered, fetch_fails-neither, fits-padded}
use Rattle.ck_io.proofs.mem_shelf.MemShelf.answer.Goals as goal
use Rattle.ck_io.proofs.mem_shelf.MemShelf.answer.Goals.{then-place-len-via-then-place-len, then-place-len-via-else-place-len+then-contains}

pub returns-in_err-fill_up-clause-counted : goal.returns-in_err-fill_up-clause-counted
returns-in_err-fill_up-clause-counted c =
    rw (← c.self.view_is) (counted c.self.inside.files.items c.args.name.now c.self.inside.counts.items c.self.inside.strays)

pub returns-then-place-len-clause-counted : goal.returns-then-place-len-clause-counted
returns-then-place-len-clause-counted c =
    rw (← c.self.view_is) (counted c.self.inside.files.items c.args.name.now c.self.inside.counts.items c.self.inside.strays)

pub returns-then-place-len-clause-fails : goal.returns-then-place-len-clause-fails
returns-then-place-len-clause-fails c =
    let at : c.place_of-place.result ≡ place (contents c.self.inside.files.items) c.args.name.now
    = rw c.deref.ensures.value at c.place_of-place.ensures.place in
    rw (← c.self.view_is) (elim c.then-place-len.branch [
      | then-place-len-via-then-place-len w ↦
          fetch_fails-unheld (the_view c.self.inside) c.args.name.now (bytes_under-past c.self.inside.files.items c.args.name.now (omega (arith, at)))
      | then-place-len-via-else-place-len+then-contains w ↦
          fetch_fails-numbered (the_view c.self.inside) c.args.name.now
          (numbered _ _ _ _ _ c.saturating_add-number.ensures w.deref-else-place-len.ensures.value w.contains.ensures.value ∙ w.if-contains.true)
    ])

pub returns-then-place-len-clause-fits : goal.returns-then-place-len-clause-fits
returns-then-place-len-clause-fits c =
    let at : c.place_of-place.result ≡ place (contents c.self.inside.files.items) c.args.name.now
    = rw c.deref.ensures.value at c.place_of-place.ensures.place in
    let all : c.len.result ≡ length c.self.inside.files.items = search rules in
    λ _. rw (← c.self.view_is, ← at) (fits-padded (length c.self.inside.files.items) c.place_of-place.result c.self.inside.strays
    c.self.inside.counts.items c.fill_up.new.counts.items (rw all at c.fill_up.ensures.same)
    (c.in_ok-fill_up.ensures.full ∙ all) c.raise.ensures.fits)

pub returns-then-len-limit-clause-gives : goal.returns-then-len-limit-clause-gives
returns-then-len-limit-clause-gives c =
    let held : bytes_under (contents c.self.inside.files.items) c.args.name.now ≡ Some c.index.result.now.1.items
    = bytes_under-at c.self.inside.files.items c.args.name.now c.place_of-place.result c.index.result.now
    (rw c.deref.ensures.value at c.place_of-place.ensures.place) (omega arith) c.index.ensures in
    rw (← c.self.view_is) (refl, (c.index.result.now.1.items, held, omega arith))

pub returns-then-len-limit-clause-fails : goal.returns-then-len-limit-clause-fails
returns-then-len-limit-clause-fails c =
    let held : bytes_under (contents c.self.inside.files.items) c.args.name.now ≡ Some c.index.result.now.1.items
    = bytes_under-at c.self.inside.files.items c.args.name.now c.place_of-place.result c.index.result.now
    (rw c.deref.ensures.value at c.place_of-place.ensures.place) (omega arith) c.index.ensures in
    rw (← c.self.view_is) (fetch_fails-neither (the_view c.self.inside) c.args.name.now c.index.result.now.1.items held
    (numbered _ _ _ _ _ c.saturating_add-number.ensures c.deref-else-place-len.ensures.value c.if-contains.ensures.value))

pub returns-clause-fails : goal.returns-clause-fails
returns-clause-fails c =
    let held : bytes_under (contents c.self.inside.files.items) c.args.name.now ≡ Some c.index.result.now.1.items
    = bytes_under-at c.self.inside.files.items c.args.name.now c.place_of-place.result c.index.result.now
    (rw c.deref.ensures.value at c.place_of-place.ensures.place) (omega arith) c.index.ensures in
    rw (← c.self.view_is) (fetch_fails-neither (the_view c.self.inside) c.args.name.now c.index.result.now.1.items held
    (numbered _ _ _ _ _ c.saturating_add-number.ensures c.deref-else-place-len.ensures.value c.if-contains.ensures.value))

pub returns-clause-gives : goal.returns-clause-gives
returns-clause-gives c =
    let held : bytes_under (contents c.self.inside.files.items) c.args.name.now ≡ Some c.index.result.now.1.items
    = bytes_under-at c.self.inside.files.items c.args.name.now c.place_of-place.result c.index.result.now
    (rw c.deref.ensures.value at c.place_of-place.ensures.place) (omega arith) c.index.ensures in
    let copied : c.in_ok-copy.copy.items ≡ c.index.result.now.1.items
    = c.in_ok-copy.ensures.items_if_clones_equal (λ x y e. e) ∙ c.deref-2.ensures.value in
    rw (← c.self.view_is) (held ∙ ap Some (sym copied), rw copied (omega arith))
