use Rattle.std.proofs.Common.{◌≡◌, ◌++◌, ◌∷◌, [], length, sym, ◌∙◌, ap, subst, arith, length-append, List, Some}
use Rattle.ck_snap.specs.declared.log.Link.{Link}
use Rattle.ck_snap.specs.Growing.{LogPart, entries, EndsWith}
use Rattle.ck_snap.proofs.Adding.{extend_moves, ends_more, entries-append}
use Rattle.ck_snap.proofs.log.LogEnd.add.Goals as goal
use Rattle.ck_snap.proofs.log.LogEnd.add.Goals.{After-compare_exchange}

pub compare_exchange-requires : goal.compare_exchange-requires
compare_exchange-requires c =
    let word = c.word.invariant in
    let offer = c.plain-offer.ensures in
    let end = c.self.invariant in
    let book = ap (λ (r : LogPart). r.book) c.self.view_is ∙ (c.requires.book ∙ sym c.word.view_is) in (
      ap (λ w. w.tracked) word,
      book,
      end.same ∙ book,
      offer.0,
      rw (ap (λ w. w.key) word, offer.3) (extend_moves c.self.inside.seen.log c.plain-offer.result.ask c.self.inside.pen.nib end.right end.ends),
    )

-- the link that is added
linked : (c : After-compare_exchange) → c.compare_exchange.new.seen.log ≡ c.self.inside.seen.log ++ record { entry = Some c.args.entry.now; next = c.pen.result.nib.key } ∷ []
linked c = c.compare_exchange.ensures.7 ∙ ap (λ (t : Link). c.self.inside.seen.log ++ t ∷ []) c.plain-offer.ensures.1

grown : (c : After-compare_exchange) → entries c.compare_exchange.new.seen.log ≡ entries c.self.inside.seen.log ++ c.args.entry.now ∷ []
grown c = ap entries (linked c) ∙ entries-append c.self.inside.seen.log (record { entry = Some c.args.entry.now; next = c.pen.result.nib.key } ∷ [])

pub invariant_of-self : goal.invariant_of-self
invariant_of-self c =
    let at = (goal.at.invariant_of-self c).After-compare_exchange in
    let end = c.self.invariant in
    let old = c.self.inside.seen.log in
    let t : Link = record { entry = Some c.args.entry.now; next = c.pen.result.nib.key } in
    let more = ap length (grown at) in
    let one = length-append (entries old) (c.args.entry.now ∷ []) in
    let long : length (entries old) ≡ length c.args.self.now.log = ap (λ (r : LogPart). length r.log) c.self.view_is in
    let room = c.requires.room in
    let count = end.count_is in
    record {
      count_is = omega arith;
      small = omega arith;
      same = c.pen.ensures.book ∙ (sym c.requires.book ∙ (sym (ap (λ (r : LogPart). r.book) c.self.view_is) ∙ sym c.compare_exchange.ensures.0));
      right = c.pen.ensures.right;
      ends = subst (λ (ls : List Link). EndsWith ls c.pen.result.nib.key) (sym (linked at)) (ends_more old t);
    }

pub returns : goal.returns
returns c =
    let at = (goal.at.returns c).After-compare_exchange in
    let view = c.self.view_is in
    let book = c.compare_exchange.ensures.0 ∙ ap (λ (r : LogPart). r.book) view in
    let log = grown at ∙ ap (λ (r : LogPart). r.log ++ c.args.entry.now ∷ []) view in
    cc (book, log)
