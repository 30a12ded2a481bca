use Rattle.std.proofs.Common.{◌≡◌, ◌∙◌, sym, ap, subst, Result, IsOk, MatchResult, Some, rules}
use Rattle.std.specs.declared.result.Result.TheVariants.{Ok, Err}
use Rattle.left_right.specs.Register.{TurnsAt}
use Rattle.left_right.specs.Sides.{view}
use Rattle.ck_snap.specs.declared.snapshot.Snapshot.{Snapshot}
use Rattle.ck_snap.specs.Version.{book_with}
use Rattle.ck_snap.specs.Copies.{Keeps, Shows, snapshot_of}
use Rattle.ck_snap.proofs.Keeping.{publishes}
use Rattle.ck_snap.proofs.publisher.publish_in.Goals as goal

-- what is said of `Ok` holds
of_ok : {A B : Type 0} (r : Result A B) (P : Type 0) (Q : Type 0) → IsOk r → MatchResult r (λ _. P) (λ _. Q) → P
of_ok (Ok a) P Q ok h = h
of_ok (Err b) P Q ok h = search rules

pub publish_as-writer-requires : goal.publish_as-writer-requires
publish_as-writer-requires g c next is =
    let shown = c.args.writer.desk.shown.value in
    let op = c.args.next.now in
    let made : next ≡ record { book = book_with shown.book op.last; version = op } = rw c.requires.pending at is in
    let seat = c.args.writer.desk.place in
    subst (λ (s : Snapshot). TurnsAt (λ x views. Keeps x views) seat.id (view seat) shown s (λ v x y w. Shows v y w)) (sym made) (publishes seat.id (view seat) shown op c.requires.follows)

pub unwrap-requires : goal.unwrap-requires
unwrap-requires g c = c.publish_as-writer.ensures.succeeds tt

pub returns : goal.returns
returns g c =
    let shown = c.args.writer.desk.shown.value in
    let op = c.args.next.now in
    let r = c.publish_as-writer in
    let y = r.result.0.desk.shown.value in
    let ok = r.ensures.succeeds tt in
    let values = of_ok r.result.1 _ _ ok r.ensures.values in
    let told = of_ok r.result.1 _ _ ok r.ensures.rule in
    let made : y ≡ record { book = book_with shown.book op.last; version = op } = rw c.requires.pending at values.0 in
    let version = ap (λ (s : Snapshot). s.version) made in
    record { shown = told.fold ∙ ap snapshot_of version; knows = ap (λ v. v.seen) told.view ∙ ap Some version; settled = values.1 }
