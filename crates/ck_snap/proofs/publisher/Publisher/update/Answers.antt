use Rattle.std.proofs.Common.{◌≡◌, ◌∙◌, ℕ, ap, subst}
use Rattle.std.specs.Ordering.{nat_cmp}
use Rattle.ck_history.specs.Map.{step}
use Rattle.ck_history.specs.Book.{BookView}
use Rattle.ck_snap.specs.declared.snapshot.Snapshot.{Snapshot}
use Rattle.ck_snap.specs.Growing.{LogPart}
use Rattle.ck_snap.specs.Log.{book_after}
use Rattle.ck_snap.proofs.publisher.Publisher.update.Goals as goal

-- the published map is that after the log
pub returns-clause-reply : goal.returns-clause-reply
returns-clause-reply g c =
    let book = ap (λ (s : Snapshot). s.book) (c.published.ensures ∙ c.self.invariant.fold) in
    let page : c.published.result.now.book ≡ book_after c.args.self.now.log = book ∙ ap (λ (r : LogPart). book_after r.log) c.self.view_is in
    subst (λ (b : BookView ℕ). c.reply-reply.result ≡ (step nat_cmp b.most b.pairs c.args.update.now).1) page c.reply-reply.ensures
