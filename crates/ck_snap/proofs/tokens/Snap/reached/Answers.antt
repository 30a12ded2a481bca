use Rattle.std.proofs.Common.{◌≡◌, ◌∙◌, ◌≤◌, ◌++◌, ◌∷◌, [], length, ap, arith}
use Rattle.ck_history.specs.declared.event.ReaderEvent.TheVariants.{Reached}
use Rattle.ck_snap.specs.Journal.{JournalView}
use Rattle.ck_snap.specs.Log.{Log}
use Rattle.ck_snap.specs.Places.{answers_at, ArePlacedIn}
use Rattle.ck_snap.proofs.Placing.{placed_reached, answers_at-reached}
use Rattle.ck_snap.proofs.tokens.Snap.reached.Goals.{then-n-count, else-n-count}
use Rattle.ck_snap.proofs.tokens.Snap.reached.Goals as goal

pub returns-clause-placed : goal.returns-clause-placed
returns-clause-placed g c =
    let pass = c.pass.inside in
    let old = pass.subscriber.log in
    let seen = c.see.new.self.log in
    let es = pass.journal.events.read in
    let ps = pass.journal.events.places in
    let n = c.args.n in
    let count : c.count-count.result ≡ length seen = c.count-count.ensures ∙ ap (λ (l : Log). length l) c.version.ensures.1 in
    let placed : ArePlacedIn seen (es ++ Reached n c.if-n-count.result ∷ []) ps = elim c.if-n-count.branch [
      | then-n-count w ↦ (let le : n ≤ length seen = omega (arith, w.if-n-count.true) in rw w.result-is (placed_reached old seen c.see.ensures.later es ps c.pass.invariant n _ le))
      | else-n-count w ↦ rw w.result-is (placed_reached old seen c.see.ensures.later es ps c.pass.invariant n _ (omega (arith, count)))
    ] in
    rw (ap (λ (j : JournalView). j.events) c.note_reached.ensures) placed

pub invariant_of-pass : goal.invariant_of-pass
invariant_of-pass g c = returns-clause-placed g c

pub returns-clause-mine : goal.returns-clause-mine
returns-clause-mine g c =
    let pass = c.pass.inside in
    rw (← c.pass.view_is) (ap (λ (j : JournalView). answers_at j.events.read j.events.places) c.note_reached.ensures
    ∙ answers_at-reached pass.subscriber.log pass.journal.events.read pass.journal.events.places c.pass.invariant c.args.n c.if-n-count.result)
