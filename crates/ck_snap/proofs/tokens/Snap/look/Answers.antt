use Rattle.std.proofs.Common.{◌≡◌, ◌∙◌, ℕ, Option, [], ◌∷◌, ◌++◌, length, ap}
use Rattle.std.specs.Ordering.{nat_cmp}
use Rattle.ck_history.specs.Map.{find}
use Rattle.ck_history.specs.declared.event.ReaderEvent.TheVariants.{Answered}
use Rattle.ck_history.specs.declared.log.Placed.{Placed}
use Rattle.ck_snap.specs.Journal.{JournalView}
use Rattle.ck_snap.specs.Log.{Log, map_after}
use Rattle.ck_snap.specs.Places.{answers_at, ArePlacedIn}
use Rattle.ck_snap.proofs.Placing.{placed_answered, answers_at-answered}
use Rattle.ck_snap.proofs.tokens.Snap.look.Goals as goal

pub returns-clause-placed : goal.returns-clause-placed
returns-clause-placed g c =
    let pass = c.pass.inside in
    let es = pass.journal.events.read in
    let ps = pass.journal.events.places in
    let seen = c.look-answer.new.self.log in
    let place : c.count-place.result ≡ length seen = c.count-place.ensures ∙ ap (λ (l : Log). length l) c.version.ensures.1 in
    let placed : ArePlacedIn seen (es ++ Answered c.args.key c.look-answer.result ∷ []) (ps ++ c.count-place.result ∷ []) = rw place (placed_answered pass.subscriber.log seen c.look-answer.ensures.later es ps c.pass.invariant c.args.key c.look-answer.result c.look-answer.ensures.found) in
    rw (ap (λ (j : JournalView). j.events) c.note_answer.ensures) placed

pub invariant_of-pass : goal.invariant_of-pass
invariant_of-pass g c = returns-clause-placed g c

pub returns-clause-mine : goal.returns-clause-mine
returns-clause-mine g c =
    let pass = c.pass.inside in
    let es = pass.journal.events.read in
    let ps = pass.journal.events.places in
    let seen = c.look-answer.new.self.log in
    let place : c.count-place.result ≡ length seen = c.count-place.ensures ∙ ap (λ (l : Log). length l) c.version.ensures.1 in
    let at : Option ℕ → ℕ → Placed ℕ = λ answer place. record { key = c.args.key; answer = answer; place = place } in
    let same = ap (λ answer. at answer c.count-place.result) c.look-answer.ensures.found ∙ ap (at (find nat_cmp (map_after seen) c.args.key)) place in
    rw (← c.pass.view_is) (
    ap (λ (j : JournalView). answers_at j.events.read j.events.places) c.note_answer.ensures
    ∙ (answers_at-answered pass.subscriber.log es ps c.pass.invariant c.args.key c.look-answer.result c.count-place.result ∙ ap (λ a. answers_at es ps ++ a ∷ []) same)
    )
