use Rattle.std.proofs.Common.{◌≡◌, ◌+◌, ◌++◌, ◌∷◌, [], ℕ, List, max, take, ap, ◌∙◌, arith}
use Rattle.std.proofs.lemmas.List.{append-nil, take_all}
use Rattle.ck_script.specs.Script.{said_of, updates}
use Rattle.ck_htlaw.specs.Actions.{most}
use Rattle.ck_jobs.specs.Room.{brought}
use Rattle.ck_jobs.proofs.Bringing.{brought-append, one_more_counted, bounded_after}
use Rattle.ck_jobs.proofs.Lines.{updates-take}
use Rattle.ck_jobs.proofs.room.bound_of.Goals.{in-Some, in_default}
use Rattle.ck_jobs.proofs.room.bound_of.Goals as goal

pub loop-i-preserved : goal.loop-i-preserved
loop-i-preserved c =
    let lines = c.args.lines.now.items in
    let line = c.what.result in
    let before = updates (said_of (take c.loop-i.i lines)) in
    let more : brought (updates (said_of (take (c.loop-i.i + 1) lines))) ≡ brought before ++ brought (updates (line ∷ [])) =
    ap brought (updates-take lines c.loop-i.i line c.what.ensures) ∙ brought-append before (updates (line ∷ [])) in
    let counted = c.loop-i.invariant.counted in
    let few = c.loop-i.invariant.few in
    elim c.match-brought_key.branch [
      | in-Some w ↦
          let key = w.in-Some.key in
          let brings = rw w.in-Some.is at c.brought_key.ensures in
          let longer : brought (updates (said_of (take (c.loop-i.i + 1) lines))) ≡ brought before ++ key ∷ [] = more ∙ ap (λ (ks : List ℕ). brought before ++ ks) brings in
          let greater : c.match-brought_key.greatest ≡ max c.loop-i.greatest key = w.greatest-is ∙ (w.max-greatest.ensures ∙ ap (λ (n : ℕ). max c.loop-i.greatest n) w.get.ensures.value) in
          let pairs = w.pairs-is in
          let some = w.get.ensures.key.0 in
          record { counted = rw (w.pairs-is, greater, longer) (one_more_counted (brought before) c.loop-i.pairs c.loop-i.greatest key (omega arith) counted); few = omega arith }
      | in_default w ↦
          let none = rw w.in_default.is at c.brought_key.ensures in
          let same : brought (updates (said_of (take (c.loop-i.i + 1) lines))) ≡ brought before = more ∙ (ap (λ (ks : List ℕ). brought before ++ ks) none ∙ append-nil (brought before)) in
          let pairs = w.pairs-is in
          record { counted = rw (w.pairs-is, w.greatest-is, same) counted; few = omega arith }
    ]

pub returns-clause-enough : goal.returns-clause-enough
returns-clause-enough c p =
    let lines = c.args.lines.now.items in
    let all : take c.loop-i.i lines ≡ lines = take_all c.loop-i.i lines (let done = c.loop-i-test.false in omega arith) in
    let counted = rw all at c.loop-i.invariant.counted in
    let bounds = bounded_after most c.loop-i.greatest (updates (said_of lines)) counted.between p in
    let keys = bounds.by_keys in
    let greatest = bounds.by_greatest in
    let tables = bounds.by_most in
    let so_many = counted.so_many in
    let one = c.from.ensures in
    let two = c.from-2.ensures in
    let three = c.min.ensures in
    let four = c.min-2.ensures in
    omega arith
