use Rattle.std.proofs.Common.{[], ◌∷◌, ◌++◌, ◌-◌, sym, refl}
use Rattle.std.proofs.lemmas.List.{append-nil}
use Rattle.ck_pool.specs.Runs.{answer_loads}
use Rattle.ck_pool.proofs.updates.run_line.Goals as goal

pub returns-in_ok-hold_for-in-Hold-clause-ran : goal.returns-in_ok-hold_for-in-Hold-clause-ran
returns-in_ok-hold_for-in-Hold-clause-ran g c =
    let done = c.in_ok-hold_for-in-Hold.ensures.done in
    let ms = done.0 in
    let k = done.1 in
    let reader = c.in-Hold.file - 1 in
    (answer_loads reader ms ++ answer_loads reader (k ∷ []), [], done.2, sym (append-nil c.args.replies.now.items), rw c.in-Hold.is (ms, k, refl, done.3, done.4, refl))
