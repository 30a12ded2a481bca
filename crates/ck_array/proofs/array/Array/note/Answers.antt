use Rattle.std.proofs.Common.{◌≡◌, [], ◌∷◌, length, ap, sym, ◌∙◌}
use Rattle.ck_run.specs.Tokens.{adding}
use Rattle.ck_epoch.specs.Calls.{rec_of}
use Rattle.ck_signal.specs.Words.{notes}
use Rattle.ck_signal.specs.Told.{answered_word_of}
use Rattle.ck_arraylaw.specs.Client.{array, answers_of}
use Rattle.ck_arraylaw.specs.Known.{knows}
use Rattle.ck_arraylaw.specs.Reached.{with_signals}
use Rattle.ck_array.proofs.SignalSteps.{answers_counted, note_still}
use Rattle.ck_array.proofs.array.Array.note.Goals as goal

pub note-requires-clause-tally : goal.note-requires-clause-tally
note-requires-clause-tally c = answers_counted c.args.self.now.origin c.args.pass.now (ap (λ w. w.origin) c.requires.table) c.requires.ready

pub returns : goal.returns
returns c =
    let o = c.args.self.now.origin in let p = c.args.pass.now in let q = c.note.new.pass in let n = length (answers_of (knows with_signals o p.token)) in
    let counted = answers_counted o p (ap (λ w. w.origin) c.requires.table) c.requires.ready in
    let step : q ≡ record p { token = adding p.token (notes (answered_word_of array o (rec_of p.token)) n ∷ []) } = c.note.ensures.step ∙ (λ i. record p { token = adding p.token (notes (answered_word_of array (c.self.view_is i).origin (rec_of p.token)) ((sym counted ∙ (c.requires.ready.tally ∙ ap (λ x. length (answers_of x)) (sym c.requires.ready.local))) i) ∷ []) }) in
    let s = note_still o p q (rec_of p.token) n c.requires.ready step in
    record { step = step; answers = s.1; events = s.2; ready = s.0; depth = c.note.ensures.depth }
