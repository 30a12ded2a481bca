use Rattle.std.proofs.Common.{◌≡◌, ◌-◌, ◌<◌, ℕ, ap, sym, subst, ◌∙◌, arith}
use Rattle.ck_run.specs.Tokens.{table, number}
use Rattle.ck_signal.specs.Signals.{readers}
use Rattle.ck_jobs.proofs.Ends.{begins_number}
use Rattle.ck_jobs.proofs.on_array.OnArrayDict.query.Goals as goal

pub returns-clause-number : goal.returns-clause-number
returns-clause-number g c =
    let begun : number c.begin.new.pass.token ≡ number c.args.eye.now.token = begins_number c.args.eye.now.token c.begin.new.pass.token c.requires.ready.closed c.begin.ensures.steps in
    let read : number c.all-length.new.pass.token ≡ number c.begin.new.pass.token = ap (λ t. number t) c.all-length.ensures.steps.2.steps in
    let ended : number c.end.new.pass.token ≡ number c.all-length.new.pass.token = ap (λ p. number p.token) c.end.ensures.step in
    let noted : number c.note.new.pass.token ≡ number c.end.new.pass.token = ap (λ p. number p.token) c.note.ensures.step in
    ap (λ (n : ℕ). n - 1) (noted ∙ (ended ∙ (read ∙ begun)))

pub returns-clause-ready : goal.returns-clause-ready
returns-clause-ready g c =
    let a = c.args.self.now.array in
    let ended = ap (λ p. table p.token) c.end.ensures.step in
    let noted = ap (λ p. table p.token) c.note.ensures.step in
    let reader : c.note.new.pass.token.view.own.number - 1 < readers a.origin = subst (λ (r : ℕ). r < readers a.origin) (sym (returns-clause-number g c)) c.requires.ready.reader in
    let opened = c.begin.ensures.depth in
    let read = c.all-length.ensures.depth in
    let closed = c.end.ensures.depth in
    let still = c.note.ensures.depth in
    let before = c.requires.ready.closed in
    record {
      made = noted ∙ (ended ∙ (c.all-length.ensures.table ∙ (c.begin.ensures.table ∙ c.requires.ready.made)));
      is_ready = c.note.ensures.ready;
      closed = omega arith;
      reader = reader;
    }
