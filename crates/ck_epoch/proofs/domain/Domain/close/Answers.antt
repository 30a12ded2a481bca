use Rattle.std.proofs.Common.{rules, ◌≡◌, ℕ, drop, sym, ap, ◌∙◌, subst}
use Rattle.ck_run.specs.Tokens.{Table, table, origin}
use Rattle.ck_epoch.specs.declared.about.About.{About}
use Rattle.ck_epoch.specs.State.{Token, base, base_of, records_of}
use Rattle.ck_epoch.specs.Closing.{IsClosedDomain}
use Rattle.ck_epoch.proofs.Parting.{closed_domain}
use Rattle.ck_epoch.proofs.domain.Domain.close.Goals as goal

pub returns-clause-run : goal.returns-clause-run
returns-clause-run g c =
    let w = c.writer.inside.token in
    let view = ap (λ w. w.token) c.writer.view_is in
    let here = ap table view ∙ c.requires.writer in
    let left = c.close-left.result.items in
    let taken = c.join_all.ensures.view in
    let run = c.close-left.ensures.run in
    let records = ap (λ (x : Table (About _)). records_of x.origin) (here ∙ sym c.self.view_is) ∙ ap (λ (x : About _). x.records) c.self.invariant.told in
    let base_is : c.base_word-base.result ≡ base_of (origin w) = c.base_word-base.ensures ∙ ap base (sym records) in
    subst (λ (t : Token _). IsClosedDomain g.C.Client.meaning t c.args.passes.items left) view
    (closed_domain _ g.C.Client.meaning w c.args.passes.items taken.0 c.args.self c.join_all.new.token.view run.0 left (λ p t q. search rules) taken.1 taken.2 here c.requires.passes run.1
    (subst (λ (m : ℕ). left ≡ drop m run.0) base_is run.2))
