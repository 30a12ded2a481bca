use Rattle.std.proofs.Common.{◌≡◌, ℕ, suc, nat_lt, ◌+◌, ◌^◌, ◌<◌, ⊎_elim, Bool, cond, List, [], ◌∷◌, ◌++◌, append-nil, length, refl, sym, ap, ◌∙◌, subst}
use Rattle.ck_run.specs.declared.account.Step.TheVariants.{Load, Store}
use Rattle.ck_run.specs.declared.account.Entry.{Entry}
use Rattle.ck_run.specs.Run.{further, handing}
use Rattle.ck_run.specs.Tokens.{table}
use Rattle.ck_epoch.specs.declared.item.Retired.{Retired}
use Rattle.ck_epoch.specs.State.{Retirement, base_of, queue, state}
use Rattle.ck_history.specs.declared.log.LogEntry.{LogEntry}
use Rattle.ck_htlaw.specs.Host.{host, first, inner, lies}
use Rattle.ck_htlaw.specs.Known.{knows}
use Rattle.ck_htlaw.specs.Layout.{region_item}
use Rattle.ck_htlaw.specs.Stages.{idle, copying, after_rebuild}
use Rattle.ck_htlaw.specs.Table.{WriterState, publishes, tidies}
use Rattle.ck_htwrite.specs.declared.state.HtState.{HtState}
use Rattle.ck_htwrite.specs.Rebuild.{GoesOnAfter, EndsAfter, adopted_lists}
use Rattle.ck_htwrite.specs.State.{Reflects}
use Rattle.ck_htwrite.specs.Writes.{counters_in, IsFreeBy, WriterAt}
use Rattle.ck_htwrite.proofs.Published.{goes_on_with, ends_with, publish_step, publish_at, adopted}
use Rattle.ck_htwrite.proofs.Chains.{then_counted}
use Rattle.ck_htwrite.proofs.Writing.{not_less, one_less}
use Rattle.ck_htwrite.proofs.growth.replace.Goals as goal

pub publish-requires-clause-due : goal.publish-requires-clause-due
publish-requires-clause-due g c =
    let h = host g.D.Client.meaning g.D.Within.place g.D.Within.part in let o = c.args.domain.now.origin in let client = (inner h o).config.client in let fl = base_of (inner h o) in let ba = first h o in let n = counters_in h o in let l = lies h o in let w0 = c.args.writer.now in let s = c.args.state.now in let root : ℕ = c.args.root in let can = c.requires.can in
    let d = c.requires.due in let p = d.0 in let call = d.1 in let k = d.4 in
    let here : WriterState = record p { stage = copying call root k.next idle; words = k.words } in
    ⊎_elim (λ (x : GoesOnAfter l call). (here, k.at.local, publish_step fl ba client p s root can k.words k.next k.is_copying call publishes (x here) _ refl (refl, refl) (IsFreeBy h o w0.token here)))
    (λ (x : EndsAfter l call). (here, k.at.local, publish_step fl ba client p s root can k.words k.next k.is_copying call tidies (x here) _ refl (refl, refl) (IsFreeBy h o w0.token here)))
    d.5

pub retire-requires-clause-table : goal.retire-requires-clause-table
retire-requires-clause-table g c = ap (λ w. table w.token) c.publish.ensures.step.made ∙ c.requires.table

pub retire-requires-clause-calls : goal.retire-requires-clause-calls
retire-requires-clause-calls g c = subst (λ (k : ℕ). k < 2 ^ 40) (sym (ap (λ w. w.calls) c.publish.ensures.step.made)) c.requires.calls

pub retire-requires-clause-room : goal.retire-requires-clause-room
retire-requires-clause-room g c =
    let w = c.publish.new.writer in let w0 = c.args.writer.now in let made = c.publish.ensures.step.made in
    subst (λ (k : List Retirement). length k + length w.waiting < w.room) (sym c.publish.ensures.step.same.0) (subst (λ (z : ℕ × ℕ). length (state w0.token).pending + z.0 < z.1) (λ i. (sym (ap (λ x. length x.waiting) made) i, sym (ap (λ x. x.room) made) i)) c.requires.room)

pub retire-requires-clause-root : goal.retire-requires-clause-root
retire-requires-clause-root g c = c.requires.due.4.is_copying.lists.mirrors.shape.is_root

pub retire-requires-clause-due : goal.retire-requires-clause-due
retire-requires-clause-due g c =
    let h = host g.D.Client.meaning g.D.Within.place g.D.Within.part in let o = c.args.domain.now.origin in let client = (inner h o).config.client in let fl = base_of (inner h o) in let ba = first h o in let n = counters_in h o in let l = lies h o in let w0 = c.args.writer.now in let s = c.args.state.now in let root : ℕ = c.args.root in let can = c.requires.can in
    let d = c.requires.due in let p = d.0 in let call = d.1 in let k = d.4 in let here : WriterState = record p { stage = copying call root k.next idle; words = k.words } in
    ⊎_elim
    (λ (x : GoesOnAfter l call). let at = subst (λ a. WriterAt a (goes_on_with fl ba client p s root can k.words k.next k.is_copying call) d.2 d.3) (sym c.publish.ensures.step.knows_now) (publish_at fl ba client p s root can k.words k.next k.is_copying call publishes (x here) (goes_on_with fl ba client p s root can k.words k.next k.is_copying call) refl refl (knows h o w0.token) d.2 d.3 k.at) in
    (goes_on_with fl ba client p s root can k.words k.next k.is_copying call, at.local, sym k.is_copying.lists.root))
    (λ (x : EndsAfter l call). let at = subst (λ a. WriterAt a (ends_with fl ba client p s root can k.words k.next k.is_copying call) d.2 d.3) (sym c.publish.ensures.step.knows_now) (publish_at fl ba client p s root can k.words k.next k.is_copying call tidies (x here) (ends_with fl ba client p s root can k.words k.next k.is_copying call) refl refl (knows h o w0.token) d.2 d.3 k.at) in
    (ends_with fl ba client p s root can k.words k.next k.is_copying call, at.local, sym k.is_copying.lists.root))
    d.5

pub returns-clause-goes_on : goal.returns-clause-goes_on
returns-clause-goes_on g c p call due told k x =
    let h = host g.D.Client.meaning g.D.Within.place g.D.Within.part in let o = c.args.domain.now.origin in let client = (inner h o).config.client in let fl = base_of (inner h o) in let ba = first h o in let n = counters_in h o in let l = lies h o in let w0 = c.args.writer.now in let s = c.args.state.now in let root : ℕ = c.args.root in let can = c.requires.can in
    let here : WriterState = record p { stage = copying call root k.next idle; words = k.words } in
    let q = goes_on_with fl ba client p s root can k.words k.next k.is_copying call in
    let now : WriterState = record q { stage = after_rebuild call; log = p.log } in
    let lists : Reflects n l now (adopted_lists s root) = adopted fl ba client p s root can k.words k.next k.is_copying now refl refl refl in
    let at = subst (λ a. WriterAt a q due told) (sym c.publish.ensures.step.knows_now) (publish_at fl ba client p s root can k.words k.next k.is_copying call publishes (x here) (goes_on_with fl ba client p s root can k.words k.next k.is_copying call) refl refl (knows h o w0.token) due told k.at) in
    let after = c.retire.ensures.at q due told at (sym k.is_copying.lists.root) in
    let same : told ++ cond (nat_lt p.log p.log) (due ∷ []) [] ≡ told = ap (λ (b : Bool). told ++ cond b (due ∷ []) []) (not_less l p.log) ∙ append-nil told in
    record {
      is_writer = now;
      at = subst (λ (log : List (LogEntry ℕ)). WriterAt (knows h o c.retire.new.writer.token) now due log) same after;
      stage_is = refl;
      lists = subst (λ (y : HtState). Reflects n l now y) (λ z. record s { words = sym c.swap.ensures.x_after z; spare = sym c.swap.ensures.y_after z; root = root; tombstones = 0 }) lists;
    }

pub returns-clause-ends : goal.returns-clause-ends
returns-clause-ends g c p call due told k x =
    let h = host g.D.Client.meaning g.D.Within.place g.D.Within.part in let o = c.args.domain.now.origin in let client = (inner h o).config.client in let fl = base_of (inner h o) in let ba = first h o in let n = counters_in h o in let l = lies h o in let w0 = c.args.writer.now in let s = c.args.state.now in let root : ℕ = c.args.root in let can = c.requires.can in
    let here : WriterState = record p { stage = copying call root k.next idle; words = k.words } in
    let q = ends_with fl ba client p s root can k.words k.next k.is_copying call in
    let now : WriterState = record q { stage = idle; log = suc p.log } in
    let lists : Reflects n l now (adopted_lists s root) = adopted fl ba client p s root can k.words k.next k.is_copying now refl refl refl in
    let at = subst (λ a. WriterAt a q due told) (sym c.publish.ensures.step.knows_now) (publish_at fl ba client p s root can k.words k.next k.is_copying call tidies (x here) (ends_with fl ba client p s root can k.words k.next k.is_copying call) refl refl (knows h o w0.token) due told k.at) in
    let after = c.retire.ensures.at q due told at (sym k.is_copying.lists.root) in
    let more : told ++ cond (nat_lt p.log (suc p.log)) (due ∷ []) [] ≡ told ++ due ∷ [] = ap (λ (b : Bool). told ++ cond b (due ∷ []) []) (one_less l p.log) in
    record {
      is_writer = now;
      at = subst (λ (log : List (LogEntry ℕ)). WriterAt (knows h o c.retire.new.writer.token) now due log) more after;
      stage_is = refl;
      lists = subst (λ (y : HtState). Reflects n l now y) (λ z. record s { words = sym c.swap.ensures.x_after z; spare = sym c.swap.ensures.y_after z; root = root; tombstones = 0 }) lists;
    }

pub returns-clause-steps : goal.returns-clause-steps
returns-clause-steps g c =
    let h = host g.D.Client.meaning g.D.Within.place g.D.Within.part in let o = c.args.domain.now.origin in let l = lies h o in
    let e : Entry = further (Store l.base c.args.root) in let f : Entry = handing [] (l.item c.args.state.now.root) (Load 0 (state c.publish.new.writer.token).epoch) in
    ((state c.publish.new.writer.token).epoch, then_counted c.args.writer.now c.publish.new.writer c.retire.new.writer (e ∷ []) (f ∷ []) c.publish.ensures.step.made c.retire.ensures.step)

pub returns-clause-retired : goal.returns-clause-retired
returns-clause-retired g c =
    let k : Retired = record { item = region_item (g.D.Within.place c.args.domain.now.origin.config.client) c.args.state.now.root; epoch = (state c.publish.new.writer.token).epoch } in
    (k, refl, c.retire.ensures.pending ∙ ap (λ (ks : List Retirement). queue ks ++ k ∷ []) c.publish.ensures.step.same.0, c.retire.ensures.same ∙ c.publish.ensures.step.same.1)

pub returns-clause-token : goal.returns-clause-token
returns-clause-token g c = c.retire.ensures.part
