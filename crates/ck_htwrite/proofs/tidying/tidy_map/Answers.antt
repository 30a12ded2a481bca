use Rattle.std.proofs.Common.{◌≡◌, ◌≢◌, ℕ, ◌^◌, inl, inr, List, [], ◌∷◌, ◌++◌, rules, refl, sym, ap, ◌∙◌, subst, arith}
use Rattle.ck_epoch.specs.declared.item.Retired.{Retired}
use Rattle.ck_epoch.specs.State.{base_of, state}
use Rattle.ck_history.specs.declared.log.LogEntry.{LogEntry}
use Rattle.ck_history.specs.declared.update.Reply.TheVariants.{Tidied}
use Rattle.ck_htplan.specs.Region.{view_of}
use Rattle.ck_htlaw.specs.Actions.{tombstones_now}
use Rattle.ck_htlaw.specs.Host.{host, first, inner, lies}
use Rattle.ck_htlaw.specs.Known.{knows}
use Rattle.ck_htlaw.specs.Layout.{log_of}
use Rattle.ck_htwrite.specs.Arena.{IsKept}
use Rattle.ck_htwrite.specs.Updates.{Asks}
use Rattle.ck_htwrite.specs.Writes.{counters_in, WriterAt}
use Rattle.ck_htwrite.proofs.Agree.{tombstones_are}
use Rattle.ck_htwrite.proofs.Chains.{not_counted}
use Rattle.ck_htwrite.proofs.Made.{may_ask, made_ask}
use Rattle.ck_htwrite.proofs.Rebuilding.{same_unreturned}
use Rattle.ck_htwrite.proofs.Tidies.{nothing_due, rebuild_due, answer_is, ends, tidy_fits}
use Rattle.ck_htwrite.proofs.tidying.tidy_map.Goals as goal

pub ask_root-requires-clause-due : goal.ask_root-requires-clause-due
ask_root-requires-clause-due g c found =
    let h = host g.D.Client.meaning g.D.Within.place g.D.Within.part in let o = c.args.domain.now.origin in let n = counters_in h o in let l = lies h o in let place = h.place o.config.client in let w = c.args.writer.now in let s = c.args.state.now in let fl = base_of (inner h o) in let fi = first h o in let client = (inner h o).config.client in let opens = g.O.Opens.opens in let name = c.requires.name in let r = c.requires.ready in let p = r.is_writer in
    let zero : tombstones_now l p ≡ 0 = sym (tombstones_are fl fi n client p s r.reflects) ∙ c.if-state-eq0.true in let does = nothing_due l p r.idles opens name zero in
    may_ask h o w w s s r opens does found

pub returns-then-state-eq0-clause-none : goal.returns-then-state-eq0-clause-none
returns-then-state-eq0-clause-none g c = ((λ e. absurd (cc)), (λ z. absurd (let a = z.0 in let b = c.if-state-eq0.true in omega arith)))

pub returns-then-state-eq0-clause-steps : goal.returns-then-state-eq0-clause-steps
returns-then-state-eq0-clause-steps g c = (_, 0, omega arith, inl (c.if-state-eq0.true, c.ask_root.result, refl), not_counted c.args.writer.now c.ask_root.new.writer _ c.ask_root.ensures.step.made)

pub returns-then-state-eq0-clause-over : goal.returns-then-state-eq0-clause-over
returns-then-state-eq0-clause-over g c =
    let h = host g.D.Client.meaning g.D.Within.place g.D.Within.part in let o = c.args.domain.now.origin in let n = counters_in h o in let l = lies h o in let place = h.place o.config.client in let w = c.args.writer.now in let s = c.args.state.now in let fl = base_of (inner h o) in let fi = first h o in let client = (inner h o).config.client in let opens = g.O.Opens.opens in let name = c.requires.name in let r = c.requires.ready in let p = r.is_writer in
    let zero : tombstones_now l p ≡ 0 = sym (tombstones_are fl fi n client p s r.reflects) ∙ c.if-state-eq0.true in let does = nothing_due l p r.idles opens name zero in
    let made = made_ask h o w c.ask_root.new.writer s s r opens does c.ask_root.result Tidied Tidied refl (λ ss. Asks l ss) (λ ss a. a) c.ask_root.ensures.step refl in let over = made.over in
    record {
      is_writer = over.is_writer;
      at = subst (λ (x : LogEntry ℕ). WriterAt (knows h o c.ask_root.new.writer.token) over.is_writer x ((knows h o w.token).log ++ x ∷ [])) (answer_is l p r.idles opens name) over.at;
      stage_is = over.idles;
      lists = record { root = over.root; mirrors = over.mirrors; bumped = over.bumped; hole = r.reflects.hole };
    }

pub returns-then-state-eq0-clause-items : goal.returns-then-state-eq0-clause-items
returns-then-state-eq0-clause-items g c =
    let w = c.args.writer.now in let u = c.ask_root.new.writer in let step = c.ask_root.ensures.step in
    inl (same_unreturned (state w.token) (state u.token) w.waiting u.waiting step.same.0 step.same.1 (ap (λ x. x.waiting) step.made))

pub returns-then-state-eq0-clause-lists : goal.returns-then-state-eq0-clause-lists
returns-then-state-eq0-clause-lists g c = (refl, c.if-state-eq0.true, refl)

pub returns-then-state-eq0-clause-arena : goal.returns-then-state-eq0-clause-arena
returns-then-state-eq0-clause-arena g c =
    let h = host g.D.Client.meaning g.D.Within.place g.D.Within.part in let o = c.args.domain.now.origin in let n = counters_in h o in let l = lies h o in let place = h.place o.config.client in let w = c.args.writer.now in let s = c.args.state.now in let fl = base_of (inner h o) in let fi = first h o in let client = (inner h o).config.client in let opens = g.O.Opens.opens in let name = c.requires.name in let r = c.requires.ready in let p = r.is_writer in
    let u = c.ask_root.new.writer in let step = c.ask_root.ensures.step in
    subst (λ (ks : List Retired). IsKept n place s.root ks s.arena) (sym (same_unreturned (state w.token) (state u.token) w.waiting u.waiting step.same.0 step.same.1 (ap (λ x. x.waiting) step.made))) c.requires.arena

pub rebuild-requires-clause-least : goal.rebuild-requires-clause-least
rebuild-requires-clause-least g c = c.requires.ready.reflects.mirrors.shape.is_root.piece.some_lines

pub rebuild-requires-clause-most : goal.rebuild-requires-clause-most
rebuild-requires-clause-most g c = c.requires.ready.reflects.mirrors.shape.is_root.few

pub rebuild-requires-clause-fits : goal.rebuild-requires-clause-fits
rebuild-requires-clause-fits g c =
    let s = c.args.state.now in let m = c.requires.ready.reflects.mirrors in
    tidy_fits (view_of s.words.items).state (2 ^ log_of s.root) s.keys s.tombstones m.keys m.tombstones c.requires.ready.reflects.hole c.if-state-eq0.false

pub rebuild-requires-clause-due : goal.rebuild-requires-clause-due
rebuild-requires-clause-due g c =
    let h = host g.D.Client.meaning g.D.Within.place g.D.Within.part in let o = c.args.domain.now.origin in let n = counters_in h o in let l = lies h o in let place = h.place o.config.client in let w = c.args.writer.now in let s = c.args.state.now in let fl = base_of (inner h o) in let fi = first h o in let client = (inner h o).config.client in let opens = g.O.Opens.opens in let name = c.requires.name in let r = c.requires.ready in let p = r.is_writer in
    let some : tombstones_now l p ≢ 0 = (λ z. c.if-state-eq0.false (tombstones_are fl fi n client p s r.reflects ∙ z)) in
    let begins = (λ (root : ℕ) (same : log_of root ≡ log_of s.root). rebuild_due l p r.idles opens name some root (same ∙ ap log_of (sym r.reflects.root))) in
    (r, begins, inr (ends l p r.idles opens name))

pub returns-in_err-rebuild-clause-none : goal.returns-in_err-rebuild-clause-none
returns-in_err-rebuild-clause-none g c = ((λ _. ((let some = c.if-state-eq0.false in omega arith), c.in_err-rebuild.ensures.none.0 refl)), (λ z. search rules))

pub returns-clause-none : goal.returns-clause-none
returns-clause-none g c = ((λ e. absurd (cc)), (λ z. c.in_ok-rebuild.ensures.none.1 z.1))

pub returns-clause-steps : goal.returns-clause-steps
returns-clause-steps g c = let made = c.in_ok-rebuild.ensures.steps in (_, 1, omega arith, inr ((let some = c.if-state-eq0.false in omega arith), made.1, made.0, refl), made.2)

pub returns-clause-over : goal.returns-clause-over
returns-clause-over g c =
    let h = host g.D.Client.meaning g.D.Within.place g.D.Within.part in let o = c.args.domain.now.origin in let n = counters_in h o in let l = lies h o in let place = h.place o.config.client in let w = c.args.writer.now in let s = c.args.state.now in let fl = base_of (inner h o) in let fi = first h o in let client = (inner h o).config.client in let opens = g.O.Opens.opens in let name = c.requires.name in let r = c.requires.ready in let p = r.is_writer in
    let some : tombstones_now l p ≢ 0 = (λ z. c.if-state-eq0.false (tombstones_are fl fi n client p s r.reflects ∙ z)) in
    let begins = (λ (root : ℕ) (same : log_of root ≡ log_of s.root). rebuild_due l p r.idles opens name some root (same ∙ ap log_of (sym r.reflects.root))) in
    let made = c.in_ok-rebuild.ensures.ends r begins (ends l p r.idles opens name) in
    record {
      is_writer = made.is_writer;
      at = subst (λ (x : LogEntry ℕ). WriterAt (knows h o c.rebuild.new.writer.token) made.is_writer x ((knows h o w.token).log ++ x ∷ [])) (answer_is l p r.idles opens name) made.at;
      stage_is = made.stage_is;
      lists = made.lists;
    }

pub returns-clause-items : goal.returns-clause-items
returns-clause-items g c = inr c.in_ok-rebuild.ensures.items
