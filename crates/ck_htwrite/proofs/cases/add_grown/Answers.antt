use Rattle.std.proofs.Common.{◌≡◌, ℕ, ◌^◌, true, false, inl, refl, sym, ap, ◌∙◌, subst}
use Rattle.ck_htplan.specs.declared.cases.Plan.TheVariants.{Empty}
use Rattle.ck_htplan.specs.Region.{view_of}
use Rattle.ck_htlaw.specs.Host.{host, lies}
use Rattle.ck_htlaw.specs.Layout.{log_of}
use Rattle.ck_htlaw.specs.Actions.{plan_now}
use Rattle.ck_htwrite.specs.declared.state.Need.{Need}
use Rattle.ck_htwrite.specs.State.{IsReady}
use Rattle.ck_htwrite.specs.Updates.{HasStates, IsIn, IsNeeded}
use Rattle.ck_htwrite.proofs.Between.{match_err, once}
use Rattle.ck_htwrite.proofs.Grown.{IsRegrown, begins_growing, grown_fits, grown_whole, may_go_in, plan_then, needed_whole}
use Rattle.ck_htwrite.proofs.cases.add_grown.Given as given
use Rattle.ck_htwrite.proofs.cases.add_grown.Goals as goal
use Rattle.ck_htwrite.proofs.cases.add_grown.Goals.{In_ok-rebuild}

-- the map is rebuilt
regrown : (g : given.Over) (c : In_ok-rebuild g) → let h = host g.D.Client.meaning g.D.Within.place g.D.Within.part in let o = c.args.domain.now.origin in
    (r : IsReady h o c.args.writer.now.token c.args.state.now) (at : ℕ) → plan_now (lies h o) r.is_writer c.args.key ≡ Empty at → IsRegrown h o c.args.writer.now c.rebuild.new.writer c.args.state.now c.rebuild.new.state r g.O.Opens.opens c.args.key c.args.value at
regrown g c r at planned =
    let o = c.args.domain.now.origin in let h = host g.D.Client.meaning g.D.Within.place g.D.Within.part in
    let ok = c.in_ok-rebuild.ensures in let writing = c.tally-updates.ensures.writing in
    record {
      same = ap (λ v. v.origin) c.requires.table;
      part = writing.part;
      zero = writing.first;
      planned = planned;
      adds = c.requires.adds;
      few = c.requires.keys;
      full = c.requires.full;
      log = c.grown_log-log.result;
      log_is = c.grown_log-log.ensures;
      stores = ok.steps.1;
      epoch = ok.steps.0;
      made = ok.steps.2;
      is_token = ok.token;
      lists = ok.lists;
      free = λ z. let y : false ≡ true = ok.none.1 z in absurd cc;
      retired = ok.retired;
      items = ok.items;
      arena = ok.arena;
      rebuilt = ok.goes_on r (begins_growing h o c.args.state.now r g.O.Opens.opens c.args.key c.args.value at c.requires.adds planned c.requires.keys c.requires.full c.grown_log-log.result c.grown_log-log.ensures) c.requires.goes_on;
    }

pub rebuild-requires-clause-fits : goal.rebuild-requires-clause-fits
rebuild-requires-clause-fits g c = (grown_fits _ _ c.args.state.now c.requires.due.0 c.requires.keys c.grown_log-log.result c.grown_log-log.ensures).fits

pub rebuild-requires-clause-least : goal.rebuild-requires-clause-least
rebuild-requires-clause-least g c = (grown_fits _ _ c.args.state.now c.requires.due.0 c.requires.keys c.grown_log-log.result c.grown_log-log.ensures).least

pub rebuild-requires-clause-most : goal.rebuild-requires-clause-most
rebuild-requires-clause-most g c = (grown_fits _ _ c.args.state.now c.requires.due.0 c.requires.keys c.grown_log-log.result c.grown_log-log.ensures).most

pub rebuild-requires-clause-once : goal.rebuild-requires-clause-once
rebuild-requires-clause-once g c =
    let writing = c.tally-updates.ensures.writing in
    once (host g.D.Client.meaning g.D.Within.place g.D.Within.part) g.met.D.Within.within c.args.domain.now.origin c.args.writer.now.token (ap (λ v. v.origin) c.requires.table) writing.part writing.first c.args.state.now c.requires.due.0

pub rebuild-requires-clause-due : goal.rebuild-requires-clause-due
rebuild-requires-clause-due g c =
    let due = c.requires.due in
    (due.0, begins_growing _ _ c.args.state.now due.0 g.O.Opens.opens c.args.key c.args.value due.1 c.requires.adds due.2 c.requires.keys c.requires.full c.grown_log-log.result c.grown_log-log.ensures, inl c.requires.goes_on)

pub returns-in_err-rebuild-clause-made : goal.returns-in_err-rebuild-clause-made
returns-in_err-rebuild-clause-made g c r old_at planned =
    let o = c.args.domain.now.origin in let h = host g.D.Client.meaning g.D.Within.place g.D.Within.part in let s = c.args.state.now in
    let needed = needed_whole h o s r c.args.key old_at planned c.grown_log-log.result c.grown_log-log.ensures c.requires.keys c.requires.full c.in_err-rebuild.field-0.0 c.in_err-rebuild.ensures.need.0 (c.in_err-rebuild.ensures.none.0 refl) in
    match_err c.from_residual.result _ (λ need. IsNeeded h o r.is_writer (Empty old_at) s need) _ c.from_residual.ensures.1 (λ need alike. subst (λ (z : Need). IsNeeded h o r.is_writer (Empty old_at) s z) (sym alike) needed)

pub plan_for-requires : goal.plan_for-requires
plan_for-requires g c =
    let due = c.requires.due in
    let b = (regrown g (goal.at.plan_for-requires g c).In_ok-rebuild due.0 due.1 due.2).rebuilt in record { lists = (b.is_writer, b.lists) }

pub unreachable-requires : goal.unreachable-requires
unreachable-requires g c =
    let due = c.requires.due in
    let x = regrown g (goal.at.unreachable-requires g c).In_ok-rebuild due.0 due.1 due.2 in
    let then = plan_then (host g.D.Client.meaning g.D.Within.place g.D.Within.part) g.met.D.Within.within c.args.domain.now.origin c.args.writer.now c.rebuild.new.writer c.args.state.now c.rebuild.new.state due.0 g.O.Opens.opens c.args.key c.args.value due.1 x in
    c.in_default.not-Empty then.0 (sym (c.plan_for.ensures.plan x.rebuilt.is_writer x.rebuilt.lists) ∙ then.1)

pub insert-requires-clause-shape : goal.insert-requires-clause-shape
insert-requires-clause-shape g c =
    let due = c.requires.due in
    (regrown g (goal.at.insert-requires-clause-shape g c).In_ok-rebuild due.0 due.1 due.2).rebuilt.lists.mirrors.shape

pub insert-requires-clause-due : goal.insert-requires-clause-due
insert-requires-clause-due g c =
    let due = c.requires.due in let s1 = c.rebuild.new.state in
    let x = regrown g (goal.at.insert-requires-clause-due g c).In_ok-rebuild due.0 due.1 due.2 in
    may_go_in (host g.D.Client.meaning g.D.Within.place g.D.Within.part) g.met.D.Within.within c.args.domain.now.origin c.args.writer.now c.rebuild.new.writer c.args.state.now s1 due.0 g.O.Opens.opens c.args.key c.args.value due.1 x
    c.in-Empty.at (c.plan_for.ensures.plan x.rebuilt.is_writer x.rebuilt.lists ∙ c.in-Empty.is) (subst (IsIn (2 ^ log_of s1.root)) c.in-Empty.is c.plan_for.ensures.inside)

pub returns-clause-made : goal.returns-clause-made
returns-clause-made g c r old_at planned =
    let s1 = c.rebuild.new.state in
    let x = regrown g (goal.at.returns-clause-made g c).In_ok-rebuild r old_at planned in
    grown_whole (host g.D.Client.meaning g.D.Within.place g.D.Within.part) g.met.D.Within.within c.args.domain.now.origin c.args.writer.now c.rebuild.new.writer c.args.state.now s1 r g.O.Opens.opens c.args.key c.args.value old_at x
    c.in-Empty.at (c.plan_for.ensures.plan x.rebuilt.is_writer x.rebuilt.lists ∙ c.in-Empty.is) (subst (IsIn (2 ^ log_of s1.root)) c.in-Empty.is c.plan_for.ensures.inside)
    c.insert.new.writer c.insert.new.state c.insert.ensures.steps c.insert.ensures.state (subst (HasStates (view_of s1.words.items)) c.in-Empty.is c.plan_for.ensures.states)
