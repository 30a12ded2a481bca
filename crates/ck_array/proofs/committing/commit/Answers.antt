use Rattle.std.proofs.Common.{◌≡◌, [], ◌∷◌, ◌++◌, ap, ◌∙◌, subst, sym, refl}
use Rattle.ck_epoch.specs.declared.item.Item.{Item}
use Rattle.ck_epoch.specs.declared.item.Retired.{Retired}
use Rattle.ck_epoch.specs.State.{queue, state}
use Rattle.ck_epoch.specs.Ends.{Writer}
use Rattle.ck_epoch.specs.Within.{item_from}
use Rattle.ck_history.specs.declared.edit.Edit.TheVariants.{Commit}
use Rattle.ck_history.specs.Lists.{ListState, empty_lists, lists_after_from, list_step}
use Rattle.ck_arraylaw.specs.Array.{writer}
use Rattle.ck_arraylaw.specs.Host.{host}
use Rattle.ck_arraylaw.specs.Layout.{IsFreeRegion}
use Rattle.ck_arraylaw.specs.Regions.{place_in}
use Rattle.ck_array.specs.declared.state.ArrayState.{ArrayState}
use Rattle.ck_array.specs.Writes.{idle}
use Rattle.ck_array.proofs.CommitSteps.{is_free, ready_then, one_pending}
use Rattle.ck_array.proofs.committing.commit.Goals as goal

pub publish-requires-clause-free : goal.publish-requires-clause-free
publish-requires-clause-free g c =
    let h = host g.D.Client.meaning g.D.Within.place g.D.Within.part in let o = c.args.domain.now.origin in let e = c.in_ok-region.ensures in
    subst (λ (s : ArrayState). IsFreeRegion (place_in h o) s.region c.in_ok-region.region (state c.args.writer.now.token).pending) (sym c.take.ensures.same)
    (is_free h o c.args.writer.now c.args.state.now c.requires.ready c.in_ok-region.region e.free.0 e.region.0)

pub returns-clause-ready : goal.returns-clause-ready
returns-clause-ready g c =
    let h = host g.D.Client.meaning g.D.Within.place g.D.Within.part in let o = c.args.domain.now.origin in let e = c.in_ok-region.ensures in
    let r = c.requires.ready in let w = c.args.writer.now in let v = c.publish.new.writer in let s = c.args.state.now in
    let lists = ap (λ (x : ArrayState). x.lists) c.take.ensures.same in let region = ap (λ (x : ArrayState). x.region) c.take.ensures.same in
    let pending : (lists_after_from empty_lists r.log).pending ≡ c.pending.result.now = ap (λ (l : ListState). l.pending) (sym r.lists ∙ sym lists) ∙ sym c.pending.ensures.all in
    let k : Retired = record { item = item_from (place_in h o) s.region; epoch = c.publish.ensures.pending.0 } in
    let more : queue (state v.token).pending ≡ queue (state w.token).pending ++ k ∷ [] = c.publish.ensures.pending.1 ∙ ap (λ (x : Item). queue (state w.token).pending ++ record { item = item_from (place_in h o) x; epoch = c.publish.ensures.pending.0 } ∷ []) region in
    ready_then h o w s r c.in_ok-region.region e.free.0 v _ c.publish.ensures.pending.0 e.region.0 e.region.2 e.free.1 e.adds c.take.ensures.arena refl
    (c.publish.ensures.local r.log (r.local ∙ ap (λ (x : Item). writer (idle r.log x)) (sym region)) pending)
    (c.apply.ensures.lists ∙ ap (λ (l : ListState). (list_step l Commit).0) lists)
    (one_pending w v k more c.publish.ensures.same (ap (λ (x : Writer g.row.D.Denot g.row.F.Denot). x.waiting) c.publish.ensures.steps.1))
