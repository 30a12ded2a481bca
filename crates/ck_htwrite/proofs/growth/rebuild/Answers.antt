use Rattle.std.proofs.Common.{◌≡◌, ℕ, ◌+◌, ◌^◌, ◌<◌, ◌≤◌, List, length, refl, sym, ap, ◌∙◌, subst, arith}
use Rattle.ck_run.specs.Tokens.{adding, table}
use Rattle.ck_epoch.specs.State.{Retirement, state}
use Rattle.ck_words.specs.Buddies.{Arena}
use Rattle.ck_htlaw.specs.Actions.{answer_to}
use Rattle.ck_htlaw.specs.Calls.{opening_of}
use Rattle.ck_htlaw.specs.Host.{host, lies}
use Rattle.ck_htlaw.specs.Known.{IsRoot, knows}
use Rattle.ck_htlaw.specs.Layout.{log_of, region_item, IsFreeRegion}
use Rattle.ck_htwrite.specs.declared.state.HtState.{HtState}
use Rattle.ck_arena.specs.Arena.{unreturned}
use Rattle.ck_htwrite.specs.Arena.{IsArenaOfTable, IsKept}
use Rattle.ck_htwrite.specs.Rebuild.{BeginsRebuildAt, CanHoldAll, CopiesAt, adopted_lists, rebuild_entries}
use Rattle.ck_htwrite.specs.State.{IsReady}
use Rattle.ck_htwrite.specs.Writes.{counters_in}
use Rattle.ck_htwrite.proofs.Chains.{same_room, then_counted, one_retired}
use Rattle.ck_htwrite.proofs.Rebuilding.{adds_region, free_region, can_hold, with_arena, kept_after}
use Rattle.ck_htwrite.proofs.growth.rebuild.Given as given
use Rattle.ck_htwrite.proofs.growth.rebuild.Goals as goal
use Rattle.ck_htwrite.proofs.growth.rebuild.Goals.{In_ok-root, After-build}

-- the root of the piece that is taken, and the lists without it
taken : (g : given.Over) (c : In_ok-root g) → IsRoot (counters_in (host g.D.Client.meaning g.D.Within.place g.D.Within.part) c.args.domain.now.origin) c.in_ok-root.root × (c.take.new.self ≡ record c.args.state.now { arena = c.take.new.self.arena })
taken g c =
    let root : ℕ = c.in_ok-root.root in let after = c.in_ok-root.ensures.after in
    (subst (λ (k : ℕ). IsRoot k root) c.requires.due.0.reflects.mirrors.shape.many c.in_ok-root.ensures.root.0, after ∙ ap (λ a. record c.args.state.now { arena = a }) (sym (ap (λ x. x.arena) after)))

-- its region can hold all pairs
can : (g : given.Over) (c : In_ok-root g) → CanHoldAll (counters_in (host g.D.Client.meaning g.D.Within.place g.D.Within.part) c.args.domain.now.origin) c.take.new.self c.in_ok-root.root
can g c =
    let h = host g.D.Client.meaning g.D.Within.place g.D.Within.part in let o = c.args.domain.now.origin in let w = c.args.writer.now in let s = c.args.state.now in
    can_hold (counters_in h o) (h.place o.config.client) c.in_ok-root.root s c.take.new.self (unreturned (state w.token) w.waiting) s.arena c.requires.arena (taken g c).0 c.in_ok-root.ensures.free.0 c.requires.due.0.reflects.mirrors.keys
    (subst (λ (k : ℕ). s.keys + 2 ≤ 2 ^ k) (sym c.in_ok-root.ensures.root.1) c.requires.fits) c.requires.once (taken g c).1

-- all pairs are copied into it
copied : (g : given.Over) (c : After-build g) → let h = host g.D.Client.meaning g.D.Within.place g.D.Within.part in let o = c.args.domain.now.origin in let l = lies h o in let root : ℕ = c.in_ok-root.root in
    c.take.new.self ≡ record c.args.state.now { arena = c.take.new.self.arena } → (q : IsReady h o c.args.writer.now.token c.args.state.now) → BeginsRebuildAt l q.is_writer g.O.Opens.opens root
    → CopiesAt (counters_in h o) l (knows h o c.build.new.writer.token) q.is_writer g.O.Opens.opens (answer_to l q.is_writer (opening_of g.O.Opens.opens)) (knows h o c.args.writer.now.token).log c.build.new.state root (2 ^ log_of c.build.new.state.root)
copied g c is q begins =
    let h = host g.D.Client.meaning g.D.Within.place g.D.Within.part in let o = c.args.domain.now.origin in let n = counters_in h o in let l = lies h o in let before = knows h o c.args.writer.now.token in
    let at = c.build.ensures.at q.is_writer before.due before.log (record { local = q.is; answer = refl; log = refl }) q.idles (with_arena n l q.is_writer c.args.state.now c.take.new.self is q.reflects) begins in
    subst (λ (k : ℕ). CopiesAt n l (knows h o c.build.new.writer.token) q.is_writer g.O.Opens.opens (answer_to l q.is_writer (opening_of g.O.Opens.opens)) before.log c.build.new.state c.in_ok-root.root (2 ^ log_of k)) (sym (ap (λ (y : HtState). y.root) c.build.ensures.state)) at

pub take-requires-clause-table : goal.take-requires-clause-table
take-requires-clause-table g c = subst (λ (k : ℕ). IsArenaOfTable k c.args.state.now.arena) (sym c.requires.due.0.reflects.mirrors.shape.many) c.requires.arena.of_table

pub take-requires-clause-small : goal.take-requires-clause-small
take-requires-clause-small g c = let shape = c.requires.due.0.reflects.mirrors.shape in let many = shape.many in let small = shape.small in omega arith

pub build-requires-clause-can : goal.build-requires-clause-can
build-requires-clause-can g c = can g (goal.at.build-requires-clause-can g c).In_ok-root

pub build-requires-clause-due : goal.build-requires-clause-due
build-requires-clause-due g c =
    let h = host g.D.Client.meaning g.D.Within.place g.D.Within.part in let o = c.args.domain.now.origin in let n = counters_in h o in let place = h.place o.config.client in let w = c.args.writer.now in let s = c.args.state.now in
    let root : ℕ = c.in_ok-root.root in let r = c.requires.due.0 in let p = r.is_writer in let piece = taken g (goal.at.build-requires-clause-due g c).In_ok-root in (
      p,
      r.is,
      r.idles,
      with_arena n (lies h o) p s c.take.new.self piece.1 r.reflects,
      c.requires.due.1 root c.in_ok-root.ensures.root.1,
      subst (λ (k : ℕ). IsFreeRegion n place k root (state w.token).pending) (sym r.reflects.root) (free_region n place s.root root (state w.token) w.waiting s.arena c.requires.arena piece.0 c.in_ok-root.ensures.free.0),
    )

pub replace-requires-clause-table : goal.replace-requires-clause-table
replace-requires-clause-table g c = ap (λ w. table w.token) c.build.ensures.steps.1.made ∙ c.requires.table

pub replace-requires-clause-calls : goal.replace-requires-clause-calls
replace-requires-clause-calls g c = subst (λ (k : ℕ). k < 2 ^ 40) (sym (ap (λ w. w.calls) c.build.ensures.steps.1.made)) c.requires.calls

pub replace-requires-clause-room : goal.replace-requires-clause-room
replace-requires-clause-room g c =
    let w = c.build.new.writer in let w0 = c.args.writer.now in let made = c.build.ensures.steps.1.made in
    subst (λ (k : List Retirement). length k + length w.waiting < w.room) (sym c.build.ensures.steps.1.same.0) (subst (λ (z : ℕ × ℕ). length (state w0.token).pending + z.0 < z.1) (λ i. (sym (ap (λ x. length x.waiting) made) i, sym (ap (λ x. x.room) made) i)) c.requires.room)

pub replace-requires-clause-can : goal.replace-requires-clause-can
replace-requires-clause-can g c =
    same_room (counters_in (host g.D.Client.meaning g.D.Within.place g.D.Within.part) c.args.domain.now.origin) c.take.new.self c.build.new.state c.in_ok-root.root c.build.ensures.state (can g (goal.at.replace-requires-clause-can g c).In_ok-root)

pub replace-requires-clause-due : goal.replace-requires-clause-due
replace-requires-clause-due g c =
    let at = goal.at.replace-requires-clause-due g c in let due = c.requires.due in
    (_, _, _, _, copied g at.After-build (taken g at.In_ok-root).1 due.0 (due.1 c.in_ok-root.root c.in_ok-root.ensures.root.1), due.2)

pub returns-clause-steps : goal.returns-clause-steps
returns-clause-steps g c =
    let h = host g.D.Client.meaning g.D.Within.place g.D.Within.part in let o = c.args.domain.now.origin in let l = lies h o in
    let w0 = c.args.writer.now in let w3 = c.replace.new.writer in let ss = c.build.ensures.steps.0 in let epoch = c.replace.ensures.steps.0 in
    let roots = ap (λ (x : HtState). x.root) c.build.ensures.state ∙ ap (λ (x : HtState). x.root) c.in_ok-root.ensures.after in
    let made = then_counted w0 c.build.new.writer w3 _ _ c.build.ensures.steps.1.made c.replace.ensures.steps.1 in
    (epoch, ss, subst (λ (z : ℕ × ℕ). w3 ≡ record w0 { token = adding w0.token (rebuild_entries l g.O.Opens.opens z.0 z.1 ss epoch); calls = w0.calls + 1 }) (λ i. (roots i, sym (ap (λ (x : HtState). x.root) c.replace.ensures.state) i)) made)

pub returns-clause-retired : goal.returns-clause-retired
returns-clause-retired g c =
    let k = c.replace.ensures.retired in
    one_retired (state c.build.new.writer.token).pending (state c.replace.new.writer.token).pending k.0 k.2 ∙ ap (λ (xs : List Retirement). length xs + 1) c.build.ensures.steps.1.same.0

pub returns-clause-items : goal.returns-clause-items
returns-clause-items g c =
    let h = host g.D.Client.meaning g.D.Within.place g.D.Within.part in let o = c.args.domain.now.origin in let place = h.place o.config.client in let w0 = c.args.writer.now in let s = c.args.state.now in
    let w2 = c.build.new.writer in let w3 = c.replace.new.writer in let made = c.build.ensures.steps.1 in let k = c.replace.ensures.retired in
    let roots : c.build.new.state.root ≡ s.root = ap (λ (x : HtState). x.root) c.build.ensures.state ∙ ap (λ (x : HtState). x.root) c.in_ok-root.ensures.after in
    let item = subst (λ (m : ℕ). k.0.item ≡ region_item place m) roots k.1 in
    let waits : w3.waiting ≡ w0.waiting = ap (λ x. x.waiting) c.replace.ensures.steps.1 ∙ ap (λ x. x.waiting) made.made in
    adds_region (counters_in h o) place s.root (state w0.token) (state w2.token) (state w3.token) w0.waiting w3.waiting k.0 c.requires.due.0.reflects.mirrors.shape.is_root item made.same.0 made.same.1 k.2 k.3 waits

pub returns-clause-lists : goal.returns-clause-lists
returns-clause-lists g c =
    let root : ℕ = c.in_ok-root.root in
    let all : c.replace.new.state ≡ adopted_lists c.build.new.state root = c.replace.ensures.state in
    (ap (λ (x : HtState). x.keys) all ∙ (ap (λ (x : HtState). x.keys) c.build.ensures.state ∙ ap (λ (x : HtState). x.keys) c.in_ok-root.ensures.after), ap (λ (x : HtState). x.tombstones) all, ap (λ (x : HtState). log_of x.root) all ∙ c.in_ok-root.ensures.root.1)

pub returns-clause-goes_on : goal.returns-clause-goes_on
returns-clause-goes_on g c q begins x =
    let at = goal.at.returns-clause-goes_on g c in
    c.replace.ensures.goes_on q.is_writer g.O.Opens.opens _ _ (copied g at.After-build (taken g at.In_ok-root).1 q (begins c.in_ok-root.root c.in_ok-root.ensures.root.1)) x

pub returns-clause-ends : goal.returns-clause-ends
returns-clause-ends g c q begins x =
    let at = goal.at.returns-clause-ends g c in
    c.replace.ensures.ends q.is_writer g.O.Opens.opens _ _ (copied g at.After-build (taken g at.In_ok-root).1 q (begins c.in_ok-root.root c.in_ok-root.ensures.root.1)) x

pub returns-clause-arena : goal.returns-clause-arena
returns-clause-arena g c =
    let h = host g.D.Client.meaning g.D.Within.place g.D.Within.part in let o = c.args.domain.now.origin in let n = counters_in h o in let place = h.place o.config.client in let w0 = c.args.writer.now in let s = c.args.state.now in
    let root : ℕ = c.in_ok-root.root in let z = c.take.new.self in
    let w2 = c.build.new.writer in let w3 = c.replace.new.writer in let z2 = c.build.new.state in let z3 = c.replace.new.state in let made = c.build.ensures.steps.1 in let k = c.replace.ensures.retired in
    let roots : z2.root ≡ s.root = ap (λ (x : HtState). x.root) c.build.ensures.state ∙ ap (λ (x : HtState). x.root) c.in_ok-root.ensures.after in
    let arenas : z3.arena ≡ z.arena = ap (λ (x : HtState). x.arena) c.replace.ensures.state ∙ ap (λ (x : HtState). x.arena) c.build.ensures.state in
    let waits : w3.waiting ≡ w0.waiting = ap (λ x. x.waiting) c.replace.ensures.steps.1 ∙ ap (λ x. x.waiting) made.made in
    let item = subst (λ (m : ℕ). k.0.item ≡ region_item place m) roots k.1 in
    subst (λ (x : ℕ × Arena). IsKept n place x.0 (unreturned (state w3.token) w3.waiting) x.1) (λ i. (sym (ap (λ (y : HtState). y.root) c.replace.ensures.state) i, sym arenas i))
    (kept_after n place s.root root (state w0.token) (state w2.token) (state w3.token) w0.waiting w3.waiting s.arena z.arena k.0 c.requires.arena c.in_ok-root.ensures.free.1 (ap (λ (x : HtState). x.arena) c.in_ok-root.ensures.after) item made.same.0 made.same.1 k.2 k.3 waits)

pub returns-clause-token : goal.returns-clause-token
returns-clause-token g c = c.replace.ensures.token
