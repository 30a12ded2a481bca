-- The writer's steps by their kinds.
use Rattle.std.proofs.Common.{◌≡◌, ℕ, suc, ◌<◌, ◌≤◌, refl, sym, ap, ◌∙◌, subst, arith, List, set}
use Rattle.ck_run.specs.declared.account.Step.{Step}
use Rattle.ck_run.specs.declared.account.Step.TheVariants.{Load, Store}
use Rattle.ck_run.specs.Run.{words_after}
use Rattle.ck_slots.specs.Slots.{Order, SlotsView}
use Rattle.ck_htlaw.specs.Stages.{empty, reuse, move, Stage, idle, with_bump, with_value, with_low, with_high, twice, before_tombstone, with_tombstone, clearing, copying, retiring, retiring_at_end, after_rebuild, Maps, IsMap, IsPut, IsStep, parts}
use Rattle.ck_htlaw.specs.Table.{Layout, column, view, Action, inserts, stands, deletes, nothing, begins_rebuild, copies, publishes, tidies, WriterState, repeated, linearizing, cleared, after_first, filled, second, copy, MayDo, MayCopy, MayWriterStep}
use Rattle.ck_htlaw.specs.Invariant.{IsDisjoint, IsNewRegion, IsUnpublished, IsSound, IsSoundAt, BeginsRebuild, IsTaking, IsUnpublishedBy, WriterInvariant}
use Rattle.ck_htlaw.proofs.Maps.{values, lows_in, highs_in, begins, closes, settles, remaps}
use Rattle.ck_htlaw.proofs.Places.{fills_empty}
use Rattle.ck_htlaw.proofs.Words.{view_state, view_low, view_high, view_value, column_put}
use Rattle.ck_htlaw.proofs.WriterSteps.{Preserves, bump_step}
use Rattle.ck_htlaw.proofs.UpdateSteps.{at_word, repeated_same, repeated_here, map_at, bumps_at, value_turn, low_turn, high_turn, fulls, tomb_turn, takes_turn, stands_turn, load_turn}
use Rattle.ck_htlaw.proofs.Parts.{parts_step, parts_skip}
use Rattle.ck_htlaw.proofs.RebuildSteps.{turns_calm, clear_step, copy_step, publish_step}

goes_weaker : (l : Layout) (F G : ℕ → Type 0) (ws : List ℕ) (p : WriterState) (ws' : List ℕ) (p' : WriterState) → ((root : ℕ) → G root → F root) → Preserves l F ws p ws' p' → Preserves l G ws p ws' p'
goes_weaker l F G ws p ws' p' weaker h = record { writer_state = h.writer_state; readers = λ r y free e. h.readers r y (λ n. weaker y.root (free n)) e }

goes_then : (l : Layout) (F : ℕ → Type 0) (ws : List ℕ) (p : WriterState) (ws' : List ℕ) (p' : WriterState) (ws'' : List ℕ) (p'' : WriterState) → Preserves l F ws p ws' p' → Preserves l F ws' p' ws'' p'' → Preserves l F ws p ws'' p''
goes_then l F ws p ws' p' ws'' p'' a b = record { writer_state = b.writer_state; readers = λ r y free e. b.readers r y free (a.readers r y free e) }

-- the region that the step speaks of shares no word with those that readers look at
abbrev pub IsApartFromUnpublished : Layout → Action → Stage → ℕ → Type 0
IsApartFromUnpublished l a g other = (root : ℕ) → IsUnpublishedBy a g root → IsDisjoint l other root

module _ (l : Layout) (Free : ℕ → Type 0) (ws : List ℕ) (p : WriterState) (h : WriterInvariant l ws p) where
  abbrev o : Order
  o = l.order p.root

  abbrev v : SlotsView
  v = view l ws p.root

  abbrev ActionStep : WriterState → Step → Type 0
  ActionStep p' s = Preserves l Free ws p (words_after ws s) record p' { words = words_after p.words s }

  pub by_act : (call : List ℕ) (a : Action) (s : Step) → p.stage ≡ idle → IsSound l ws p.root (p.maps p.linearized) a → MayDo l p a s → ((root : ℕ) → BeginsRebuild a root → IsNewRegion l ws p.root root) → ((root other : ℕ) → BeginsRebuild a root → Free other → IsDisjoint l other root) → ActionStep (after_first l call p a) s
  by_act call (inserts empty w) (Store a x) e plan may new free = let b = bumps_at l Free ws p h idle e in
      at_word (λ b y. Preserves l Free ws p (set ws b y) record p { stage = with_value empty w; words = set p.words b y }) a (l.word p.root w.to 3) x w.number may.0 may.1
      (value_turn l Free ws p h idle empty w e (λ k t z. z) (λ r k i z. z) plan (λ s q u. q.state (sym (ap v.state u) ∙ plan.0.room)) (omega arith))
  by_act call (inserts reuse w) (Store a x) e plan may new free = let b = bumps_at l Free ws p h idle e in let m = map_at l Free ws p h idle e in
      subst (λ (b : ℕ). Preserves l Free ws p (set ws b x) record p { stage = with_bump reuse w; words = set p.words b x; bumps = suc p.bumps }) (sym may.0)
      (bump_step l Free ws p h x (with_bump reuse w) p.log may.1 (begins o v p.maps p.linearized reuse w m plan) (omega arith) tt)
  by_act call (inserts (move from) w) (Store a x) e plan may new free = let b = bumps_at l Free ws p h idle e in let m = map_at l Free ws p h idle e in
      subst (λ (b : ℕ). Preserves l Free ws p (set ws b x) record p { stage = with_bump (move from) w; words = set p.words b x; bumps = suc p.bumps }) (sym may.0)
      (bump_step l Free ws p h x (with_bump (move from) w) p.log may.1 (begins o v p.maps p.linearized (move from) w m plan) (omega arith) tt)
  by_act call (stands k s n) (Store a x) e plan may new free = at_word (λ b y. Preserves l Free ws p (set ws b y) record (linearizing p idle (suc p.log) k (suc n)) { words = set p.words b y }) a (l.word p.root s 3) x n may.0 may.1 (stands_turn l Free ws p h k s n e plan)
  by_act call (deletes k s) (Store a x) e plan may new free = at_word (λ b y. Preserves l Free ws p (set ws b y) record (linearizing p with_tombstone p.log k 0) { words = set p.words b y }) a (l.word p.root s 0) x 2 may.0 may.1 (takes_turn l Free ws p h k s e plan)
  by_act call nothing (Load a x) e plan may new free = subst (λ (g : Stage). Preserves l Free ws p ws record p { linearized = suc p.linearized; maps = repeated p.maps p.linearized; log = suc p.log; stage = g }) (sym e) (load_turn l Free ws p h e)
  by_act call (begins_rebuild root) (Store a x) e plan may new free = at_word (λ b y. Preserves l Free ws p (set ws b y) record p { stage = cleared l call root 1; words = set p.words b y }) a (l.word root 0 0) x 0 may.0 may.1
      (goes_weaker l (λ other. IsDisjoint l other root) Free ws p (set ws (l.word root 0 0) 0) record p { stage = cleared l call root 1; words = set p.words (l.word root 0 0) 0 } (λ other f. free root other refl f)
      (clear_step l ws p h root (new root refl) call 0 idle e tt (new root refl).region.some_slot (λ s b. absurd (omega arith))))
  by_act call a s e plan may new free = absurd may

module _ (l : Layout) (Free : ℕ → Type 0) (ws : List ℕ) (p : WriterState) (h : WriterInvariant l ws p) where
  abbrev mine : Order
  mine = l.order p.root

  abbrev here : SlotsView
  here = view l ws p.root

  abbrev StepOf : WriterState → Step → Type 0
  StepOf p' s = Preserves l Free ws p (words_after ws s) record p' { words = words_after p.words s }

  -- a copy in progress
  by_copy : (c : List ℕ) (root j : ℕ) (a : Action) (g : Stage) (s : Step) → p.stage ≡ copying c root j g → IsSoundAt l ws p.root (p.maps p.linearized) a (copying c root j g) → MayCopy l root a g s → ((other : ℕ) → Free other → IsDisjoint l other root) → StepOf (copy p c root j a g) s
  by_copy c root j (copies i w) idle (Store b x) e plan may free =
      let hid : IsUnpublished l ws p.root (copying c root j idle) = subst (IsUnpublished l ws p.root) e h.hidden in
      let new : IsNewRegion l ws p.root root = hid.0 in let o' : Order = l.order root in let v' : SlotsView = view l ws root in
      let ps : Maps = parts mine here in
      let inside : w.to < o'.slots = plan.planned.0.inside in
      let f : ℕ → ℕ = column l (set ws (l.word root w.to 3) w.number) root 3 in
      let put : IsPut v'.value f w.to w.number = column_put l ws root new.region w.to w.number inside 3 (omega arith) in
      let le : i ≤ mine.slots = let b = plan.stood.inside in omega arith in
      let map : IsMap o' v' ps i idle = remaps o' v' ps j ps i (λ k. parts_skip mine h.region.ok here j i k plan.from le plan.none) hid.1 in
      at_word (λ b y. Preserves l Free ws p (set ws b y) record p { stage = copying c root i (with_value empty w); words = set p.words b y }) b (l.word root w.to 3) x w.number may.0 may.1
      (goes_weaker l (λ other. IsDisjoint l other root) Free ws p (set ws (l.word root w.to 3) w.number) record p { stage = copying c root i (with_value empty w); words = set p.words (l.word root w.to 3) w.number } free
      (copy_step l ws p h root new c w.to 3 w.number i (copying c root j idle) (with_value empty w) record v' { value = f } e tt inside (omega arith) (view_value l ws root new.region w.to w.number inside)
      (values o' v' ps i empty w idle map (λ k t z. z) plan.planned f put) (plan.stood, plan.number)))
  by_copy c root j a (with_value empty w) (Store b x) e plan may free =
      let hid : IsUnpublished l ws p.root (copying c root j (with_value empty w)) = subst (IsUnpublished l ws p.root) e h.hidden in
      let new : IsNewRegion l ws p.root root = hid.0 in let o' : Order = l.order root in let v' : SlotsView = view l ws root in
      let inside : w.to < o'.slots = hid.1.knows.0.0.inside in let n : ℕ = o'.low_of w.key in
      let f : ℕ → ℕ = column l (set ws (l.word root w.to 1) n) root 1 in
      let put : IsPut v'.low f w.to n = column_put l ws root new.region w.to n inside 1 (omega arith) in
      at_word (λ b y. Preserves l Free ws p (set ws b y) record p { stage = copying c root j (with_low empty w); words = set p.words b y }) b (l.word root w.to 1) x n may.0 may.1
      (goes_weaker l (λ other. IsDisjoint l other root) Free ws p (set ws (l.word root w.to 1) n) record p { stage = copying c root j (with_low empty w); words = set p.words (l.word root w.to 1) n } free
      (copy_step l ws p h root new c w.to 1 n j (copying c root j (with_value empty w)) (with_low empty w) record v' { low = f } e tt inside (omega arith) (view_low l ws root new.region w.to n inside)
      (lows_in o' v' (parts mine here) j empty w hid.1 f put) hid.2))
  by_copy c root j a (with_low empty w) (Store b x) e plan may free =
      let hid : IsUnpublished l ws p.root (copying c root j (with_low empty w)) = subst (IsUnpublished l ws p.root) e h.hidden in
      let new : IsNewRegion l ws p.root root = hid.0 in let o' : Order = l.order root in let v' : SlotsView = view l ws root in
      let inside : w.to < o'.slots = hid.1.knows.0.0.inside in let n : ℕ = o'.high_of w.key in
      let f : ℕ → ℕ = column l (set ws (l.word root w.to 2) n) root 2 in
      let put : IsPut v'.high f w.to n = column_put l ws root new.region w.to n inside 2 (omega arith) in
      at_word (λ b y. Preserves l Free ws p (set ws b y) record p { stage = copying c root j (with_high empty w); words = set p.words b y }) b (l.word root w.to 2) x n may.0 may.1
      (goes_weaker l (λ other. IsDisjoint l other root) Free ws p (set ws (l.word root w.to 2) n) record p { stage = copying c root j (with_high empty w); words = set p.words (l.word root w.to 2) n } free
      (copy_step l ws p h root new c w.to 2 n j (copying c root j (with_low empty w)) (with_high empty w) record v' { high = f } e tt inside (omega arith) (view_high l ws root new.region w.to n inside)
      (highs_in o' v' (parts mine here) j empty w hid.1 f put) hid.2))
  by_copy c root j a (with_high empty w) (Store b x) e plan may free =
      let hid : IsUnpublished l ws p.root (copying c root j (with_high empty w)) = subst (IsUnpublished l ws p.root) e h.hidden in
      let new : IsNewRegion l ws p.root root = hid.0 in let o' : Order = l.order root in let v' : SlotsView = view l ws root in let ps : Maps = parts mine here in
      let inside : w.to < o'.slots = hid.1.knows.0.0.inside in
      let f : ℕ → ℕ = column l (set ws (l.word root w.to 0) 1) root 0 in
      let put : IsPut v'.state f w.to 1 = column_put l ws root new.region w.to 1 inside 0 (omega arith) in
      let step : IsStep ps ps j w.key (suc w.number) = subst (λ (z : ℕ). IsStep ps ps j w.key (suc z)) (sym hid.2.1) (parts_step mine h.region.ok here w.key j hid.2.0) in
      at_word (λ b y. Preserves l Free ws p (set ws b y) record p { stage = copying c root (suc j) idle; words = set p.words b y }) b (l.word root w.to 0) x 1 may.0 may.1
      (goes_weaker l (λ other. IsDisjoint l other root) Free ws p (set ws (l.word root w.to 0) 1) record p { stage = copying c root (suc j) idle; words = set p.words (l.word root w.to 0) 1 } free
      (copy_step l ws p h root new c w.to 0 1 (suc j) (copying c root j (with_high empty w)) idle record v' { state = f } e tt inside (omega arith) (view_state l ws root new.region w.to 1 inside)
      (fills_empty o' new.region.ok v' ps ps j w f hid.1 put step) tt))
  by_copy c root j publishes idle (Store b x) e plan may free =
      let hid : IsUnpublished l ws p.root (copying c root j idle) = subst (IsUnpublished l ws p.root) e h.hidden in
      at_word (λ b y. Preserves l Free ws p (set ws b y) record p { root = root; stage = retiring p.root c; words = set p.words b y }) b l.base x root may.0 may.1
      (goes_weaker l (λ other. IsDisjoint l other root) Free ws p (set ws l.base root) record p { root = root; stage = retiring p.root c; words = set p.words l.base root } free
      (publish_step l ws p h root hid.0 (copying c root j idle) (retiring p.root c) p.maps p.linearized p.log j e tt tt tt hid.1 plan.0 plan.1 (omega arith) (λ i k b. refl) (λ k. refl) (omega arith)))
  by_copy c root j tidies idle (Store b x) e plan may free =
      let hid : IsUnpublished l ws p.root (copying c root j idle) = subst (IsUnpublished l ws p.root) e h.hidden in
      let m' : Maps = repeated p.maps p.linearized in
      at_word (λ b y. Preserves l Free ws p (set ws b y) record p { root = root; stage = retiring_at_end p.root; words = set p.words b y; linearized = suc p.linearized; maps = m' }) b l.base x root may.0 may.1
      (goes_weaker l (λ other. IsDisjoint l other root) Free ws p (set ws l.base root) record p { root = root; stage = retiring_at_end p.root; words = set p.words l.base root; linearized = suc p.linearized; maps = m' } free
      (publish_step l ws p h root hid.0 (copying c root j idle) (retiring_at_end p.root) m' (suc p.linearized) p.log j e tt tt tt hid.1 plan.0 plan.1 (omega arith) (λ i k b. repeated_same p.maps p.linearized i k b) (λ k. repeated_here p.maps p.linearized k) (omega arith)))
  by_copy c root j a g s e plan may free = absurd may

  pub by_stage : (call : List ℕ) (a : Action) (g : Stage) (s : Step) → p.stage ≡ g → IsSoundAt l ws p.root (p.maps p.linearized) a g → MayWriterStep l p a g s → ((root : ℕ) → IsTaking a g root → IsNewRegion l ws p.root root) → ((root other : ℕ) → IsUnpublishedBy a g root → Free other → IsDisjoint l other root) → StepOf (second l call p a g) s
  by_stage call a idle s e plan may new free = by_act l Free ws p h call a s e plan may new free
  by_stage call a (with_bump c w) (Store b x) e plan may new free = let m = map_at l Free ws p h (with_bump c w) e in
      at_word (λ b y. Preserves l Free ws p (set ws b y) record p { stage = with_value c w; words = set p.words b y }) b (l.word p.root w.to 3) x w.number may.0 may.1
      (value_turn l Free ws p h (with_bump c w) c w e (λ k t z. z) (λ r k i z. z) m.knows (λ s q. q.apart) (bumps_at l Free ws p h (with_bump c w) e))
  by_stage call a (with_value c w) (Store b x) e plan may new free = at_word (λ b y. Preserves l Free ws p (set ws b y) record p { stage = with_low c w; words = set p.words b y }) b (l.word p.root w.to 1) x (mine.low_of w.key) may.0 may.1 (low_turn l Free ws p h c w e)
  by_stage call a (with_low c w) (Store b x) e plan may new free = at_word (λ b y. Preserves l Free ws p (set ws b y) record p { stage = with_high c w; words = set p.words b y }) b (l.word p.root w.to 2) x (mine.high_of w.key) may.0 may.1 (high_turn l Free ws p h c w e)
  by_stage call a (with_high c w) (Store b x) e plan may new free = at_word (λ b y. Preserves l Free ws p (set ws b y) record (filled p c w) { words = set p.words b y }) b (l.word p.root w.to 0) x 1 may.0 may.1 (fulls l Free ws p h c w e)
  by_stage call a (twice from w) (Store b x) e plan may new free = let m = map_at l Free ws p h (twice from w) e in let c = bumps_at l Free ws p h (twice from w) e in
      subst (λ (b : ℕ). Preserves l Free ws p (set ws b x) record p { stage = before_tombstone from w; words = set p.words b x; bumps = suc p.bumps }) (sym may.0)
      (bump_step l Free ws p h x (before_tombstone from w) p.log may.1 (closes mine here p.maps p.linearized from w m) (omega arith) tt)
  by_stage call a (before_tombstone from w) (Store b x) e plan may new free = at_word (λ b y. Preserves l Free ws p (set ws b y) record p { stage = idle; log = suc p.log; words = set p.words b y }) b (l.word p.root from 0) x 2 may.0 may.1 (tomb_turn l Free ws p h from w e)
  by_stage call a with_tombstone (Store b x) e plan may new free = let m = map_at l Free ws p h with_tombstone e in let c = bumps_at l Free ws p h with_tombstone e in
      subst (λ (b : ℕ). Preserves l Free ws p (set ws b x) record p { stage = idle; words = set p.words b x; bumps = suc p.bumps; log = suc p.log }) (sym may.0)
      (bump_step l Free ws p h x idle (suc p.log) may.1 (settles mine here p.maps p.linearized m) (omega arith) tt)
  by_stage call a (clearing c root i) (Store b x) e plan may new free = let hid : IsUnpublished l ws p.root (clearing c root i) = subst (IsUnpublished l ws p.root) e h.hidden in
      at_word (λ b y. Preserves l Free ws p (set ws b y) record p { stage = cleared l c root (suc i); words = set p.words b y }) b (l.word root i 0) x 0 may.0 may.1
      (goes_weaker l (λ other. IsDisjoint l other root) Free ws p (set ws (l.word root i 0) 0) record p { stage = cleared l c root (suc i); words = set p.words (l.word root i 0) 0 } (λ other f. free root other refl f)
      (clear_step l ws p h root hid.0 c i (clearing c root i) e tt hid.1 hid.2))
  by_stage call a (copying c root j g) s e plan may new free = by_copy c root j a g s e plan may (λ other f. free root other refl f)
  by_stage call a (after_rebuild c) s e plan may new free = let go = turns_calm l ws p h Free (after_rebuild c) idle e tt tt tt in
      goes_then l Free ws p ws record p { stage = idle } (words_after ws s) record (after_first l c record p { stage = idle } a) { words = words_after p.words s } go
      (by_act l Free ws record p { stage = idle } go.writer_state c a s refl plan may new free)
  by_stage call a g s e plan may new free = absurd may
