-- A region that a reader looks at and that isn't the present one keeps its words.
use Rattle.std.proofs.Common.{◌≡◌, ◌≢◌, ℕ, ◌<◌, ◌⊎◌, ⊎_elim, inl, inr, List, length, get_or, get_or-set_other, refl, sym, ◌∙◌, subst, arith}
use Rattle.ck_run.specs.declared.account.Step.{Step}
use Rattle.ck_run.specs.declared.account.Step.TheVariants.{Load, Store, Exchange}
use Rattle.ck_run.specs.Run.{words_after}
use Rattle.ck_run.specs.Range.{word_of}
use Rattle.ck_slots.specs.Slots.{Order, SlotsView}
use Rattle.ck_htlaw.specs.Stages.{Target, empty, reuse, move, Insertion, Stage, idle, with_bump, with_value, with_low, with_high, twice, before_tombstone, with_tombstone, clearing, copying, after_rebuild, IsPlanned, IsMap}
use Rattle.ck_htlaw.specs.Table.{Layout, view, Action, inserts, stands, deletes, begins_rebuild, copies, publishes, tidies, WriterState, MayDo, MayCopy, MayWriterStep, IsLoad}
use Rattle.ck_htlaw.specs.Invariant.{IsRegion, IsDisjoint, IsUnpublished, IsUnpublishedBy, IsSoundAt, IsSound, WriterInvariant}

planned_inside : (o : Order) (v : SlotsView) (m : ℕ → ℕ) (c : Target) (w : Insertion) → IsPlanned o v m c w → w.to < o.slots
planned_inside o v m empty w p = p.0.inside
planned_inside o v m reuse w p = p.inside
planned_inside o v m (move from) w p = p.inside

module _ (l : Layout) (ws : List ℕ) (p : WriterState) (h : WriterInvariant l ws p) where
  -- a word that the writer's store may change: the root, the present region's counter, a word of the present region, or one of the region
  -- that is being built
  abbrev pub MayChange : Action → Stage → ℕ → Type 0
  MayChange a g x = (x ≡ l.base) ⊎ ((x ≡ l.counter p.root) ⊎ (((s : ℕ) × (j : ℕ) × (s < (l.order p.root).slots) × (j < 4) × (x ≡ l.word p.root s j))
      ⊎ ((root : ℕ) × IsUnpublishedBy a g root × ((s : ℕ) × (j : ℕ) × (s < (l.order root).slots) × (j < 4) × (x ≡ l.word root s j)))))

  present : (a : Action) (g : Stage) (x s j : ℕ) → s < (l.order p.root).slots → j < 4 → x ≡ l.word p.root s j → MayChange a g x
  present a g x s j b d e = inr (inr (inl (s, j, b, d, e)))

  building : (a : Action) (g : Stage) (x root s j : ℕ) → IsUnpublishedBy a g root → s < (l.order root).slots → j < 4 → x ≡ l.word root s j → MayChange a g x
  building a g x root s j hid b d e = inr (inr (inr (root, hid, (s, j, b, d, e))))

  action_changes : (a : Action) (g : Stage) (x n : ℕ) → IsSound l ws p.root (p.maps p.linearized) a → MayDo l p a (Store x n) → ((root : ℕ) → a ≡ begins_rebuild root → IsUnpublishedBy a g root × (0 < (l.order root).slots)) → MayChange a g x
  action_changes (inserts empty w) g x n sound may hid = present (inserts empty w) g x w.to 3 (planned_inside (l.order p.root) (view l ws p.root) (p.maps p.linearized) empty w sound) (omega arith) may.0
  action_changes (inserts reuse w) g x n sound may hid = inr (inl may.0)
  action_changes (inserts (move from) w) g x n sound may hid = inr (inl may.0)
  action_changes (stands k s v) g x n sound may hid = present (stands k s v) g x s 3 sound.inside (omega arith) may.0
  action_changes (deletes k s) g x n sound may hid = present (deletes k s) g x s 0 sound.inside (omega arith) may.0
  action_changes (begins_rebuild root) g x n sound may hid = let z = hid root refl in building (begins_rebuild root) g x root 0 0 z.0 z.1 (omega arith) may.0
  action_changes a g x n sound may hid = absurd may

  pub changes : (a : Action) (g : Stage) (x n : ℕ) → p.stage ≡ g → IsSoundAt l ws p.root (p.maps p.linearized) a g → MayWriterStep l p a g (Store x n) → ((root : ℕ) → IsUnpublishedBy a g root → 0 < (l.order root).slots) → MayChange a g x
  changes a idle x n is sound may some = action_changes a idle x n sound may (λ root e. (subst (λ (b : Action). IsUnpublishedBy b idle root) (sym e) refl, some root (subst (λ (b : Action). IsUnpublishedBy b idle root) (sym e) refl)))
  changes a (after_rebuild c) x n is sound may some = action_changes a (after_rebuild c) x n sound may (λ root e. (subst (λ (b : Action). IsUnpublishedBy b (after_rebuild c) root) (sym e) refl, some root (subst (λ (b : Action). IsUnpublishedBy b (after_rebuild c) root) (sym e) refl)))
  changes a (with_bump c w) x n is sound may some = let m = subst (IsMap (l.order p.root) (view l ws p.root) p.maps p.linearized) is h.map in
      present a (with_bump c w) x w.to 3 (planned_inside (l.order p.root) (view l ws p.root) (p.maps p.linearized) c w m.knows) (omega arith) may.0
  changes a (with_value c w) x n is sound may some = let m = subst (IsMap (l.order p.root) (view l ws p.root) p.maps p.linearized) is h.map in
      present a (with_value c w) x w.to 1 (planned_inside (l.order p.root) (view l ws p.root) (p.maps p.linearized) c w m.knows.0) (omega arith) may.0
  changes a (with_low c w) x n is sound may some = let m = subst (IsMap (l.order p.root) (view l ws p.root) p.maps p.linearized) is h.map in
      present a (with_low c w) x w.to 2 (planned_inside (l.order p.root) (view l ws p.root) (p.maps p.linearized) c w m.knows.0) (omega arith) may.0
  changes a (with_high c w) x n is sound may some = let m = subst (IsMap (l.order p.root) (view l ws p.root) p.maps p.linearized) is h.map in
      present a (with_high c w) x w.to 0 (planned_inside (l.order p.root) (view l ws p.root) (p.maps p.linearized) c w m.knows.0) (omega arith) may.0
  changes a (twice from w) x n is sound may some = inr (inl may.0)
  changes a (before_tombstone from w) x n is sound may some = let m = subst (IsMap (l.order p.root) (view l ws p.root) p.maps p.linearized) is h.map in
      present a (before_tombstone from w) x from 0 m.knows.second.inside (omega arith) may.0
  changes a with_tombstone x n is sound may some = inr (inl may.0)
  changes a (clearing c root i) x n is sound may some = let d = subst (IsUnpublished l ws p.root) is h.hidden in building a (clearing c root i) x root i 0 refl d.1 (omega arith) may.0
  changes (copies i w) (copying c root j idle) x n is sound may some = building (copies i w) (copying c root j idle) x root w.to 3 refl sound.planned.0.inside (omega arith) may.0
  changes publishes (copying c root j idle) x n is sound may some = inl may.0
  changes tidies (copying c root j idle) x n is sound may some = inl may.0
  changes a (copying c root j (with_value empty w)) x n is sound may some = let d = subst (IsUnpublished l ws p.root) is h.hidden in building a (copying c root j (with_value empty w)) x root w.to 1 refl d.1.knows.0.0.inside (omega arith) may.0
  changes a (copying c root j (with_low empty w)) x n is sound may some = let d = subst (IsUnpublished l ws p.root) is h.hidden in building a (copying c root j (with_low empty w)) x root w.to 2 refl d.1.knows.0.0.inside (omega arith) may.0
  changes a (copying c root j (with_high empty w)) x n is sound may some = let d = subst (IsUnpublished l ws p.root) is h.hidden in building a (copying c root j (with_high empty w)) x root w.to 0 refl d.1.knows.0.0.inside (omega arith) may.0
  changes a g x n is sound may some = absurd may

  -- what lies in a region that is neither the present one nor the one that is being built is none of these words
  module _ (a : Action) (g : Stage) (other : ℕ) (r : IsRegion l (length ws) other) (apart : IsDisjoint l other p.root) (hidden : (root : ℕ) → IsUnpublishedBy a g root → IsDisjoint l other root × IsRegion l (length ws) root) where
    pub slots_far : (x s i : ℕ) → s < (l.order other).slots → i < 4 → MayChange a g x → x ≢ l.word other s i
    slots_far x s i b d c e = ⊎_elim
        (λ (z : x ≡ l.base). r.off_root s i b d (sym e ∙ z))
        (λ c. ⊎_elim
        (λ (z : x ≡ l.counter p.root). let low = h.region.counter_low in let high = r.slots_high s i b d in absurd (omega arith))
        (λ c. ⊎_elim
        (λ z. apart.slots s i z.0 z.1 b z.2 d z.3 (sym e ∙ z.4))
        (λ z. let y = z.2 in (hidden z.0 z.1).0.slots s i y.0 y.1 b y.2 d y.3 (sym e ∙ y.4)) c) c) c

    pub counter_far : (x : ℕ) → MayChange a g x → x ≢ l.counter other
    counter_far x c e = ⊎_elim
        (λ (z : x ≡ l.base). r.counter_off_root (sym e ∙ z))
        (λ c. ⊎_elim
        (λ (z : x ≡ l.counter p.root). apart.counters (sym e ∙ z))
        (λ c. ⊎_elim
        (λ z. let high = h.region.slots_high z.0 z.1 z.2 z.3 in let low = r.counter_low in let f = z.4 in absurd (omega arith))
        (λ z. let y = z.2 in let high = (hidden z.0 z.1).1.slots_high y.0 y.1 y.2 y.3 in let low = r.counter_low in let f = y.4 in absurd (omega arith)) c) c) c

no_act : (l : Layout) (p : WriterState) (a : Action) (x old new found : ℕ) → MayDo l p a (Exchange x old new found) → ⊥
no_act l p (inserts empty w) x old new found m = m
no_act l p (inserts reuse w) x old new found m = m
no_act l p (inserts (move from) w) x old new found m = m
no_act l p a x old new found m = m

-- the writer's steps on the table's words are loads and stores
pub no_exchange : (l : Layout) (p : WriterState) (a : Action) (g : Stage) (x old new found : ℕ) → MayWriterStep l p a g (Exchange x old new found) → ⊥
no_exchange l p a idle x old new found may = no_act l p a x old new found may
no_exchange l p a (after_rebuild c) x old new found may = no_act l p a x old new found may
no_exchange l p a (copying c root j g) x old new found may = no_copy a g may
  where
    no_copy : (a : Action) (g : Stage) → MayCopy l root a g (Exchange x old new found) → ⊥
    no_copy (copies i w) idle m = m
    no_copy publishes idle m = m
    no_copy tidies idle m = m
    no_copy a (with_value empty w) m = m
    no_copy a (with_low empty w) m = m
    no_copy a (with_high empty w) m = m
    no_copy a g m = m
no_exchange l p a g x old new found may = may

-- a word that a step leaves
abbrev pub Leaves : Step → ℕ → Type 0
Leaves (Load x n) i = Unit {0}
Leaves (Store x n) i = x ≢ i
Leaves (Exchange x old new found) i = x ≢ i

pub word_left : (ws : List ℕ) (s : Step) (i : ℕ) → Leaves s i → get_or (words_after ws s) i 0 ≡ get_or ws i 0
word_left ws (Load x n) i h = refl
word_left ws (Store x n) i h = get_or-set_other ws x i n 0 (λ e. h (sym e))
word_left ws (Exchange x old new found) i h = get_or-set_other ws x i _ 0 (λ e. h (sym e))

pub leaves_else : (s : Step) (i : ℕ) → (word_of s ≢ i) → Leaves s i
leaves_else (Load x n) i h = tt
leaves_else (Store x n) i h = h
leaves_else (Exchange x old new found) i h = h

pub leaves_load : (s : Step) (i : ℕ) → IsLoad s → Leaves s i
leaves_load (Load x n) i m = tt
leaves_load s i m = absurd m

-- the writer's step
pub leaves_store : (l : Layout) (ws : List ℕ) (p : WriterState) (h : WriterInvariant l ws p) (a : Action) (s : Step) (i : ℕ) → IsSoundAt l ws p.root (p.maps p.linearized) a p.stage → MayWriterStep l p a p.stage s → ((root : ℕ) → IsUnpublishedBy a p.stage root → 0 < (l.order root).slots)
    → ((x : ℕ) → MayChange l ws p h a p.stage x → x ≢ i) → Leaves s i
leaves_store l ws p h a (Load x n) i sound may some far = tt
leaves_store l ws p h a (Store x n) i sound may some far = far x (changes l ws p h a p.stage x n refl sound may some)
leaves_store l ws p h a (Exchange x old new found) i sound may some far = absurd (no_exchange l p a p.stage x old new found may)
