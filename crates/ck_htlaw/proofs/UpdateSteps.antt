-- The writer's steps by their kinds.
use Rattle.std.proofs.Common.{◌≡◌, ◌≢◌, ℕ, suc, ◌+◌, ◌*◌, ◌<◌, ◌≤◌, refl, sym, ap, ◌∙◌, subst, arith, Bool, cond, ◌==◌, eq-eqb, ne_eqb, List, set}
use Rattle.ck_slots.specs.Slots.{Order, IsOrder, SlotsView, Holds}
use Rattle.ck_htlaw.specs.Stages.{Insertion, Target, empty, reuse, move, Stage, idle, with_value, with_low, with_high, twice, before_tombstone, with_tombstone, IsOld, IsPlanned, Maps, IsMap, IsPut, IsStep}
use Rattle.ck_htlaw.specs.Look.{IsHalf, IsStable}
use Rattle.ck_htlaw.specs.Table.{Layout, column, view, count, WriterState, grown, repeated, linearizing, filled}
use Rattle.ck_htlaw.specs.Invariant.{IsUnpublished, cost, owed, WriterInvariant}
use Rattle.ck_htlaw.proofs.Maps.{not_one, put_value, put_low, put_high, values, lows_in, highs_in, remaps}
use Rattle.ck_htlaw.proofs.Places.{fills_empty, fills_reuse, fills_move, removes, replaces, ends}
use Rattle.ck_htlaw.proofs.Readers.{IsKept, reader_kept, kept_off, kept_fresh, kept_move, kept_tomb, kept_value, since_step}
use Rattle.ck_htlaw.proofs.Words.{view_state, view_low, view_high, view_value, column_put}
use Rattle.ck_htlaw.proofs.WriterSteps.{Preserves, kept_maps, writer_step, slot_step}

pub grown_step : (maps : Maps) (q k x : ℕ) → IsStep maps (grown maps q k x) q k x
grown_step maps q k x = record {
  same = λ p j b. ap (λ (z : Bool). cond z (cond (j == k) x (maps q j)) (maps p j)) (ne_eqb p (suc q) (λ e. absurd (omega arith)));
  here = ap (λ (z : Bool). cond z (cond (k == k) x (maps q k)) (maps (suc q) k)) (eq-eqb (suc q) (suc q) refl) ∙ ap (λ (z : Bool). cond z x (maps q k)) (eq-eqb k k refl);
  others = λ j n. ap (λ (z : Bool). cond z (cond (j == k) x (maps q j)) (maps (suc q) j)) (eq-eqb (suc q) (suc q) refl) ∙ ap (λ (z : Bool). cond z x (maps q j)) (ne_eqb j k n);
}

pub repeated_same : (maps : Maps) (q p j : ℕ) → p ≤ q → repeated maps q p j ≡ maps p j
repeated_same maps q p j b = ap (λ (z : Bool). cond z (maps q j) (maps p j)) (ne_eqb p (suc q) (λ e. absurd (omega arith)))

pub repeated_here : (maps : Maps) (q j : ℕ) → repeated maps q (suc q) j ≡ maps q j
repeated_here maps q j = ap (λ (z : Bool). cond z (maps q j) (maps (suc q) j)) (eq-eqb (suc q) (suc q) refl)

pub at_word : (P : ℕ → ℕ → Type 0) (a b x y : ℕ) → a ≡ b → x ≡ y → P b y → P a x
at_word P a b x y e d h = subst (λ (z : ℕ × ℕ). P z.0 z.1) (λ i. (sym e i, sym d i)) h

inside_of : (o : Order) (v : SlotsView) (m : ℕ → ℕ) (c : Target) (w : Insertion) → IsPlanned o v m c w → w.to < o.slots
inside_of o v m empty w p = p.0.inside
inside_of o v m reuse w p = p.inside
inside_of o v m (move from) w p = p.inside

module _ (l : Layout) (Free : ℕ → Type 0) (ws : List ℕ) (p : WriterState) (h : WriterInvariant l ws p) where
  abbrev o : Order
  o = l.order p.root

  abbrev v : SlotsView
  v = view l ws p.root

  ok : IsOrder o
  ok = h.region.ok

  pub map_at : (g : Stage) → p.stage ≡ g → IsMap o v p.maps p.linearized g
  map_at g e = subst (IsMap o v p.maps p.linearized) e h.map

  pub bumps_at : (g : Stage) → p.stage ≡ g → p.bumps ≤ 2 * p.log + owed g
  bumps_at g e = subst (λ (z : Stage). p.bumps ≤ 2 * p.log + owed z) e h.bumps

  pub kept_at : (v' : SlotsView) (maps' : Maps) (q' : ℕ) (g g' : Stage) (r : ℕ) → p.stage ≡ g → IsKept o v v' p.maps maps' p.linearized q' g g' r → IsKept o v v' p.maps maps' p.linearized q' p.stage g' r
  kept_at v' maps' q' g g' r e k = subst (λ (z : Stage). IsKept o v v' p.maps maps' p.linearized q' z g' r) (sym e) k

  -- the stores of the three words
  pub value_turn : (g : Stage) (c : Target) (w : Insertion) → p.stage ≡ g → ((k t : ℕ) → IsOld g k t → ⊥) → ((r k i : ℕ) → IsHalf o g r p.linearized k i → ⊥) → IsPlanned o v (p.maps p.linearized) c w → ((s : ℕ) → IsStable v g s → w.to ≢ s) → p.bumps ≤ 2 * p.log + cost c
      → Preserves l Free ws p (set ws (l.word p.root w.to 3) w.number) record p { stage = with_value c w; words = set p.words (l.word p.root w.to 3) w.number }
  value_turn g c w e none half plan apart bumps = let ws' : List ℕ = set ws (l.word p.root w.to 3) w.number in let f : ℕ → ℕ = column l ws' p.root 3 in
      let inside : w.to < o.slots = inside_of o v (p.maps p.linearized) c w plan in
      let put : IsPut v.value f w.to w.number = column_put l ws p.root h.region w.to w.number inside 3 (omega arith) in
      slot_step l Free ws p h w.to 3 w.number (with_value c w) p.maps p.linearized p.log (record v { value = f }) inside (omega arith) (view_value l ws p.root h.region w.to w.number inside)
      (values o v p.maps p.linearized c w g (map_at g e) none plan f put) bumps tt (omega arith) (λ j k b. refl)
      (λ r b. kept_at (record v { value = f }) p.maps p.linearized g (with_value c w) r e
      (kept_off o v (record v { value = f }) p.maps p.linearized w.to g (with_value c w) r (put_value o v p.maps p.linearized c w f put) (not_one o v (p.maps p.linearized) c w plan) (half r) apart (λ s x. x)))

  pub low_turn : (c : Target) (w : Insertion) → p.stage ≡ with_value c w → Preserves l Free ws p (set ws (l.word p.root w.to 1) (o.low_of w.key)) record p { stage = with_low c w; words = set p.words (l.word p.root w.to 1) (o.low_of w.key) }
  low_turn c w e = let ws' : List ℕ = set ws (l.word p.root w.to 1) (o.low_of w.key) in let f : ℕ → ℕ = column l ws' p.root 1 in let m = map_at (with_value c w) e in
      let inside : w.to < o.slots = inside_of o v (p.maps p.linearized) c w m.knows.0 in
      let put : IsPut v.low f w.to (o.low_of w.key) = column_put l ws p.root h.region w.to (o.low_of w.key) inside 1 (omega arith) in
      slot_step l Free ws p h w.to 1 (o.low_of w.key) (with_low c w) p.maps p.linearized p.log (record v { low = f }) inside (omega arith) (view_low l ws p.root h.region w.to (o.low_of w.key) inside)
      (lows_in o v p.maps p.linearized c w m f put) (bumps_at (with_value c w) e) tt (omega arith) (λ j k b. refl)
      (λ r b. kept_at (record v { low = f }) p.maps p.linearized (with_value c w) (with_low c w) r e
      (kept_off o v (record v { low = f }) p.maps p.linearized w.to (with_value c w) (with_low c w) r (put_low o v p.maps p.linearized c w f put) (not_one o v (p.maps p.linearized) c w m.knows.0) (λ k i x. x) (λ s x. x.apart) (λ s x. x)))

  pub high_turn : (c : Target) (w : Insertion) → p.stage ≡ with_low c w → Preserves l Free ws p (set ws (l.word p.root w.to 2) (o.high_of w.key)) record p { stage = with_high c w; words = set p.words (l.word p.root w.to 2) (o.high_of w.key) }
  high_turn c w e = let ws' : List ℕ = set ws (l.word p.root w.to 2) (o.high_of w.key) in let f : ℕ → ℕ = column l ws' p.root 2 in let m = map_at (with_low c w) e in
      let inside : w.to < o.slots = inside_of o v (p.maps p.linearized) c w m.knows.0 in
      let put : IsPut v.high f w.to (o.high_of w.key) = column_put l ws p.root h.region w.to (o.high_of w.key) inside 2 (omega arith) in
      slot_step l Free ws p h w.to 2 (o.high_of w.key) (with_high c w) p.maps p.linearized p.log (record v { high = f }) inside (omega arith) (view_high l ws p.root h.region w.to (o.high_of w.key) inside)
      (highs_in o v p.maps p.linearized c w m f put) (bumps_at (with_low c w) e) tt (omega arith) (λ j k b. refl)
      (λ r b. kept_at (record v { high = f }) p.maps p.linearized (with_low c w) (with_high c w) r e
      (kept_off o v (record v { high = f }) p.maps p.linearized w.to (with_low c w) (with_high c w) r (put_high o v p.maps p.linearized c w f put) (not_one o v (p.maps p.linearized) c w m.knows.0) (λ k i x. x) (λ s x. x.apart) (λ s x. x)))

  -- the store by which an update takes place
  abbrev place : Stage → Stage → ℕ → ℕ → ℕ → ℕ → ℕ → ℕ → (List ℕ → SlotsView) → Type 0
  place g g' s j x log k n change = Preserves l Free ws p (set ws (l.word p.root s j) x) record (linearizing p g' log k n) { words = set p.words (l.word p.root s j) x }

  full_turn : (c : Target) (w : Insertion) (g' : Stage) (log' : ℕ) → IsUnpublished l (set ws (l.word p.root w.to 0) 1) p.root g' → (e : p.stage ≡ with_high c w) → w.to < o.slots
      → ((f : ℕ → ℕ) → IsPut v.state f w.to 1 → IsStep p.maps (grown p.maps p.linearized w.key (suc w.number)) p.linearized w.key (suc w.number) → IsMap o (record v { state = f }) (grown p.maps p.linearized w.key (suc w.number)) (suc p.linearized) g')
      → ((r : ℕ) → r ≤ p.linearized → (f : ℕ → ℕ) → IsPut v.state f w.to 1 → IsStep p.maps (grown p.maps p.linearized w.key (suc w.number)) p.linearized w.key (suc w.number) → IsKept o v (record v { state = f }) p.maps (grown p.maps p.linearized w.key (suc w.number)) p.linearized (suc p.linearized) (with_high c w) g' r)
      → p.bumps ≤ 2 * log' + owed g' → Preserves l Free ws p (set ws (l.word p.root w.to 0) 1) record (linearizing p g' log' w.key (suc w.number)) { words = set p.words (l.word p.root w.to 0) 1 }
  full_turn c w g' log' hid e inside map kept bumps = let ws' : List ℕ = set ws (l.word p.root w.to 0) 1 in let f : ℕ → ℕ = column l ws' p.root 0 in
      let put : IsPut v.state f w.to 1 = column_put l ws p.root h.region w.to 1 inside 0 (omega arith) in
      let m' : Maps = grown p.maps p.linearized w.key (suc w.number) in
      let step : IsStep p.maps m' p.linearized w.key (suc w.number) = grown_step p.maps p.linearized w.key (suc w.number) in
      slot_step l Free ws p h w.to 0 1 g' m' (suc p.linearized) log' (record v { state = f }) inside (omega arith) (view_state l ws p.root h.region w.to 1 inside)
      (map f put step) bumps hid (omega arith) (λ j k b. step.same j k b)
      (λ r b. kept_at (record v { state = f }) m' (suc p.linearized) (with_high c w) g' r e (kept r b f put step))

  pub fulls : (c : Target) (w : Insertion) → p.stage ≡ with_high c w → Preserves l Free ws p (set ws (l.word p.root w.to 0) 1) record (filled p c w) { words = set p.words (l.word p.root w.to 0) 1 }
  fulls empty w e = let m = map_at (with_high empty w) e in let b = bumps_at (with_high empty w) e in
      full_turn empty w idle (suc p.log) tt e m.knows.0.0.inside (λ f put step. fills_empty o ok v p.maps (grown p.maps p.linearized w.key (suc w.number)) p.linearized w f m put step)
      (λ r le f put step. kept_fresh o ok v p.maps (grown p.maps p.linearized w.key (suc w.number)) p.linearized r le empty w f m put step m.knows.0.0.absent) (omega arith)
  fulls reuse w e = let m = map_at (with_high reuse w) e in let b = bumps_at (with_high reuse w) e in
      full_turn reuse w idle (suc p.log) tt e m.knows.0.inside (λ f put step. fills_reuse o ok v p.maps (grown p.maps p.linearized w.key (suc w.number)) p.linearized w f m put step)
      (λ r le f put step. kept_fresh o ok v p.maps (grown p.maps p.linearized w.key (suc w.number)) p.linearized r le reuse w f m put step m.knows.0.absent) (omega arith)
  fulls (move from) w e = let m = map_at (with_high (move from) w) e in let b = bumps_at (with_high (move from) w) e in
      full_turn (move from) w (twice from w) p.log tt e m.knows.0.inside (λ f put step. fills_move o ok v p.maps (grown p.maps p.linearized w.key (suc w.number)) p.linearized from w f m put step)
      (λ r le f put step. kept_move o ok v p.maps (grown p.maps p.linearized w.key (suc w.number)) p.linearized r le from w f m put step) (omega arith)

  pub tomb_turn : (from : ℕ) (w : Insertion) → p.stage ≡ before_tombstone from w → Preserves l Free ws p (set ws (l.word p.root from 0) 2) record p { stage = idle; log = suc p.log; words = set p.words (l.word p.root from 0) 2 }
  tomb_turn from w e = let m = map_at (before_tombstone from w) e in let b = bumps_at (before_tombstone from w) e in let inside : from < o.slots = m.knows.second.inside in
      let ws' : List ℕ = set ws (l.word p.root from 0) 2 in let f : ℕ → ℕ = column l ws' p.root 0 in
      let put : IsPut v.state f from 2 = column_put l ws p.root h.region from 2 inside 0 (omega arith) in
      slot_step l Free ws p h from 0 2 idle p.maps p.linearized (suc p.log) (record v { state = f }) inside (omega arith) (view_state l ws p.root h.region from 2 inside)
      (ends o ok v p.maps p.linearized from w f m put) (omega arith) tt (omega arith) (λ j k b. refl)
      (λ r le. kept_at (record v { state = f }) p.maps p.linearized (before_tombstone from w) idle r e
      (kept_tomb o ok v p.maps p.maps p.linearized r w.key from f (before_tombstone from w) idle m put m.knows.second p.linearized (λ j y z. z) (λ j i z. z) (λ t. tt)))

  pub takes_turn : (k s : ℕ) → p.stage ≡ idle → Holds o v k s → Preserves l Free ws p (set ws (l.word p.root s 0) 2) record (linearizing p with_tombstone p.log k 0) { words = set p.words (l.word p.root s 0) 2 }
  takes_turn k s e stood = let m = map_at idle e in let b = bumps_at idle e in
      let ws' : List ℕ = set ws (l.word p.root s 0) 2 in let f : ℕ → ℕ = column l ws' p.root 0 in
      let put : IsPut v.state f s 2 = column_put l ws p.root h.region s 2 stood.inside 0 (omega arith) in
      let m' : Maps = grown p.maps p.linearized k 0 in let step : IsStep p.maps m' p.linearized k 0 = grown_step p.maps p.linearized k 0 in
      slot_step l Free ws p h s 0 2 with_tombstone m' (suc p.linearized) p.log (record v { state = f }) stood.inside (omega arith) (view_state l ws p.root h.region s 2 stood.inside)
      (removes o ok v p.maps m' p.linearized k s f m put stood step) (omega arith) tt (omega arith) (λ j i b. step.same j i b)
      (λ r le. kept_at (record v { state = f }) m' (suc p.linearized) idle with_tombstone r e
      (kept_tomb o ok v p.maps m' p.linearized r k s f idle with_tombstone m put stood (suc p.linearized) (since_step o ok v p.maps m' p.linearized r k 0 step) (λ j i z. z) (λ t. tt)))

  pub stands_turn : (k s x : ℕ) → p.stage ≡ idle → Holds o v k s → Preserves l Free ws p (set ws (l.word p.root s 3) x) record (linearizing p idle (suc p.log) k (suc x)) { words = set p.words (l.word p.root s 3) x }
  stands_turn k s x e stood = let m = map_at idle e in let b = bumps_at idle e in
      let ws' : List ℕ = set ws (l.word p.root s 3) x in let f : ℕ → ℕ = column l ws' p.root 3 in
      let put : IsPut v.value f s x = column_put l ws p.root h.region s x stood.inside 3 (omega arith) in
      let m' : Maps = grown p.maps p.linearized k (suc x) in let step : IsStep p.maps m' p.linearized k (suc x) = grown_step p.maps p.linearized k (suc x) in
      slot_step l Free ws p h s 3 x idle m' (suc p.linearized) (suc p.log) (record v { value = f }) stood.inside (omega arith) (view_value l ws p.root h.region s x stood.inside)
      (replaces o ok v p.maps m' p.linearized k s x f m put stood step) (omega arith) tt (omega arith) (λ j i b. step.same j i b)
      (λ r le. kept_at (record v { value = f }) m' (suc p.linearized) idle idle r e (kept_value o ok v p.maps m' p.linearized r le k s x f put stood step))

  pub load_turn : p.stage ≡ idle → Preserves l Free ws p ws record p { linearized = suc p.linearized; maps = repeated p.maps p.linearized; log = suc p.log; stage = idle }
  load_turn e = let m = map_at idle e in let b = bumps_at idle e in let m' : Maps = repeated p.maps p.linearized in
      writer_step l Free ws p h ws p.words idle m' (suc p.linearized) (suc p.log) p.bumps refl h.root h.words h.long
      (remaps o v p.maps p.linearized m' (suc p.linearized) (repeated_here p.maps p.linearized) m) (omega arith) tt (omega arith) (λ j k b. repeated_same p.maps p.linearized j k b)
      (λ r look_state z. reader_kept o v v p.maps m' p.linearized (suc p.linearized) p.stage idle r (kept_at v m' (suc p.linearized) idle idle r e (kept_maps o v p.maps m' p.linearized (suc p.linearized) r (λ j k b. repeated_same p.maps p.linearized j k b) (omega arith))) (omega arith) (count l ws p.root) look_state z)
      (λ a look_state z. z) (omega arith) (λ root z d _. (refl, refl))
