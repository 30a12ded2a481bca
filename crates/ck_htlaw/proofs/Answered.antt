-- Each answer of a look is one that the map gave at a moment between the load of its root and its last load.
use Rattle.std.proofs.Common.{◌≡◌, ◌≢◌, ℕ, suc, ◌+◌, ◌*◌, ◌≤◌, ⊎_elim, refl, sym, ap, ◌∙◌, subst, arith, List, [], ◌∷◌, cond, Bool, true, false}
use mathlib.Core.Logic.{dite}
use native.Mathlib.Decide.{ℕ_discrete}
use Rattle.ck_run.specs.declared.account.Entry.{Entry}
use Rattle.ck_run.proofs.Law.{moved_here, moved_else}
use Rattle.ck_slots.specs.Slots.{Order, SlotsView}
use Rattle.ck_htlaw.specs.Stages.{Target, empty, reuse, move, Insertion, Maps, Stage, idle, with_high, copying, after_rebuild}
use Rattle.ck_htlaw.specs.Look.{LookState, no_look, checking_value, checking_absence, IsSince, LookInvariant}
use Rattle.ck_htlaw.specs.Table.{Layout, view, count, Action, inserts, stands, deletes, nothing, publishes, tidies, WriterState, ReaderState, LocalState, writer, reader, grown, repeated, after_first, filled, copy, second, next, May, after_own, after_other, is_table_word, mark, since_look, since_of, linearized_of}
use Rattle.ck_htlaw.specs.Invariant.{IsSoundAt, SeesPresent, SeesReplaced, ReaderInvariant, WriterInvariant, TableInvariant, SideCondition, owed}
use Rattle.ck_htlaw.specs.Trace.{Trace, Scene, goes}
use Rattle.ck_htlaw.specs.Law.{look_state_of}
use Rattle.ck_htlaw.specs.Answers.{maps_of, then, IsRunFrom, IsWithinLook, IsGiven}
use Rattle.ck_htlaw.proofs.UpdateSteps.{grown_step, repeated_same}
use Rattle.ck_htlaw.proofs.TableSteps.{law, keeps}
use Rattle.ck_htlaw.proofs.Readers.{since_more}

-- a step places one update at most, and the maps before stay
record IsMore (linearized : ℕ) (maps : Maps) (placed' : ℕ) (maps' : Maps) : Type 0 where
  low : linearized ≤ placed'
  high : placed' ≤ suc linearized
  same : (i k : ℕ) → i ≤ linearized → maps' i k ≡ maps i k

stays : (linearized : ℕ) (maps : Maps) → IsMore linearized maps linearized maps
stays linearized maps = record { low = omega arith; high = omega arith; same = λ i k b. refl }

grows : (linearized : ℕ) (maps : Maps) (k x : ℕ) → IsMore linearized maps (suc linearized) (grown maps linearized k x)
grows linearized maps k x = record { low = omega arith; high = omega arith; same = λ i j b. (grown_step maps linearized k x).same i j b }

repeats : (linearized : ℕ) (maps : Maps) → IsMore linearized maps (suc linearized) (repeated maps linearized)
repeats linearized maps = record { low = omega arith; high = omega arith; same = λ i j b. repeated_same maps linearized i j b }

module _ (l : Layout) (p : WriterState) where
  first_more : (call : List ℕ) (q : WriterState) (a : Action) → IsMore q.linearized q.maps (after_first l call q a).linearized (after_first l call q a).maps
  first_more call q (inserts empty w) = stays q.linearized q.maps
  first_more call q (inserts reuse w) = stays q.linearized q.maps
  first_more call q (inserts (move from) w) = stays q.linearized q.maps
  first_more call q (stands k s v) = grows q.linearized q.maps k (suc v)
  first_more call q (deletes k s) = grows q.linearized q.maps k 0
  first_more call q nothing = repeats q.linearized q.maps
  first_more call q a = stays q.linearized q.maps

  filled_more : (c : Target) (w : Insertion) → IsMore p.linearized p.maps (filled p c w).linearized (filled p c w).maps
  filled_more empty w = grows p.linearized p.maps w.key (suc w.number)
  filled_more reuse w = grows p.linearized p.maps w.key (suc w.number)
  filled_more (move from) w = grows p.linearized p.maps w.key (suc w.number)

  copy_more : (c : List ℕ) (root j : ℕ) (a : Action) (g : Stage) → IsMore p.linearized p.maps (copy p c root j a g).linearized (copy p c root j a g).maps
  copy_more c root j tidies idle = repeats p.linearized p.maps
  copy_more c root j publishes idle = stays p.linearized p.maps
  copy_more c root j a g = stays p.linearized p.maps

  second_more : (call : List ℕ) (a : Action) (g : Stage) → IsMore p.linearized p.maps (second l call p a g).linearized (second l call p a g).maps
  second_more call a idle = first_more call p a
  second_more call a (with_high c w) = filled_more c w
  second_more call a (copying c root j g) = copy_more c root j a g
  second_more call a (after_rebuild c) = first_more c record p { stage = idle } a
  second_more call a g = stays p.linearized p.maps

module _ (l : Layout) (action : WriterState → Entry → Action) (key_of : List ℕ → ℕ) where
  abbrev step : Scene LocalState (ℕ → ℕ) → ℕ → Entry → Scene LocalState (ℕ → ℕ)
  step w n e = goes (next l action key_of) (May l action key_of) mark (SideCondition l action) w n e

  next_more : (h : LocalState) (e : Entry) → IsMore (linearized_of h) (maps_of h) (linearized_of (next l action key_of h e)) (maps_of (next l action key_of h e))
  next_more h e = go (is_table_word l e.step) h
    where
      go : (b : Bool) (h : LocalState) → IsMore (linearized_of h) (maps_of h) (linearized_of (cond b (after_own l action key_of h e) (after_other l h e))) (maps_of (cond b (after_own l action key_of h e) (after_other l h e)))
      go true (writer p) = second_more l p e.opens (action p e) p.stage
      go true (reader y) = stays 0 (λ i k. 0)
      go false (writer p) = stays p.linearized p.maps
      go false (reader y) = stays 0 (λ i k. 0)

  step_more : (w : Scene LocalState (ℕ → ℕ)) (n : ℕ) (e : Entry) → IsMore (linearized_of (w.at 0)) (maps_of (w.at 0)) (linearized_of ((step w n e).at 0)) (maps_of ((step w n e).at 0))
  step_more w n e = let t : LocalState = next l action key_of (w.at n) e in dite (ℕ_discrete n 0)
      (λ (z : n ≡ 0). subst (λ (h : LocalState). IsMore (linearized_of (w.at 0)) (maps_of (w.at 0)) (linearized_of h) (maps_of h)) (sym (moved_here w.at n 0 t z)) (subst (λ (k : ℕ). IsMore (linearized_of (w.at 0)) (maps_of (w.at 0)) (linearized_of (next l action key_of (w.at k) e)) (maps_of (next l action key_of (w.at k) e))) (sym z) (next_more (w.at 0) e)))
      (λ (z : n ≢ 0). subst (λ (h : LocalState). IsMore (linearized_of (w.at 0)) (maps_of (w.at 0)) (linearized_of h) (maps_of h)) (sym (moved_else w.at n 0 t z)) (stays (linearized_of (w.at 0)) (maps_of (w.at 0))))

  maps_stay : (w : Scene LocalState (ℕ → ℕ)) (run : Trace) (i k : ℕ) → i ≤ linearized_of (w.at 0) → maps_of ((then l action key_of w run).at 0) i k ≡ maps_of (w.at 0) i k
  maps_stay w [] i k b = refl
  maps_stay w (x ∷ run) i k b = let m = step_more w x.0 x.1 in let low = m.low in maps_stay (step w x.0 x.1) run i k (omega arith) ∙ m.same i k b

  -- each number of updates between those of two moments is that of a moment between
  moment_of : (w : Scene LocalState (ℕ → ℕ)) (run : Trace) (i k x : ℕ) → linearized_of (w.at 0) ≤ i → i ≤ linearized_of ((then l action key_of w run).at 0) → maps_of ((then l action key_of w run).at 0) i k ≡ x → IsGiven l action key_of w run k x
  moment_of w [] i k x low high e = record { before = []; behind = []; splits = refl; gives = let z : linearized_of (w.at 0) ≡ i = omega arith in ap (λ (j : ℕ). maps_of (w.at 0) j k) z ∙ e; least = omega arith }
  moment_of w (y ∷ run) i k x low high e = dite (ℕ_discrete i (linearized_of (w.at 0)))
      (λ (z : i ≡ linearized_of (w.at 0)). record {
        before = [];
        behind = y ∷ run;
        splits = refl;
        gives = sym (maps_stay w (y ∷ run) (linearized_of (w.at 0)) k (omega arith)) ∙ (ap (λ (j : ℕ). maps_of ((then l action key_of w (y ∷ run)).at 0) j k) (sym z) ∙ e);
        least = omega arith;
      })
      (λ (z : i ≢ linearized_of (w.at 0)). let m = step_more w y.0 y.1 in let up = m.high in let r = moment_of (step w y.0 y.1) run i k x (omega arith) high e in
      record { before = y ∷ r.before; behind = r.behind; splits = ap (λ (t : Trace). y ∷ t) r.splits; gives = r.gives; least = let d = m.low in let f = r.least in omega arith })

  look_keeps : (look_state : LookState) → (look_state ≡ no_look → ⊥) → (old new : ℕ) → since_look look_state old new ≡ old
  look_keeps no_look b old new = absurd (b refl)
  look_keeps look_state b old new = refl

  hand_keeps : (h : LocalState) → (look_state_of h ≡ no_look → ⊥) → (old new : ℕ) → since_of h old new ≡ old
  hand_keeps (writer p) b old new = refl
  hand_keeps (reader y) b old new = look_keeps y.look_state b old new

  since_stays : (n : ℕ) (w : Scene LocalState (ℕ → ℕ)) (run : Trace) → IsWithinLook l action key_of n w run → (then l action key_of w run).note n ≡ w.note n
  since_stays n w [] h = refl
  since_stays n w (x ∷ run) h = since_stays n (step w x.0 x.1) run h.1 ∙ dite (ℕ_discrete x.0 n)
      (λ (z : x.0 ≡ n). moved_here w.note x.0 n (since_of (w.at x.0) (w.note x.0) (linearized_of (w.at 0))) z ∙ (subst (λ (m : ℕ). since_of (w.at m) (w.note m) (linearized_of (w.at 0)) ≡ w.note n) (sym z) (hand_keeps (w.at n) h.0 (w.note n) (linearized_of (w.at 0)))))
      (λ (z : x.0 ≢ n). moved_else w.note x.0 n (since_of (w.at x.0) (w.note x.0) (linearized_of (w.at 0))) z)

  module _ (plan_ok : (ws : List ℕ) (p : WriterState) (e : Entry) → WriterInvariant l ws p → IsSoundAt l ws p.root (p.maps p.linearized) (action p e) p.stage) where
    held : (w : Scene LocalState (ℕ → ℕ)) (run : Trace) → TableInvariant l w → IsRunFrom l action key_of w run → TableInvariant l (then l action key_of w run)
    held w run h legal = law (next l action key_of) (May l action key_of) mark (SideCondition l action) (TableInvariant l) (keeps l action key_of plan_ok) w run h legal

    -- what a reader that is about to load the counter again knows
    known : (w : Scene LocalState (ℕ → ℕ)) (n : ℕ) (y : ReaderState) (look_state : LookState) (k c z : ℕ) → TableInvariant l w → w.at (suc n) ≡ reader y → y.look_state ≡ look_state → (look_state ≡ no_look → ⊥) → c ≡ count l w.words y.root
        → ((o : Order) (v : SlotsView) (maps : Maps) (q : ℕ) (g : Stage) (now r : ℕ) → LookInvariant o v maps q g now r look_state → c ≡ now → IsSince maps r q k z)
        → IsSince (maps_of (w.at 0)) (w.note (suc n)) (linearized_of (w.at 0)) k z
    known w n y look_state k c z h is scene_look_state not_out same tells =
        let p = h.writer_state in let r : ℕ = w.note (suc n) in
        let hands : reader y ≡ reader (h.readers n).0 = sym is ∙ (h.readers n).1 in
        let who : y ≡ (h.readers n).0 = cc in
        let reader_state : ReaderInvariant l w.words p r y = subst (ReaderInvariant l w.words p r) (sym who) (h.readers n).2 in
        let at_value : IsSince p.maps r p.linearized k z = ⊎_elim
        (λ (u : SeesPresent l w.words p r y). tells (l.order p.root) (view l w.words p.root) p.maps p.linearized p.stage (count l w.words p.root) r (subst (LookInvariant (l.order p.root) (view l w.words p.root) p.maps p.linearized p.stage (count l w.words p.root) r) scene_look_state u.is_reader) (same ∙ ap (count l w.words) u.root))
        (λ (u : SeesReplaced l w.words p r y). since_more p.maps p.maps r u.place p.linearized k z (λ i b. refl) u.past
        (tells (l.order y.root) (view l w.words y.root) p.maps u.place idle (count l w.words y.root) r (subst (LookInvariant (l.order y.root) (view l w.words y.root) p.maps u.place idle (count l w.words y.root) r) scene_look_state u.is_reader) same))
        (reader_state.looks (λ e. not_out (sym scene_look_state ∙ e))) in
        subst (λ (x : LocalState). IsSince (maps_of x) r (linearized_of x) k z) (sym h.is_writer) at_value

    -- From the load of the root to the last load, the map gave the answer at a moment
    given : (w : Scene LocalState (ℕ → ℕ)) (n : ℕ) (e : Entry) (run : Trace) → TableInvariant l w → look_state_of (w.at (suc n)) ≡ no_look → TableInvariant l (then l action key_of w ((suc n, e) ∷ run)) → IsWithinLook l action key_of (suc n) (step w (suc n) e) run
        → (y : ReaderState) (look_state : LookState) (k c z : ℕ) → (then l action key_of w ((suc n, e) ∷ run)).at (suc n) ≡ reader y → y.look_state ≡ look_state → (look_state ≡ no_look → ⊥) → c ≡ count l (then l action key_of w ((suc n, e) ∷ run)).words y.root
        → ((o : Order) (v : SlotsView) (maps : Maps) (q : ℕ) (g : Stage) (now r : ℕ) → LookInvariant o v maps q g now r look_state → c ≡ now → IsSince maps r q k z)
        → IsGiven l action key_of (step w (suc n) e) run k z
    given w n e run h rests legal within y look_state k c z is scene_look_state not_out same tells =
        let w' : Scene LocalState (ℕ → ℕ) = step w (suc n) e in
        let last : Scene LocalState (ℕ → ℕ) = then l action key_of w' run in
        let s : IsSince (maps_of (last.at 0)) (last.note (suc n)) (linearized_of (last.at 0)) k z = known last n y look_state k c z legal is scene_look_state not_out same tells in
        let reads : w'.at 0 ≡ w.at 0 = moved_else w.at (suc n) 0 (next l action key_of (w.at (suc n)) e) (λ u. absurd (omega arith)) in
        let root : w'.note (suc n) ≡ linearized_of (w.at 0) = moved_here w.note (suc n) (suc n) (since_of (w.at (suc n)) (w.note (suc n)) (linearized_of (w.at 0))) refl ∙ opened (w.at (suc n)) (h.readers n).0 (h.readers n).1 rests (w.note (suc n)) (linearized_of (w.at 0)) in
        let since : last.note (suc n) ≡ linearized_of (w'.at 0) = since_stays (suc n) w' run within ∙ (root ∙ sym (ap linearized_of reads)) in
        let low : linearized_of (w'.at 0) ≤ s.place = let a = s.low in omega arith in
        moment_of w' run s.place k z low s.high s.gave
      where
        at_out : (x : LookState) → x ≡ no_look → (old new : ℕ) → since_look x old new ≡ new
        at_out x u old new = ap (λ (i : LookState). since_look i old new) u

        opened : (x : LocalState) (y : ReaderState) → x ≡ reader y → look_state_of x ≡ no_look → (old new : ℕ) → since_of x old new ≡ new
        opened (writer p) y u v old new = absurd (cc)
        opened (reader y') y u v old new = at_out y'.look_state v old new

    pub found_is_given : (w : Scene LocalState (ℕ → ℕ)) (n : ℕ) (e : Entry) (run : Trace) → TableInvariant l w → look_state_of (w.at (suc n)) ≡ no_look → TableInvariant l (then l action key_of w ((suc n, e) ∷ run)) → IsWithinLook l action key_of (suc n) (step w (suc n) e) run
        → (y : ReaderState) (k c x : ℕ) → (then l action key_of w ((suc n, e) ∷ run)).at (suc n) ≡ reader y → y.look_state ≡ checking_value k c x → c ≡ count l (then l action key_of w ((suc n, e) ∷ run)).words y.root → IsGiven l action key_of (step w (suc n) e) run k (suc x)
    found_is_given w n e run h rests legal within y k c x is scene_look_state same = given w n e run h rests legal within y (checking_value k c x) k c (suc x) is scene_look_state (λ u. cc) same (λ o v maps q g now r z u. z.facts u)

    pub absent_is_given : (w : Scene LocalState (ℕ → ℕ)) (n : ℕ) (e : Entry) (run : Trace) → TableInvariant l w → look_state_of (w.at (suc n)) ≡ no_look → TableInvariant l (then l action key_of w ((suc n, e) ∷ run)) → IsWithinLook l action key_of (suc n) (step w (suc n) e) run
        → (y : ReaderState) (k c : ℕ) → (then l action key_of w ((suc n, e) ∷ run)).at (suc n) ≡ reader y → y.look_state ≡ checking_absence k c → c ≡ count l (then l action key_of w ((suc n, e) ∷ run)).words y.root → IsGiven l action key_of (step w (suc n) e) run k 0
    absent_is_given w n e run h rests legal within y k c is scene_look_state same = given w n e run h rests legal within y (checking_absence k c) k c 0 is scene_look_state (λ u. cc) same (λ o v maps q g now r z u. z.facts u)

    -- a reader has met at most twice as many raises as there are answered updates, where the writer is between two calls
    pub retries_bounded : (w : Scene LocalState (ℕ → ℕ)) (h : TableInvariant l w) → h.writer_state.stage ≡ idle → (n : ℕ) → (h.readers n).0.retries ≤ 2 * h.writer_state.log
    retries_bounded w h e n = let a = (h.readers n).2.retries in let b : h.writer_state.bumps ≤ 2 * h.writer_state.log + owed idle = subst (λ (g : Stage). h.writer_state.bumps ≤ 2 * h.writer_state.log + owed g) e h.holds.bumps in omega arith
