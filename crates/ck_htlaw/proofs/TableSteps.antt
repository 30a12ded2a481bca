-- What holds of a table holds after every true run of its tokens.
use Rattle.std.proofs.Common.{◌≡◌, ◌≢◌, ℕ, zero, suc, refl, sym, ap, ◌∙◌, subst, arith, Bool, true, false, cond, List, [], ◌∷◌}
use mathlib.Core.Logic.{dite}
use native.Mathlib.Decide.{ℕ_discrete}
use Rattle.ck_run.specs.declared.account.Entry.{Entry}
use Rattle.ck_run.specs.Run.{words_after, Fits}
use Rattle.ck_run.specs.Machine.{moved}
use Rattle.ck_run.proofs.Law.{moved_here, moved_else}
use Rattle.ck_htlaw.specs.Stages.{Stage, idle, retiring, retiring_at_end, after_rebuild}
use Rattle.ck_run.specs.declared.account.Step.{Step}
use Rattle.ck_run.specs.declared.account.Step.TheVariants.{Load}
use Rattle.ck_htlaw.specs.Calls.{is_single_load}
use Rattle.ck_htlaw.specs.Look.{LookState, no_look}
use Rattle.ck_htlaw.specs.Table.{Layout, Action, WriterState, ReaderState, LocalState, writer, reader, next, May, MayIf, MayOwn, after_own, is_table_word, is_table_item, is_section, IsLoad, MayLook, after_other, released, released_log, MayWriterStep, second, after_look_step, mark, since_look, since_of, linearized_of}
use Rattle.ck_htlaw.specs.Invariant.{IsDisjoint, IsSoundAt, IsUnpublishedBy, ReaderInvariant, WriterInvariant, TableInvariant, SideCondition}
use Rattle.ck_htlaw.specs.Trace.{Trace, Scene, goes, after, IsLegal, Keeps}
use Rattle.ck_htlaw.proofs.WriterSteps.{Preserves}
use Rattle.ck_htlaw.proofs.StageSteps.{by_stage}
use Rattle.ck_htlaw.proofs.RebuildSteps.{turns_calm, turns_calm_log}
use Rattle.ck_htlaw.proofs.LookSteps.{look_preserves, loads}
use Rattle.ck_htlaw.proofs.OtherSteps.{goes_else, else_same, long_after}

module _ {T N : Type 0} (next : T → Entry → T) (May : T → Entry → Type 0) (mark : N → (ℕ → T) → ℕ → Entry → N) (Side : Scene T N → ℕ → Entry → Type 0) (Inv : Scene T N → Type 0) (keeps : Keeps next May mark Side Inv) where
  pub law : (w : Scene T N) (run : Trace) → Inv w → IsLegal next May mark Side w run → Inv (after next May mark Side w run)
  law w [] h legal = h
  law w (x ∷ run) h legal = law (goes next May mark Side w x.0 x.1) run (keeps w x.0 x.1 h legal.0 legal.1 legal.2) legal.3

-- outside a look it is all one when it began
since_outside : (l : Layout) (ws : List ℕ) (p : WriterState) (r r' : ℕ) (y : ReaderState) → ReaderInvariant l ws p r y → (look_state : LookState) → y.look_state ≡ look_state → ReaderInvariant l ws p (since_look look_state r r') y
since_outside l ws p r r' y e no_look is = record { retries = e.retries; looks = λ not_out. absurd (not_out is) }
since_outside l ws p r r' y e look_state is = e

module _ (l : Layout) (action : WriterState → Entry → Action) (key_of : List ℕ → ℕ)
    (plan_ok : (ws : List ℕ) (p : WriterState) (e : Entry) → WriterInvariant l ws p → IsSoundAt l ws p.root (p.maps p.linearized) (action p e) p.stage) where
  abbrev Side : Scene LocalState (ℕ → ℕ) → ℕ → Entry → Type 0
  Side = SideCondition l action

  -- the token goes on to t
  abbrev to : Scene LocalState (ℕ → ℕ) → ℕ → Entry → LocalState → Scene LocalState (ℕ → ℕ)
  to w n e t = record { words = words_after w.words e.step; at = moved w.at n t; note = mark w.note w.at n e }

  writer_moves : (w : Scene LocalState (ℕ → ℕ)) (e : Entry) → TableInvariant l w → MayOwn l action key_of (w.at 0) e → is_table_word l e.step ≡ true → Side w 0 e → TableInvariant l (to w 0 e (after_own l action key_of (w.at 0) e))
  writer_moves w e h may on clear =
      let side = clear refl on in
      let p = h.writer_state in
      let may' : MayWriterStep l p (action p e) p.stage e.step = (subst (λ (z : LocalState). MayOwn l action key_of z e) h.is_writer may).0 in
      let Free : ℕ → Type 0 = λ other. (root : ℕ) → IsUnpublishedBy (action p e) p.stage root → IsDisjoint l other root in
      let go = by_stage l Free w.words p h.holds e.opens (action p e) p.stage e.step refl (plan_ok w.words p e h.holds) may' (side p h.is_writer).0 (λ root other begins_rebuild free. free root begins_rebuild) in
      let p' : WriterState = record (second l e.opens p (action p e) p.stage) { words = words_after p.words e.step } in
      let t : LocalState = after_own l action key_of (w.at 0) e in
      record {
        writer_state = p';
        is_writer = moved_here w.at 0 0 t refl ∙ ap (λ (z : LocalState). after_own l action key_of z e) h.is_writer;
        holds = go.writer_state;
        readers = λ n. let y = h.readers n in let far : 0 ≢ suc n = λ z. absurd (omega arith) in (
          y.0,
          moved_else w.at 0 (suc n) t far ∙ y.1,
          subst (λ (r : ℕ). ReaderInvariant l (words_after w.words e.step) p' r y.0) (sym (moved_else w.note 0 (suc n) (since_of (w.at 0) (w.note 0) (linearized_of (w.at 0))) far))
              (go.readers (w.note (suc n)) y.0 (λ looking root begins_rebuild. (side p h.is_writer).1 n y.0 root y.1 looking begins_rebuild) y.2),
        );
      }

  -- a reader goes on, and the table's words stay
  reader_goes_on : (w : Scene LocalState (ℕ → ℕ)) (n : ℕ) (e : Entry) (p : WriterState) (t : LocalState) (y' : ReaderState) → t ≡ reader y' → w.at 0 ≡ writer p → WriterInvariant l (words_after w.words e.step) p
      → ReaderInvariant l (words_after w.words e.step) p (since_of (w.at (suc n)) (w.note (suc n)) (linearized_of (w.at 0))) y'
      → ((k : ℕ) → (y : ReaderState) × (w.at (suc k) ≡ reader y) × ReaderInvariant l (words_after w.words e.step) p (w.note (suc k)) y) → TableInvariant l (to w (suc n) e t)
  reader_goes_on w n e p t y' is is_writer holds mine others = let r' : ℕ = since_of (w.at (suc n)) (w.note (suc n)) (linearized_of (w.at 0)) in let ws : List ℕ = words_after w.words e.step in record {
    writer_state = p;
    is_writer = moved_else w.at (suc n) 0 t (λ z. absurd (omega arith)) ∙ is_writer;
    holds = holds;
    readers = λ k. dite (ℕ_discrete (suc n) (suc k))
        (λ (z : suc n ≡ suc k). (y', moved_here w.at (suc n) (suc k) t z ∙ is, subst (λ (r : ℕ). ReaderInvariant l ws p r y') (sym (moved_here w.note (suc n) (suc k) r' z)) mine))
        (λ (z : suc n ≢ suc k). ((others k).0, moved_else w.at (suc n) (suc k) t z ∙ (others k).1, subst (λ (r : ℕ). ReaderInvariant l ws p r (others k).0) (sym (moved_else w.note (suc n) (suc k) r' z)) (others k).2));
  }

  reader_moves : (w : Scene LocalState (ℕ → ℕ)) (n : ℕ) (e : Entry) → TableInvariant l w → MayOwn l action key_of (w.at (suc n)) e → Fits w.words e.step → TableInvariant l (to w (suc n) e (after_own l action key_of (w.at (suc n)) e))
  reader_moves w n e h may fits = by (is_single_load e.opens) refl (subst (λ (z : LocalState). MayOwn l action key_of z e) is may)
    where
      p : WriterState
      p = h.writer_state

      y : ReaderState
      y = (h.readers n).0

      is : w.at (suc n) ≡ reader y
      is = (h.readers n).1

      reader_state : ReaderInvariant l w.words p (w.note (suc n)) y
      reader_state = (h.readers n).2

      since : since_look y.look_state (w.note (suc n)) p.linearized ≡ since_of (w.at (suc n)) (w.note (suc n)) (linearized_of (w.at 0))
      since = sym (ap (λ (z : LocalState × LocalState). since_of z.0 (w.note (suc n)) (linearized_of z.1)) (λ i. (is i, h.is_writer i)))

      goes_to : (y' : ReaderState) → after_own l action key_of (reader y) e ≡ reader y' → words_after w.words e.step ≡ w.words → ReaderInvariant l w.words p (since_look y.look_state (w.note (suc n)) p.linearized) y' → TableInvariant l (to w (suc n) e (after_own l action key_of (w.at (suc n)) e))
      goes_to y' to_y same goes =
          reader_goes_on w n e p (after_own l action key_of (w.at (suc n)) e) y' (ap (λ (z : LocalState). after_own l action key_of z e) is ∙ to_y) h.is_writer (subst (λ (ws : List ℕ). WriterInvariant l ws p) (sym same) h.holds)
          (subst (λ (x : List ℕ × ℕ). ReaderInvariant l x.0 p x.1 y') (λ i. (sym same i, since i)) goes)
          (λ k. ((h.readers k).0, (h.readers k).1, subst (λ (ws : List ℕ). ReaderInvariant l ws p (w.note (suc k)) (h.readers k).0) (sym same) (h.readers k).2))

      by_load : (s : Step) → IsLoad s → words_after w.words s ≡ w.words
      by_load (Load a x) m = refl
      by_load s m = absurd m

      by : (b : Bool) → is_single_load e.opens ≡ b → MayLook l action key_of b y e → TableInvariant l (to w (suc n) e (after_own l action key_of (w.at (suc n)) e))
      by true lone m = goes_to y (ap (λ (b : Bool). reader (cond b y (after_look_step l y (key_of e.opens) y.look_state e.step))) lone) (by_load e.step m)
          (since_outside l w.words p (w.note (suc n)) p.linearized y reader_state y.look_state refl)
      by false lone m = goes_to (after_look_step l y (key_of e.opens) y.look_state e.step) (ap (λ (b : Bool). reader (cond b y (after_look_step l y (key_of e.opens) y.look_state e.step))) lone)
          (loads l w.words p h.holds (w.note (suc n)) y reader_state y.look_state e.step m.0) (look_preserves l w.words p h.holds (w.note (suc n)) y reader_state (key_of e.opens) y.look_state e.step refl m.0 fits)

  -- the old region is retired
  released_goes : (ws : List ℕ) (p : WriterState) → WriterInvariant l ws p → (g : Stage) → p.stage ≡ g → Preserves l (λ root. Unit {0}) ws p ws record p { stage = released g; log = released_log g p.log }
  released_goes ws p h (retiring old c) is = turns_calm l ws p h (λ root. Unit {0}) (retiring old c) (after_rebuild c) is tt tt tt
  released_goes ws p h (retiring_at_end old) is = turns_calm_log l ws p h (λ root. Unit {0}) (retiring_at_end old) idle (suc p.log) (omega arith) is tt tt tt
  released_goes ws p h g is = subst (λ (z : Stage). Preserves l (λ root. Unit {0}) ws p ws record p { stage = z }) is (record { writer_state = h; readers = λ r y free e. e })

  released_if : (ws : List ℕ) (p : WriterState) → WriterInvariant l ws p → (b : Bool) → Preserves l (λ root. Unit {0}) ws p ws record p { stage = cond b (released p.stage) p.stage; log = cond b (released_log p.stage p.log) p.log }
  released_if ws p h true = released_goes ws p h p.stage refl
  released_if ws p h false = record { writer_state = h; readers = λ r y free e. e }

  -- a look that is given up
  given_up : (ws : List ℕ) (p : WriterState) (r : ℕ) (y : ReaderState) → ReaderInvariant l ws p r y → (b : Bool) → ReaderInvariant l ws p r record y { look_state = cond b no_look y.look_state }
  given_up ws p r y e true = record { retries = e.retries; looks = λ not_out. absurd (not_out refl) }
  given_up ws p r y e false = e

  -- on other words
  else_moves : (w : Scene LocalState (ℕ → ℕ)) (n : ℕ) (e : Entry) → TableInvariant l w → is_table_word l e.step ≡ false → TableInvariant l (to w n e (after_other l (w.at n) e))
  else_moves w n e h out_of = let p = h.writer_state in let ws : List ℕ = words_after w.words e.step in
      let go = goes_else l w.words ws (else_same l w.words e.step out_of) (long_after w.words e.step) (λ root. Unit {0}) p h.holds in
      by n (λ k. ((h.readers k).0, (h.readers k).1, go.readers (w.note (suc k)) (h.readers k).0 (λ z. tt) (h.readers k).2)) go.writer_state
    where
      by : (m : ℕ) → ((k : ℕ) → (y : ReaderState) × (w.at (suc k) ≡ reader y) × ReaderInvariant l (words_after w.words e.step) h.writer_state (w.note (suc k)) y) → WriterInvariant l (words_after w.words e.step) h.writer_state → TableInvariant l (to w m e (after_other l (w.at m) e))
      by zero readers writer_state = let p' : WriterState = record h.writer_state { stage = cond (is_table_item l e.item) (released h.writer_state.stage) h.writer_state.stage; log = cond (is_table_item l e.item) (released_log h.writer_state.stage h.writer_state.log) h.writer_state.log } in let t : LocalState = after_other l (w.at 0) e in
          let go = released_if (words_after w.words e.step) h.writer_state writer_state (is_table_item l e.item) in record {
            writer_state = p';
            is_writer = moved_here w.at 0 0 t refl ∙ ap (λ (z : LocalState). after_other l z e) h.is_writer;
            holds = go.writer_state;
            readers = λ k. let far : 0 ≢ suc k = λ z. absurd (omega arith) in (
              (readers k).0,
              moved_else w.at 0 (suc k) t far ∙ (readers k).1,
              subst (λ (r : ℕ). ReaderInvariant l (words_after w.words e.step) p' r (readers k).0) (sym (moved_else w.note 0 (suc k) (since_of (w.at 0) (w.note 0) (linearized_of (w.at 0))) far)) (go.readers (w.note (suc k)) (readers k).0 (λ z. tt) (readers k).2),
            );
          }
      by (suc m) readers writer_state = let y : ReaderState = (readers m).0 in let y' : ReaderState = record y { look_state = cond (is_section l e.step) no_look y.look_state } in
          reader_goes_on w m e h.writer_state (after_other l (w.at (suc m)) e) y' (ap (λ (z : LocalState). after_other l z e) (readers m).1) h.is_writer writer_state
          (subst (λ (r : ℕ). ReaderInvariant l (words_after w.words e.step) h.writer_state r y') (sym (ap (λ (z : LocalState). since_of z (w.note (suc m)) (linearized_of (w.at 0))) (readers m).1))
          (given_up (words_after w.words e.step) h.writer_state (since_look y.look_state (w.note (suc m)) (linearized_of (w.at 0))) y (since_outside l (words_after w.words e.step) h.writer_state (w.note (suc m)) (linearized_of (w.at 0)) y (readers m).2 y.look_state refl) (is_section l e.step))) readers

  pub keeps : Keeps (next l action key_of) (May l action key_of) mark Side (TableInvariant l)
  keeps w n e h may fits side = go (is_table_word l e.step) refl may
    where
      own : (m : ℕ) → MayOwn l action key_of (w.at m) e → is_table_word l e.step ≡ true → Side w m e → TableInvariant l (to w m e (after_own l action key_of (w.at m) e))
      own zero m on s = writer_moves w e h m on s
      own (suc k) m on s = reader_moves w k e h m fits

      go : (b : Bool) → is_table_word l e.step ≡ b → MayIf l action key_of b (w.at n) e → TableInvariant l (to w n e (cond b (after_own l action key_of (w.at n) e) (after_other l (w.at n) e)))
      go true is m = own n m is side
      go false is m = else_moves w n e h is
