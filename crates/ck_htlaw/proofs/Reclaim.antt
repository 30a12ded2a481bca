-- The region that is being built shares no word with one that a reader looks at, in every true run of a domain whose client holds the table.
use Rattle.std.proofs.Common.{◌≡◌, ◌≢◌, ℕ, suc, ◌+◌, ◌-◌, ◌<◌, ◌≤◌, ◌⊎◌, ⊎_elim, inl, inr, Bool, true, false, cond, ◌&&◌, leb, ltb, List, [], ◌∷◌, ◌++◌, length, All, Contains, append_assoc, refl, sym, ap, ◌∙◌, subst, arith}
use Rattle.std.proofs.lemmas.Bool.Decides.{nat_tests}
use mathlib.Core.Logic.{dite}
use native.Mathlib.Decide.{ℕ_discrete}
use Rattle.ck_run.specs.declared.account.Step.{Step}
use Rattle.ck_run.specs.declared.account.Step.TheVariants.{Load, Store}
use Rattle.ck_run.specs.declared.account.Entry.{Entry}
use Rattle.ck_run.specs.Run.{Run, Fits, words_after, account}
use Rattle.ck_run.specs.Range.{word_of}
use Rattle.ck_run.specs.Rule.{IsRun, unused}
use Rattle.ck_run.specs.Machine.{follows_of}
use Rattle.ck_run.proofs.Law.{moved_here, moved_else}
use Rattle.ck_run.proofs.Runs.{account_else}
use Rattle.ck_run.proofs.Lists.{All-weaker}
use Rattle.ck_run.proofs.Moments.{run_weaker, at_step}
use Rattle.ck_epoch.specs.State.{Origin, base_of, records_of, active_word, Retirement, TokenState, epochs, state_at}
use Rattle.ck_epoch.specs.Epochs.{IsOpen, IsRetiredBy, Reclamation, writer_in}
use Rattle.ck_epoch.specs.Client.{program}
use Rattle.ck_epoch.specs.Within.{IsWithin, inner_origin}
use Rattle.ck_reclaim.specs.Pieces.{AreApart, WasLinked}
use Rattle.ck_reclaim.specs.Reclaim.{IsReusableIn, ReclaimsPieces}
use Rattle.ck_htlaw.specs.Host.{Host}
use Rattle.ck_htlaw.specs.Regions.{IsReplaced, Stands, regions}
use Rattle.ck_epoch.proofs.OpenSections.{opened_before}
use Rattle.ck_run.specs.Machine.{grow}
use Rattle.ck_htlaw.specs.declared.client.HtClient.{HtClient}
use Rattle.ck_htlaw.specs.Calls.{key_of, is_single_load}
use Rattle.ck_htlaw.specs.Stages.{Stage, idle, retiring, retiring_at_end, after_rebuild}
use Rattle.ck_htlaw.specs.Look.{LookState, no_look, at_version, at_state, at_low, at_high, at_value, checking_value, checking_absence}
use Rattle.ck_htlaw.specs.Trace.{Scene, goes, after}
use Rattle.ck_htlaw.specs.Table.{Layout, Action, WriterState, ReaderState, LocalState, writer, reader, is_table_word, is_table_item, is_section, released, released_log, MayRetire, MayOtherIf, MayIf, MayLook, MayLookStep, IsLoad, MayWriterStep, second, after_own, after_other, after_look_step, mark}
use Rattle.ck_htlaw.specs.Actions.{action}
use Rattle.ck_htlaw.specs.Layout.{counters_of, table_words, IsPiece, region_item, IsTableItem, IsFreeRegion}
use Rattle.ck_htlaw.specs.Client.{hash_of, layout_of, table_next, table_may, local_after, start, TakesFree, table}
use Rattle.ck_htlaw.specs.Invariant.{IsDisjoint, IsTaking, IsUnpublishedBy, SideCondition, WriterInvariant, IsSoundAt, TableInvariant}
use Rattle.ck_htlaw.specs.Allocation.{IsBuilding, AllocationInvariant}
use Rattle.ck_htlaw.proofs.Arena.{region, disjoint, apart_back, item_inside}
use Rattle.ck_htlaw.proofs.AllocationSteps.{AddsNone, hiding_from, second_builds, allocation_step, allocation_stays, released_builds}
use Rattle.ck_run.proofs.Law.{obeys_at}
use Rattle.ck_run.proofs.Accounts.{account_grown as grown}
use Rattle.ck_htlaw.proofs.Scenes.{after-append, after_at, after_words}
use Rattle.ck_htlaw.proofs.AtOpening.{opening}
use Rattle.ck_htlaw.proofs.Sizes.{takes_small}
use Rattle.ck_htlaw.proofs.Replacing.{not_both}
use Rattle.ck_htlaw.proofs.LookSteps.{same_root}
use Rattle.ck_htlaw.proofs.TableSteps.{keeps}

-- tests of words
in_range : (a b c : ℕ) → leb a c && ltb c b ≡ true → (a ≤ c) × (c < b)
in_range a b c h = (grind (arith, nat_tests), grind (arith, nat_tests))

pub range_in : (a b c : ℕ) → a ≤ c → c < b → leb a c && ltb c b ≡ true
range_in a b c h g = grind (arith, nat_tests)

below : (a b : ℕ) → a < b → ltb a b ≡ true
below a b h = grind (arith, nat_tests)

pub true_false : {A : Type 0} (b : Bool) → b ≡ true → b ≡ false → A
true_false b e f = absurd (let z : true ≡ false = sym e ∙ f in cc)

-- a look loads
pub look_loads : (l : Layout) (root : ℕ) (look_state : LookState) (s : Step) → MayLookStep l root look_state s → IsLoad s
look_loads l root no_look (Load a x) m = tt
look_loads l root (at_version k) (Load a x) m = tt
look_loads l root (at_state k c i) (Load a x) m = tt
look_loads l root (at_low k c i) (Load a x) m = tt
look_loads l root (at_high k c i y) (Load a x) m = tt
look_loads l root (at_value k c i) (Load a x) m = tt
look_loads l root (checking_value k c y) (Load a x) m = tt
look_loads l root (checking_absence k c) (Load a x) m = tt
look_loads l root look_state s m = absurd m

load_is : (s : Step) → IsLoad s → (a n : ℕ) → s ≡ Store a n → ⊥
load_is (Load b x) m a n e = cc
load_is s m a n e = m

pub is_out : (look_state : LookState) → (look_state ≡ no_look) ⊎ (look_state ≡ no_look → ⊥)
is_out no_look = inl refl
is_out look_state = inr (λ z. cc)

not_building : (l : Layout) (g : Stage) (item : List ℕ) (root : ℕ) → MayRetire l g item → IsBuilding g root → ⊥
not_building l (retiring old c) item root m b = b
not_building l (retiring_at_end old) item root m b = b
not_building l g item root m b = m

module _ {D : Type 0} (host : Host D) (within : IsWithin table host.client host.place host.part) (law : Reclamation D) (pieces : ReclaimsPieces (regions host)) (origin : Origin D) where
  abbrev pub first : ℕ
  first = base_of origin + host.place origin.config.client

  abbrev pub inner : Origin HtClient
  inner = inner_origin host.part origin

  abbrev pub l : Layout
  l = layout_of first inner

  abbrev pub from : ℕ
  from = first - base_of origin

  abbrev pub counters : ℕ
  counters = counters_of inner.config.client

  abbrev pub IsTrue : Run → Type 0
  IsTrue run = IsRun (program host.client) origin run

  abbrev pub scene : Run → Scene LocalState (ℕ → ℕ)
  scene run = after (table_next l) (table_may l) mark (SideCondition l (action l)) (opening l origin.words) run

  abbrev pub pending : Run → List Retirement
  pending run = (writer_in origin run).pending

  -- What is known of the reader of the record r within a look: the region of its root was the present one at a moment since its section opened
  pub record IsLooking (run : Run) (r : ℕ) (y : ReaderState) : Type 0 where
    pub low : r < records_of origin
    pub o : ℕ
    pub section : IsOpen run r o
    pub piece : IsPiece counters y.root
    pub linked : WasLinked (regions host) origin run o y.root

  pub record Holds (run : Run) : Type 0 where
    pub is_table : TableInvariant l (scene run)
    pub allocation : (p : WriterState) → (scene run).at 0 ≡ writer p → AllocationInvariant counters from p (pending run)
    pub looks : (r : ℕ) (y : ReaderState) → (scene run).at (suc r) ≡ reader y → (y.look_state ≡ no_look → ⊥) → IsLooking run r y

  pub epochs_run : (run : Run) → IsTrue run → IsRun (follows_of epochs) origin run
  epochs_run run r = run_weaker (program host.client) (follows_of epochs) origin run (λ n es f. f.0) r

  -- the state of a token in the scene
  pub local_is : (run : Run) (n : ℕ) → (scene run).at n ≡ local_after l origin.words n (account n run)
  local_is run n = after_at (table_next l) (table_may l) mark (SideCondition l (action l)) (opening l origin.words) run n

  module _ (plan_ok : (ws : List ℕ) (p : WriterState) (e : Entry) → WriterInvariant l ws p → IsSoundAt l ws p.root (p.maps p.linearized) (action l p e) p.stage)
      (past : Run) (n : ℕ) (e : Entry) (more : Run) (r : IsTrue (past ++ (n, e) ∷ more)) (h : Holds past) where
    abbrev past' : Run
    past' = past ++ (n, e) ∷ []

    abbrev w : Scene LocalState (ℕ → ℕ)
    w = scene past

    abbrev t : LocalState
    t = table_next l (w.at n) e

    abbrev p : WriterState
    p = h.is_table.writer_state

    pub at_writer : w.at 0 ≡ writer p
    at_writer = h.is_table.is_writer

    pub snoc : scene past' ≡ goes (table_next l) (table_may l) mark (SideCondition l (action l)) w n e
    snoc = after-append (table_next l) (table_may l) mark (SideCondition l (action l)) (opening l origin.words) past ((n, e) ∷ [])

    shown : table.follows first inner n (account n (past ++ (n, e) ∷ more))
    shown = within.shows (base_of origin) origin n (account n (past ++ (n, e) ∷ more)) (r.follow n).3

    ep : IsRun (follows_of epochs) origin (past ++ (n, e) ∷ more)
    ep = epochs_run (past ++ (n, e) ∷ more) r

    pub fits : Fits w.words e.step
    fits = subst (λ (ws : List ℕ). Fits ws e.step) (sym (after_words (table_next l) (table_may l) mark (SideCondition l (action l)) (opening l origin.words) past)) (at_step epochs origin past more n e ep).1

    pub may : table_may l (w.at n) e
    may = subst (λ (x : LocalState). table_may l x e) (sym (local_is past n)) (obeys_at (table_next l) (table_may l) (start l origin.words n) n past more e shown.0)

    deletes : TakesFree first inner (record { number = n; entries = account n past }) e
    deletes = subst (λ a. TakesFree first inner a e) (grown (unused n) (account n past)) (obeys_at grow (TakesFree first inner) (unused n) n past more e shown.1)

    is_low : (a b : ℕ) → is_table_word l e.step ≡ true → word_of e.step ≡ 0 → ⊥
    is_low a b on z = let i = in_range first (first + table_words counters) (word_of e.step) on in let x = i.0 in omega arith

    -- what is free of the words is a new region
    pub is_free : (n ≡ 0) → is_table_word l e.step ≡ true → (q : WriterState) (root : ℕ) → w.at 0 ≡ writer q → IsUnpublishedBy (action l q e) q.stage root → IsFreeRegion counters from q.root root (pending past)
    is_free z on q root at_q begins_rebuild = ⊎_elim
        (λ (x : IsTaking (action l q e) q.stage root). subst (λ (k : ℕ). local_after l origin.words k (account k past) ≡ writer q → IsFreeRegion counters from q.root root (state_at origin k (account k past)).pending) z (λ at. deletes q root at on x) (sym (local_is past 0) ∙ at_q))
        (λ (x : IsBuilding q.stage root). (h.allocation q at_q).hidden root x)
        (hiding_from (action l q e) q.stage root begins_rebuild)

    fits_words : first + table_words counters ≤ length w.words
    fits_words = h.is_table.holds.fits

    abbrev hash : ℕ → ℕ
    hash = hash_of inner.config.client

    -- what is free is so by the writer's own account
    pub free_item : (q : WriterState) (root : ℕ) → w.at 0 ≡ writer q → ((other : ℕ) → IsReplaced q.stage other → ⊥) → IsFreeRegion counters from q.root root (pending past) → IsReusableIn (regions host) origin past (region_item from root)
    free_item q root at_q none f = record {
      unlinked = λ other x. let same : x.0 ≡ q = let z : writer x.0 ≡ writer q = sym x.1 ∙ (sym (local_is past 0) ∙ at_q) in cc in
          stood other (subst (λ (y : WriterState). Stands y.root y.stage other) same x.2);
      unused = f.unused;
    }
      where
        stood : (other : ℕ) → Stands q.root q.stage other → AreApart (region_item from other) (region_item from root)
        stood other s = ⊎_elim
            (λ (e : other ≡ q.root). subst (λ (i : ℕ). AreApart (region_item from i) (region_item from root)) (sym e) f.apart)
            (λ (e : IsReplaced q.stage other). absurd (none other e)) s

    apart_from : (q : WriterState) (root : ℕ) → w.at 0 ≡ writer q → IsFreeRegion counters from q.root root (pending past) → ((other : ℕ) → IsReplaced q.stage other → ⊥) → (k : ℕ) (y : ReaderState) → IsLooking past k y → IsDisjoint l y.root root
    apart_from q root at_q f none k y look = disjoint (base_of origin) first counters hash from y.root root look.piece f.piece
        (pieces.apart origin past ((n, e) ∷ more) (region_item from root) r (free_item q root at_q none f) k look.o y.root look.low look.section look.linked (item_inside counters from y.root look.piece))

    pub side : SideCondition l (action l) w n e
    side z on q at_q = (
      (λ root deletes. let f = is_free z on q root at_q (hiding (action l q e) q.stage root deletes) in let piece = (h.allocation q at_q).piece in record {
        region = region (base_of origin) first counters hash (length w.words) root f.piece fits_words;
        before = disjoint (base_of origin) first counters hash from q.root root piece f.piece f.apart;
        after = disjoint (base_of origin) first counters hash from root q.root f.piece piece (apart_back (region_item from q.root) (region_item from root) f.apart);
      }),
      (λ k y root at_y looking begins_rebuild. apart_from q root at_q (is_free z on q root at_q begins_rebuild) (λ other. not_both (action l q e) q.stage root other begins_rebuild) k y (h.looks k y at_y looking)),
    )
      where
        hiding : (a : Action) (g : Stage) (root : ℕ) → IsTaking a g root → IsUnpublishedBy a g root
        hiding a idle root z = z
        hiding a (after_rebuild c) root z = z
        hiding a g root z = absurd z

    pub table_kept : TableInvariant l (scene past')
    table_kept = subst (TableInvariant l) (sym snoc) (keeps l (action l) key_of plan_ok w n e h.is_table may fits side)

    -- the writer's states
    abbrev W : TokenState
    W = writer_in origin past

    abbrev W' : TokenState
    W' = writer_in origin past'

    same_is : n ≢ 0 → W' ≡ W
    same_is z = ap (state_at origin 0) (account_else past n 0 e z)

    -- what is pending now was so before, or is no item of the table, but where one is retired
    was : n ≡ 0 → (is_table_word l e.step ≡ true) ⊎ (is_table_item l e.item ≡ false) → AddsNone counters from W.pending W'.pending
    was z other = All-weaker (λ (k : Retirement). Contains W.pending k ⊎ IsRetiredBy e (length (account 0 past)) k) (λ (k : Retirement). Contains W.pending k ⊎ (IsTableItem counters from k.retired.item → ⊥)) W'.pending
        (λ k c. ⊎_elim (λ (x : Contains W.pending k). inl x) (λ (x : IsRetiredBy e (length (account 0 past)) k). inr (λ of. retired_not k x of other)) c)
        (subst (λ (i : ℕ). IsRun (follows_of epochs) origin (past ++ (i, e) ∷ more) → All (λ (k : Retirement). Contains W.pending k ⊎ IsRetiredBy e (length (account 0 past)) k) (writer_in origin (past ++ (i, e) ∷ [])).pending) (sym z) (λ run. (law.changes origin past more e run).came) ep)
      where
        retired_not : (k : Retirement) → IsRetiredBy e (length (account 0 past)) k → IsTableItem counters from k.retired.item → (is_table_word l e.step ≡ true) ⊎ (is_table_item l e.item ≡ false) → ⊥
        retired_not k x of other = ⊎_elim
            (λ (on : is_table_word l e.step ≡ true). is_low 0 0 on (ap word_of x.1))
            (λ (not_mine : is_table_item l e.item ≡ false). true_false (is_table_item l e.item)
            (ap (is_table_item l) x.0 ∙ range_in first (first + table_words counters) (base_of origin + k.retired.item.at) (let a = of.0 in omega arith) (let a = of.0 in let b = of.1 in omega arith)) not_mine) other

    -- The writer's step
    module _ (z : n ≡ 0) where
      pub writer_next : (scene past').at 0 ≡ table_next l (writer p) e
      writer_next = ap (λ (x : Scene LocalState (ℕ → ℕ)). x.at 0) snoc ∙ (moved_here w.at n 0 t z ∙ (ap (λ (k : ℕ). table_next l (w.at k) e) z ∙ ap (λ (x : LocalState). table_next l x e) at_writer))

      writer_may : table_may l (writer p) e
      writer_may = subst (λ (x : LocalState). table_may l x e) (ap w.at z ∙ at_writer) may

      abbrev table_state : WriterState
      table_state = record (second l e.opens p (action l p e) p.stage) { words = words_after p.words e.step }

      abbrev elsewhere_state : WriterState
      elsewhere_state = record p { stage = cond (is_table_item l e.item) (released p.stage) p.stage; log = cond (is_table_item l e.item) (released_log p.stage p.log) p.log }

      -- the state after it, and what it did
      pub by_writer_state : (P : WriterState → Type 0) → (is_table_word l e.step ≡ true → MayWriterStep l p (action l p e) p.stage e.step → P table_state) → (is_table_word l e.step ≡ false → MayOtherIf l (is_table_item l e.item) p.stage e → P elsewhere_state)
          → (q : WriterState) → (scene past').at 0 ≡ writer q → P q
      by_writer_state P own other q at_q = go (is_table_word l e.step) refl writer_may (sym writer_next ∙ at_q)
        where
          go : (b : Bool) → is_table_word l e.step ≡ b → MayIf l (action l) key_of b (writer p) e → cond b (after_own l (action l) key_of (writer p) e) (after_other l (writer p) e) ≡ writer q → P q
          go true on m is = let same : table_state ≡ q = let i : writer table_state ≡ writer q = is in cc in subst P same (own on m.0)
          go false on m is = let same : elsewhere_state ≡ q = let i : writer elsewhere_state ≡ writer q = is in cc in subst P same (other on m)

      allocation_now : AllocationInvariant counters from p (pending past)
      allocation_now = h.allocation p at_writer

      allocation_kept : (q : WriterState) → (scene past').at 0 ≡ writer q → AllocationInvariant counters from q (pending past')
      allocation_kept = by_writer_state (λ q. AllocationInvariant counters from q (pending past'))
          (λ on m. let b = allocation_step counters from l p (pending past) (pending past') allocation_now (was z (inl on)) (action l p e) (second l e.opens p (action l p e) p.stage) (second_builds l p e.opens (action l p e) p.stage e.step refl m)
          (λ root deletes. (is_free z on p root at_writer (taking (action l p e) p.stage root deletes), takes_small l p allocation_now.few e root deletes)) in record { piece = b.piece; few = b.few; small = b.small; hidden = b.hidden })
          (λ off m. go (is_table_item l e.item) refl m)
        where
          taking : (a : Action) (g : Stage) (root : ℕ) → IsTaking a g root → IsUnpublishedBy a g root
          taking a idle root z = z
          taking a (after_rebuild c) root z = z
          taking a g root z = absurd z

          go : (b : Bool) → is_table_item l e.item ≡ b → MayOtherIf l b p.stage e → AllocationInvariant counters from (record p { stage = cond b (released p.stage) p.stage; log = cond b (released_log p.stage p.log) p.log }) (pending past')
          go true mine m = record { piece = allocation_now.piece; few = allocation_now.few; small = λ root b. absurd (not_building l p.stage e.item root m.0 (released_builds p.stage root b)); hidden = λ root b. absurd (not_building l p.stage e.item root m.0 (released_builds p.stage root b)) }
          go false mine m = let b = allocation_stays counters from l p (pending past) (pending past') allocation_now (was z (inr mine)) in record { piece = b.piece; few = b.few; small = b.small; hidden = b.hidden }

    -- A reader's step
    module _ (z : n ≢ 0) where
      pub writer_same : (scene past').at 0 ≡ w.at 0
      writer_same = ap (λ (x : Scene LocalState (ℕ → ℕ)). x.at 0) snoc ∙ moved_else w.at n 0 t z

      reader_allocation : (q : WriterState) → (scene past').at 0 ≡ writer q → AllocationInvariant counters from q (pending past')
      reader_allocation q at_q = subst (λ (s : TokenState). AllocationInvariant counters from q s.pending) (sym (same_is z)) (h.allocation q (sym writer_same ∙ at_q))

    -- a look goes on
    keeps_looking : (i : ℕ) (y y' : ReaderState) → y'.root ≡ y.root → IsLooking past i y → (n ≡ suc i → e.step ≡ Store (active_word i) 0 → ⊥) → IsLooking past' i y'
    keeps_looking i y y' same old not_end = record {
      low = old.low;
      o = old.o;
      section = pieces.lasts past n e i old.o old.section not_end;
      piece = subst (IsPiece counters) (sym same) old.piece;
      linked = subst (λ (root : ℕ). WasLinked (regions host) origin past' old.o root) (sym same)
          record { past = old.linked.past; more = old.linked.more ++ (n, e) ∷ []; whole = ap (λ (run : Run). run ++ (n, e) ∷ []) old.linked.whole ∙ append_assoc old.linked.past old.linked.more ((n, e) ∷ []); after = old.linked.after; linked = old.linked.linked };
    }

    -- the load of the root
    root_load : (root : ℕ) (s : Step) → MayLookStep l root no_look s → (x : ℕ) × (s ≡ Load first x)
    root_load root (Load a x) m = (x, ap (λ (b : ℕ). Load b x) m)
    root_load root s m = absurd m

    looks_on : (i : ℕ) (y : ReaderState) → (scene past').at (suc i) ≡ reader y → (y.look_state ≡ no_look → ⊥) → IsLooking past' i y
    looks_on i y at_y looking = dite (ℕ_discrete n (suc i))
        (λ (mine : n ≡ suc i). by_own mine (is_table_word l e.step) refl (subst (λ (x : LocalState). table_may l x e) (ap w.at mine ∙ at_y0) may)
        (sym (ap (λ (k : ℕ). table_next l (w.at k) e) mine ∙ ap (λ (x : LocalState). table_next l x e) at_y0) ∙ (sym (moved_here w.at n (suc i) t mine) ∙ (sym (ap (λ (x : Scene LocalState (ℕ → ℕ)). x.at (suc i)) snoc) ∙ at_y))))
        (λ (other : n ≢ suc i). keeps_looking i y y refl (h.looks i y (sym (ap (λ (x : Scene LocalState (ℕ → ℕ)). x.at (suc i)) snoc ∙ moved_else w.at n (suc i) t other) ∙ at_y) looking) (λ mine _. other mine))
      where
        y0 : ReaderState
        y0 = (h.is_table.readers i).0

        at_y0 : w.at (suc i) ≡ reader y0
        at_y0 = (h.is_table.readers i).1

        was_looking : (y0.look_state ≡ no_look → ⊥) → y.root ≡ y0.root → (n ≡ suc i → e.step ≡ Store (active_word i) 0 → ⊥) → IsLooking past' i y
        was_looking looked same not_end = keeps_looking i y0 y same (h.looks i y0 at_y0 looked) not_end

        loads : IsLoad e.step → n ≡ suc i → e.step ≡ Store (active_word i) 0 → ⊥
        loads m _ ends = load_is e.step m (active_word i) 0 ends

        begins : (mine : n ≡ suc i) → (x : ℕ) → e.step ≡ Load first x → y.root ≡ x → IsLooking past' i y
        begins mine x is root_is =
            let o = host.place origin.config.client in
            let fits' = h.is_table.holds.fits in
            let word : first ≡ base_of origin + (o + 0) = omega arith in
            let r' = subst (λ (k : ℕ). IsTrue (past ++ (k, e) ∷ more)) mine r in
            let guarded = pieces.guarded origin past more i e (o + 0) x r' (is ∙ ap (λ (b : ℕ). Load b x) word) (within.guarded origin.config.client 0 (omega arith)) in
            let open_now = guarded.1 in
            let present : y.root ≡ p.root = root_is ∙ (subst (λ (s : Step). Fits w.words s) is fits ∙ h.is_table.holds.root) in
            record {
              low = guarded.0;
              o = open_now.0;
              section = pieces.lasts past n e i open_now.0 open_now.1 (loads (subst IsLoad (sym is) tt));
              piece = subst (IsPiece counters) (sym present) (h.allocation p at_writer).piece;
              linked = record { past = past; more = (n, e) ∷ []; whole = refl; after = opened_before past i open_now.0 open_now.1; linked = (p, sym (local_is past 0) ∙ at_writer, inl present) };
            }

        by_eye : n ≡ suc i → MayLookStep l y0.root y0.look_state e.step → after_look_step l y0 (key_of e.opens) y0.look_state e.step ≡ y → (y0.look_state ≡ no_look) ⊎ (y0.look_state ≡ no_look → ⊥) → IsLooking past' i y
        by_eye mine m is b = ⊎_elim
            (λ (o : y0.look_state ≡ no_look). let load = root_load y0.root e.step (subst (λ (s : LookState). MayLookStep l y0.root s e.step) o m) in
            begins mine load.0 load.1 (ap (λ (u : ReaderState). u.root) (sym is) ∙ ap (λ (u : LookState × Step). (after_look_step l y0 (key_of e.opens) u.0 u.1).root) (λ j. (o j, load.1 j))))
            (λ (o : y0.look_state ≡ no_look → ⊥). was_looking o (ap (λ (u : ReaderState). u.root) (sym is) ∙ same_root l w.words p h.is_table.holds (w.note (suc i)) y0 (h.is_table.readers i).2 (key_of e.opens) y0.look_state e.step o) (loads (look_loads l y0.root y0.look_state e.step m))) b

        by_lone : n ≡ suc i → (b : Bool) → MayLook l (action l) key_of b y0 e → reader (cond b y0 (after_look_step l y0 (key_of e.opens) y0.look_state e.step)) ≡ reader y → IsLooking past' i y
        by_lone mine true m is = let same : y0 ≡ y = let u : reader y0 ≡ reader y = is in cc in was_looking (λ o. looking (ap (λ (u : ReaderState). u.look_state) (sym same) ∙ o)) (ap (λ (u : ReaderState). u.root) (sym same)) (loads m)
        by_lone mine false m is = let same : after_look_step l y0 (key_of e.opens) y0.look_state e.step ≡ y = let u : reader (after_look_step l y0 (key_of e.opens) y0.look_state e.step) ≡ reader y = is in cc in by_eye mine m.0 same (is_out y0.look_state)

        by_section : n ≡ suc i → (b : Bool) → is_section l e.step ≡ b → record y0 { look_state = cond b no_look y0.look_state } ≡ y → IsLooking past' i y
        by_section mine true s is = absurd (looking (ap (λ (u : ReaderState). u.look_state) (sym is)))
        by_section mine false s is = let same : y0 ≡ y = is in
            let looked : y0.look_state ≡ no_look → ⊥ = λ o. looking (ap (λ (u : ReaderState). u.look_state) (sym same) ∙ o) in
            was_looking looked (ap (λ (u : ReaderState). u.root) (sym same)) (λ _ ends. let low = (h.looks i y0 at_y0 looked).low in
            true_false (is_section l e.step) (ap (is_section l) ends ∙ below (active_word i) (base_of origin) (omega arith)) s)

        by_own : n ≡ suc i → (b : Bool) → is_table_word l e.step ≡ b → MayIf l (action l) key_of b (reader y0) e → cond b (after_own l (action l) key_of (reader y0) e) (after_other l (reader y0) e) ≡ reader y → IsLooking past' i y
        by_own mine true on m is = by_lone mine (is_single_load e.opens) m is
        by_own mine false off m is = by_section mine (is_section l e.step) refl (let u : reader (record y0 { look_state = cond (is_section l e.step) no_look y0.look_state }) ≡ reader y = is in cc)

    pub holds_next : Holds past'
    holds_next = dite (ℕ_discrete n 0)
        (λ (z : n ≡ 0). record { is_table = table_kept; allocation = allocation_kept z; looks = looks_on })
        (λ (z : n ≢ 0). record { is_table = table_kept; allocation = reader_allocation z; looks = looks_on })
