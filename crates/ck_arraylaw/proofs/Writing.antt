-- What holds of the array's words and of its writer at each moment, and that each of the writer's steps keeps it.
use Rattle.std.proofs.Common.{◌≡◌, ◌≢◌, ℕ, suc, ◌+◌, ◌-◌, ◌^◌, ◌<◌, ◌≤◌, ◌⊎◌, ⊎_elim, Bool, true, false, nat_lt, List, [], ◌∷◌, ◌++◌, length, All, Contains, set, get_or, get_or-set_other, get_or-set_same, refl, sym, ap, ◌∙◌, subst, arith, add-zero}
use Rattle.std.proofs.lemmas.Bool.Decides.{nat_tests}
use Rattle.std.proofs.lemmas.Nat.{pow_pos}
use Rattle.std.proofs.lemmas.List.Elements.{All-contains}
use Rattle.ck_run.specs.declared.account.Step.{Step}
use Rattle.ck_run.specs.declared.account.Step.TheVariants.{Store}
use Rattle.ck_run.specs.declared.account.Entry.{Entry}
use Rattle.ck_run.specs.Run.{words_after}
use Rattle.ck_run.specs.Range.{word_of}
use Rattle.ck_run.proofs.Lists.{All-weaker}
use Rattle.ck_history.specs.declared.edit.Edit.{Edit}
use Rattle.ck_history.specs.declared.edit.Edit.TheVariants.{Add, Drop, Commit}
use Rattle.ck_history.specs.Lists.{ListState, empty_lists, lists_after_from}
use Rattle.ck_epoch.specs.declared.item.Item.{Item}
use Rattle.ck_epoch.specs.State.{Retirement}
use Rattle.ck_epoch.specs.Within.{item_from}
use Rattle.ck_reclaim.specs.Pieces.{AreApart}
use Rattle.ck_arraylaw.specs.Calls.{Opening, adding, dropping, committing, opening_of}
use Rattle.ck_arraylaw.specs.Layout.{array_words, log_for, IsRegion, HoldsFirst, HoldsList, IsArrayItem, IsFreeRegion}
use Rattle.ck_arraylaw.specs.Array.{CommitStage, between_calls, filling, replaced, WriterState, lists_of, region_by, MayBegin, MayFill, MayWrite, MayRetire, MayOtherIf, begun, filled, written, released, released_if}
use Rattle.ck_arraylaw.specs.Client.{BeginsCommit}
use Rattle.ck_arraylaw.proofs.Members.{after-append, few_lists, room_for}
use Rattle.ck_arraylaw.proofs.Words.{after_load, store_is, first_stays, list_stays, one_stored, next_place}
use Rattle.ck_arraylaw.proofs.Linked.{writer_with}

-- what is pending after a step was so before, or is no item of the array's
abbrev pub AddsNone : ℕ → List Retirement → List Retirement → Type 0
AddsNone place before after = All (λ (k : Retirement). Contains before k ⊎ (IsArrayItem place k.retired.item → ⊥)) after

pub free_kept : (place : ℕ) (present region : Item) (before after : List Retirement) → AddsNone place before after → IsFreeRegion place present region before → IsFreeRegion place present region after
free_kept place present region before after was f = let Apart : Retirement → Type 0 = λ k. IsArrayItem place k.retired.item → AreApart k.retired.item (item_from place region) in record {
  inside = f.inside;
  apart = f.apart;
  unused = All-weaker (λ (k : Retirement). Contains before k ⊎ (IsArrayItem place k.retired.item → ⊥)) Apart after (λ k was of. ⊎_elim
      (λ (old : Contains before k). All-contains Apart before k f.unused old of)
      (λ (no : IsArrayItem place k.retired.item → ⊥). absurd (no of)) was) was;
}

-- the region that is being filled: it is free, and has the first members
pub record IsFilling (place base : ℕ) (ws : List ℕ) (pending : List Retirement) (present : Item) (members : List ℕ) (region : Item) (i : ℕ) : Type 0 where
  pub free : IsFreeRegion place present region pending
  pub room : length members < 2 ^ region.log
  pub stored : HoldsFirst base ws region members i
  pub few : i ≤ length members

abbrev pub Unfinished : ℕ → ℕ → List ℕ → List Retirement → Item → List ℕ → CommitStage → Type 0
Unfinished place base ws pending present members (filling region i) = IsFilling place base ws pending present members region i
Unfinished place base ws pending present members g = Unit {0}

-- what holds of the words and the writer
pub record WriterInvariant (place base : ℕ) (ws : List ℕ) (pending : List Retirement) (p : WriterState) : Type 0 where
  pub root : get_or ws base 0 ≡ p.region.at
  pub inside : IsRegion p.region
  pub list : HoldsList base ws p.region (lists_of p).committed
  pub unfinished : Unfinished place base ws pending p.region (lists_of p).pending p.stage

-- places in two regions that share no word
pub apart_places : (place base : ℕ) (a b : Item) → AreApart (item_from place a) (item_from place b) → (i j : ℕ) → i < 2 ^ a.log → j < 2 ^ b.log → base + a.at + i ≢ base + b.at + j
apart_places place base a b apart i j low high e = ⊎_elim
    (λ (before : place + a.at + 2 ^ a.log ≤ place + b.at). omega arith)
    (λ (after : place + b.at + 2 ^ b.log ≤ place + a.at). omega arith) apart

module _ (place base : ℕ) (ws : List ℕ) (pending pending' : List Retirement) (ws' : List ℕ) (same : (i : ℕ) → base ≤ i → i < base + array_words → get_or ws' i 0 ≡ get_or ws i 0) where
  -- where the array's words stand as they did
  elsewhere : (p : WriterState) → WriterInvariant place base ws pending p → Unfinished place base ws' pending' p.region (lists_of p).pending p.stage → WriterInvariant place base ws' pending' p
  elsewhere p h unfinished = record {
    root = same base (omega arith) (omega arith) ∙ h.root;
    inside = h.inside;
    list = list_stays base ws ws' p.region (lists_of p).committed (λ j low. let inside = h.inside.high in same (base + p.region.at + j) (omega arith) (omega arith)) h.list;
    unfinished = unfinished;
  }

  pub words_stay : AddsNone place pending pending' → (p : WriterState) → WriterInvariant place base ws pending p → WriterInvariant place base ws' pending' p
  words_stay was p h = elsewhere p h (go p.stage h.unfinished)
    where
      go : (g : CommitStage) → Unfinished place base ws pending p.region (lists_of p).pending g → Unfinished place base ws' pending' p.region (lists_of p).pending g
      go (filling region i) f = record {
        free = free_kept place p.region region pending pending' was f.free;
        room = f.room;
        stored = first_stays base ws ws' region (lists_of p).pending i (λ j low. let inside = f.free.inside.high in let room = f.room in let few = f.few in same (base + region.at + j) (omega arith) (omega arith)) f.stored;
        few = f.few;
      }
      go between_calls f = tt
      go (replaced old) f = tt

  -- the retirement
  released_kept : (floor : ℕ) (e : Entry) (log : List Edit) (present : Item) (g : CommitStage) → MayRetire floor base g e.item → WriterInvariant place base ws pending (writer_with log present g) → WriterInvariant place base ws' pending' (released (writer_with log present g) g)
  released_kept floor e log present (replaced old) m h = let k = elsewhere (writer_with log present (replaced old)) h tt in record { root = k.root; inside = k.inside; list = k.list; unfinished = tt }
  released_kept floor e log present between_calls m h = absurd m
  released_kept floor e log present (filling region i) m h = absurd m

  -- a step of the writer's on other words
  pub other_kept : (floor : ℕ) (e : Entry) (log : List Edit) (present : Item) (g : CommitStage) (b : Bool) → (b ≡ false → AddsNone place pending pending') → MayOtherIf floor base b g e → WriterInvariant place base ws pending (writer_with log present g)
      → WriterInvariant place base ws' pending' (released_if floor base b (writer_with log present g))
  other_kept floor e log present g true was m h = released_kept floor e log present g m.0 h
  other_kept floor e log present g false was m h = words_stay (was refl) (writer_with log present g) h

module _ (place base : ℕ) (ws : List ℕ) (pending pending' : List Retirement) (long : base + array_words ≤ length ws) (was : AddsNone place pending pending') where
  module _ (log : List Edit) (present : Item) where
    -- the edits that have taken place, of a writer that isn't within a commit whose root is stored
    abbrev lists : ListState
    lists = lists_after_from empty_lists log

    -- an edit of the pending list
    pending_edit : (e : Edit) → (lists_after_from lists (e ∷ [])).committed ≡ lists.committed → WriterInvariant place base ws pending (writer_with log present between_calls) → WriterInvariant place base ws pending' (writer_with (log ++ e ∷ []) present between_calls)
    pending_edit e same h = record {
      root = h.root;
      inside = h.inside;
      list = subst (HoldsList base ws present) (sym (ap (λ (s : ListState). s.committed) (after-append empty_lists log (e ∷ [])) ∙ same)) h.list;
      unfinished = tt;
    }

    -- A store in a word of a region that is free
    module _ (region : Item) (free : IsFreeRegion place present region pending) (i x : ℕ) (within_region : i < 2 ^ region.log) where
      abbrev at : ℕ
      at = base + region.at + i

      abbrev stored : List ℕ
      stored = set ws at x

      here : get_or stored at 0 ≡ x
      here = let high = free.inside.high in get_or-set_same ws at x 0 (omega arith)

      root_stays : get_or stored base 0 ≡ get_or ws base 0
      root_stays = get_or-set_other ws at base x 0 (λ e. let low = free.inside.low in omega arith)

      present_stays : (members : List ℕ) → HoldsList base ws present members → HoldsList base stored present members
      present_stays members h = list_stays base ws stored present members (λ j low. get_or-set_other ws at (base + present.at + j) x 0 (apart_places place base present region free.apart j i low within_region)) h

    -- the first step of a commit
    begins : (s : Step) → base ≤ word_of s → WriterInvariant place base ws pending (writer_with log present between_calls) → s ≡ Store (word_of s) (length lists.pending) → IsFreeRegion place present (region_by base (length lists.pending) s) pending
        → WriterInvariant place base (words_after ws s) pending' (writer_with log present (filling (region_by base (length lists.pending) s) 0))
    begins s low h is free = subst (λ (t : List ℕ). WriterInvariant place base t pending' (writer_with log present (filling region 0))) (ap (λ (k : ℕ). set ws k n) place_is ∙ sym (ap (words_after ws) is)) record {
      root = root_stays region free 0 n some ∙ h.root;
      inside = h.inside;
      list = present_stays region free 0 n some lists.committed h.list;
      unfinished = record {
        free = free_kept place present region pending pending' was free;
        room = room_for n (few_lists log).pending;
        stored = record { count = subst (λ (k : ℕ). get_or (set ws (base + region.at + 0) n) k 0 ≡ n) (add-zero (base + region.at)) (here region free 0 n some); member = λ j none. absurd (omega arith) };
        few = omega arith;
      };
    }
      where
        n : ℕ
        n = length lists.pending

        region : Item
        region = region_by base (length lists.pending) s

        some : 0 < 2 ^ log_for n
        some = pow_pos (log_for n)

        place_is : base + (word_of s - base) + 0 ≡ word_of s
        place_is = omega arith

    -- the store of a member
    fills : (region : Item) (i : ℕ) → i < length lists.pending → WriterInvariant place base ws pending (writer_with log present (filling region i))
        → WriterInvariant place base (set ws (base + region.at + 1 + i) (get_or lists.pending i 0)) pending' (writer_with log present (filling region (suc i)))
    fills region i more h = subst (λ (k : ℕ). WriterInvariant place base (set ws k x) pending' (writer_with log present (filling region (suc i)))) (sym (next_place (base + region.at) i)) record {
      root = root_stays region f.free (suc i) x low ∙ h.root;
      inside = h.inside;
      list = present_stays region f.free (suc i) x low lists.committed h.list;
      unfinished = record {
        free = free_kept place present region pending pending' was f.free;
        room = f.room;
        stored = one_stored base ws (set ws (base + region.at + suc i) x) region lists.pending i (λ j small. get_or-set_other ws (base + region.at + suc i) (base + region.at + j) x 0 (λ e. omega arith))
            (subst (λ (k : ℕ). get_or (set ws (base + region.at + suc i) x) k 0 ≡ x) (sym (next_place (base + region.at) i)) (here region f.free (suc i) x low)) f.stored;
        few = omega arith;
      };
    }
      where
        f : IsFilling place base ws pending present lists.pending region i
        f = h.unfinished

        x : ℕ
        x = get_or lists.pending i 0

        low : suc i < 2 ^ region.log
        low = let room = f.room in omega arith

    -- the store of the root
    publishes : (region : Item) (i : ℕ) → length lists.pending ≤ i → WriterInvariant place base ws pending (writer_with log present (filling region i)) → WriterInvariant place base (set ws base region.at) pending' (writer_with log region (replaced present))
    publishes region i done h = record {
      root = get_or-set_same ws base region.at 0 (omega arith);
      inside = f.free.inside;
      list = subst (HoldsList base (set ws base region.at) region) (sym (ap (λ (s : ListState). s.committed) (after-append empty_lists log (Commit ∷ []))))
          record { all = first_stays base ws (set ws base region.at) region lists.pending (length lists.pending) (λ j low. get_or-set_other ws base (base + region.at + j) region.at 0 (λ e. let above = f.free.inside.low in omega arith)) (subst (HoldsFirst base ws region lists.pending) all f.stored); room = f.room };
      unfinished = tt;
    }
      where
        f : IsFilling place base ws pending present lists.pending region i
        f = h.unfinished

        all : i ≡ length lists.pending
        all = let few = f.few in omega arith

    -- each of the writer's steps on the array's words
    pub own_kept : (opens : List ℕ) (g : CommitStage) (s : Step) → base ≤ word_of s → MayWrite base (writer_with log present g) opens g s
        → (BeginsCommit g opens → IsFreeRegion place present (region_by base (length (lists_of (writer_with log present g)).pending) s) pending)
        → WriterInvariant place base ws pending (writer_with log present g) → WriterInvariant place base (words_after ws s) pending' (written base (writer_with log present g) opens g s)
    own_kept opens between_calls s low m takes h = by (opening_of opens) refl m
      where
        by : (o : Opening) → opening_of opens ≡ o → MayBegin base (writer_with log present between_calls) o s → WriterInvariant place base (words_after ws s) pending' (begun base (writer_with log present between_calls) o s)
        by (adding v) is m = subst (λ (t : List ℕ). WriterInvariant place base t pending' (writer_with (log ++ Add v ∷ []) present between_calls)) (sym (after_load base ws s m)) (pending_edit (Add v) refl h)
        by (dropping v) is m = subst (λ (t : List ℕ). WriterInvariant place base t pending' (writer_with (log ++ Drop v ∷ []) present between_calls)) (sym (after_load base ws s m)) (pending_edit (Drop v) refl h)
        by committing is m = begins s low h (store_is (word_of s) (length lists.pending) s m) (takes is)
        by o is m = absurd m
    own_kept opens (filling region i) s low m takes h = by (nat_lt i (length lists.pending)) refl m.0
      where
        by : (b : Bool) → nat_lt i (length lists.pending) ≡ b → MayFill base lists.pending region i b s → WriterInvariant place base (words_after ws s) pending' (filled base (writer_with log present (filling region i)) region i b)
        by true is m = subst (λ (t : Step). WriterInvariant place base (words_after ws t) pending' (writer_with log present (filling region (suc i)))) (sym (store_is (base + region.at + 1 + i) (get_or lists.pending i 0) s m)) (fills region i (grind (arith, nat_tests)) h)
        by false is m = subst (λ (t : Step). WriterInvariant place base (words_after ws t) pending' (writer_with log region (replaced present))) (sym (store_is base region.at s m)) (publishes region i (grind (arith, nat_tests)) h)
    own_kept opens (replaced old) s low m takes h = absurd m
