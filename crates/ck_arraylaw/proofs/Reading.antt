-- Within an `all` the region with which it began keeps its words, and it collects the list that was committed at its first step.
use Rattle.std.proofs.Common.{◌≡◌, ◌≢◌, ℕ, suc, ◌+◌, ◌-◌, ◌^◌, ◌<◌, ◌≤◌, Bool, true, false, cond, nat_lt, ltb, List, [], ◌∷◌, ◌++◌, length, get_or, append_assoc, refl, sym, ap, ◌∙◌, subst, arith}
use Rattle.std.proofs.lemmas.Bool.Decides.{nat_tests}
use Rattle.std.proofs.lemmas.Nat.{pow_pos}
use mathlib.Core.Logic.{dite}
use native.Mathlib.Decide.{ℕ_discrete}
use Rattle.ck_run.specs.declared.account.Step.TheVariants.{Store}
use Rattle.ck_run.specs.declared.account.Entry.{Entry}
use Rattle.ck_run.specs.Run.{Run, words_after, account}
use Rattle.ck_run.specs.Range.{word_of}
use Rattle.ck_history.specs.declared.edit.TheConstants.{MOST_MEMBERS}
use Rattle.ck_history.specs.declared.edit.Edit.{Edit}
use Rattle.ck_epoch.specs.declared.item.Item.{Item}
use Rattle.ck_epoch.specs.State.{records_of, active_word}
use Rattle.ck_epoch.specs.Epochs.{IsOpen}
use Rattle.ck_epoch.specs.Within.{item_from}
use Rattle.ck_reclaim.specs.Pieces.{AreApart, WasLinked}
use Rattle.ck_arraylaw.specs.Calls.{Opening, adding, dropping, committing, opening_of}
use Rattle.ck_arraylaw.specs.Layout.{array_words, IsRegion, HoldsList}
use Rattle.ck_arraylaw.specs.Array.{CommitStage, between_calls, filling, replaced, no_read, ReaderState, LocalState, writer, reader, lists_of, MayBegin, MayFill, MayWrite, MayIf, given_up, is_array_word, is_section, after_own, after_other, array_next}
use Rattle.ck_arraylaw.specs.Client.{first_reader}
use Rattle.ck_arraylaw.specs.Regions.{regions}
use Rattle.ck_arraylaw.specs.Law.{read_stage_of, Unpublished}
use Rattle.ck_arraylaw.proofs.Words.{in_range, leaves, store_is, after_load, next_place}
use Rattle.ck_arraylaw.proofs.Linked.{writer_with}
use Rattle.ck_arraylaw.proofs.Writing.{Unfinished, apart_places}
use Rattle.ck_arraylaw.proofs.Tokens.{reader_after}
use Rattle.ck_arraylaw.proofs.Holding.{floor, base, place, IsTrue, words, local, pending, Holds, words_next, local_next, not_on, writer_may, is_reusable, reader_leaves, ArrayIn}
use Rattle.ck_arraylaw.proofs.Members.{region_is_item}

-- A step of the writer's on the array's words leaves a region that shares no word with the one that it stores in
module _ (place base : ℕ) (ws : List ℕ) (e : Entry) (log : List Edit) (present region : Item) (inside : IsRegion region) (j : ℕ) (low : j < 2 ^ region.log) where
  abbrev Left : Type 0
  Left = get_or (words_after ws e.step) (base + region.at + j) 0 ≡ get_or ws (base + region.at + j) 0

  begins_leaves : (o : Opening) → base ≤ word_of e.step → opening_of e.opens ≡ o → MayBegin base (writer_with log present between_calls) o e.step
      → ((new : Item) → Unpublished base (writer_with log present between_calls) e between_calls new → AreApart (item_from place region) (item_from place new)) → Left
  begins_leaves (adding v) own is m apart = ap (λ (w : List ℕ). get_or w (base + region.at + j) 0) (after_load base ws e.step m)
  begins_leaves (dropping v) own is m apart = ap (λ (w : List ℕ). get_or w (base + region.at + j) 0) (after_load base ws e.step m)
  begins_leaves committing own is m apart = leaves ws e.step (base + region.at + j) (λ same.
      apart_places place base region _ (apart _ (is, refl)) j 0 low (pow_pos _) (let there : base + (word_of e.step - base) + 0 ≡ word_of e.step = omega arith in sym same ∙ sym there))
  begins_leaves o own is m apart = absurd m

  fill_leaves : (new : Item) (i : ℕ) (members : List ℕ) (b : Bool) → nat_lt i (length members) ≡ b → length members < 2 ^ new.log → MayFill base members new i b e.step → AreApart (item_from place region) (item_from place new) → Left
  fill_leaves new i members true is room m apart = leaves ws e.step (base + region.at + j) (λ same.
      apart_places place base region new apart j (suc i) low (let less : i < length members = grind (arith, nat_tests) in omega arith)
      (sym same ∙ (ap word_of (store_is (base + new.at + 1 + i) (get_or members i 0) e.step m) ∙ next_place (base + new.at) i)))
  fill_leaves new i members false is room m apart = leaves ws e.step (base + region.at + j) (λ same. let there : word_of e.step ≡ base = ap word_of (store_is base new.at e.step m) in let above = inside.low in omega arith)

  pub writer_leaves : (pending : _) (g : CommitStage) → base ≤ word_of e.step → Unfinished place base ws pending present (lists_of (writer_with log present g)).pending g → MayWrite base (writer_with log present g) e.opens g e.step
      → ((new : Item) → Unpublished base (writer_with log present g) e g new → AreApart (item_from place region) (item_from place new)) → Left
  writer_leaves pending between_calls own f m apart = begins_leaves (opening_of e.opens) own refl m apart
  writer_leaves pending (filling new i) own f m apart = fill_leaves new i (lists_of (writer_with log present (filling new i))).pending (nat_lt i (length (lists_of (writer_with log present (filling new i))).pending)) refl f.room m.0 (apart new refl)
  writer_leaves pending (replaced old) own f m apart = absurd m

below : (a b : ℕ) → a < b → ltb a b ≡ true
below a b h = grind (arith, nat_tests)

module _ {D : Type 0} (a : ArrayIn D) where
  open a use {host, pieces, origin}

  abbrev b : ℕ
  b = base a

  abbrev f : ℕ
  f = floor a

  -- What is known of the reader of the record r within an `all` that began with this region after the moment `first`
  pub record Looks (first run : Run) (r : ℕ) (region : Item) : Type 0 where
    pub low : r < records_of origin
    pub o : ℕ
    pub section : IsOpen run r o
    pub linked : WasLinked (regions host) origin run o region
    pub kept : (j : ℕ) → j < 2 ^ region.log → get_or (words a run) (b + region.at + j) 0 ≡ get_or (words a first) (b + region.at + j) 0

  -- at the first moment the region is the present one
  pub record Begins (first : Run) (region : Item) (members : List ℕ) : Type 0 where
    pub inside : IsRegion region
    pub list : HoldsList b (words a first) region members
    pub few : length members ≤ MOST_MEMBERS

  module _ (first : Run) (region : Item) (members : List ℕ) (start : Begins first region members) where
    inside_array : (j : ℕ) → j < 2 ^ region.log → b + region.at + j < b + array_words
    inside_array j low = let high = start.inside.high in omega arith

    -- each step leaves the region's words
    module _ (run : Run) (n : ℕ) (e : Entry) (more : Run) (t : IsTrue a (run ++ (n, e) ∷ more)) (h : Holds a run) (r : ℕ) (looks : Looks first run r region) where
      left_by_writer : n ≡ 0 → (j : ℕ) → j < 2 ^ region.log → get_or (words a (run ++ (n, e) ∷ [])) (b + region.at + j) 0 ≡ get_or (words a run) (b + region.at + j) 0
      left_by_writer z j low = subst (λ (k : ℕ). IsTrue a (run ++ (k, e) ∷ more) → get_or (words a (run ++ (k, e) ∷ [])) (b + region.at + j) 0 ≡ get_or (words a run) (b + region.at + j) 0) (sym z) (λ t0. by t0 (is_array_word f b e.step) refl (writer_may a run e more t0 h)) t
        where
          by : (t0 : IsTrue a (run ++ (0, e) ∷ more)) (own : Bool) → is_array_word f b e.step ≡ own → MayIf f b own (writer h.writer_state) e → get_or (words a (run ++ (0, e) ∷ [])) (b + region.at + j) 0 ≡ get_or (words a run) (b + region.at + j) 0
          by t0 true on m = ap (λ (ws : List ℕ). get_or ws (b + region.at + j) 0) (words_next a run 0 e more t0)
              ∙ writer_leaves (place a) b (words a run) e h.writer_state.log h.writer_state.region region start.inside j low (pending a run) h.writer_state.stage (in_range b (b + array_words) (word_of e.step) on).0 h.invariant.unfinished m
              (λ new u. pieces.apart origin run ((0, e) ∷ more) (item_from (place a) new) t0 (is_reusable a run e more t0 h on new u) r looks.o region looks.low looks.section looks.linked (region_is_item (place a) region start.inside))
          by t0 false off m = not_on a run 0 e more t0 (b + region.at + j) (omega arith) (inside_array j low) off

      left : (j : ℕ) → j < 2 ^ region.log → get_or (words a (run ++ (n, e) ∷ [])) (b + region.at + j) 0 ≡ get_or (words a run) (b + region.at + j) 0
      left j low = dite (ℕ_discrete n 0) (λ (z : n ≡ 0). left_by_writer z j low) (λ (z : n ≢ 0). reader_leaves a run n e more t z (b + region.at + j) (omega arith) (inside_array j low))

      -- and the section stays open, as long as the `all` goes on
      not_ended : (read_stage_of (local a (run ++ (n, e) ∷ []) (suc r)) ≡ no_read → ⊥) → n ≡ suc r → e.step ≡ Store (active_word r) 0 → ⊥
      not_ended goes mine ends = goes (ap read_stage_of (ap (λ (k : ℕ). local a (run ++ (k, e) ∷ []) (suc r)) mine ∙ (local_next a run (suc r) e more (subst (λ (k : ℕ). IsTrue a (run ++ (k, e) ∷ more)) mine t)
          ∙ ap (λ (x : LocalState). array_next f b x e) y.1)) ∙ (ap (λ (own : Bool). read_stage_of (cond own (after_own f b (reader y.0) e) (after_other f b (reader y.0) e))) off ∙ ap (λ (s : Bool). (given_up f b s y.0).stage) section))
        where
          y : (y : ReaderState) × (local a run (suc r) ≡ reader y)
          y = reader_after f b first_reader (account (suc r) run)

          low_word : active_word r < f
          low_word = let low = looks.low in omega arith

          section : is_section f b e.step ≡ true
          section = ap (is_section f b) ends ∙ below (active_word r) f low_word

          off : is_array_word f b e.step ≡ false
          off = by (is_array_word f b e.step) refl
            where
              by : (own : Bool) → is_array_word f b e.step ≡ own → is_array_word f b e.step ≡ false
              by true on = let i = (in_range b (b + array_words) (word_of e.step) on).0 in let there : word_of e.step ≡ active_word r = ap word_of ends in absurd (omega arith)
              by false off = off

      pub looks_on : (read_stage_of (local a (run ++ (n, e) ∷ []) (suc r)) ≡ no_read → ⊥) → Looks first (run ++ (n, e) ∷ []) r region
      looks_on goes = record {
        low = looks.low;
        o = looks.o;
        section = pieces.lasts run n e r looks.o looks.section (not_ended goes);
        linked = record { past = looks.linked.past; more = looks.linked.more ++ (n, e) ∷ []; whole = ap (λ (run : Run). run ++ (n, e) ∷ []) looks.linked.whole ∙ append_assoc looks.linked.past looks.linked.more ((n, e) ∷ []); after = looks.linked.after; linked = looks.linked.linked };
        kept = λ j low. left j low ∙ looks.kept j low;
      }
