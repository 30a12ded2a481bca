-- The writer unlinks no region without retiring it, or being about to.
use Rattle.std.proofs.Common.{◌≡◌, ℕ, ◌+◌, ◌-◌, ◌⊎◌, ⊎_elim, inl, inr, Bool, true, false, cond, nat_lt, List, [], ◌∷◌, ◌++◌, length, sym, ap, ◌∙◌, subst}
use Rattle.ck_run.specs.declared.account.Step.{Step}
use Rattle.ck_run.specs.declared.account.Entry.{Entry}
use Rattle.ck_run.specs.Run.{account}
use Rattle.ck_run.proofs.Law.{obeys_at, state-append}
use Rattle.ck_history.specs.declared.edit.Edit.{Edit}
use Rattle.ck_epoch.specs.declared.item.Item.{Item}
use Rattle.ck_epoch.specs.State.{Origin, base_of}
use Rattle.ck_epoch.specs.Within.{IsWithin, item_from}
use Rattle.ck_reclaim.specs.Pieces.{HandsOver}
use Rattle.ck_reclaim.specs.Reclaim.{RetiresWhatItUnlinks}
use Rattle.ck_arraylaw.specs.Calls.{Opening, adding, dropping, committing, opening_of}
use Rattle.ck_arraylaw.specs.Host.{Host, floor_word, base_word}
use Rattle.ck_arraylaw.specs.Array.{CommitStage, between_calls, filling, replaced, WriterState, LocalState, writer, lists_of, MayWrite, MayRetire, MayOtherIf, MayIf, begun, filled, written, released, released_if, is_array_word, is_array_item, after_own, after_other, array_next, array_may}
use Rattle.ck_arraylaw.specs.Client.{array_start, local_after, array}
use Rattle.ck_arraylaw.specs.Regions.{IsStanding, IsLinkedRegion, place_in, regions}

-- a writer with these fields
abbrev pub writer_with : List Edit → Item → CommitStage → WriterState
writer_with log region g = record { log = log; region = region; stage = g }

module _ (base : ℕ) (log : List Edit) (present region : Item) where
  begun_stands : (o : Opening) (s : Step) → region ≡ present → IsStanding (begun base (writer_with log present between_calls) o s) region
  begun_stands (adding v) s is = inl is
  begun_stands (dropping v) s is = inl is
  begun_stands committing s is = inl is
  begun_stands o s is = inl is

  filled_stands : (new : Item) (i : ℕ) (b : Bool) → region ≡ present → IsStanding (filled base (writer_with log present (filling new i)) new i b) region
  filled_stands new i true is = inl is
  filled_stands new i false is = inr is

  -- after a step of the writer's on the array's words the region still stands
  pub written_stands : (opens : List ℕ) (g : CommitStage) (s : Step) → MayWrite base (writer_with log present g) opens g s → IsStanding (writer_with log present g) region → IsStanding (written base (writer_with log present g) opens g s) region
  written_stands opens between_calls s m stands = begun_stands (opening_of opens) s (⊎_elim (λ (e : region ≡ present). e) (λ (e : ⊥). absurd e) stands)
  written_stands opens (filling new i) s m stands = filled_stands new i (nat_lt i (length (lists_of (writer_with log present (filling new i))).pending)) (⊎_elim (λ (e : region ≡ present). e) (λ (e : ⊥). absurd e) stands)
  written_stands opens (replaced old) s m stands = absurd m

module _ (floor base : ℕ) (log : List Edit) (present region : Item) (e : Entry) where
  retired_stands : (g : CommitStage) → MayRetire floor base g e.item → IsStanding (writer_with log present g) region → IsStanding (released (writer_with log present g) g) region ⊎ HandsOver e (item_from (base - floor) region)
  retired_stands (replaced old) m stands = ⊎_elim (λ (is : region ≡ present). inl (inl is)) (λ (is : region ≡ old). inr (m ∙ ap (λ (r : Item). (base - floor + r.at) ∷ r.log ∷ []) (sym is))) stands
  retired_stands between_calls m stands = absurd m
  retired_stands (filling new i) m stands = absurd m

  -- after another step too, or it is retired
  pub other_stands : (g : CommitStage) (b : Bool) → MayOtherIf floor base b g e → IsStanding (writer_with log present g) region → IsStanding (released_if floor base b (writer_with log present g)) region ⊎ HandsOver e (item_from (base - floor) region)
  other_stands g true m stands = retired_stands g m.0 stands
  other_stands g false m stands = inl stands

module _ {D : Type 0} (host : Host D) (within : IsWithin array host.client host.place host.part) where
  module _ (origin : Origin D) (es : List Entry) (e : Entry) (region : Item) (p : WriterState) (stands : IsStanding p region) where
    abbrev floor : ℕ
    floor = floor_word host origin

    abbrev base : ℕ
    base = base_word host origin

    by_word : (b : Bool) → MayIf floor base b (writer p) e → local_after floor base 0 (es ++ e ∷ []) ≡ cond b (after_own floor base (writer p) e) (after_other floor base (writer p) e)
        → IsLinkedRegion host origin (es ++ e ∷ []) region ⊎ HandsOver e (item_from (place_in host origin) region)
    by_word true m next = inl (written base p e.opens p.stage e.step, next, written_stands base p.log p.region region e.opens p.stage e.step m stands)
    by_word false m next = ⊎_elim
        (λ (s : IsStanding (released_if floor base (is_array_item floor base e.item) p) region). inl (released_if floor base (is_array_item floor base e.item) p, next, s))
        (λ (h : HandsOver e (item_from (base - floor) region)). inr h)
        (other_stands floor base p.log p.region region e p.stage (is_array_item floor base e.item) m stands)

  pub retires_regions : RetiresWhatItUnlinks (regions host)
  retires_regions origin past more e run region linked =
      let floor = floor_word host origin in let base = base_word host origin in
      let p : WriterState = linked.0 in
      let shown = within.shows (base_of origin) origin 0 (account 0 (past ++ (0, e) ∷ more)) (run.follow 0).3 in
      let may : array_may floor base (writer p) e = subst (λ (h : LocalState). array_may floor base h e) linked.1 (obeys_at (array_next floor base) (array_may floor base) (array_start 0) 0 past more e shown.0) in
      let next : local_after floor base 0 (account 0 past ++ e ∷ []) ≡ array_next floor base (writer p) e = state-append (array_next floor base) (array_start 0) (account 0 past) (e ∷ []) ∙ ap (λ (h : LocalState). array_next floor base h e) linked.1 in
      by_word origin (account 0 past) e region p linked.2 (is_array_word floor base e.step) may next
