use Rattle.std.proofs.Common.{◌≡◌, ℕ, ◌+◌, ◌*◌, ◌^◌, ◌<◌, List, [], length, sym, ap, ◌∙◌, subst, arith}
use Rattle.ck_epoch.specs.State.{base_of}
use Rattle.ck_probe.specs.Mixing.{key_code_of}
use Rattle.ck_slots.specs.Slots.{IsFirst, HasState}
use Rattle.ck_htplan.specs.Region.{order_of, view_of}
use Rattle.ck_htplan.proofs.Orders.{four}
use Rattle.ck_htlaw.specs.Host.{host, first, inner, lies}
use Rattle.ck_htlaw.specs.Layout.{log_of}
use Rattle.ck_htlaw.specs.Client.{hash_of}
use Rattle.ck_htlaw.specs.Known.{knows}
use Rattle.ck_htwrite.specs.Rebuild.{CopiesAt, pair_steps}
use Rattle.ck_htwrite.specs.Writes.{counters_in}
use Rattle.ck_htwrite.proofs.Chains.{no_steps}
use Rattle.ck_htwrite.proofs.Finding.{key_low, key_high, some_empty, small_slot}
use Rattle.ck_htwrite.proofs.Pairs.{slot_may, slot_then, slot_skipped}
use Rattle.ck_htwrite.proofs.Slots.{item_in}
use Rattle.ck_htwrite.proofs.copies.copy_slot.Given as given
use Rattle.ck_htwrite.proofs.copies.copy_slot.Goals as goal
use Rattle.ck_htwrite.proofs.copies.copy_slot.Goals.{Start, After-first_empty-to}

-- the word j of the old slot is in the lists
old_word : (g : given.Over) (c : Start g) (j : ℕ) → j < 4 → 4 * c.args.i + j < length c.args.state.now.words.items
old_word g c j low = item_in (counters_in (host g.D.Client.meaning g.D.Within.place g.D.Within.part) c.args.domain.now.origin) c.args.state.now c.requires.due.4.is_copying.lists.mirrors.shape c.args.i j c.requires.slot low

-- the pair's slot in the new region is the first empty one of its key's order
found : (g : given.Over) (c : After-first_empty-to g) → let key = c.word_in-low.result + 2 ^ 64 * c.word_in-high.result in let h = host g.D.Client.meaning g.D.Within.place g.D.Within.part in
    IsFirst (order_of (log_of c.args.root) (hash_of (inner h c.args.domain.now.origin).config.client)) key (HasState (view_of c.args.state.now.spare.items) 0) c.first_empty-to.result
found g c =
    let h = host g.D.Client.meaning g.D.Within.place g.D.Within.part in let client = (inner h c.args.domain.now.origin).config.client in
    let low : ℕ = c.word_in-low.result in let high : ℕ = c.word_in-high.result in
    let small : low < 2 ^ 64 = c.word_in-low.type_inv in
    let same : c.inner.result.now ≡ client = c.inner.ensures ∙ ap h.part c.client.ensures.same in
    let hash : hash_of client (low + 2 ^ 64 * high) ≡ c.key_code-hash.result = (λ z. key_code_of (key_low low high small z) (key_high low high small z) (sym same z).seed) ∙ sym c.key_code-hash.ensures in
    subst (λ (xs : List ℕ). IsFirst (order_of (log_of c.args.root) (hash_of client)) (low + 2 ^ 64 * high) (HasState (view_of xs) 0) c.first_empty-to.result) c.deref.ensures.value (c.first_empty-to.ensures (hash_of client) (low + 2 ^ 64 * high) hash)

-- its words are in the list of the new region
room : (g : given.Over) (c : After-first_empty-to g) → (4 * c.first_empty-to.result + 3 < length c.args.state.now.spare.items) × (c.first_empty-to.result < 524288)
room g c =
    let to : ℕ = c.first_empty-to.result in let inside = (found g c).inside in let long = c.requires.due.4.is_copying.long in
    (omega arith, small_slot to (log_of c.args.root) inside c.requires.can.is_root.few)

-- the old slot is full
full : (g : given.Over) (c : After-first_empty-to g) → (view_of c.args.state.now.words.items).state c.args.i ≡ 1
full g c = omega (arith, c.word_in.ensures, c.if-word_in-ne-FULL.false)

pub word_in-requires : goal.word_in-requires
word_in-requires g c = old_word g (goal.at.word_in-requires g c).Start 0 (omega arith)

pub word_in-low-requires : goal.word_in-low-requires
word_in-low-requires g c = old_word g (goal.at.word_in-low-requires g c).Start 1 (omega arith)

pub word_in-high-requires : goal.word_in-high-requires
word_in-high-requires g c = old_word g (goal.at.word_in-high-requires g c).Start 2 (omega arith)

pub word_in-value-requires : goal.word_in-value-requires
word_in-value-requires g c = old_word g (goal.at.word_in-value-requires g c).Start 3 (omega arith)

pub returns-then-word_in-ne-FULL-clause-steps : goal.returns-then-word_in-ne-FULL-clause-steps
returns-then-word_in-ne-FULL-clause-steps g c = ([], no_steps (host g.D.Client.meaning g.D.Within.place g.D.Within.part) c.args.domain.now.origin c.args.writer.now c.requires.token)

pub returns-then-word_in-ne-FULL-clause-at : goal.returns-then-word_in-ne-FULL-clause-at
returns-then-word_in-ne-FULL-clause-at g c p call due told copies =
    let h = host g.D.Client.meaning g.D.Within.place g.D.Within.part in let o = c.args.domain.now.origin in
    slot_skipped (base_of (inner h o)) (first h o) (inner h o).config.client p c.args.state.now c.args.root c.requires.can call due told (knows h o c.args.writer.now.token) c.args.i c.requires.slot (λ e. omega (arith, e, c.word_in.ensures, c.if-word_in-ne-FULL.true)) copies

pub first_empty-to-requires-clause-length : goal.first_empty-to-requires-clause-length
first_empty-to-requires-clause-length g c = ap length c.deref.ensures.value ∙ (c.requires.due.4.is_copying.long ∙ sym (four (log_of c.args.root)))

pub first_empty-to-requires-clause-empty : goal.first_empty-to-requires-clause-empty
first_empty-to-requires-clause-empty g c =
    let s = c.args.state.now in let n : ℕ = 2 ^ log_of c.args.root in
    let hole = some_empty (view_of s.words.items).state (view_of s.spare.items).state c.args.i (2 ^ log_of s.root) n c.requires.slot c.requires.due.4.is_copying.as_many c.requires.can.room in
    subst (λ (xs : List ℕ). (e : ℕ) × (e < 2 ^ log_of c.args.root) × ((view_of xs).state e ≡ 0)) (sym c.deref.ensures.value) hole

pub store_pair-requires-clause-slot : goal.store_pair-requires-clause-slot
store_pair-requires-clause-slot g c = (found g (goal.at.store_pair-requires-clause-slot g c).After-first_empty-to).inside

pub store_pair-requires-clause-due : goal.store_pair-requires-clause-due
store_pair-requires-clause-due g c =
    let h = host g.D.Client.meaning g.D.Within.place g.D.Within.part in let o = c.args.domain.now.origin in let d = c.requires.due in
    let at = (goal.at.store_pair-requires-clause-due g c).After-first_empty-to in (
      _,
      d.4.at.local,
      slot_may (base_of (inner h o)) (first h o) (inner h o).config.client d.0 c.args.state.now c.args.root c.requires.can d.1 d.2 d.3 (knows h o c.args.writer.now.token) c.args.i c.first_empty-to.result c.requires.slot (full g at) d.4
          (c.word_in-low.result, (c.word_in-high.result, c.word_in-value.result)) (λ z. (sym c.word_in-low.ensures z, (sym c.word_in-high.ensures z, sym c.word_in-value.ensures z))) (c.word_in-low.type_inv, found g at),
    )

pub returns-clause-steps : goal.returns-clause-steps
returns-clause-steps g c = (pair_steps (lies (host g.D.Client.meaning g.D.Within.place g.D.Within.part) c.args.domain.now.origin) c.args.root c.first_empty-to.result c.word_in-low.result c.word_in-high.result c.word_in-value.result, c.store_pair.ensures.steps)

pub returns-clause-at : goal.returns-clause-at
returns-clause-at g c p call due told copies =
    let h = host g.D.Client.meaning g.D.Within.place g.D.Within.part in let o = c.args.domain.now.origin in
    let at = (goal.at.returns-clause-at g c).After-first_empty-to in
    subst (λ spare. CopiesAt (counters_in h o) (lies h o) (knows h o c.store_pair.new.writer.token) p call due told (record c.args.state.now { spare = spare }) c.args.root (c.args.i + 1)) (sym c.put_pair.ensures)
    (slot_then (base_of (inner h o)) (first h o) (inner h o).config.client p c.args.state.now c.args.root c.requires.can call due told (knows h o c.args.writer.now.token) c.args.i c.first_empty-to.result c.requires.slot (full g at) copies
    (c.word_in-low.result, (c.word_in-high.result, c.word_in-value.result)) (λ z. (sym c.word_in-low.ensures z, (sym c.word_in-high.ensures z, sym c.word_in-value.ensures z))) (c.word_in-low.type_inv, found g at) (knows h o c.store_pair.new.writer.token) c.store_pair.ensures.steps.knows_now)

pub put_pair-requires : goal.put_pair-requires
put_pair-requires g c = let fits = room g (goal.at.put_pair-requires g c).After-first_empty-to in record { slot = fits.0; few = fits.1 }
