use Rattle.std.proofs.Common.{arith, ◌≡◌, ℕ, suc, slice_index, ◌+◌, ◌-◌, ◌*◌, ◌<◌, length, refl, sym, ap, subst, ◌∙◌, true≢false, inl}
use Rattle.std.proofs.lemmas.Grind.{get_or_default_zero}
use Rattle.std.specs.FinSet as set
use Rattle.ck_words.specs.Blocks.{IsBlockOut, IsBlock, AreBlocksApart, IsBlocksOf, blocks_of, with_blocks_out, AddsBlock}
use Rattle.ck_words.proofs.FreeBlocks.{all_out, taken_placed, taken_was_free, taken_out, taken_is, blocks_apart, adds}
use Rattle.ck_words.proofs.blocks.Blocks.take.Goals as goal
use Rattle.ck_words.proofs.blocks.Blocks.take.Goals.{After-from}

pub returns-then-self-eq0-clause-none : goal.returns-then-self-eq0-clause-none
returns-then-self-eq0-clause-none c =
    (λ _. subst (λ a. (at : ℕ) → IsBlock a at → IsBlockOut a at) c.self.view_is (all_out c.self.inside.numbers.items c.self.inside.free c.self.inside.first c.if-self-eq0.true), λ _. refl)

pub returns-then-self-eq0-clause-apart : goal.returns-then-self-eq0-clause-apart
returns-then-self-eq0-clause-apart c = subst AreBlocksApart c.self.view_is (blocks_apart _ _ _)

-- some number is free
one_less : (free : ℕ) → (free ≡ 0 → ⊥) → free ≡ suc (free - 1)
one_less free some = omega arith

is_before : (c : After-from) → IsBlocksOf c.self.inside.first (suc (c.self.inside.free - 1)) c.self.inside.numbers.items
is_before c = subst (λ n. IsBlocksOf c.self.inside.first n c.self.inside.numbers.items) (one_less c.self.inside.free c.if-self-eq0.false) c.self.invariant

view_before : (c : After-from) → blocks_of c.self.inside.first (suc (c.self.inside.free - 1)) c.self.inside.numbers.items ≡ c.args.self.now
view_before c = ap (λ n. blocks_of c.self.inside.first n c.self.inside.numbers.items) (sym (one_less c.self.inside.free c.if-self-eq0.false)) ∙ c.self.view_is

place_is : (c : After-from) → c.self.inside.first + 8 * c.from.result ≡ c.self.inside.first + 8 * slice_index c.self.inside.numbers.items (c.self.inside.free - 1)
place_is c =
    let free_le = c.self.invariant.free_le in
    let some = one_less c.self.inside.free c.if-self-eq0.false in
    let within : c.self.inside.free - 1 < length c.self.inside.numbers.items = omega (arith, free_le, some) in
    ap (λ n. c.self.inside.first + 8 * n) (c.from.ensures ∙ c.index.ensures ∙ get_or_default_zero c.self.inside.numbers.items (c.self.inside.free - 1) c.index.result.now within)

pub invariant_of-self : goal.invariant_of-self
invariant_of-self c = taken_is c.self.inside.first (c.self.inside.free - 1) c.self.inside.numbers.items (is_before c) _ (place_is c)

pub returns-clause-placed : goal.returns-clause-placed
returns-clause-placed c = subst (λ a. IsBlock a (c.self.inside.first + 8 * c.from.result)) (view_before c) (taken_placed c.self.inside.first (c.self.inside.free - 1) c.self.inside.numbers.items (is_before c) _ (place_is c))

pub returns-clause-was_free : goal.returns-clause-was_free
returns-clause-was_free c = subst (λ a. ¬ IsBlockOut a (c.self.inside.first + 8 * c.from.result)) (view_before c) (taken_was_free c.self.inside.first (c.self.inside.free - 1) c.self.inside.numbers.items (is_before c) _ (place_is c))

pub returns-clause-after : goal.returns-clause-after
returns-clause-after c =
    taken_out c.self.inside.first (c.self.inside.free - 1) c.self.inside.numbers.items (is_before c) _ (place_is c)
    ∙ ap (λ a. with_blocks_out a (set.insert a.out (c.self.inside.first + 8 * c.from.result))) (view_before c)

pub returns-clause-adds : goal.returns-clause-adds
returns-clause-adds c = subst (λ b. AddsBlock c.args.self.now b (c.self.inside.first + 8 * c.from.result)) (sym (returns-clause-after c)) (adds c.args.self.now (c.self.inside.first + 8 * c.from.result))

pub returns-clause-is_out : goal.returns-clause-is_out
returns-clause-is_out c = (returns-clause-adds c (c.self.inside.first + 8 * c.from.result)).1 (inl refl)

pub returns-clause-none : goal.returns-clause-none
returns-clause-none c = (λ e. absurd (true≢false e), λ all. absurd (returns-clause-was_free c (all _ (returns-clause-placed c))))

pub returns-clause-apart : goal.returns-clause-apart
returns-clause-apart c = blocks_apart _ _ _
