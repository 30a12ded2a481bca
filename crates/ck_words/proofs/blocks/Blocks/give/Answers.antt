use Rattle.std.proofs.Common.{arith, ◌≡◌, ℕ, suc, List, slice_set, ◌+◌, ◌-◌, ◌/◌, refl, sym, ap, subst, ◌∙◌}
use Rattle.std.specs.FinSet as set
use Rattle.ck_words.specs.Blocks.{BlockArena, IsBlockOut, IsBlocksOf, blocks_of, with_blocks_out, DropsBlock}
use Rattle.ck_words.proofs.FreeBlocks.{given_from, given_small, given_room, given_back, given_is, blocks_apart, drops}
use Rattle.ck_words.proofs.blocks.Blocks.give.Goals as goal

-- the block is out of the arena that the fields stand for
seen_out : (first free : ℕ) (numbers : List ℕ) (a : BlockArena) → blocks_of first free numbers ≡ a → (at : ℕ) → IsBlockOut a at → IsBlockOut (blocks_of first free numbers) at
seen_out first free numbers a view at is_out = subst (λ x. IsBlockOut x at) (sym view) is_out

pub overflow_sub-at : goal.overflow_sub-at
overflow_sub-at c = given_from c.self.inside.first c.self.inside.free c.self.inside.numbers.items c.self.invariant c.args.at (seen_out _ _ _ _ c.self.view_is c.args.at c.requires)

pub overflow_cast-at : goal.overflow_cast-at
overflow_cast-at c =
    let small = given_small c.self.inside.first c.self.inside.free c.self.inside.numbers.items c.self.invariant c.args.at (seen_out _ _ _ _ c.self.view_is c.args.at c.requires) in
    let place = c.self.invariant.place in
    omega arith

pub index_mut-requires : goal.index_mut-requires
index_mut-requires c =
    let room = given_room c.self.inside.first c.self.inside.free c.self.inside.numbers.items c.self.invariant c.args.at (seen_out _ _ _ _ c.self.view_is c.args.at c.requires) in
    let long = c.self.inside.numbers.ok.0 in
    omega arith

pub invariant_of-self : goal.invariant_of-self
invariant_of-self c =
    let inside = c.self.inside in
    let more : suc inside.free ≡ inside.free + 1 = omega arith in
    let written = slice_set inside.numbers.items inside.free ((c.args.at - inside.first) / 8) in
    subst (λ n. IsBlocksOf inside.first n written) more
    (given_is inside.first inside.free inside.numbers.items c.self.invariant c.args.at (seen_out _ _ _ _ c.self.view_is c.args.at c.requires) ((c.args.at - inside.first) / 8) refl)

pub returns-clause-after : goal.returns-clause-after
returns-clause-after c =
    let inside = c.self.inside in
    let more : inside.free + 1 ≡ suc inside.free = omega arith in
    let written = slice_set inside.numbers.items inside.free ((c.args.at - inside.first) / 8) in
    ap (λ n. blocks_of inside.first n written) more
    ∙ given_back inside.first inside.free inside.numbers.items c.self.invariant c.args.at (seen_out _ _ _ _ c.self.view_is c.args.at c.requires) ((c.args.at - inside.first) / 8) refl
    ∙ ap (λ a. with_blocks_out a (set.remove a.out c.args.at)) c.self.view_is

pub returns-clause-drops : goal.returns-clause-drops
returns-clause-drops c = subst (λ b. DropsBlock c.args.self.now b c.args.at) (sym (returns-clause-after c)) (drops c.args.self.now c.args.at)

pub returns-clause-apart : goal.returns-clause-apart
returns-clause-apart c = blocks_apart _ _ _
