use Rattle.std.proofs.Common.{arith, ◌≡◌, ◌-◌, ◌*◌, ◌^◌, ◌<◌, ◌≤◌, length, slice_index, subst, sym, refl, ap, ◌∙◌, true≢false, inl}
use Rattle.std.proofs.lemmas.List.{with_items_is}
use Rattle.std.proofs.lemmas.Grind.{get_or_default_zero}
use Rattle.std.proofs.lemmas.Nat.{pow_pos}
use Rattle.std.specs.FinSet as set
use Rattle.std.specs.Vec.{with_items}
use Rattle.ck_words.specs.Buddies.{ArePiecesApart, IsAlignedIn, IsFree, IsArenaOf, HasWordOut, piece, arena_of, with_pieces_out, AddsPiece}
use Rattle.ck_words.proofs.Members.{adds}
use Rattle.ck_words.proofs.Arenas.{at_least, at_most, arena_apart, row_tall, row_from, row_to, row_in_tree, IsTaken, taken_row, row_enough, none_where_full, none_where_empty, whole_where_empty, leftmost_place, not_out_of_free}
use Rattle.ck_words.proofs.buddies.Buddies.take.Goals as goal
use Rattle.ck_words.proofs.buddies.Buddies.take.Goals.{After-place_of}

pub overflow_sub-depth : goal.overflow_sub-depth
overflow_sub-depth c = at_most _ _ _ _ _ c.self.view_is c.args.log c.requires.most

pub returns-then-from-depth-clause-none : goal.returns-then-from-depth-clause-none
returns-then-from-depth-clause-none c =
    let inside = c.self.inside in
    let nodes = c.self.invariant.nodes in
    let positive = pow_pos (inside.log_len - inside.log_min) in
    let two : 1 < length inside.halvings.items = omega arith in
    let value : slice_index inside.halvings.items 1 ≡ c.from.result = sym (c.from.ensures ∙ c.index.ensures ∙ get_or_default_zero inside.halvings.items 1 c.index.result.now two) in
    let none = none_where_full inside.first inside.log_len inside.log_min inside.free inside.halvings.items c.self.invariant c.args.log (at_least _ _ _ _ _ c.self.view_is c.args.log c.requires.least) (at_most _ _ _ _ _ c.self.view_is c.args.log c.requires.most) (subst (λ n. inside.log_len - c.args.log < n) (sym value) c.if-from-depth.true) in
    (λ _ at. subst (λ a. IsAlignedIn a (piece at c.args.log) → HasWordOut a (piece at c.args.log)) c.self.view_is (none at), λ _. refl)

pub returns-then-from-depth-clause-whole : goal.returns-then-from-depth-clause-whole
returns-then-from-depth-clause-whole c =
    λ empty. absurd (none_where_empty c.args.self.now c.args.log c.requires.most empty ((returns-then-from-depth-clause-none c).0 refl))

pub returns-then-from-depth-clause-apart : goal.returns-then-from-depth-clause-apart
returns-then-from-depth-clause-apart c =
    let inside = c.self.inside in
    subst ArePiecesApart c.self.view_is (arena_apart inside.first inside.log_len inside.log_min inside.free inside.halvings.items c.self.invariant)

pub returns-then-from-depth-clause-first : goal.returns-then-from-depth-clause-first
returns-then-from-depth-clause-first c =
    λ empty. absurd (none_where_empty c.args.self.now c.args.log c.requires.most empty ((returns-then-from-depth-clause-none c).0 refl))

pub descend-node-requires-clause-tall : goal.descend-node-requires-clause-tall
descend-node-requires-clause-tall c =
    let inside = c.self.inside in
    let tall = row_tall inside.first inside.log_len inside.log_min inside.free inside.halvings.items c.self.invariant c.args.log (at_least _ _ _ _ _ c.self.view_is c.args.log c.requires.least) (at_most _ _ _ _ _ c.self.view_is c.args.log c.requires.most) in
    subst (λ h. 2 * 2 ^ (inside.log_len - c.args.log) ≤ length h) (sym c.deref.ensures.value) tall

pub take_out-requires-clause-in_tree : goal.take_out-requires-clause-in_tree
take_out-requires-clause-in_tree c =
    let inside = c.self.inside in
    subst (λ h. c.descend-node.result < length h) (sym c.deref_mut.ensures.value) (row_in_tree inside.first inside.log_len inside.log_min inside.free inside.halvings.items c.self.invariant c.args.log c.descend-node.result (at_least _ _ _ _ _ c.self.view_is c.args.log c.requires.least) (at_most _ _ _ _ _ c.self.view_is c.args.log c.requires.most) c.descend-node.ensures.from c.descend-node.ensures.to)

pub words_of-requires : goal.words_of-requires
words_of-requires c =
    let at = at_most _ _ _ _ _ c.self.view_is c.args.log c.requires.most in
    let bound = c.self.invariant.most in
    omega arith

pub place_of-requires-clause-piece : goal.place_of-requires-clause-piece
place_of-requires-clause-piece c = at_most _ _ _ _ _ c.self.view_is c.args.log c.requires.most

pub place_of-requires-clause-from : goal.place_of-requires-clause-from
place_of-requires-clause-from c = let inside = c.self.inside in row_from inside.first inside.log_len inside.log_min inside.free inside.halvings.items c.self.invariant c.args.log c.descend-node.result (at_least _ _ _ _ _ c.self.view_is c.args.log c.requires.least) (at_most _ _ _ _ _ c.self.view_is c.args.log c.requires.most) c.descend-node.ensures.from c.descend-node.ensures.to

pub place_of-requires-clause-to : goal.place_of-requires-clause-to
place_of-requires-clause-to c = let inside = c.self.inside in row_to inside.first inside.log_len inside.log_min inside.free inside.halvings.items c.self.invariant c.args.log c.descend-node.result (at_least _ _ _ _ _ c.self.view_is c.args.log c.requires.least) (at_most _ _ _ _ _ c.self.view_is c.args.log c.requires.most) c.descend-node.ensures.from c.descend-node.ensures.to

taken_here : (c : After-place_of) → let inside = c.self.inside in IsTaken inside.first inside.log_len inside.log_min inside.free inside.halvings.items c.self.invariant c.take_out.new.halvings (piece c.place_of.result c.args.log)
taken_here c =
    let inside = c.self.inside in
    taken_row inside.first inside.log_len inside.log_min inside.free inside.halvings.items c.self.invariant
    c.args.log c.descend-node.result c.place_of.result c.deref.result.now c.deref_mut.result.now c.take_out.new.halvings
    (at_least _ _ _ _ _ c.self.view_is c.args.log c.requires.least)
    (at_most _ _ _ _ _ c.self.view_is c.args.log c.requires.most)
    c.descend-node.ensures.from c.descend-node.ensures.to c.place_of.ensures
    c.deref.ensures.value c.descend-node.ensures.whole c.descend-node.ensures.path
    c.deref_mut.ensures.value c.take_out.ensures.consistent c.take_out.auto.halvings c.take_out.ensures.out

items_are : (c : After-place_of) → (with_items c.self.inside.halvings c.take_out.new.halvings).items ≡ c.take_out.new.halvings
items_are c = with_items_is c.self.inside.halvings c.take_out.new.halvings (c.take_out.auto.halvings ∙ ap length c.deref_mut.ensures.value ∙ sym c.self.inside.halvings.ok.0)

pub overflow_sub-self : goal.overflow_sub-self
overflow_sub-self c =
    let inside = c.self.inside in
    subst (λ n. n ≤ inside.free) (sym c.words_of.ensures)
    (row_enough inside.first inside.log_len inside.log_min inside.free inside.halvings.items c.self.invariant
    c.args.log c.descend-node.result c.deref.result.now c.deref_mut.result.now c.take_out.new.halvings
    (at_least _ _ _ _ _ c.self.view_is c.args.log c.requires.least)
    (at_most _ _ _ _ _ c.self.view_is c.args.log c.requires.most)
    c.descend-node.ensures.from c.descend-node.ensures.to
    c.deref.ensures.value c.descend-node.ensures.whole c.descend-node.ensures.path
    c.deref_mut.ensures.value c.take_out.ensures.consistent c.take_out.auto.halvings c.take_out.ensures.out)

pub invariant_of-self : goal.invariant_of-self
invariant_of-self c =
    let inside = c.self.inside in
    let is = (taken_here c).is_arena in
    subst (λ h. IsArenaOf inside.first inside.log_len inside.log_min (inside.free - c.words_of.result) h) (sym (items_are c))
    (subst (λ n. IsArenaOf inside.first inside.log_len inside.log_min (inside.free - n) c.take_out.new.halvings) (sym c.words_of.ensures) is)

pub returns-clause-placed : goal.returns-clause-placed
returns-clause-placed c = subst (λ a. IsAlignedIn a (piece c.place_of.result c.args.log)) c.self.view_is (taken_here c).placed

pub returns-clause-was_free : goal.returns-clause-was_free
returns-clause-was_free c = subst (λ a. IsFree a (piece c.place_of.result c.args.log)) c.self.view_is (taken_here c).was_free

pub returns-clause-is_new : goal.returns-clause-is_new
returns-clause-is_new c = not_out_of_free c.args.self.now (piece c.place_of.result c.args.log) (returns-clause-was_free c)

pub returns-clause-after : goal.returns-clause-after
returns-clause-after c =
    let inside = c.self.inside in
    ap (arena_of inside.first inside.log_len inside.log_min) (items_are c)
    ∙ (taken_here c).is_out
    ∙ ap (λ a. with_pieces_out a (set.insert a.out (piece c.place_of.result c.args.log))) c.self.view_is

pub returns-clause-adds : goal.returns-clause-adds
returns-clause-adds c = subst (λ b. AddsPiece c.args.self.now b (piece c.place_of.result c.args.log)) (sym (returns-clause-after c)) (adds c.args.self.now (piece c.place_of.result c.args.log))

pub returns-clause-is_out : goal.returns-clause-is_out
returns-clause-is_out c = (returns-clause-adds c (piece c.place_of.result c.args.log)).1 (inl refl)

pub returns-clause-none : goal.returns-clause-none
returns-clause-none c = (λ e. absurd (true≢false e), λ none. let has = none c.place_of.result (returns-clause-placed c) in absurd (returns-clause-was_free c has.0 has.1.0 has.1.1))

pub returns-clause-apart : goal.returns-clause-apart
returns-clause-apart c =
    let inside = c.self.inside in
    subst (λ h. ArePiecesApart (arena_of inside.first inside.log_len inside.log_min h)) (sym (items_are c)) (arena_apart inside.first inside.log_len inside.log_min _ c.take_out.new.halvings (taken_here c).is_arena)

-- where nothing is out, the whole arena is free, so the way down goes to the first node of its row
pub returns-clause-first : goal.returns-clause-first
unfolding arena_of
returns-clause-first c empty =
    let inside = c.self.inside in let h = inside.halvings.items in
    let same : arena_of inside.first inside.log_len inside.log_min h ≡ c.args.self.now = c.self.view_is in
    let free : slice_index h 1 ≡ 0 = whole_where_empty inside.first inside.log_len inside.log_min inside.free h c.self.invariant (ap (λ a. a.out) same ∙ empty) in
    let low : slice_index c.deref.result.now 1 ≡ 0 = ap (λ l. slice_index l 1) c.deref.ensures.value ∙ free in
    let node : c.descend-node.result ≡ 2 ^ (inside.log_len - c.args.log) = c.descend-node.ensures.leftmost low in
    leftmost_place inside.first inside.log_len c.args.log c.place_of.result c.descend-node.result (at_most _ _ _ _ _ c.self.view_is c.args.log c.requires.most) node c.place_of.ensures ∙ ap (λ a. a.first) same
