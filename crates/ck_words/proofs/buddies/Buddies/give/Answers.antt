use Rattle.std.proofs.Common.{arith, ◌≡◌, ◌+◌, ◌^◌, ◌<◌, length, slice_index, subst, sym, refl, ap, ◌∙◌}
use Rattle.std.proofs.lemmas.List.{with_items_is}
use Rattle.std.specs.FinSet as set
use Rattle.std.specs.Vec.{with_items}
use Rattle.ck_words.specs.Tree.{PutsBack}
use Rattle.ck_words.specs.Buddies.{ArePiecesApart, IsArenaOf, piece, arena_of, with_pieces_out, DropsPiece}
use Rattle.ck_words.proofs.Members.{drops}
use Rattle.ck_words.proofs.Arenas.{out_seen, arena_apart, free_fits, node_of_out, IsGiven, given}
use Rattle.ck_words.proofs.buddies.Buddies.give.Goals as goal
use Rattle.ck_words.proofs.buddies.Buddies.give.Goals.{After-self-2-1}

pub node_of-node-requires-clause-piece : goal.node_of-node-requires-clause-piece
node_of-node-requires-clause-piece c =
    (node_of_out _ _ _ _ _ c.self.invariant (piece c.args.at c.args.log) _ (out_seen _ _ _ _ _ c.self.view_is (piece c.args.at c.args.log) c.requires) refl).most

pub node_of-node-requires-clause-from : goal.node_of-node-requires-clause-from
node_of-node-requires-clause-from c =
    (node_of_out _ _ _ _ _ c.self.invariant (piece c.args.at c.args.log) _ (out_seen _ _ _ _ _ c.self.view_is (piece c.args.at c.args.log) c.requires) refl).from

pub node_of-node-requires-clause-to : goal.node_of-node-requires-clause-to
node_of-node-requires-clause-to c =
    (node_of_out _ _ _ _ _ c.self.invariant (piece c.args.at c.args.log) _ (out_seen _ _ _ _ _ c.self.view_is (piece c.args.at c.args.log) c.requires) refl).to

pub put_back-requires-clause-positive : goal.put_back-requires-clause-positive
put_back-requires-clause-positive c =
    (node_of_out _ _ _ _ _ c.self.invariant (piece c.args.at c.args.log) c.node_of-node.result (out_seen _ _ _ _ _ c.self.view_is (piece c.args.at c.args.log) c.requires) c.node_of-node.ensures).positive

pub put_back-requires-clause-in_tree : goal.put_back-requires-clause-in_tree
put_back-requires-clause-in_tree c =
    subst (λ h. c.node_of-node.result < length h) (sym c.deref_mut.ensures.value)
    (node_of_out _ _ _ _ _ c.self.invariant (piece c.args.at c.args.log) c.node_of-node.result (out_seen _ _ _ _ _ c.self.view_is (piece c.args.at c.args.log) c.requires) c.node_of-node.ensures).within

pub put_back-requires-clause-is_out : goal.put_back-requires-clause-is_out
put_back-requires-clause-is_out c =
    subst (λ h. slice_index h c.node_of-node.result ≡ 26) (sym c.deref_mut.ensures.value)
    (node_of_out _ _ _ _ _ c.self.invariant (piece c.args.at c.args.log) c.node_of-node.result (out_seen _ _ _ _ _ c.self.view_is (piece c.args.at c.args.log) c.requires) c.node_of-node.ensures).out

pub words_of-requires : goal.words_of-requires
words_of-requires c =
    let at = node_of_out _ _ _ _ _ c.self.invariant (piece c.args.at c.args.log) c.node_of-node.result (out_seen _ _ _ _ _ c.self.view_is (piece c.args.at c.args.log) c.requires) c.node_of-node.ensures in
    let most = at.most in
    let bound = c.self.invariant.most in
    omega arith

given_here : (c : After-self-2-1) → let inside = c.self.inside in IsGiven inside.first inside.log_len inside.log_min inside.free inside.halvings.items c.self.invariant c.put_back.new.halvings (piece c.args.at c.args.log)
given_here c =
    let inside = c.self.inside in
    let p = piece c.args.at c.args.log in
    let is_out = out_seen _ _ _ _ _ c.self.view_is p c.requires in
    given inside.first inside.log_len inside.log_min inside.free inside.halvings.items c.self.invariant
    p c.node_of-node.result c.put_back.new.halvings is_out
    (node_of_out inside.first inside.log_len inside.log_min inside.free inside.halvings.items c.self.invariant p c.node_of-node.result is_out c.node_of-node.ensures).range
    c.put_back.ensures.consistent
    (c.put_back.auto.halvings ∙ ap length c.deref_mut.ensures.value)
    (subst (λ h. PutsBack h c.put_back.new.halvings c.node_of-node.result) c.deref_mut.ensures.value c.put_back.ensures.out)

items_are : (c : After-self-2-1) → (with_items c.self.inside.halvings c.put_back.new.halvings).items ≡ c.put_back.new.halvings
items_are c = with_items_is c.self.inside.halvings c.put_back.new.halvings (c.put_back.auto.halvings ∙ ap length c.deref_mut.ensures.value ∙ sym c.self.inside.halvings.ok.0)

pub overflow_add-self : goal.overflow_add-self
overflow_add-self c =
    let inside = c.self.inside in
    let at = node_of_out _ _ _ _ _ c.self.invariant (piece c.args.at c.args.log) c.node_of-node.result (out_seen _ _ _ _ _ c.self.view_is (piece c.args.at c.args.log) c.requires) c.node_of-node.ensures in
    let sum = free_fits inside.first inside.log_len inside.log_min inside.free inside.halvings.items c.self.invariant c.args.log at.most in
    let fits : inside.free + c.words_of.result < 2 ^ 64 = subst (λ n. inside.free + n < 2 ^ 64) (sym c.words_of.ensures) sum in
    omega arith

pub invariant_of-self : goal.invariant_of-self
invariant_of-self c =
    let inside = c.self.inside in
    subst (λ h. IsArenaOf inside.first inside.log_len inside.log_min (inside.free + c.words_of.result) h) (sym (items_are c))
    (subst (λ n. IsArenaOf inside.first inside.log_len inside.log_min (inside.free + n) c.put_back.new.halvings) (sym c.words_of.ensures) (given_here c).is_arena)

pub returns-clause-after : goal.returns-clause-after
returns-clause-after c =
    let inside = c.self.inside in
    ap (arena_of inside.first inside.log_len inside.log_min) (items_are c)
    ∙ (given_here c).is_out
    ∙ ap (λ a. with_pieces_out a (set.remove a.out (piece c.args.at c.args.log))) c.self.view_is

pub returns-clause-drops : goal.returns-clause-drops
returns-clause-drops c = subst (λ b. DropsPiece c.args.self.now b (piece c.args.at c.args.log)) (sym (returns-clause-after c)) (drops c.args.self.now (piece c.args.at c.args.log))

pub returns-clause-apart : goal.returns-clause-apart
returns-clause-apart c =
    let inside = c.self.inside in
    subst (λ h. ArePiecesApart (arena_of inside.first inside.log_len inside.log_min h)) (sym (items_are c)) (arena_apart inside.first inside.log_len inside.log_min _ c.put_back.new.halvings (given_here c).is_arena)
