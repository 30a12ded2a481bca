use Rattle.std.proofs.Common.{ℕ, ◌+◌, ◌*◌, ◌^◌, ◌<◌, ◌≤◌, length, sym, subst, arith, rules}
use Rattle.std.proofs.Math.Nat.{pow-le-pow_right}
use Rattle.ck_words.specs.Buddies.{Piece, IsFree, IsPieceOut}
use Rattle.ck_htwrite.proofs.Taking.{log_fits, is_root, log_is, piece_is}
use Rattle.ck_htwrite.proofs.state.HtState.take.Goals as goal

pub take-requires-clause-most : goal.take-requires-clause-most
take-requires-clause-most c =
    let n : ℕ = length c.args.self.now.counters.items in let most = c.requires.most in
    let two : 0 < 2 = omega arith in let least : c.args.log + 2 ≤ 21 = omega arith in
    let b : 2 ^ (c.args.log + 2) ≤ 2 ^ 21 = pow-le-pow_right two least in
    let short : 2 ^ (c.args.log + 2) ≤ 32 * n = search rules in
    log_fits n (c.args.log + 2) c.args.self.now.arena c.requires.table short

pub returns-clause-root : goal.returns-clause-root
returns-clause-root c =
    let n : ℕ = length c.args.self.now.counters.items in
    (is_root n c.in-Some.at c.args.log c.requires.least c.requires.most c.args.self.now.arena c.requires.table c.in-Some.ensures.placed, log_is n c.in-Some.at c.args.log c.requires.least c.requires.most)

pub returns-clause-free : goal.returns-clause-free
returns-clause-free c =
    let n : ℕ = length c.args.self.now.counters.items in let a = c.args.self.now.arena in
    subst (λ (p : Piece). IsFree a p × (IsPieceOut a p → ⊥)) (sym (piece_is n c.in-Some.at c.args.log c.requires.least c.requires.most)) (c.in-Some.ensures.was_free, c.in-Some.ensures.is_new)
