use Rattle.std.proofs.Common.{◌≡◌, ◌≤◌, ◌+◌, ◌*◌, ℕ, ⊎_elim, length, rules, true≢false, sym, ap, ◌∙◌}
use Rattle.std.specs.FinSet as set
use Rattle.ck_words.specs.Buddies.{Piece, piece, piece_cmp, IsPieceOut}
use Rattle.std.specs.Prelude.{vec_capacity}
use Rattle.ck_htlaw.specs.Layout.{arena, counters_of}
use Rattle.ck_htwrite.specs.State.{most_words}
use Rattle.ck_htwrite.proofs.Openings.{opening_kept, opening_shape, still_of_table, new_of_table}
use Rattle.ck_htwrite.proofs.state.HtState.new.Goals as goal
use Rattle.ck_htwrite.proofs.state.HtState.new.Goals.{In_ok-vec}

-- the first region is at the arena's start
at_first : (c : In_ok-vec) → c.in-Some.at ≡ arena (counters_of c.args.client.now)
at_first c = c.in-Some.ensures.first (ap (λ a. a.out) c.in_ok-arena.ensures) ∙ (ap (λ a. a.first) c.in_ok-arena.ensures ∙ ap (λ (k : ℕ). 1 + k) c.counter_count-counters.ensures.count)

pub returns-clause-shape : goal.returns-clause-shape
returns-clause-shape c =
    let n = counters_of c.args.client.now in
    let some : 1 ≤ n = search rules in
    let small : n ≤ 524288 = search rules in
    let long : length c.resize.new.self.items ≡ 32 = search rules in
    let many : length c.in_ok-vec.field-0.items ≡ n = search rules in
    let room : most_words n ≤ vec_capacity c.resize.new.self = search rules in
    let other : most_words n ≤ vec_capacity c.in_ok-spare.spare = search rules in
    opening_shape n _ some small (ap (λ (k : ℕ). 32 * k + 3) (at_first c)) long many room other

pub returns-clause-arena : goal.returns-clause-arena
returns-clause-arena c place =
    let n = counters_of c.args.client.now in
    opening_kept n place c.in-Some.at c.take.new.self
    (still_of_table n c.in_ok-arena.arena c.take.new.self _ c.in-Some.ensures.after (new_of_table n _ _ c.in_ok-arena.arena c.in_ok-arena.ensures c.counter_count-counters.ensures.count c.arena_log.ensures.long))
    (at_first c) c.in-Some.ensures.is_out alone
  where
    alone : (p : Piece) → IsPieceOut c.take.new.self p → p ≡ piece c.in-Some.at 5
    alone p out = ⊎_elim (λ e. e) (λ (old : IsPieceOut c.in_ok-arena.arena p). absurd (true≢false (sym old ∙ (ap (λ a. set.contains a.out p) c.in_ok-arena.ensures ∙ set.contains-empty piece_cmp p)))) ((c.in-Some.ensures.adds p).0 out)
