use Rattle.std.proofs.Common.{sym, ap, ◌∙◌, subst}
use Rattle.ck_words.specs.Buddies.{with_pieces_out}
use Rattle.ck_epoch.specs.State.{state}
use Rattle.ck_arena.specs.Arena.{unreturned, AreBacks, KeepsAll}
use Rattle.ck_arena.proofs.Backs.{next_is, one_given}
use Rattle.ck_arena.proofs.returning.give_back.Goals as goal

pub give-requires : goal.give-requires
give-requires g c =
    let o = c.args.domain.now.origin in let w = c.args.writer.now in let l = c.loop-back in let oldest = c.in-Some.ensures.oldest in let home = g.C.Client.meaning.home o.config.client in let kept = c.requires.kept in
    (one_given home (g.P.Pieces.is_item o) (g.P.Pieces.place o) kept.0 (state w.token) c.in-Some.back c.next_back.new.writer.waiting l.arena c.requires.home (subst (AreBacks home (state w.token)) oldest l.invariant.backs)
    (subst (λ ws. KeepsAll (g.P.Pieces.is_item o) (g.P.Pieces.place o) kept.0 (unreturned (state w.token) ws) l.arena) oldest (l.invariant.kept kept.0 kept.1))).0

pub loop-back-preserved : goal.loop-back-preserved
loop-back-preserved g c =
    let o = c.args.domain.now.origin in let w = c.args.writer.now in let l = c.loop-back in let oldest = c.in-Some.ensures.oldest in let home = g.C.Client.meaning.home o.config.client in let ws = c.next_back.new.writer.waiting in
    let backs = subst (AreBacks home (state w.token)) oldest l.invariant.backs in
    record {
      made = c.next_back.ensures.same ∙ (λ i. record (l.invariant.made i) { waiting = ws });
      backs = (next_is home (state w.token) c.in-Some.back ws backs).3;
      arena = c.give.ensures.after ∙ (λ i. with_pieces_out (l.invariant.arena i) (sym (ap (λ a. a.out) c.give.ensures.after) i));
      kept = λ present kept.
          (one_given home (g.P.Pieces.is_item o) (g.P.Pieces.place o) present (state w.token) c.in-Some.back ws l.arena c.requires.home backs (subst (λ ws. KeepsAll (g.P.Pieces.is_item o) (g.P.Pieces.place o) present (unreturned (state w.token) ws) l.arena) oldest (l.invariant.kept present kept))).1
          c.give.new.self c.give.ensures.after;
    }
