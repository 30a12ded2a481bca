use Rattle.std.proofs.Common.{◌∙◌, ap, sym, refl, [], ◌∷◌, ◌++◌, rules, All, ◌<◌, ℕ}
use Rattle.std.proofs.lemmas.Grind.{common_steps}
use Rattle.std.proofs.lemmas.List.{append-nil}
use Rattle.ck_history.specs.declared.event.WriterEvent.TheVariants.{Told}
use Rattle.ck_pool.proofs.Running.{one_more_answer_load}
use Rattle.ck_pool.proofs.updates.hold_for.Goals as goal

pub loop-init : goal.loop-init
loop-init g c = record {
  ready = c.requires.ready;
  calls = refl;
  done = ([], sym (append-nil ((g.D.Dict.hands c.args.context.now.dict.now).done c.args.hand.now)), search (rules, common_steps));
}

pub loop-preserved : goal.loop-preserved
loop-preserved g c =
    let ms = c.loop.invariant.done.0 in
    let m = c.answered.result in
    let below : All (λ (k : ℕ). k < c.args.n) ms = c.loop.invariant.done.2 in
    let lt : m < c.args.n = c.if-answered-n.false in
    let all : All (λ (k : ℕ). k < c.args.n) (ms ++ m ∷ []) = search (rules, common_steps) in
    record {
      ready = c.answered.ensures.ready;
      calls = c.answered.ensures.calls ∙ c.loop.invariant.calls;
      done = (ms ++ m ∷ [], c.answered.ensures.done ∙ (ap (λ l. l ++ Told c.args.reader m ∷ []) c.loop.invariant.done.1 ∙ one_more_answer_load ((g.D.Dict.hands c.args.context.now.dict.now).done c.args.hand.now) c.args.reader m ms), all);
    }
