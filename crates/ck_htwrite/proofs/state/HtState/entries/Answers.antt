use Rattle.std.proofs.Common.{◌≡◌, ◌^◌, ◌∙◌}
use Rattle.std.specs.Prelude.{IfOk}
use Rattle.std.specs.declared.result.Result.{Result}
use Rattle.std.specs.declared.result.Result.TheVariants.{Ok, Err}
use Rattle.ck_htplan.specs.Region.{view_of}
use Rattle.ck_htlaw.specs.Layout.{log_of}
use Rattle.ck_htwrite.proofs.Gathering.{gathered_all}
use Rattle.ck_htwrite.proofs.state.HtState.entries.Goals as goal

all_of : {X E A : Type 0} (r : Result X E) (f : X → A) (a b : A) → IfOk r (λ x. f x ≡ a) → a ≡ b → IfOk r (λ x. f x ≡ b)
all_of (Ok x) f a b is e = is ∙ e
all_of (Err x) f a b is e = tt

pub returns : goal.returns
returns c m h = let s = c.args.self.now in all_of c.list_pairs.result (λ r. r.items) c.in_ok-pairs.pairs.entries m c.list_pairs.ensures (gathered_all (view_of s.words.items) (2 ^ log_of s.root) m c.in_ok-pairs.pairs.entries h (c.in_ok-pairs.ensures.pairs m h))
