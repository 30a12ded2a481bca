-- Steps that go on with a call, and what they leave as it was.
use Rattle.std.proofs.Common.{◌≡◌, ℕ, ◌+◌, ◌∙◌, List, [], ◌∷◌, ◌++◌, length, length-append, map, append-nil, refl, sym, ap, subst, arith}
use Rattle.std.proofs.lemmas.List.{length-map, map-append}
use Rattle.ck_run.specs.declared.account.Step.{Step}
use Rattle.ck_run.specs.declared.account.Entry.{Entry}
use Rattle.ck_run.specs.Run.{further}
use Rattle.ck_run.specs.Tokens.{adding, did, viewing}
use Rattle.ck_run.proofs.Moments.{adding-append}
use Rattle.ck_epoch.specs.State.{Origin, Token, Retirement, queue}
use Rattle.ck_epoch.specs.declared.item.Retired.{Retired}
use Rattle.ck_epoch.specs.Ends.{Writer, IsDomainToken}
use Rattle.ck_htlaw.specs.Host.{Host}
use Rattle.ck_htwrite.specs.declared.state.HtState.{HtState}
use Rattle.ck_htwrite.specs.Rebuild.{CanHoldAll}
use Rattle.ck_htwrite.specs.Writes.{Steps}
use Rattle.ck_htwrite.proofs.Making.{steps_are, steps_then}

module _ {D F : Type 0} (h : Host D) (o : Origin D) where
  -- no steps
  pub no_steps : (w : Writer D F) → IsDomainToken h.client w.token → Steps h o w [] w
  no_steps w token = steps_are h o w w [] (ap (λ (es : List Entry). record w { token = viewing w.token (record w.token.view { own = record w.token.view.own { entries = es } }) }) (sym (append-nil (did w.token)))) token (refl, refl)

  -- some steps, and some more
  pub further_more : (w u v : Writer D F) (ss rs : List Step) → Steps h o w (map further ss) u → Steps h o u (map further rs) v → Steps h o w (map further (ss ++ rs)) v
  further_more w u v ss rs a b = subst (λ (es : List Entry). Steps h o w es v) (sym (map-append further ss rs)) (steps_then h o w u v (map further ss) (map further rs) a b)

-- some steps, and the last ones of a counted call
pub then_counted : {D F : Type 0} (w u v : Writer D F) (es fs : List Entry) → u ≡ record w { token = adding w.token es } → v ≡ record u { token = adding u.token fs; calls = u.calls + 1 } → v ≡ record w { token = adding w.token (es ++ fs); calls = w.calls + 1 }
then_counted {D} {F} w u v es fs a b = b ∙ (ap (λ (x : Writer D F). record x { token = adding x.token fs; calls = x.calls + 1 }) a ∙ ap (λ (t : Token D). record w { token = t; calls = w.calls + 1 }) (adding-append w.token es fs))

-- a call that isn't counted
pub not_counted : {D F : Type 0} (w u : Writer D F) (es : List Entry) → u ≡ record w { token = adding w.token es } → u ≡ record w { token = adding w.token es; calls = w.calls + 0 }
not_counted w u es made = made ∙ ap (λ (k : ℕ). record w { token = adding w.token es; calls = k }) (let z : w.calls ≡ w.calls + 0 = omega arith in z)

-- the room of a region doesn't depend on the other copy
pub same_room : (n : ℕ) (s z : HtState) (root : ℕ) → z ≡ record s { spare = z.spare } → CanHoldAll n s root → CanHoldAll n z root
same_room n s z root is can = subst (λ (y : HtState). CanHoldAll n y root) (sym is) record { is_root = can.is_root; apart = can.apart; room = can.room; once = can.once }

-- one item more is pending
pub one_retired : (xs ys : List Retirement) (k : Retired) → queue ys ≡ queue xs ++ k ∷ [] → length ys ≡ length xs + 1
one_retired xs ys k is = sym (length-map ys (λ (x : Retirement). x.retired)) ∙ (ap length is ∙ (length-append (queue xs) (k ∷ []) ∙ ap (λ (n : ℕ). n + 1) (length-map xs (λ (x : Retirement). x.retired))))
