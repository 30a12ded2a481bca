-- A run as a fold, and what is known at each of its steps.
use Rattle.std.proofs.Common.{◌≡◌, ◌≢◌, ℕ, Bool, true, false, cond, ◌==◌, List, [], ◌∷◌, ◌++◌, refl, sym, ap, ◌∙◌, eq-eqb, ne_eqb}
use mathlib.Core.Logic.{dite}
use native.Mathlib.Decide.{ℕ_discrete}
use Rattle.ck_run.specs.declared.account.Entry.{Entry}
use Rattle.ck_run.specs.Run.{Run, replay, account}
use Rattle.ck_run.specs.Machine.{state_after, moved}
use Rattle.ck_run.proofs.Law.{moved_here, moved_else}
use Rattle.ck_htlaw.specs.Trace.{Scene, goes, after}

module _ {T N : Type 0} (next : T → Entry → T) (May : T → Entry → Type 0) (mark : N → (ℕ → T) → ℕ → Entry → N) (Side : Scene T N → ℕ → Entry → Type 0) where
  pub after-append : (w : Scene T N) (xs ys : Run) → after next May mark Side w (xs ++ ys) ≡ after next May mark Side (after next May mark Side w xs) ys
  after-append w [] ys = refl
  after-append w (x ∷ xs) ys = after-append (goes next May mark Side w x.0 x.1) xs ys

  pub after_words : (w : Scene T N) (run : Run) → (after next May mark Side w run).words ≡ replay w.words run
  after_words w [] = refl
  after_words w (x ∷ run) = after_words (goes next May mark Side w x.0 x.1) run

  -- the state of each token after the entry of one
  moved-next : (at : ℕ → T) (n m : ℕ) (e : Entry) → moved at n (next (at n) e) m ≡ state_after next (at m) (cond (n == m) (e ∷ []) [])
  moved-next at n m e = dite (ℕ_discrete n m)
      (λ (same : n ≡ m). moved_here at n m (next (at n) e) same ∙ (ap (λ k. next (at k) e) same ∙ sym (ap (λ b. state_after next (at m) (cond b (e ∷ []) [])) (eq-eqb n m same))))
      (λ (other : n ≢ m). moved_else at n m (next (at n) e) other ∙ sym (ap (λ b. state_after next (at m) (cond b (e ∷ []) [])) (ne_eqb n m other)))

  put_first : (b : Bool) (t : T) (e : Entry) (es : List Entry) → state_after next (state_after next t (cond b (e ∷ []) [])) es ≡ state_after next t (cond b (e ∷ es) es)
  put_first true t e es = refl
  put_first false t e es = refl

  pub after_at : (w : Scene T N) (run : Run) (n : ℕ) → (after next May mark Side w run).at n ≡ state_after next (w.at n) (account n run)
  after_at w [] n = refl
  after_at w (x ∷ run) n = after_at (goes next May mark Side w x.0 x.1) run n
      ∙ (ap (λ (u : T). state_after next u (account n run)) (moved-next w.at x.0 n x.1) ∙ put_first (x.0 == n) (w.at n) x.1 (account n run))
