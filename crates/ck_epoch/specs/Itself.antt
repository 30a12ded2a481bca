-- Each client is within itself. The proof stands here because the impl of a trait for a client of this crate cites only specs.
use Rattle.std.proofs.Common.{◌≡◌, ℕ, ◌+◌, true, [], ◌∷◌, ◌++◌, sym, ap, subst, arith}
use Rattle.ck_epoch.specs.Client.{Client}
use Rattle.ck_epoch.specs.Within.{IsWithin}

plus_none : (n : ℕ) → n + 0 ≡ n
plus_none n = omega arith

none_plus : (n : ℕ) → 0 + n ≡ n
none_plus n = omega arith

-- with its words from place 0 on
pub itself : {C : Type 0} (client : Client C) → IsWithin client client (λ c. 0) (λ c. c)
itself {C} client = record {
  fits = λ d. omega arith;
  first = λ d at low. ap (client.first d) (none_plus at);
  guarded = λ d at low. ap (client.guarded d) (none_plus at);
  retires = λ d i h. subst (λ (k : ℕ). client.retires d (record i { at = k }) ≡ true) (sym (none_plus i.at)) h;
  home = λ d i h. ap (λ (k : ℕ). client.home d (record i { at = k })) (none_plus i.at);
  shows = λ first origin n es h. subst (λ (k : ℕ). client.follows k origin n es) (sym (plus_none first)) h;
  lifts = λ first origin n es e low h own may. subst (λ (k : ℕ). client.follows k origin n (es ++ e ∷ [])) (plus_none first) may;
}
