-- What is so of each new pass is so of all passes of a domain that was just made.
use Rattle.std.proofs.Common.{◌≡◌, ℕ, suc, ◌+◌, List, [], ◌∷◌, refl, sym, subst, arith}
use Rattle.std.specs.Prelude.{All}
use Rattle.std.proofs.lemmas.List.Elements.{All-nil, All-cons}
use Rattle.ck_run.specs.Ends.{fresh}
use Rattle.ck_run.specs.Tokens.{Table, table}
use Rattle.ck_epoch.specs.declared.about.About.{About}
use Rattle.ck_epoch.specs.Closing.{AreFreshPasses}
use Rattle.ck_epoch.specs.Ends.{Pass}

module _ {C : Type 0} (t : Table (About C)) where
  from_record : (P : Pass C → Type 0) → ((n : ℕ) → P (record { token = fresh t (suc n); calls = 0; tally = 0 })) → (n : ℕ) (ps : List (Pass C)) → AreFreshPasses t (suc n) ps → All P ps
  from_record P new n [] h = All-nil P
  from_record P new n (q ∷ ps) h = All-cons P q ps (subst P (sym h.0) (new n)) (from_record P new (suc n) ps (subst (λ (k : ℕ). AreFreshPasses t k ps) (let z : suc n + 1 ≡ suc (suc n) = omega arith in z) h.1))

  pub all_fresh : (P : Pass C → Type 0) → ((n : ℕ) → P (record { token = fresh t (suc n); calls = 0; tally = 0 })) → (ps : List (Pass C)) → AreFreshPasses t 1 ps → All P ps
  all_fresh P new = from_record P new 0

  pub all_made : (ps : List (Pass C)) → AreFreshPasses t 1 ps → All (λ (p : Pass C). table p.token ≡ t) ps
  all_made = all_fresh (λ (p : Pass C). table p.token ≡ t) (λ n. refl)
