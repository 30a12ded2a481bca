-- Where the last entry of a token stands in a run.
use Rattle.std.proofs.Common.{◌≡◌, ◌≢◌, ℕ, zero, suc, Bool, cond, [], ◌∷◌, ◌++◌, length, refl, ap, ◌∙◌, eq-eqb, ne_eqb}
use mathlib.Core.Logic.{dite}
use native.Mathlib.Decide.{ℕ_discrete}
use Rattle.ck_run.specs.declared.account.Entry.{Entry}
use Rattle.ck_run.specs.Run.{Run, account, index_in}

-- past an entry of another token
passed : (x : ℕ × Entry) (run : Run) (n i : ℕ) → x.0 ≢ n → index_in (x ∷ run) n i ≡ suc (index_in run n i)
passed x run n zero other = ap (λ (b : Bool). cond b 0 (suc (index_in run n zero))) (ne_eqb x.0 n other)
passed x run n (suc i) other = ap (λ (b : Bool). suc (index_in run n (cond b i (suc i)))) (ne_eqb x.0 n other)

-- it stands at the end
pub index_last : (past : Run) (n : ℕ) (e : Entry) → index_in (past ++ (n, e) ∷ []) n (length (account n past)) ≡ length past
index_last [] n e = ap (λ (b : Bool). cond b 0 (suc (index_in [] n 0))) (eq-eqb n n refl)
index_last (x ∷ past) n e = dite (ℕ_discrete x.0 n)
    (λ (same : x.0 ≡ n). ap (λ (b : Bool). index_in (x ∷ past ++ (n, e) ∷ []) n (length (cond b (x.1 ∷ account n past) (account n past)))) (eq-eqb x.0 n same)
    ∙ (ap (λ (b : Bool). suc (index_in (past ++ (n, e) ∷ []) n (cond b (length (account n past)) (suc (length (account n past)))))) (eq-eqb x.0 n same) ∙ ap suc (index_last past n e)))
    (λ (other : x.0 ≢ n). ap (λ (b : Bool). index_in (x ∷ past ++ (n, e) ∷ []) n (length (cond b (x.1 ∷ account n past) (account n past)))) (ne_eqb x.0 n other)
    ∙ (passed x (past ++ (n, e) ∷ []) n (length (account n past)) other ∙ ap suc (index_last past n e)))
