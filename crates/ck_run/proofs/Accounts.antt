-- Programs whose state is the account itself.
use Rattle.std.proofs.Common.{◌≡◌, ◌≢◌, ℕ, List, [], ◌∷◌, ◌++◌, append-nil, append_assoc, sym, ap, ◌∙◌}
use mathlib.Core.Logic.{dite}
use native.Mathlib.Decide.{ℕ_discrete}
use Rattle.ck_run.specs.declared.account.Entry.{Entry}
use Rattle.ck_run.specs.declared.account.Account.{Account}
use Rattle.ck_run.specs.Run.{Run, account}
use Rattle.ck_run.specs.Machine.{state_after, grow, moved}
use Rattle.ck_run.proofs.Runs.{account_here, account_else}
use Rattle.ck_run.proofs.Law.{moved_here, moved_else}

-- an account that got these entries
pub account_grown : (a : Account) (es : List Entry) → state_after grow a es ≡ record a { entries = a.entries ++ es }
account_grown a [] = ap (λ (l : List Entry). record a { entries = l }) (sym (append-nil a.entries))
account_grown a (e ∷ es) = account_grown (grow a e) es ∙ ap (λ (l : List Entry). record a { entries = l }) (append_assoc a.entries (e ∷ []) es)

-- the account of the token n in a run
abbrev pub account_in : Run → ℕ → Account
account_in run n = record { number = n; entries = account n run }

-- where the states are the accounts in a run, they are so one step on
pub accounts_grow : (past : Run) (at : ℕ → Account) (n m : ℕ) (e : Entry) → ((k : ℕ) → at k ≡ account_in past k) → moved at n (grow (at n) e) m ≡ account_in (past ++ (n, e) ∷ []) m
accounts_grow past at n m e same = dite (ℕ_discrete n m)
    (λ (here : n ≡ m). moved_here at n m (grow (at n) e) here ∙ (ap (λ (a : Account). grow a e) (ap at here ∙ same m) ∙ ap (λ (es : List Entry). record { number = m; entries = es }) (sym (account_here past n m e here))))
    (λ (other : n ≢ m). moved_else at n m (grow (at n) e) other ∙ (same m ∙ ap (λ (es : List Entry). record { number = m; entries = es }) (sym (account_else past n m e other))))
