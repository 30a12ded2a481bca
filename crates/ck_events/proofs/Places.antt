-- The answers of a reader have places that don't fall: how many updates had taken place at a moment of each answer's call.
use Rattle.std.proofs.Common.{◌≡◌, ◌≢◌, ℕ, zero, suc, ◌<◌, ◌≤◌, ◌⊎◌, ⊎_elim, inl, inr, Bool, cond, ◌==◌, List, [], ◌∷◌, ◌++◌, length, length-append, append-nil, append_assoc, eq-eqb, ne_eqb, sym, ap, ◌∙◌, subst, arith}
use mathlib.Core.Option.{some, some-injective}
use mathlib.Core.Logic.{dite}
use native.Mathlib.Decide.{ℕ_discrete}
use lib.ListN.{get_elem?}
use Rattle.ck_run.specs.declared.account.Entry.{Entry}
use Rattle.ck_run.specs.Run.{Run}
use Rattle.ck_run.proofs.Lists.{first_is, rest_is, begins, inside, some_at}
use Rattle.ck_events.specs.Answered.{since_step, IsAnsweredCall, ArePlaces}

le_or : (a b : ℕ) → (a ≤ b) ⊎ (b ≤ a)
le_or zero b = inl (omega arith)
le_or (suc a) zero = inr (omega arith)
le_or (suc a) (suc b) = ⊎_elim (λ (h : a ≤ b). inl (omega arith)) (λ (h : b ≤ a). inr (omega arith)) (le_or a b)

-- of two beginnings of a run one begins the other
either_begins : (xs xs' ys ys' : Run) → xs ++ xs' ≡ ys ++ ys' → ((more : Run) × (ys ≡ xs ++ more)) ⊎ ((more : Run) × (xs ≡ ys ++ more))
either_begins xs xs' ys ys' e = ⊎_elim (λ (h : length xs ≤ length ys). inl (begins xs xs' ys ys' e h)) (λ (h : length ys ≤ length xs). inr (begins ys ys' xs xs' (sym e) h)) (le_or (length xs) (length ys))

-- what is before is no part of what comes after it
same_rest : (xs ys zs : Run) → xs ++ ys ≡ xs ++ zs → ys ≡ zs
same_rest [] ys zs e = e
same_rest (x ∷ xs) ys zs e = same_rest xs ys zs (rest_is x x (xs ++ ys) (xs ++ zs) e)

both_are : (a b : ℕ × Entry) (xs ys : Run) → a ∷ xs ≡ b ∷ ys → (a ≡ b) × (xs ≡ ys)
both_are a b xs ys e = (first_is a b xs ys e, rest_is a b xs ys e)

-- At each moment of a run the reader n is between two calls, or not, and has given some answers; and `many` updates have taken place. In the
-- runs that are `True` no update is taken back, and no answer is in any
module _ {A : Type 0} (n : ℕ) (IsOut : Run → Type 0) (given : Run → List A) (many : Run → ℕ) (True : Run → Type 0) where
  -- p updates had taken place at a moment of the call that gave the answer with the number i
  pub record IsPlaced (run : Run) (i : ℕ) (answer : A) (p : ℕ) : Type 0 where
    pub call : IsAnsweredCall n IsOut given run i answer
    pub least : many call.past ≤ p
    pub most : p ≤ many (since_step n call.past call.first call.between)

  module _ (mono : (a b rest : Run) → True (a ++ (b ++ rest)) → many a ≤ many (a ++ b)) (rise : (a b : Run) → length (given a) ≤ length (given (a ++ b))) where
    -- the moment of fewer answers comes first
    earlier : (a b x y : Run) → a ++ x ≡ b ++ y → length (given a) < length (given b) → (more : Run) × (b ≡ a ++ more)
    earlier a b x y e less = ⊎_elim (λ s. s) (λ (s : (more : Run) × (a ≡ b ++ more)). absurd (let h : length (given b) ≤ length (given a) = subst (λ (c : Run). length (given b) ≤ length (given c)) (sym s.1) (rise b s.0) in omega arith)) (either_begins a x b y e)

    module _ (run : Run) (t : True run) where
      -- the parts of a call that answers
      module _ (i : ℕ) (answer : A) (p : ℕ) (h : IsPlaced run i answer p) where
        abbrev c : IsAnsweredCall n IsOut given run i answer
        c = h.call

        abbrev end : Run
        end = since_step n c.past c.first c.between

        abbrev ahead : Run
        ahead = (n, c.first) ∷ (c.between ++ (n, c.last) ∷ c.rest)

        to_first : run ≡ c.past ++ ahead
        to_first = c.splits ∙ append_assoc c.past ((n, c.first) ∷ c.between) ((n, c.last) ∷ c.rest)

        -- once the answer is given, at least so many updates have taken place
        before : (past rest : Run) → run ≡ past ++ rest → i < length (given past) → p ≤ many past
        before past rest e more =
            let e' : end ++ (n, c.last) ∷ c.rest ≡ past ++ rest = sym c.splits ∙ e in
            let less : length (given end) < length (given past) = subst (λ (m : ℕ). m < length (given past)) (sym c.still) more in
            let m = earlier end past ((n, c.last) ∷ c.rest) rest e' less in
            let t' : True (end ++ (m.0 ++ rest)) = subst True (e ∙ (ap (λ (b : Run). b ++ rest) m.1 ∙ append_assoc end m.0 rest)) t in
            let up : many end ≤ many past = subst (λ (b : Run). many end ≤ many b) (sym m.1) (mono end m.0 rest t') in
            let low = h.most in
            omega arith

        -- the last step adds the answer
        ended : length (given (end ++ (n, c.last) ∷ [])) ≡ suc i
        ended = let k = length-append (given end) (answer ∷ []) in let s = c.still in let m = ap (λ (l : List A). length l) c.ends in omega arith

        -- at a moment between two calls before it, at most so many updates have taken place
        since : (past rest : Run) → run ≡ past ++ rest → IsOut past → length (given past) ≤ i → many past ≤ p
        since past rest e is_out few = ⊎_elim
            (λ (s : (more : Run) × (c.past ≡ past ++ more)).
            let t' : True (past ++ (s.0 ++ ahead)) = subst True (to_first ∙ (ap (λ (b : Run). b ++ ahead) s.1 ∙ append_assoc past s.0 ahead)) t in
            let up : many past ≤ many c.past = subst (λ (b : Run). many past ≤ many b) (sym s.1) (mono past s.0 ahead t') in
            let low = h.least in
            omega arith)
            (λ (s : (more : Run) × (past ≡ c.past ++ more)). by s.0 s.1)
            (either_begins past rest c.past ahead (sym e ∙ to_first))
          where
            not_within : (b behind : Run) → c.between ≡ b ++ behind → past ≡ since_step n c.past c.first b → ⊥
            not_within b behind z same = c.goes b behind z (subst IsOut same is_out)

            by_more : (z : Run) → past ≡ end ++ z → ⊥
            by_more [] same = not_within c.between [] (sym (append-nil c.between)) (same ∙ append-nil end)
            by_more (w ∷ z) same =
                let is = both_are (n, c.last) w c.rest (z ++ rest) (same_rest end _ _ (sym c.splits ∙ (e ∙ (ap (λ (b : Run). b ++ rest) same ∙ append_assoc end (w ∷ z) rest)))) in
                let whole_is : past ≡ (end ++ (n, c.last) ∷ []) ++ z = same ∙ ((λ j. end ++ sym is.0 j ∷ z) ∙ sym (append_assoc end ((n, c.last) ∷ []) z)) in
                let up : length (given (end ++ (n, c.last) ∷ [])) ≤ length (given past) = subst (λ (b : Run). length (given (end ++ (n, c.last) ∷ [])) ≤ length (given b)) (sym whole_is) (rise (end ++ (n, c.last) ∷ []) z) in
                let k = ended in
                absurd (omega arith)

            by : (more : Run) → past ≡ c.past ++ more → many past ≤ p
            by [] same = subst (λ (b : Run). many b ≤ p) (sym (same ∙ append-nil c.past)) h.least
            by (w ∷ more) same = absurd (⊎_elim
                (λ (s : (z : Run) × (end ≡ past ++ z)).
                let is = both_are (n, c.first) w c.between (more ++ s.0) (same_rest c.past _ _ (s.1 ∙ (ap (λ (b : Run). b ++ s.0) same ∙ append_assoc c.past (w ∷ more) s.0))) in
                not_within more s.0 is.1 (same ∙ λ j. c.past ++ sym is.0 j ∷ more))
                (λ (s : (z : Run) × (past ≡ end ++ z)). by_more s.0 s.1)
                (either_begins past rest end ((n, c.last) ∷ c.rest) (sym e ∙ c.splits)))

      -- a later answer has no lower place
      ascend : (i : ℕ) (answer : A) (p : ℕ) → IsPlaced run i answer p → (j : ℕ) (other : A) (q : ℕ) → IsPlaced run j other q → i < j → p ≤ q
      ascend i answer p h j other q g less =
          let low = before i answer p h g.call.past (ahead j other q g) (to_first j other q g) (subst (λ (m : ℕ). i < m) (sym g.call.before) less) in
          let up = g.least in
          omega arith

      module _ (P : ℕ → A → ℕ → Type 0) (placed : (i : ℕ) (answer : A) (p : ℕ) → P i answer p → IsPlaced run i answer p)
          (each : (i : ℕ) (answer : A) → get_elem? (given run) i ≡ some answer → (p : ℕ) × P i answer p) where
        abbrev Has : ℕ → ℕ → Type 0
        Has i p = (answer : A) × (get_elem? (given run) i ≡ some answer) × P i answer p

        all_places : (m : ℕ) → m ≤ length (given run) → (ps : ℕ → ℕ) × ((i : ℕ) → i < m → Has i (ps i))
        all_places zero low = ((λ i. 0), λ i b. absurd (omega arith))
        all_places (suc m) low =
            let h = all_places m (omega arith) in
            let at = some_at (given run) m (omega arith) in
            let p = each m at.0 at.1 in (
              (λ i. cond (i == m) p.0 (h.0 i)),
              λ i b. dite (ℕ_discrete i m)
                  (λ (same : i ≡ m). subst (Has i) (sym (ap (λ (b : Bool). cond b p.0 (h.0 i)) (eq-eqb i m same))) (subst (λ (j : ℕ). Has j p.0) (sym same) (at.0, at.1, p.1)))
                  (λ (other : i ≢ m). subst (Has i) (sym (ap (λ (b : Bool). cond b p.0 (h.0 i)) (ne_eqb i m other))) (h.1 i (omega arith))),
            )

        pub have_places : (places : ℕ → ℕ) × ArePlaces n IsOut given many P run places
        have_places =
            let h = all_places (length (given run)) (omega arith) in
            let at : (i : ℕ) → i < length (given run) → (answer : A) × IsPlaced run i answer (h.0 i) = λ i low. let g = h.1 i low in (g.0, placed i g.0 (h.0 i) g.2) in (
              h.0,
              record {
                moments = λ i answer at. let g = h.1 i (inside (given run) i answer at) in
                    let same : g.0 ≡ answer = some-injective g.0 answer (sym g.1 ∙ at) in
                    subst (λ (z : A). P i z (h.0 i)) same g.2;
                rise = λ i j le low. dite (ℕ_discrete i j)
                    (λ (same : i ≡ j). let e : h.0 i ≡ h.0 j = ap h.0 same in omega arith)
                    (λ (other : i ≢ j). let a = at i (omega arith) in let b = at j low in ascend i a.0 (h.0 i) a.1 j b.0 (h.0 j) b.1 (omega arith));
                before = λ past rest i e more. let up : length (given past) ≤ length (given run) = subst (λ (b : Run). length (given past) ≤ length (given b)) (sym e) (rise past rest) in
                    let a = at i (omega arith) in before i a.0 (h.0 i) a.1 past rest e more;
                since = λ past rest i e is_out few low. let a = at i low in since i a.0 (h.0 i) a.1 past rest e is_out few;
              },
            )
