-- Each answer of a reader, by its number, is that of a call of the run.
use Rattle.std.proofs.Common.{◌≡◌, ◌≢◌, ℕ, ◌⊎◌, ⊎_elim, inl, inr, List, [], ◌∷◌, ◌++◌, length, append-nil, append_assoc, refl, sym, ap, ◌∙◌, subst}
use mathlib.Core.Option.{some}
use mathlib.Core.Logic.{dite}
use native.Mathlib.Decide.{ℕ_discrete}
use lib.ListN.{get_elem?}
use Rattle.ck_run.specs.declared.account.Entry.{Entry}
use Rattle.ck_run.specs.Run.{Run}
use Rattle.ck_run.proofs.Lists.{at_end}
use Rattle.ck_events.specs.Answered.{since_step, IsAnsweredCall}

-- what each step keeps holds of every run
along : (P : Run → Type 0) → ((past : Run) (n : ℕ) (e : Entry) → P past → P (past ++ (n, e) ∷ [])) → P [] → (run : Run) → P run
along P step first run = from [] run first
  where
    from : (past rest : Run) → P past → P (past ++ rest)
    from past [] p = subst P (sym (append-nil past)) p
    from past (x ∷ rest) p = subst P (append_assoc past (x ∷ []) rest) (from (past ++ x ∷ []) rest (step past x.0 x.1 p))

abbrev first_of : ℕ × Entry → Run → ℕ × Entry
first_of a [] = a
first_of a (x ∷ l) = x

abbrev rest_of : Run → Run
rest_of [] = []
rest_of (x ∷ l) = l

none_before : (before behind : Run) → [] ≡ before ++ behind → before ≡ []
none_before [] behind e = refl
none_before (x ∷ before) behind e = absurd cc

-- where a list that is one longer is cut in two
cut_last : (xs before behind : Run) (a : ℕ × Entry) → xs ++ a ∷ [] ≡ before ++ behind → (before ≡ xs ++ a ∷ []) ⊎ ((less : Run) × (xs ≡ before ++ less))
cut_last xs [] behind a e = inr (xs, refl)
cut_last [] (b ∷ before) behind a e = let z : a ≡ b = ap (first_of a) e in let none : [] ≡ before ++ behind = ap rest_of e in inl (λ i. sym z i ∷ none_before before behind none i)
cut_last (x ∷ xs) (b ∷ before) behind a e = let z : x ≡ b = ap (first_of a) e in
    ⊎_elim (λ (s : before ≡ xs ++ a ∷ []). inl (λ i. sym z i ∷ s i)) (λ (s : (less : Run) × (xs ≡ before ++ less)). inr (s.0, λ i. z i ∷ s.1 i)) (cut_last xs before behind a (ap rest_of e))

module _ {A : Type 0} (n : ℕ) (IsOut : Run → Type 0) (given : Run → List A) where
  -- A step adds no answer, or it adds one, and then it ends a call
  abbrev pub AddsAnswer : Run → Entry → Type 0
  AddsAnswer past e = let now = past ++ (n, e) ∷ [] in (given now ≡ given past) ⊎ ((answer : A) × (given now ≡ given past ++ answer ∷ []) × IsOut now × (IsOut past → ⊥))

  module _ (out_or_not : (run : Run) → IsOut run ⊎ (IsOut run → ⊥)) (out_first : IsOut []) (none_first : given [] ≡ [])
      (by_others : (past : Run) (m : ℕ) (e : Entry) → m ≢ n → (IsOut past → IsOut (past ++ (m, e) ∷ [])) × (given (past ++ (m, e) ∷ []) ≡ given past))
      (by_itself : (past : Run) (e : Entry) → AddsAnswer past e) where
    -- a call that is under way: its first step, and that it has gone on since
    record UnderWay (now : Run) : Type 0 where
      past : Run
      first : Entry
      between : Run
      splits : now ≡ since_step n past first between
      starts : IsOut past
      goes : (before behind : Run) → between ≡ before ++ behind → IsOut (since_step n past first before) → ⊥
      same : given past ≡ given now

    record Accounted (now : Run) : Type 0 where
      under : IsOut now ⊎ UnderWay now
      each : (i : ℕ) (answer : A) → get_elem? (given now) i ≡ some answer → IsAnsweredCall n IsOut given now i answer

    -- a call goes on
    goes_on : (now : Run) (a : ℕ × Entry) (u : UnderWay now) → (IsOut (now ++ a ∷ []) → ⊥) → given (now ++ a ∷ []) ≡ given now → UnderWay (now ++ a ∷ [])
    goes_on now a u not_out same =
        let whole : now ++ a ∷ [] ≡ since_step n u.past u.first (u.between ++ a ∷ []) = ap (λ (run : Run). run ++ a ∷ []) u.splits ∙ append_assoc u.past ((n, u.first) ∷ u.between) (a ∷ []) in
        record {
          past = u.past;
          first = u.first;
          between = u.between ++ a ∷ [];
          splits = whole;
          starts = u.starts;
          goes = λ before behind e is. ⊎_elim
              (λ (s : before ≡ u.between ++ a ∷ []). not_out (subst IsOut (sym whole) (subst (λ (m : Run). IsOut (since_step n u.past u.first m)) s is)))
              (λ (s : (less : Run) × (u.between ≡ before ++ less)). u.goes before s.0 s.1 is)
              (cut_last u.between before behind a e);
          same = u.same ∙ sym same;
        }

    -- an answer stays one
    longer : (now : Run) (a : ℕ × Entry) (i : ℕ) (answer : A) → IsAnsweredCall n IsOut given now i answer → IsAnsweredCall n IsOut given (now ++ a ∷ []) i answer
    longer now a i answer h = record {
      past = h.past;
      first = h.first;
      between = h.between;
      last = h.last;
      rest = h.rest ++ a ∷ [];
      splits = ap (λ (run : Run). run ++ a ∷ []) h.splits ∙ append_assoc (since_step n h.past h.first h.between) ((n, h.last) ∷ h.rest) (a ∷ []);
      starts = h.starts;
      goes = h.goes;
      ends = h.ends;
      before = h.before;
      still = h.still;
    }

    -- where the step adds no answer, those before stay
    each_stays : (now : Run) (a : ℕ × Entry) → Accounted now → given (now ++ a ∷ []) ≡ given now → (i : ℕ) (answer : A) → get_elem? (given (now ++ a ∷ [])) i ≡ some answer → IsAnsweredCall n IsOut given (now ++ a ∷ []) i answer
    each_stays now a h same i answer at = longer now a i answer (h.each i answer (ap (λ (ls : List A). get_elem? ls i) (sym same) ∙ at))

    by_other : (past : Run) (m : ℕ) (e : Entry) → m ≢ n → Accounted past → Accounted (past ++ (m, e) ∷ [])
    by_other past m e other h =
        let o = by_others past m e other in
        record {
          under = ⊎_elim
              (λ (out : IsOut past). inl (o.0 out))
              (λ (u : UnderWay past). ⊎_elim (λ out. inl out) (λ (not_out : IsOut (past ++ (m, e) ∷ []) → ⊥). inr (goes_on past (m, e) u not_out o.1)) (out_or_not (past ++ (m, e) ∷ [])))
              h.under;
          each = each_stays past (m, e) h o.1;
        }

    module _ (past : Run) (e : Entry) (h : Accounted past) where
      abbrev now : Run
      now = past ++ (n, e) ∷ []

      -- it answers nothing
      silent : given now ≡ given past → Accounted now
      silent same = record {
        under = ⊎_elim (λ (out : IsOut now). inl out)
            (λ (not_out : IsOut now → ⊥). inr (⊎_elim
            (λ (was : IsOut past). record {
              past = past;
              first = e;
              between = [];
              splits = refl;
              starts = was;
              goes = λ before behind z is. not_out (subst (λ (m : Run). IsOut (since_step n past e m)) (none_before before behind z) is);
              same = sym same;
            })
            (λ (u : UnderWay past). goes_on past (n, e) u not_out same) h.under))
            (out_or_not now);
        each = each_stays past (n, e) h same;
      }

      -- it is the last step of a call
      ended : (answer : A) → given now ≡ given past ++ answer ∷ [] → IsOut now → (IsOut past → ⊥) → Accounted now
      ended answer more over going = record {
        under = inl over;
        each = λ i other at. ⊎_elim
            (λ (old : get_elem? (given past) i ≡ some other). longer past (n, e) i other (h.each i other old))
            (λ (new : (i ≡ length (given past)) × (answer ≡ other)).
            subst (λ (p : ℕ × A). IsAnsweredCall n IsOut given now p.0 p.1) (λ t. (sym new.0 t, new.1 t)) answered)
            (at_end (given past) answer other i (ap (λ (ls : List A). get_elem? ls i) (sym more) ∙ at));
      }
        where
          u : UnderWay past
          u = ⊎_elim (λ (out : IsOut past). absurd (going out)) (λ (w : UnderWay past). w) h.under

          answered : IsAnsweredCall n IsOut given now (length (given past)) answer
          answered = record {
            past = u.past;
            first = u.first;
            between = u.between;
            last = e;
            rest = [];
            splits = ap (λ (run : Run). run ++ (n, e) ∷ []) u.splits;
            starts = u.starts;
            goes = u.goes;
            ends = subst (λ (run : Run). given (run ++ (n, e) ∷ []) ≡ given run ++ answer ∷ []) u.splits more;
            before = ap (λ (l : List A). length l) u.same;
            still = ap (λ (run : Run). length (given run)) (sym u.splits);
          }

      by_own : Accounted now
      by_own = ⊎_elim silent (λ one. ended one.0 one.1 one.2 one.3) (by_itself past e)

    accounted : (run : Run) → Accounted run
    accounted run = along Accounted
        (λ past m e h. dite (ℕ_discrete m n) (λ (mine : m ≡ n). subst (λ (k : ℕ). Accounted (past ++ (k, e) ∷ [])) (sym mine) (by_own past e h)) (λ (other : m ≢ n). by_other past m e other h))
        (record { under = inl out_first; each = λ i answer at. absurd (let z : get_elem? {A = A} [] i ≡ some answer = ap (λ (ls : List A). get_elem? ls i) (sym none_first) ∙ at in cc) }) run

    -- the answer with the number i
    pub answered_call : (run : Run) (i : ℕ) (answer : A) → get_elem? (given run) i ≡ some answer → IsAnsweredCall n IsOut given run i answer
    answered_call run i answer at = (accounted run).each i answer at
