-- Files that are run, as plain data.
use Rattle.std.proofs.Common.{◌≡◌, ◌≢◌, ℕ, zero, suc, ◌+◌, ◌<◌, ◌==◌, cond, List, [], ◌∷◌, ◌++◌, length, take, drop, get_or, Option, Some, None, Result, Ok, IfOk, All, ne_eqb, add-one, refl, sym, ap, subst, ◌∙◌, append_assoc, arith}
use Rattle.std.specs.Prelude.{slice_get}
use Rattle.ck_script.specs.declared.line.Numbered.{Numbered}
use Rattle.ck_script.specs.declared.line.AskLine.{AskLine}
use Rattle.ck_script.specs.Script.{said_of}
use Rattle.ck_history.specs.declared.event.ReaderEvent.{ReaderEvent}
use Rattle.ck_pool.specs.Limits.{call_bound}
use Rattle.ck_pool.specs.declared.query_run.QueryRun.{QueryRun}
use Rattle.ck_pool.specs.Runs.{QueriesRan}
use Rattle.ck_pool.specs.Desk.{occurrences, known_of_both, DeskView, ClerkView, IsClerkOf}
use Rattle.ck_pool.proofs.Taking.{times_append}
use Rattle.ck_pool.specs.Meaning.{EyeMeaning}
use Rattle.ck_pool.specs.Served.{IsQueryFileServed, AreServed}
use Rattle.ck_pool.specs.Working.{IsHalted, RanTo, IsWaitLine, AreFew, IsFileRun, IsQueryRun, runs_of}
use Rattle.ck_pool.proofs.Running.{get_lt, get_is, some_same, map_get, take_one_more}

module _ {A B : Type 0} where
  none_asked : (lines : List (Numbered (AskLine A))) (bs : List B) → bs ≡ [] → QueriesRan (take 0 lines) [] bs
  none_asked [] bs none = (refl, none)
  none_asked (l ∷ ls) bs none = (refl, none)

  pub first_run : (lines : List (Numbered (AskLine A))) (waits_at : Option ℕ) (ds : List (ReaderEvent A B)) (bs₀ bs : List B) → bs₀ ≡ []
      → ((before : List (ReaderEvent A B)) → QueriesRan (take 0 lines) before bs₀ → RanTo lines waits_at (before ++ ds) bs) → RanTo lines waits_at ds bs
  first_run lines waits_at ds bs₀ bs none ran = ran [] (none_asked lines bs₀ none)

  pub stands_at : (lines : List (Numbered (AskLine A))) (waits_at : Option ℕ) (i : ℕ) (ds : List (ReaderEvent A B)) (bs : List B) → waits_at ≡ Some i → RanTo lines waits_at ds bs → IsHalted lines i ds bs
  stands_at lines waits_at i ds bs is ran = subst (λ (o : Option ℕ). RanTo lines o ds bs) is ran

  pub waits_at : (lines : List (Numbered (AskLine A))) (i : ℕ) (ds : List (ReaderEvent A B)) (bs : List B) → IsHalted lines i ds bs → IsWaitLine lines i
  waits_at lines i ds bs s = record { n = s.n; line = s.line; here = s.here; waits = s.waits }

pub said_at : {L : Type 0} (lines : List (Numbered L)) (i : ℕ) (line : Numbered L) (what : L) → slice_get lines i ≡ Some line → slice_get (said_of lines) i ≡ Some what → what ≡ line.what
said_at lines i line what here said = some_same what line.what (sym said ∙ map_get (λ l. l.what) lines i line here)

module _ {E A B : Type 0} (meaning : EyeMeaning E A B) (eyes : List E) (asks : List (List (Numbered (AskLine A)))) where
  pub run_is : (file : ℕ) (r : QueryRun E B) (given : E) (lines : List (Numbered (AskLine A))) → r.file ≡ file → slice_get eyes file ≡ Some given → slice_get asks file ≡ Some lines
      → IsFileRun meaning given lines r → IsQueryRun meaning eyes asks r
  run_is file r given lines same eye of run = record {
    given = given;
    lines = lines;
    eye = ap (λ (k : ℕ). slice_get eyes k) same ∙ eye;
    file = ap (λ (k : ℕ). slice_get asks k) same ∙ of;
    run = run;
  }

  pub runs_again : (r r' : QueryRun E B) (i : ℕ) (ls : List (Numbered (AskLine A))) (h : IsQueryRun meaning eyes asks r) → ls ≡ h.lines → r.waits_at ≡ Some i → r'.file ≡ r.file → meaning.ready r'.eye → meaning.number r'.eye ≡ meaning.number r.eye → AreFew (meaning.calls r'.eye) r'.waits_at
      → (ds : List (ReaderEvent A B)) → meaning.done r'.eye ≡ meaning.done r.eye ++ ds → ((before : List (ReaderEvent A B)) → IsHalted ls i before r.answers.items → RanTo ls r'.waits_at (before ++ ds) r'.answers.items)
      → IsQueryRun meaning eyes asks r'
  runs_again r r' i ls h is at same good number_same may ds grown ran = record {
    given = h.given;
    lines = h.lines;
    eye = ap (λ (k : ℕ). slice_get eyes k) same ∙ h.eye;
    file = ap (λ (k : ℕ). slice_get asks k) same ∙ h.file;
    run = record {
      is_ready = good;
      same = number_same ∙ h.run.same;
      few = may;
      events = h.run.events ++ ds;
      grown = grown ∙ (ap (λ (x : List (ReaderEvent A B)). x ++ ds) h.run.grown ∙ append_assoc (meaning.done h.given) h.run.events ds);
      ran =
          let stands : IsHalted h.lines i h.run.events r.answers.items = stands_at h.lines r.waits_at i h.run.events r.answers.items at h.run.ran in
          let here : IsHalted ls i h.run.events r.answers.items = subst (λ (x : List (Numbered (AskLine A))). IsHalted x i h.run.events r.answers.items) (sym is) stands in
          subst (λ (x : List (Numbered (AskLine A))). RanTo x r'.waits_at (h.run.events ++ ds) r'.answers.items) is (ran h.run.events here);
    };
  }

  -- a file that was run to its end
  pub served_is : (r : QueryRun E B) (h : IsQueryRun meaning eyes asks r) → r.waits_at ≡ None → IsQueryFileServed meaning h.given h.lines r.eye r.answers.items
  served_is r h ended = record {
    is_ready = h.run.is_ready;
    same = h.run.same;
    few = subst (λ (o : Option ℕ). AreFew (meaning.calls r.eye) o) ended h.run.few;
    events = h.run.events;
    grown = h.run.grown;
    ran = subst (λ (o : Option ℕ). RanTo h.lines o h.run.events r.answers.items) ended h.run.ran;
  }

module _ {E A B : Type 0} (meaning : EyeMeaning E A B) where
  pub served_snoc : (es : List E) (files : List (List (Numbered (AskLine A)))) (backs : List E) (bss : List (List B)) (e : E) (lines : List (Numbered (AskLine A))) (back : E) (bs : List B) → AreServed meaning es files backs bss → IsQueryFileServed meaning e lines back bs
      → AreServed meaning (es ++ e ∷ []) (files ++ lines ∷ []) (backs ++ back ∷ []) (bss ++ bs ∷ [])
  served_snoc [] [] [] [] e lines back bs all one = (one, tt)
  served_snoc [] [] [] (x ∷ bss) e lines back bs all one = absurd all
  served_snoc [] [] (x ∷ backs) bss e lines back bs all one = absurd all
  served_snoc [] (x ∷ files) backs bss e lines back bs all one = absurd all
  served_snoc (x ∷ es) [] backs bss e lines back bs all one = absurd all
  served_snoc (x ∷ es) (y ∷ files) [] bss e lines back bs all one = absurd all
  served_snoc (x ∷ es) (y ∷ files) (z ∷ backs) [] e lines back bs all one = absurd all
  served_snoc (x ∷ es) (y ∷ files) (z ∷ backs) (w ∷ bss) e lines back bs all one = (all.0, served_snoc es files backs bss e lines back bs all.1 one)

module _ {X : Type 0} where
  -- a fact of every element
  pub each_snoc_at : (P : X → Type 0) (xs : List X) (x : X) → ((k : ℕ) (r : X) → slice_get xs k ≡ Some r → P r) → P x → (k : ℕ) (r : X) → slice_get (xs ++ x ∷ []) k ≡ Some r → P r
  each_snoc_at P [] x each now zero r is = subst P (some_same x r is) now
  each_snoc_at P [] x each now (suc k) r is = cc
  each_snoc_at P (y ∷ xs) x each now zero r is = each zero r is
  each_snoc_at P (y ∷ xs) x each now (suc k) r is = each_snoc_at P xs x (λ j u e. each (suc j) u e) now k r is

  pub each_snoc : (P : X → Type 0) (xs ys : List X) (x : X) → ys ≡ xs ++ x ∷ [] → ((k : ℕ) (r : X) → slice_get xs k ≡ Some r → P r) → P x → (k : ℕ) (r : X) → slice_get ys k ≡ Some r → P r
  each_snoc P xs ys x grown each now k r is = each_snoc_at P xs x each now k r (ap (λ (l : List X). slice_get l k) (sym grown) ∙ is)

  pub longer_at : (ys : List X) (x : X) (k : ℕ) (r : X) → slice_get ys k ≡ Some r → slice_get (ys ++ x ∷ []) k ≡ Some r
  longer_at [] x k r is = cc
  longer_at (y ∷ ys) x zero r is = is
  longer_at (y ∷ ys) x (suc k) r is = longer_at ys x k r is

  pub each_front : (P : X → Type 0) (xs ys : List X) (x : X) → xs ≡ ys ++ x ∷ [] → ((k : ℕ) (r : X) → slice_get xs k ≡ Some r → P r) → (k : ℕ) (r : X) → slice_get ys k ≡ Some r → P r
  each_front P xs ys x whole each k r is = each k r (ap (λ (l : List X). slice_get l k) whole ∙ longer_at ys x k r is)

  pub last_at : (ys : List X) (x : X) → slice_get (ys ++ x ∷ []) (length ys) ≡ Some x
  last_at [] x = refl
  last_at (y ∷ ys) x = last_at ys x

  pub each_last : (P : X → Type 0) (xs ys : List X) (x : X) → xs ≡ ys ++ x ∷ [] → ((k : ℕ) (r : X) → slice_get xs k ≡ Some r → P r) → P x
  each_last P xs ys x whole each = each (length ys) x (ap (λ (l : List X). slice_get l (length ys)) whole ∙ last_at ys x)

  pub take_get : (xs : List X) (i : ℕ) (x : X) → slice_get xs i ≡ Some x → take (i + 1) xs ≡ take i xs ++ x ∷ []
  take_get xs i x is = take_one_more xs i x (get_lt xs i x is) (get_is xs i x is)

-- how many runs are of a file
module _ {E B : Type 0} where
  pub held_append : (f : ℕ) (xs ys : List (QueryRun E B)) → runs_of f (xs ++ ys) ≡ runs_of f xs + runs_of f ys
  held_append f [] ys = omega arith
  held_append f (x ∷ xs) ys = let h = held_append f xs ys in omega arith

  pub held_snoc : (f : ℕ) (xs ys : List (QueryRun E B)) (x : QueryRun E B) → ys ≡ xs ++ x ∷ [] → runs_of f ys ≡ runs_of f xs + cond (x.file == f) 1 0
  held_snoc f xs ys x whole = let h : runs_of f (xs ++ x ∷ []) ≡ runs_of f xs + (cond (x.file == f) 1 0 + 0) = held_append f xs (x ∷ []) in let same : runs_of f ys ≡ runs_of f (xs ++ x ∷ []) = ap (runs_of f) whole in omega arith

  pub taken_held : (file : ℕ) (took took' : List ℕ) (xs ys : List (QueryRun E B)) (x : QueryRun E B) → took' ≡ file ∷ took → ys ≡ xs ++ x ∷ [] → x.file ≡ file → ((f : ℕ) → occurrences f took ≡ runs_of f xs) → (f : ℕ) → occurrences f took' ≡ runs_of f ys
  taken_held file took took' xs ys x p q e all f =
      let a : occurrences f took' ≡ cond (file == f) 1 0 + occurrences f took = ap (occurrences f) p in
      let b : runs_of f ys ≡ runs_of f xs + cond (x.file == f) 1 0 = held_snoc f xs ys x q in
      let d : cond {A = ℕ} (x.file == f) 1 0 ≡ cond {A = ℕ} (file == f) 1 0 = ap (λ (k : ℕ). cond (k == f) 1 0) e in
      let o : occurrences f took ≡ runs_of f xs = all f in
      omega arith

  pub moved_held : (xs ys zs zs' : List (QueryRun E B)) (x x' : QueryRun E B) (n : ℕ → ℕ) → xs ≡ ys ++ x ∷ [] → zs' ≡ zs ++ x' ∷ [] → x'.file ≡ x.file → ((f : ℕ) → runs_of f xs + runs_of f zs ≡ n f) → (f : ℕ) → runs_of f ys + runs_of f zs' ≡ n f
  moved_held xs ys zs zs' x x' n p q e all f =
      let a : runs_of f xs ≡ runs_of f ys + cond (x.file == f) 1 0 = held_snoc f ys xs x p in
      let b : runs_of f zs' ≡ runs_of f zs + cond (x'.file == f) 1 0 = held_snoc f zs zs' x' q in
      let d : cond {A = ℕ} (x'.file == f) 1 0 ≡ cond {A = ℕ} (x.file == f) 1 0 = ap (λ (k : ℕ). cond (k == f) 1 0) e in
      let o : runs_of f xs + runs_of f zs ≡ n f = all f in
      omega arith

  pub held_remove : (f : ℕ) (xs : List (QueryRun E B)) (k : ℕ) (x : QueryRun E B) → slice_get xs k ≡ Some x → runs_of f xs ≡ runs_of f (take k xs ++ drop (suc k) xs) + cond (x.file == f) 1 0
  held_remove f [] k x e = cc
  held_remove f (y ∷ xs) zero x e = let d : cond {A = ℕ} (y.file == f) 1 0 ≡ cond {A = ℕ} (x.file == f) 1 0 = ap (λ (r : QueryRun E B). cond (r.file == f) 1 0) (some_same y x e) in omega arith
  held_remove f (y ∷ xs) (suc k) x e = let h = held_remove f xs k x e in omega arith

  pub held_else : (file : ℕ) (xs ys : List (QueryRun E B)) (k : ℕ) (x : QueryRun E B) → slice_get xs k ≡ Some x → x.file ≡ file → ys ≡ take k xs ++ drop (k + 1) xs → (f : ℕ) → f ≢ file → runs_of f ys ≡ runs_of f xs
  held_else file xs ys k x e same rest f ne =
      let whole : ys ≡ take k xs ++ drop (suc k) xs = rest ∙ ap (λ (j : ℕ). take k xs ++ drop j xs) (add-one k) in
      let a : runs_of f xs ≡ runs_of f (take k xs ++ drop (suc k) xs) + cond (x.file == f) 1 0 = held_remove f xs k x e in
      let b : runs_of f ys ≡ runs_of f (take k xs ++ drop (suc k) xs) = ap (runs_of f) whole in
      let d : cond {A = ℕ} (x.file == f) 1 0 ≡ 0 = rw (ne_eqb x.file f (λ q. ne (sym q ∙ same))) refl in
      omega arith

module _ {X : Type 0} (P : X → Type 0) where
  each_remove_at : (xs : List X) (k : ℕ) → ((j : ℕ) (r : X) → slice_get xs j ≡ Some r → P r) → (j : ℕ) (r : X) → slice_get (take k xs ++ drop (suc k) xs) j ≡ Some r → P r
  each_remove_at [] zero each j r e = cc
  each_remove_at [] (suc k) each j r e = cc
  each_remove_at (y ∷ xs) zero each j r e = each (suc j) r e
  each_remove_at (y ∷ xs) (suc k) each zero r e = each zero r e
  each_remove_at (y ∷ xs) (suc k) each (suc j) r e = each_remove_at xs k (λ i u h. each (suc i) u h) j r e

  pub each_remove : (xs ys : List X) (k : ℕ) → ys ≡ take k xs ++ drop (k + 1) xs → ((j : ℕ) (r : X) → slice_get xs j ≡ Some r → P r) → (j : ℕ) (r : X) → slice_get ys j ≡ Some r → P r
  each_remove xs ys k rest each j r e =
      let whole : ys ≡ take k xs ++ drop (suc k) xs = rest ∙ ap (λ (i : ℕ). take k xs ++ drop i xs) (add-one k) in
      each_remove_at xs k each j r (ap (λ (l : List X). slice_get l j) (sym whole) ∙ e)

  pub each_join : (xs ys : List X) → ((j : ℕ) (r : X) → slice_get xs j ≡ Some r → P r) → ((j : ℕ) (r : X) → slice_get ys j ≡ Some r → P r) → (j : ℕ) (r : X) → slice_get (xs ++ ys) j ≡ Some r → P r
  each_join [] ys a b j r e = b j r e
  each_join (x ∷ xs) ys a b zero r e = a zero r e
  each_join (x ∷ xs) ys a b (suc j) r e = each_join xs ys (λ i u h. a (suc i) u h) b j r e

-- `All`, and a fact of every element that is read
module _ {X : Type 0} (P : X → Type 0) where
  get_some : (xs : List X) (k : ℕ) (d : X) → k < length xs → slice_get xs k ≡ Some (get_or xs k d)
  get_some [] k d lt = absurd (omega arith)
  get_some (x ∷ xs) zero d lt = refl
  get_some (x ∷ xs) (suc k) d lt = get_some xs k d (omega arith)

  pub all_each : (xs : List X) → All P xs → (k : ℕ) (x : X) → slice_get xs k ≡ Some x → P x
  all_each xs all k x is = subst P (sym (get_is xs k x is)) (all k x (get_lt xs k x is))

  pub each_all : (xs : List X) → ((k : ℕ) (x : X) → slice_get xs k ≡ Some x → P x) → All P xs
  each_all xs each k d lt = each k (get_or xs k d) (get_some xs k d lt)

  pub all_front : (xs ys : List X) (x : X) → xs ≡ ys ++ x ∷ [] → All P xs → All P ys
  all_front xs ys x whole all = each_all ys (each_front P xs ys x whole (all_each xs all))

  pub all_last : (xs ys : List X) (x : X) → xs ≡ ys ++ x ∷ [] → All P xs → P x
  all_last xs ys x whole all = each_last P xs ys x whole (all_each xs all)

  pub each_joined : (xs ys zs : List X) → zs ≡ xs ++ ys → ((j : ℕ) (r : X) → slice_get xs j ≡ Some r → P r) → ((j : ℕ) (r : X) → slice_get ys j ≡ Some r → P r) → (j : ℕ) (r : X) → slice_get zs j ≡ Some r → P r
  each_joined xs ys zs whole a b j r e = each_join P xs ys a b j r (ap (λ (l : List X). slice_get l j) (sym whole) ∙ e)

pub ok_of : {A B : Type 0} (P : A → Type 0) (x : Result A B) (a : A) → x ≡ Ok a → IfOk x P → P a
ok_of {A} {B} P x a e h = subst (λ (y : Result A B). IfOk y P) e h

module _ {E B : Type 0} where
  pub gathered_all : (took took' other : List ℕ) (runs runs' more : List (QueryRun E B)) → took' ≡ took ++ other → runs' ≡ runs ++ more → ((f : ℕ) → occurrences f took ≡ runs_of f runs) → ((f : ℕ) → occurrences f other ≡ runs_of f more) → (f : ℕ) → occurrences f took' ≡ runs_of f runs'
  gathered_all took took' other runs runs' more p q a b f =
      let x : occurrences f took' ≡ occurrences f (took ++ other) = ap (occurrences f) p in
      let y : occurrences f (took ++ other) ≡ occurrences f took + occurrences f other = times_append f took other in
      let z : runs_of f runs' ≡ runs_of f (runs ++ more) = ap (runs_of f) q in
      let w : runs_of f (runs ++ more) ≡ runs_of f runs + runs_of f more = held_append f runs more in
      let a' = a f in
      let b' = b f in
      omega arith

  pub found_none : (file : ℕ) (xs : List (QueryRun E B)) (k : ℕ) (x : QueryRun E B) → slice_get xs k ≡ Some x → x.file ≢ file → runs_of file (take k xs) ≡ 0 → runs_of file (take (k + 1) xs) ≡ 0
  found_none file xs k x here ne none =
      let a : runs_of file (take (k + 1) xs) ≡ runs_of file (take k xs) + cond {A = ℕ} (x.file == file) 1 0 = held_snoc file (take k xs) (take (k + 1) xs) x (take_get xs k x here) in
      let d : cond {A = ℕ} (x.file == file) 1 0 ≡ 0 = rw (ne_eqb x.file file ne) refl in
      omega arith

module _ {E : Type 0} where
  pub joined_clerk : (d : DeskView E) (k k' o : ClerkView E) → k' ≡ record k { known = known_of_both k.known o.known } → IsClerkOf d k → IsClerkOf d k'
  joined_clerk d k k' o e h =
      let parts : k'.known.parts ≡ k.known.parts + o.known.parts = ap (λ (x : ClerkView E). x.known.parts) e in
      let some_part = h.some_part in
      record {
        made = ap (λ (x : ClerkView E). x.id) e ∙ h.made;
        eyes = ap (λ (x : ClerkView E). x.known.eyes) e ∙ h.eyes;
        some_part = omega arith;
      }

module _ {E A B : Type 0} (meaning : EyeMeaning E A B) where
  pub served_each : (es : List E) (files : List (List (Numbered (AskLine A)))) (backs : List E) (bss : List (List B)) → AreServed meaning es files backs bss → (k : ℕ) (e : E) → slice_get backs k ≡ Some e → meaning.ready e × (meaning.calls e < call_bound)
  served_each [] [] [] [] all k e is = cc
  served_each [] [] [] (w ∷ bss) all k e is = absurd all
  served_each [] [] (z ∷ backs) bss all k e is = absurd all
  served_each [] (y ∷ files) backs bss all k e is = absurd all
  served_each (x ∷ es) [] backs bss all k e is = absurd all
  served_each (x ∷ es) (y ∷ files) [] bss all k e is = absurd all
  served_each (x ∷ es) (y ∷ files) (z ∷ backs) [] all k e is = absurd all
  served_each (x ∷ es) (y ∷ files) (z ∷ backs) (w ∷ bss) all zero e is = subst (λ (u : E). meaning.ready u × (meaning.calls u < call_bound)) (some_same z e is) (all.0.is_ready, all.0.few)
  served_each (x ∷ es) (y ∷ files) (z ∷ backs) (w ∷ bss) all (suc k) e is = served_each es files backs bss all.1 k e is

  pub served_long : (es : List E) (files : List (List (Numbered (AskLine A)))) (backs : List E) (bss : List (List B)) → AreServed meaning es files backs bss → length backs ≡ length es
  served_long [] [] [] [] all = refl
  served_long [] [] [] (w ∷ bss) all = absurd all
  served_long [] [] (z ∷ backs) bss all = absurd all
  served_long [] (y ∷ files) backs bss all = absurd all
  served_long (x ∷ es) [] backs bss all = absurd all
  served_long (x ∷ es) (y ∷ files) [] bss all = absurd all
  served_long (x ∷ es) (y ∷ files) (z ∷ backs) [] all = absurd all
  served_long (x ∷ es) (y ∷ files) (z ∷ backs) (w ∷ bss) all = let h = served_long es files backs bss all.1 in omega arith
