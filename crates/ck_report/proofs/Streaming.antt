-- A text that goes to a sink piece by piece.
use Rattle.std.proofs.Common.{◌≡◌, ℕ, suc, ◌+◌, List, [], ◌∷◌, ◌++◌, length, take, drop, Option, Some, None, Result, Ok, Err, OnErr, OnOk, refl, ap, subst, ◌∙◌, sym, arith, append_assoc, append-nil, length-append}
use Rattle.std.proofs.lemmas.List.{take-append-le, take-append-drop}
use Rattle.ck_io.specs.Sink.{appended, AppendsPrefix}
use Rattle.ck_io.proofs.Puts.{appended-appended}
use Rattle.ck_report.specs.Streaming.{IsStreamed}

appended_nothing : (taken : Option (List ℕ)) → taken ≡ appended taken []
appended_nothing None = refl
appended_nothing (Some xs) = ap Some (sym (append-nil xs))

-- nothing was put yet
pub streamed_first : (taken : Option (List ℕ)) (text : List ℕ) → IsStreamed taken taken text text
streamed_first taken text = record { put = []; taken = appended_nothing taken; all = refl }

-- all was put
pub streamed_whole : (old new : Option (List ℕ)) (text : List ℕ) → new ≡ appended old text → IsStreamed old new text []
streamed_whole old new text is = record { put = text; taken = is; all = append-nil text }

-- more was put
pub streamed_more : (t u v : Option (List ℕ)) (text before after rest : List ℕ) → IsStreamed t u text (before ++ rest) → IsStreamed u v before after → IsStreamed t v text (after ++ rest)
streamed_more t u v text before after rest first more = record {
  put = first.put ++ more.put;
  taken = more.taken ∙ (ap (λ w. appended w more.put) first.taken ∙ appended-appended t first.put more.put);
  all = append_assoc first.put more.put (after ++ rest) ∙ (ap (λ r. first.put ++ r) (sym (append_assoc more.put after rest) ∙ ap (λ r. r ++ rest) more.all) ∙ first.all);
}

-- what is left, in other words
pub streamed_as : (t u : Option (List ℕ)) (text left other : List ℕ) → IsStreamed t u text left → left ≡ other → IsStreamed t u text other
streamed_as t u text left other goes is = record { put = goes.put; taken = goes.taken; all = ap (λ r. goes.put ++ r) (sym is) ∙ goes.all }

-- a longer text
pub streamed_longer : (t u : Option (List ℕ)) (text left rest : List ℕ) → IsStreamed t u text left → IsStreamed t u (text ++ rest) (left ++ rest)
streamed_longer t u text left rest goes = record { put = goes.put; taken = goes.taken; all = sym (append_assoc goes.put left rest) ∙ ap (λ r. r ++ rest) goes.all }

take_front : (xs ys : List ℕ) (n : ℕ) → take (length xs + n) (xs ++ ys) ≡ xs ++ take n ys
take_front [] ys n = ap (λ k. take k ys) (let e : 0 + n ≡ n = omega arith in e)
take_front (x ∷ xs) ys n = ap (λ k. take k (x ∷ (xs ++ ys))) (let e : suc (length xs) + n ≡ suc (length xs + n) = omega arith in e) ∙ ap (λ r. x ∷ r) (take_front xs ys n)

-- then a put failed
pub streamed_failing : (t u v : Option (List ℕ)) (text before rest : List ℕ) → IsStreamed t u text (before ++ rest) → AppendsPrefix u v before → AppendsPrefix t v text
streamed_failing t u v text before rest first (n, le, is) =
    let whole : first.put ++ (before ++ rest) ≡ text = first.all in (
      length first.put + n,
      omega (arith, ap length whole, length-append first.put (before ++ rest), length-append before rest),
      is ∙ (ap (λ w. appended w (take n before)) first.taken ∙ (appended-appended t first.put (take n before) ∙ ap (appended t) (ap (λ r. first.put ++ r) (sym (take-append-le n before rest le)) ∙ (sym (take_front first.put (before ++ rest) n) ∙ ap (take (length first.put + n)) whole)))),
    )

-- nothing more was put
pub streamed_stopped : (t u : Option (List ℕ)) (text left : List ℕ) → IsStreamed t u text left → AppendsPrefix t u text
streamed_stopped t u text left goes =
    streamed_failing t u u text left [] (streamed_as t u text left (left ++ []) goes (sym (append-nil left))) (0, omega arith, appended_nothing u)

pub err_always : {T E : Type 0} (r : Result T E) (P : Type 0) → P → OnErr r P
err_always (Ok x) P p = tt
err_always (Err e) P p = p

pub on_err_map : {T E : Type 0} (r : Result T E) (P Q : Type 0) → (P → Q) → OnErr r P → OnErr r Q
on_err_map (Ok x) P Q f p = tt
on_err_map (Err e) P Q f p = f p

pub on_ok_map : {T E : Type 0} (r : Result T E) (P Q : Type 0) → (P → Q) → OnOk r P → OnOk r Q
on_ok_map (Ok x) P Q f p = f p
on_ok_map (Err e) P Q f p = tt

-- one text after another
pub streamed_join : (t u v : Option (List ℕ)) (a b wait last : List ℕ) → IsStreamed t u a wait → IsStreamed u v (wait ++ b) last → IsStreamed t v (a ++ b) last
streamed_join t u v a b wait last first more = record {
  put = first.put ++ more.put;
  taken = more.taken ∙ (ap (λ w. appended w more.put) first.taken ∙ appended-appended t first.put more.put);
  all = append_assoc first.put more.put last ∙ (ap (λ r. first.put ++ r) more.all ∙ (sym (append_assoc first.put wait b) ∙ ap (λ r. r ++ b) first.all));
}

pub join_failing : (t u v : Option (List ℕ)) (a b wait : List ℕ) → IsStreamed t u a wait → AppendsPrefix u v (wait ++ b) → AppendsPrefix t v (a ++ b)
join_failing t u v a b wait first failed =
    streamed_failing t u v (a ++ b) (wait ++ b) [] (streamed_as t u (a ++ b) (wait ++ b) ((wait ++ b) ++ []) (streamed_longer t u a wait b first) (sym (append-nil (wait ++ b)))) failed

pub prefix_longer : (t u : Option (List ℕ)) (a b : List ℕ) → AppendsPrefix t u a → AppendsPrefix t u (a ++ b)
prefix_longer t u a b (n, le, is) = (n, omega (arith, length-append a b), is ∙ ap (appended t) (sym (take-append-le n a b le)))

-- a report's parts
module _ (t u : Option (List ℕ)) (replies files pairs end wait : List ℕ) (first : IsStreamed t u replies wait) where
  pub files_failing : (v : Option (List ℕ)) → AppendsPrefix u v (wait ++ files) → AppendsPrefix t v (replies ++ (files ++ (pairs ++ end)))
  files_failing v failed =
      subst (AppendsPrefix t v) (append_assoc replies files (pairs ++ end)) (prefix_longer t v (replies ++ files) (pairs ++ end) (join_failing t u v replies files wait first failed))

  module _ (v : Option (List ℕ)) (next : List ℕ) (second : IsStreamed u v (wait ++ files) next) where
    both : IsStreamed t v (replies ++ files) next
    both = streamed_join t u v replies files wait next first second

    whole_is : ((replies ++ files) ++ pairs) ++ end ≡ replies ++ (files ++ (pairs ++ end))
    whole_is = append_assoc (replies ++ files) pairs end ∙ append_assoc replies files (pairs ++ end)

    pub pairs_failing : (w : Option (List ℕ)) → AppendsPrefix v w (next ++ pairs) → AppendsPrefix t w (replies ++ (files ++ (pairs ++ end)))
    pairs_failing w failed =
        subst (AppendsPrefix t w) whole_is (prefix_longer t w ((replies ++ files) ++ pairs) end (join_failing t v w (replies ++ files) pairs next both failed))

    module _ (w : Option (List ℕ)) (last : List ℕ) (third : IsStreamed v w (next ++ pairs) last) where
      all_three : IsStreamed t w ((replies ++ files) ++ pairs) last
      all_three = streamed_join t v w (replies ++ files) pairs next last both third

      pub end_failing : (x : Option (List ℕ)) → AppendsPrefix w x (last ++ end) → AppendsPrefix t x (replies ++ (files ++ (pairs ++ end)))
      end_failing x failed =
          subst (AppendsPrefix t x) whole_is (join_failing t w x ((replies ++ files) ++ pairs) end last all_three failed)

      pub end_put : (x : Option (List ℕ)) → x ≡ appended w (last ++ end) → x ≡ appended t (replies ++ (files ++ (pairs ++ end)))
      end_put x is =
          let goes = streamed_join t w x ((replies ++ files) ++ pairs) end last [] all_three (streamed_whole w x (last ++ end) is) in
          goes.taken ∙ ap (appended t) (sym (append-nil goes.put) ∙ (goes.all ∙ whole_is))

-- a prefix was put, and it was left out of the buffer
pub streamed_prefix : (old new : Option (List ℕ)) (n : ℕ) (text left : List ℕ) → new ≡ appended old (take n text) → left ≡ drop n text → IsStreamed old new text left
streamed_prefix old new n text left is rest = record { put = take n text; taken = is; all = ap (λ r. take n text ++ r) rest ∙ take-append-drop n text }
