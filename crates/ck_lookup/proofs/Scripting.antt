-- Script files that are read one after another.
use Rattle.std.proofs.Common.{◌≡◌, ℕ, zero, suc, ◌+◌, ◌-◌, ◌<◌, List, [], ◌∷◌, ◌++◌, length, map, take, drop, get_or, Option, Some, None, refl, ap, subst, sym, ◌∙◌, arith, inl, inr, add-one, Bool, ◌||◌}
use Rattle.std.specs.Prelude.{slice_get}
use Rattle.std.specs.List.{list_any}
use Rattle.std.proofs.lemmas.List.{take_all}
use Rattle.std.proofs.lemmas.List.Folds.{list_any-append}
use Rattle.std.specs.Option.{option_map, option_or}
use Rattle.ck_script.specs.declared.fault.Why.{Why}
use Rattle.ck_script.specs.declared.fault.Why.TheVariants.{Beyond, Many, Circle}
use Rattle.ck_script.specs.declared.check.RangeFault.{RangeFault}
use Rattle.ck_script.specs.Checks.{range_fault, circle_fault}
use Rattle.ck_script.specs.declared.line.Numbered.{Numbered}
use Rattle.ck_script.specs.declared.line.UpLine.{UpLine}
use Rattle.ck_script.specs.declared.line.AskLine.{AskLine}
use Rattle.ck_script.specs.Grammar.{FileSays}
use Rattle.ck_script.specs.Fronts.{is_wait, any_wait}
use Rattle.ck_lookup.specs.Kinds.{Kind}
use Rattle.ck_script.specs.Script.{AsksSay}
use Rattle.ck_script.proofs.Circles.{or_false}
use Rattle.ck_lookup.specs.declared.outcome.Outcome.{Outcome}
use Rattle.ck_lookup.specs.declared.outcome.Outcome.TheVariants.{Done, Usage, ReadFault, BadScript, TooLarge, WriteFault, BadReport, Illegal, NoMemory}
use Rattle.ck_lookup.specs.Causes.{IsLawful, refused_as, checks_refusal}
use Rattle.ck_lookup.specs.Running.{IsRefusedUpdates, IsRefusedQueries, IsRefusedQueryFile, IsRefusedScript}

-- lists under a map, one more element at a time
module _ {X Y : Type 0} (f : X → Y) where
  pub take_mapped : (xs : List X) (i : ℕ) (x : X) → i < length xs → x ≡ get_or xs i x → take (i + 1) (map f xs) ≡ take i (map f xs) ++ f x ∷ []
  take_mapped xs i x lt is = rw add-one (go xs i x lt is)
    where
      go : (xs : List X) (i : ℕ) (x : X) → i < length xs → x ≡ get_or xs i x → take (suc i) (map f xs) ≡ take i (map f xs) ++ f x ∷ []
      go [] i x lt is = absurd (omega arith)
      go (y ∷ xs) zero x lt is = ap (λ z. f z ∷ []) (sym is)
      go (y ∷ xs) (suc i) x lt is = ap (λ ys. f y ∷ ys) (go xs i x (omega arith) is)

  pub mapped_at : (xs : List X) (i : ℕ) (x : X) → i < length xs → x ≡ get_or xs i x → slice_get (map f xs) i ≡ Some (f x)
  mapped_at [] i x lt is = absurd (omega arith)
  mapped_at (y ∷ xs) zero x lt is = ap (λ z. Some (f z)) (sym is)
  mapped_at (y ∷ xs) (suc i) x lt is = mapped_at xs i x (omega arith) is

  pub first_mapped : (xs : List X) (x : X) (y : Y) (ys : List Y) → map f xs ≡ y ∷ ys → x ≡ get_or xs 0 x → (f x ≡ y) × (map f (take (length xs - 1) (drop 1 xs)) ≡ ys)
  first_mapped [] x y ys all is = absurd (cc)
  first_mapped (a ∷ xs) x y ys all is =
      let here : f a ≡ y = cc in
      let later : map f xs ≡ ys = cc in
      (ap f is ∙ here, ap (map f) (take_all (length (a ∷ xs) - 1) xs (omega arith)) ∙ later)

  pub map_push : (xs : List X) (x : X) → map f (xs ++ x ∷ []) ≡ map f xs ++ f x ∷ []
  map_push [] x = refl
  map_push (y ∷ xs) x = ap (λ ys. f y ∷ ys) (map_push xs x)

-- the element at a place
pub next_of : {X : Type 0} (xs : List X) (i : ℕ) → i < length xs → (x : X) × (slice_get xs i ≡ Some x) × (take (i + 1) xs ≡ take i xs ++ x ∷ [])
next_of xs i lt = rw add-one (go xs i lt)
  where
    go : {X : Type 0} (xs : List X) (i : ℕ) → i < length xs → (x : X) × (slice_get xs i ≡ Some x) × (take (suc i) xs ≡ take i xs ++ x ∷ [])
    go [] i lt = absurd (omega arith)
    go (x ∷ xs) zero lt = (x, refl, refl)
    go (x ∷ xs) (suc i) lt = let next = go xs i (omega arith) in (next.0, next.1, ap (λ ys. x ∷ ys) next.2)

module _ {C Q : Type 0} (kind : Kind C Q) where
  -- one more query file says its lines
  pub queries_push : (files : List (List ℕ)) (bytes : List ℕ) (asks : List (List (Numbered (AskLine Q)))) (said : List (Numbered (AskLine Q))) → AsksSay kind.queries.is_line kind.queries.words files asks → FileSays kind.queries.is_line kind.queries.words bytes said → AsksSay kind.queries.is_line kind.queries.words (files ++ bytes ∷ []) (asks ++ said ∷ [])
  queries_push [] bytes [] said all here = (here, tt)
  queries_push [] bytes (a ∷ asks) said all here = absurd all
  queries_push (f ∷ files) bytes [] said all here = absurd all
  queries_push (f ∷ files) bytes (a ∷ asks) said all here = (all.0, queries_push files bytes asks said all.1 here)

  -- each of the files is in the grammar
  lawful_at : (files : List (List ℕ)) (asks : List (List (Numbered (AskLine Q)))) (n i : ℕ) (bytes : List ℕ) → AsksSay kind.queries.is_line kind.queries.words (take n files) asks → i < n → slice_get files i ≡ Some bytes → IsLawful kind 1 bytes
  lawful_at [] asks n i bytes all lt named = absurd (cc)
  lawful_at (f ∷ files) asks zero i bytes all lt named = absurd (omega arith)
  lawful_at (f ∷ files) [] (suc n) i bytes all lt named = absurd all
  lawful_at (f ∷ files) (a ∷ asks) (suc n) zero bytes all lt named = let same : f ≡ bytes = cc in (a, subst (λ b. FileSays kind.queries.is_line kind.queries.words b a) same all.0)
  lawful_at (f ∷ files) (a ∷ asks) (suc n) (suc i) bytes all lt named = lawful_at files asks n i bytes all.1 (omega arith) named

  -- the next query file was refused
  pub refused_queries : (files : List (List ℕ)) (asks : List (List (Numbered (AskLine Q)))) (i number : ℕ) (bytes : List ℕ) (o : Outcome) → number ≡ i + 1 → slice_get files i ≡ Some bytes → AsksSay kind.queries.is_line kind.queries.words (take i files) asks → IsRefusedQueryFile kind number bytes o → IsRefusedQueries kind files o
  refused_queries files asks i number bytes (BadScript file line why) count here all refused = record {
    place = i;
    number = omega (arith, refused.0);
    bytes = bytes;
    here = here;
    first = refused.1;
    earlier = λ j before lt named. lawful_at files asks i j before all lt named;
  }
  refused_queries files asks i number bytes NoMemory count here all refused = tt
  refused_queries files asks i number bytes Done count here all refused = absurd refused
  refused_queries files asks i number bytes Usage count here all refused = absurd refused
  refused_queries files asks i number bytes (ReadFault file) count here all refused = absurd refused
  refused_queries files asks i number bytes (TooLarge file) count here all refused = absurd refused
  refused_queries files asks i number bytes WriteFault count here all refused = absurd refused
  refused_queries files asks i number bytes (BadReport line) count here all refused = absurd refused
  refused_queries files asks i number bytes Illegal count here all refused = absurd refused

  -- the update file was refused
  pub script_without_updates : (u : List ℕ) (qs : List (List ℕ)) (o : Outcome) → IsRefusedUpdates kind u o → IsRefusedScript kind u qs o
  script_without_updates u qs (BadScript file line why) refused = inl (record {
    bytes = u;
    here = rw refused.0 refl;
    first = rw refused.0 refused.1;
    earlier = λ i before lt named. absurd (omega (arith, refused.0));
  })
  script_without_updates u qs NoMemory refused = tt
  script_without_updates u qs Done refused = refused
  script_without_updates u qs Usage refused = refused
  script_without_updates u qs (ReadFault file) refused = refused
  script_without_updates u qs (TooLarge file) refused = refused
  script_without_updates u qs WriteFault refused = refused
  script_without_updates u qs (BadReport line) refused = refused
  script_without_updates u qs Illegal refused = refused

  -- a query file was refused, after the update file had been read
  pub script_without_queries : (u : List ℕ) (qs : List (List ℕ)) (ups : List (Numbered (UpLine C))) (o : Outcome) → FileSays kind.updates.is_line kind.updates.words u ups → IsRefusedQueries kind qs o → IsRefusedScript kind u qs o
  script_without_queries u qs ups (BadScript file line why) says refused = inl (record {
    bytes = refused.bytes;
    here = rw refused.number refused.here;
    first = rw refused.number refused.first;
    earlier = λ i before lt named. lawful_before i before (omega (arith, refused.number)) named;
  })
    where
      lawful_before : (i : ℕ) (before : List ℕ) → i < suc refused.place → slice_get (u ∷ qs) i ≡ Some before → IsLawful kind i before
      lawful_before zero before lt named = let same : u ≡ before = cc in (ups, subst (λ b. FileSays kind.updates.is_line kind.updates.words b ups) same says)
      lawful_before (suc i) before lt named = refused.earlier i before (omega arith) named
  script_without_queries u qs ups NoMemory says refused = tt
  script_without_queries u qs ups Done says refused = refused
  script_without_queries u qs ups Usage says refused = refused
  script_without_queries u qs ups (ReadFault file) says refused = refused
  script_without_queries u qs ups (TooLarge file) says refused = refused
  script_without_queries u qs ups WriteFault says refused = refused
  script_without_queries u qs ups (BadReport line) says refused = refused
  script_without_queries u qs ups Illegal says refused = refused

-- what the checks refuse is a line
refused_line : (a b d : Option RangeFault) (o : Outcome) → option_or (option_map (refused_as Beyond) a) (option_or (option_map (refused_as Many) b) (option_map (refused_as Circle) d)) ≡ Some o
    → (file line : ℕ) × (why : Why) × (o ≡ BadScript file line why)
refused_line (Some f) b d o e = (f.file, f.line, Beyond, cc)
refused_line None (Some f) d o e = (f.file, f.line, Many, cc)
refused_line None None (Some f) o e = (f.file, f.line, Circle, cc)
refused_line None None None o e = absurd (cc)

-- the checks refused a line of files that had been read
pub script_refused : {C Q : Type 0} (kind : Kind C Q) (u : List ℕ) (qs : List (List ℕ)) (ups : List (Numbered (UpLine C))) (asks : List (List (Numbered (AskLine Q)))) (o : Outcome) → FileSays kind.updates.is_line kind.updates.words u ups → AsksSay kind.queries.is_line kind.queries.words qs asks → checks_refusal kind ups asks ≡ Some o → IsRefusedScript kind u qs o
script_refused kind u qs ups asks o says also first =
    let line = refused_line (range_fault ups asks) (kind.surplus asks) (circle_fault ups asks) o first in
    subst (IsRefusedScript kind u qs) (sym line.3) (inr (record { ups = ups; asks = asks; updates_said = says; queries_said = also; first = first ∙ ap (λ r. Some r) line.3 }))

-- a `wait` in one more file
pub any_wait_push : {A : Type 0} (files : List (List (Numbered (AskLine A)))) (said : List (Numbered (AskLine A))) (a b : Bool) → a ≡ any_wait files → b ≡ list_any (λ l. is_wait l.what) said → (a || b) ≡ any_wait (files ++ said ∷ [])
any_wait_push {A} files said a b before here =
    let waits : List (Numbered (AskLine A)) → Bool = λ file. list_any (λ l. is_wait l.what) file in
    ap (λ x. x || b) before ∙ (ap (λ y. any_wait files || y) (here ∙ sym (or_false (waits said))) ∙ sym (list_any-append waits files (said ∷ [])))
