-- From what each part of a judgment says to why its run ends as it does.
use Rattle.std.proofs.Common.{◌≡◌, ℕ, zero, suc, ◌+◌, ◌-◌, ◌≤◌, true, true≢false, List, [], ◌∷◌, ◌++◌, length, map, take, drop, get_or, Option, Some, Vec, refl, ap, subst, sym, ◌∙◌, inl, inr, arith, decimal}
use Rattle.std.specs.Ordering.{nat_cmp}
use Rattle.std.specs.declared.alloc.Global.{Global}
use Rattle.ck_history.specs.Key.{IsKey}
use Rattle.ck_history.specs.declared.update.Update.{Update}
use Rattle.ck_script.specs.declared.line.Numbered.{Numbered}
use Rattle.ck_script.specs.declared.line.UpLine.{UpLine}
use Rattle.ck_script.specs.declared.line.AskLine.{AskLine}
use Rattle.ck_script.specs.Script.{said_of, script_of}
use Rattle.ck_script.specs.Keys.{one_table_key, table_key_one_word}
use Rattle.ck_report.proofs.Gathering.{all_last}
use Rattle.ck_report.proofs.OneReading.{one_reading}
use Rattle.ck_judge.specs.Verdict.{IsLegalReport, is_legal}
use Rattle.ck_judge.specs.declared.verdict.Verdict.{Verdict}
use Rattle.ck_command.specs.Words.{JudgeCommand, Command, Judge, judged_names}
use Rattle.ck_lookup.specs.declared.outcome.Outcome.{Outcome}
use Rattle.ck_lookup.specs.declared.outcome.Outcome.TheVariants.{Done, Usage, ReadFault, BadScript, TooLarge, WriteFault, BadReport, Illegal, NoMemory}
use Rattle.ck_lookup.specs.Tables.{capacity, table_kind}
use Rattle.ck_lookup.specs.Limits.{AreWithin, most_bytes}
use Rattle.ck_lookup.specs.Causes.{Tells, AreSaid, AreRead, Outside, FetchedAll, PutNothing, IsDoneOrNoMemory}
use Rattle.ck_lookup.specs.Judging.{judged_files, IsJudged, IsLegalOf, HasFiles, HasVerdict, EndsJudged, IsClearJudged, IsIllegalOrNoMemory}
use Rattle.ck_lookup.specs.Running.{IsRefusedFetch, IsRefusedScript, IsNoReport, IsNotJudged, HasNoVerdict, PutsVerdict}
use Rattle.ck_lookup.proofs.Told.{read_told}
use Rattle.ck_lookup.proofs.Ending.{one_table, one_script, no_bad_script, none_too_large}

-- a list that isn't empty has a last element, and those before it
split_end : {X : Type 0} (x : X) (xs : List X) → (front : List X) × (last : X) × (x ∷ xs ≡ front ++ last ∷ [])
split_end x [] = ([], x, refl)
split_end x (y ∷ xs) = let later = split_end y xs in (x ∷ later.0, later.1, ap (λ l. x ∷ l) later.2)

-- files that were read under two names or more are an update file, query files and a report
pub some_judged : (held : List ℕ → Option (List ℕ)) (name : List ℕ) (names files : List (List ℕ)) → AreRead held (name ∷ names) files → 1 ≤ length names
    → (u : List ℕ) × (qs : List (List ℕ)) × (r : List ℕ) × (files ≡ judged_files u qs r)
some_judged held name names [] read some = absurd read
some_judged held name [] (f ∷ files) read some = absurd (omega arith)
some_judged held name (n ∷ names) (f ∷ []) read some = absurd read.1
some_judged held name (n ∷ names) (f ∷ g ∷ files) read some = let parts = split_end g files in (f, parts.0, parts.1, ap (λ l. f ∷ l) parts.2)

-- .. under a map
module _ {X Y : Type 0} (f : X → Y) where
  last_mapped : (n : ℕ) (xs : List X) (ys : List Y) (w : Y) (z : X) → length xs ≡ n + 1 → map f xs ≡ ys ++ w ∷ [] → z ≡ get_or xs n z → (map f (take n xs) ≡ ys) × (f z ≡ w)
  last_mapped n [] [] w z long same is = absurd (cc)
  last_mapped n [] (y ∷ ys) w z long same is = absurd (cc)
  last_mapped zero (x ∷ []) [] w z long same is = let here : f x ≡ w = cc in (refl, ap f is ∙ here)
  last_mapped zero (x ∷ []) (y ∷ []) w z long same is = absurd (cc)
  last_mapped zero (x ∷ []) (y ∷ v ∷ ys) w z long same is = absurd (cc)
  last_mapped zero (x ∷ x' ∷ xs) ys w z long same is = absurd (omega arith)
  last_mapped (suc n) (x ∷ []) ys w z long same is = absurd (omega arith)
  last_mapped (suc n) (x ∷ x' ∷ xs) [] w z long same is = absurd (cc)
  last_mapped (suc n) (x ∷ x' ∷ xs) (y ∷ ys) w z long same is =
      let here : f x ≡ y = cc in
      let later : map f (x' ∷ xs) ≡ ys ++ w ∷ [] = cc in
      let rest = last_mapped n (x' ∷ xs) ys w z (omega arith) later is in
      (ap (λ v. v ∷ map f (take n (x' ∷ xs))) here ∙ ap (λ vs. y ∷ vs) rest.0, rest.1)

  pub ends_mapped : (n : ℕ) (xs : List X) (x z : X) (y : Y) (ys : List Y) (w : Y) → length xs ≡ n + 2 → map f xs ≡ y ∷ (ys ++ w ∷ []) → x ≡ get_or xs 0 x → z ≡ get_or xs (n + 1) z
      → (f x ≡ y) × (map f (take n (drop 1 xs)) ≡ ys) × (f z ≡ w)
  ends_mapped n [] x z y ys w long same first last = absurd (cc)
  ends_mapped n (a ∷ xs) x z y ys w long same first last =
      let here : f a ≡ y = cc in
      let later : map f xs ≡ ys ++ w ∷ [] = cc in
      let rest = last_mapped n xs ys w z (omega arith) later (last ∙ sym_at n) in
      (ap f first ∙ here, rest.0, rest.1)
    where
      sym_at : (k : ℕ) → get_or (a ∷ xs) (k + 1) z ≡ get_or xs k z
      sym_at k = let e : k + 1 ≡ suc k = omega arith in rw e refl

-- a script that wasn't read
pub script_not_judged : (u : List ℕ) (qs : List (List ℕ)) (r : List ℕ) (o : Outcome) → IsRefusedScript table_kind u qs o → IsNotJudged u qs r o
script_not_judged u qs r (BadScript file line why) refused = refused
script_not_judged u qs r NoMemory refused = tt
script_not_judged u qs r Done refused = absurd refused
script_not_judged u qs r Usage refused = absurd refused
script_not_judged u qs r (ReadFault file) refused = absurd refused
script_not_judged u qs r (TooLarge file) refused = absurd refused
script_not_judged u qs r WriteFault refused = absurd refused
script_not_judged u qs r (BadReport line) refused = absurd refused
script_not_judged u qs r Illegal refused = absurd refused

-- a report that wasn't read, beside scripts that were
pub report_not_judged : (u : List ℕ) (qs : List (List ℕ)) (r : List ℕ) (ups : List (Numbered (UpLine (Update ℕ)))) (asks : List (List (Numbered (AskLine ℕ)))) (o : Outcome) → AreSaid table_kind u qs ups asks → IsNoReport r o → IsNotJudged u qs r o
report_not_judged u qs r ups asks (BadReport line) said refused = record { ups = ups; asks = asks; said = said; first = refused.0; no_report = refused.1 }
report_not_judged u qs r ups asks NoMemory said refused = tt
report_not_judged u qs r ups asks Done said refused = absurd refused
report_not_judged u qs r ups asks Usage said refused = absurd refused
report_not_judged u qs r ups asks (ReadFault file) said refused = absurd refused
report_not_judged u qs r ups asks (TooLarge file) said refused = absurd refused
report_not_judged u qs r ups asks (BadScript file line why) said refused = absurd refused
report_not_judged u qs r ups asks WriteFault said refused = absurd refused
report_not_judged u qs r ups asks Illegal said refused = absurd refused

-- the files of a judgment, as they are kept
pub judged_mapped : (xs : List (Vec ℕ Global)) (x z : Vec ℕ Global) (u : List ℕ) (qs : List (List ℕ)) (r : List ℕ) → 2 ≤ length xs → map (λ file. file.items) xs ≡ judged_files u qs r → x ≡ get_or xs 0 x → z ≡ get_or xs (length xs - 1) z
    → (x.items ≡ u) × (map (λ file. file.items) (take (length xs - 1 - 1) (drop 1 xs)) ≡ qs) × (z.items ≡ r)
judged_mapped xs x z u qs r some same first last =
    let at : length xs - 1 ≡ length xs - 1 - 1 + 1 = omega (arith, some) in
    let long : length xs ≡ length xs - 1 - 1 + 2 = omega (arith, some) in
    ends_mapped (λ (file : Vec ℕ Global). file.items) (length xs - 1 - 1) xs x z u qs r long same first (subst (λ k. z ≡ get_or xs k z) at last)

module _ (held : List ℕ → Option (List ℕ)) (names : List (List ℕ)) where
  -- files that weren't all fetched
  pub fetch_without : (before after : List ℕ → ℕ) (o : Outcome) → IsRefusedFetch held names before after o → HasNoVerdict held names before after o
  fetch_without before after (ReadFault file) refused = refused
  fetch_without before after (TooLarge file) refused = refused
  fetch_without before after NoMemory refused = refused
  fetch_without before after Done refused = absurd refused
  fetch_without before after Usage refused = absurd refused
  fetch_without before after (BadScript file line why) refused = absurd refused
  fetch_without before after WriteFault refused = absurd refused
  fetch_without before after (BadReport line) refused = absurd refused
  fetch_without before after Illegal refused = absurd refused

  module _ (files : List (List ℕ)) (u : List ℕ) (qs : List (List ℕ)) (r : List ℕ) (is : files ≡ judged_files u qs r) (read : AreRead held names files) (within : AreWithin files) where
    -- what holds of them holds of the files that there are
    pub has_files : (Holds : List ℕ → List (List ℕ) → List ℕ → Type 0) → Holds u qs r → HasFiles held names Holds
    has_files Holds holds = record { update_file = u; query_files = qs; report_file = r; read = subst (AreRead held names) is read; within = subst AreWithin is within; holds = holds }

    -- files that weren't judged
    pub not_judged : (before after : List ℕ → ℕ) (o : Outcome) → after ≡ before → IsNotJudged u qs r o → HasNoVerdict held names before after o
    not_judged before after (BadScript file line why) fetched refused = (fetched, has_files _ refused)
    not_judged before after (BadReport line) fetched refused = (fetched, has_files _ refused)
    not_judged before after NoMemory fetched refused = tt
    not_judged before after Done fetched refused = absurd refused
    not_judged before after Usage fetched refused = absurd refused
    not_judged before after (ReadFault file) fetched refused = absurd refused
    not_judged before after (TooLarge file) fetched refused = absurd refused
    not_judged before after WriteFault fetched refused = absurd refused
    not_judged before after Illegal fetched refused = absurd refused

  -- lists with the same last element
  same_end : (xs ys : List (List ℕ)) (x y : List ℕ) → xs ++ x ∷ [] ≡ ys ++ y ∷ [] → (xs ≡ ys) × (x ≡ y)
  same_end [] [] x y e = (refl, cc)
  same_end [] (b ∷ []) x y e = absurd (cc)
  same_end [] (b ∷ c ∷ ys) x y e = absurd (cc)
  same_end (a ∷ []) [] x y e = absurd (cc)
  same_end (a ∷ c ∷ xs) [] x y e = absurd (cc)
  same_end (a ∷ xs) (b ∷ ys) x y e =
      let here : a ≡ b = cc in
      let later : xs ++ x ∷ [] ≡ ys ++ y ∷ [] = cc in
      let rest = same_end xs ys x y later in
      (ap (λ v. v ∷ xs) here ∙ ap (λ vs. b ∷ vs) rest.0, rest.1)

  -- what holds of the files that there are holds of those that are told
  told_holds : (Holds : List ℕ → List (List ℕ) → List ℕ → Type 0) (u : List ℕ) (qs : List (List ℕ)) (r : List ℕ) → HasFiles held names Holds → Tells held names u (qs ++ r ∷ []) → Holds u qs r
  told_holds Holds u qs r has told =
      let same : u ∷ (qs ++ r ∷ []) ≡ judged_files has.update_file has.query_files has.report_file = read_told held names (judged_files has.update_file has.query_files has.report_file) (u ∷ (qs ++ r ∷ [])) has.read told in
      let first : has.update_file ≡ u = cc in
      let more : has.query_files ++ has.report_file ∷ [] ≡ qs ++ r ∷ [] = cc in
      let later = same_end has.query_files qs has.report_file r more in
      subst (λ x. Holds u qs x) later.1 (subst (λ xs. Holds u xs has.report_file) later.0 (subst (λ x. Holds x has.query_files has.report_file) first has.holds))

module _ (o : Outside) (ns : List (List ℕ)) where
  -- a run that finds no verdict puts nothing
  pub without_ends : (outcome : Outcome) → HasNoVerdict o.held ns o.shelf_before o.shelf_after outcome → PutNothing o ns → EndsJudged o ns outcome
  without_ends (ReadFault file) refused nothing = (refused, nothing)
  without_ends (TooLarge file) refused nothing = (refused.0, refused.1, nothing)
  without_ends (BadScript file line why) refused nothing = (refused.0, refused.1, nothing)
  without_ends (BadReport line) refused nothing = (refused.0, refused.1, nothing)
  without_ends NoMemory refused nothing = nothing
  without_ends Done refused nothing = absurd refused
  without_ends Usage refused nothing = absurd refused
  without_ends WriteFault refused nothing = absurd refused
  without_ends Illegal refused nothing = absurd refused

  -- and one that finds a verdict puts its line
  pub verdict_ends : (verdict : Verdict) (outcome : Outcome) → FetchedAll o ns → HasVerdict o.held ns verdict → PutsVerdict verdict o.taken_before o.taken_after o.sink_before o.sink_after outcome → EndsJudged o ns outcome
  verdict_ends verdict Done fetched has put = (fetched, (verdict, has, put.0, put.1))
  verdict_ends verdict Illegal fetched has put = (fetched, (verdict, has, put.0, put.1))
  verdict_ends verdict WriteFault fetched has put = (fetched, put.0, (verdict, has, put.1))
  verdict_ends verdict NoMemory fetched has put = put
  verdict_ends verdict Usage fetched has put = absurd put
  verdict_ends verdict (ReadFault file) fetched has put = absurd put
  verdict_ends verdict (TooLarge file) fetched has put = absurd put
  verdict_ends verdict (BadScript file line why) fetched has put = absurd put
  verdict_ends verdict (BadReport line) fetched has put = absurd put

-- a verdict on scripts and a report
module _ (u : List ℕ) (qs : List (List ℕ)) (r : List ℕ) where
  legal_of : (verdict : Verdict) → IsJudged u qs r verdict → is_legal verdict ≡ true → IsLegalOf u qs r
  legal_of verdict j legal = record {
    script = script_of (said_of j.ups) (map said_of j.asks);
    meant = record { ups = j.ups; asks = j.asks; updates_said = j.said.updates_said; queries_said = j.said.queries_said; asked = refl };
    report = j.report;
    reads = j.reads;
    legal = j.exact.0 legal;
  }

module _ (o : Outside) (ns : List (List ℕ)) (u : List ℕ) (qs : List (List ℕ)) (r : List ℕ) where
  -- where the run is done, the report could have come from the scripts
  pub done_legal : (outcome : Outcome) → EndsJudged o ns outcome → Tells o.held ns u (qs ++ r ∷ []) → outcome ≡ Done → IsLegalOf u qs r
  done_legal outcome ends told done =
      let whole : EndsJudged o ns Done = subst (EndsJudged o ns) done ends in
      let verdict = whole.1 in
      legal_of u qs r verdict.0 (told_holds o.held ns _ u qs r verdict.1 told) verdict.2

  module _ (clear : IsClearJudged o ns u qs r) where
    here : (Holds : List ℕ → List (List ℕ) → List ℕ → Type 0) → HasFiles o.held ns Holds → Holds u qs r
    here Holds has = told_holds o.held ns Holds u qs r has clear.told

    -- the report has one reading, so a verdict is that on whichever is legal
    told_legal : (verdict : Verdict) → IsJudged u qs r verdict → IsLegalOf u qs r → is_legal verdict ≡ true
    told_legal verdict j could =
        let meant = could.meant in
        let short = all_last (λ bytes. length bytes ≤ most_bytes) qs r clear.within.short.1 in
        let same = one_script table_kind one_table u qs meant.ups j.ups meant.asks j.asks meant.updates_said j.said.updates_said meant.queries_said j.said.queries_said in
        let script : could.script ≡ script_of (said_of j.ups) (map said_of j.asks) =
        meant.asked ∙ (ap (λ ups. script_of (said_of ups) (map said_of meant.asks)) same.0 ∙ ap (λ asks. script_of (said_of j.ups) (map said_of asks)) same.1) in
        let report = one_reading IsKey decimal nat_cmp one_table_key table_key_one_word r could.report j.report (omega (arith, short)) could.reads j.reads in
        j.exact.1 (subst (IsLegalReport nat_cmp capacity (script_of (said_of j.ups) (map said_of j.asks))) report (subst (λ s. IsLegalReport nat_cmp capacity s could.report) script could.legal))

    -- where nothing stands against a verdict, the run tells it or finds no memory
    pub complete_judged : (outcome : Outcome) → EndsJudged o ns outcome
        → (IsLegalOf u qs r → IsDoneOrNoMemory outcome) × ((IsLegalOf u qs r → ⊥) → IsIllegalOrNoMemory outcome)
    complete_judged Done ends =
        let verdict = ends.1 in
        (λ could. inl refl, λ never. absurd (never (legal_of u qs r verdict.0 (here _ verdict.1) verdict.2)))
    complete_judged Illegal ends =
        let verdict = ends.1 in
        (λ could. absurd (true≢false (sym (told_legal verdict.0 (here _ verdict.1) could) ∙ verdict.2)), λ never. inl refl)
    complete_judged NoMemory ends = (λ could. inr refl, λ never. inr refl)
    complete_judged Usage ends = absurd ends
    complete_judged WriteFault ends = absurd (clear.no_write_fault ends.1)
    complete_judged (ReadFault file) ends = absurd (clear.no_read_fault ends.0.name ends.0.rose)
    complete_judged (TooLarge file) ends = absurd (none_too_large o.held ns (u ∷ (qs ++ r ∷ [])) file clear.told clear.within ends.1)
    complete_judged (BadScript file line why) ends = absurd (no_bad_script table_kind one_table u qs clear.ups clear.asks file (record { line = line; why = why }) clear.said (here _ ends.1))
    complete_judged (BadReport line) ends = let bad = here _ ends.1 in absurd (bad.no_report clear.report)

-- of a command that the words give
pub judged_asked : (o : Outside) (words : Option Command) (c asked : JudgeCommand) (outcome : Outcome) → words ≡ Some (Judge c) → words ≡ Some (Judge asked) → EndsJudged o (judged_names c) outcome → EndsJudged o (judged_names asked) outcome
judged_asked o words c asked outcome is also ends =
    let same : c ≡ asked = cc in
    subst (λ k. EndsJudged o (judged_names k) outcome) same ends
