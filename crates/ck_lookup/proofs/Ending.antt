-- From what each part of a run says to why the run ends as it does.
use Rattle.std.proofs.Common.{◌≡◌, ℕ, zero, suc, ◌+◌, ◌≤◌, List, [], ◌∷◌, ◌++◌, map, take, Option, Some, None, Result, Ok, Err, IfOk, IfErr, OnOk, refl, ap, subst, ◌∙◌, ◌⊎◌, arith, inl, inr, decimal}
use Rattle.std.specs.List.{AllByRecursion}
use Rattle.std.proofs.lemmas.List.Sums.{sum_by-take-le}
use Rattle.std.specs.Prelude.{length, slice_get}
use Rattle.ck_io.specs.Sink.{appended, AppendsPrefix}
use Rattle.ck_report.specs.declared.put.PutError.TheVariants.{Memory}
use Rattle.ck_history.specs.Key.{IsKey}
use Rattle.ck_script.specs.declared.fault.ScriptFault.{ScriptFault}
use Rattle.ck_script.specs.declared.line.Numbered.{Numbered}
use Rattle.ck_script.specs.declared.line.UpLine.{UpLine}
use Rattle.ck_script.specs.declared.line.AskLine.{AskLine}
use Rattle.ck_script.specs.Grammar.{FileSays}
use Rattle.ck_script.specs.Keys.{one_table_key}
use Rattle.ck_script.specs.Script.{AsksSay, said_of, script_of}
use Rattle.ck_script.proofs.Meaning.{one_update_file, one_query_file}
use Rattle.ck_script.specs.ListGrammar.{IsEditLine, edit_words, IsViewLine, view_words}
use Rattle.ck_script.specs.Unique.{edit_speaks, view_speaks, one_edit_line, one_view_line}
use Rattle.ck_script.proofs.Saying.{says_one, no_first_fault}
use Rattle.ck_lookup.specs.declared.outcome.Outcome.{Outcome}
use Rattle.ck_lookup.specs.declared.outcome.Outcome.TheVariants.{Done, Usage, ReadFault, BadScript, TooLarge, WriteFault, BadReport, Illegal, NoMemory}
use Rattle.ck_lookup.specs.Kinds.{Kind}
use Rattle.ck_lookup.specs.Tables.{table_kind}
use Rattle.ck_lookup.specs.Headline.{IsReportOf, IsTextOf}
use Rattle.ck_lookup.specs.Limits.{AreWithin, line_count}
use Rattle.ck_command.specs.Words.{Kind as Named, table, list, RunCommand, Command, Run, Make, names}
use Rattle.ck_lookup.specs.Lists.{list_kind}
use Rattle.ck_lookup.specs.RunKinds.{kind_of}
use Rattle.ck_lookup.specs.Causes.{Tells, AreRead, AreSaid, AreAccepted, checks_refusal, IsBadScript, IsLawful, IsFaultOf, IsTooLarge, HasReport, Outside, MayEndWith, IsClear, IsDoneOrNoMemory}
use Rattle.ck_lookup.specs.Making.{made_text, PutsText}
use Rattle.ck_lookup.specs.Running.{AreRunnable, IsRefusedScript, IsRefusedFetch, IsRefusedRun, MayBegin, HasPut}
use Rattle.ck_lookup.proofs.Reporting.{report_is, begins}
use Rattle.ck_lookup.proofs.Told.{read_told}

-- as many files were read as there are names
pub read_long : {N : Type 0} (told : N → Option (List ℕ)) (names : List N) (files : List (List ℕ)) → AreRead told names files → length files ≡ length names
read_long told [] [] read = refl
read_long told [] (f ∷ files) read = absurd read
read_long told (n ∷ names) [] read = absurd read
read_long told (n ∷ names) (f ∷ files) read = let h = read_long told names files read.1 in omega arith

module _ (held : List ℕ → Option (List ℕ)) (names : List (List ℕ)) where
  -- what the shelf tells of files is what was read
  told_files : (u : List ℕ) (qs : List (List ℕ)) (v : List ℕ) (rs : List (List ℕ)) → AreRead held names (v ∷ rs) → Tells held names u qs → (v ≡ u) × (rs ≡ qs)
  told_files u qs v rs read tells =
      let same : u ∷ qs ≡ v ∷ rs = read_told held names (v ∷ rs) (u ∷ qs) read tells in
      let head : v ≡ u = cc in
      let tail : rs ≡ qs = cc in
      (head, tail)

module _ {C Q : Type 0} (kind : Kind C Q) (held : List ℕ → Option (List ℕ)) (names : List (List ℕ)) where
  -- files that weren't all fetched
  pub refused_fetch : (before after : List ℕ → ℕ) (o : Outcome) → IsRefusedFetch held names before after o → IsRefusedRun kind held names before after o
  refused_fetch before after (ReadFault file) refused = refused
  refused_fetch before after (TooLarge file) refused = refused
  refused_fetch before after NoMemory refused = refused
  refused_fetch before after Done refused = absurd refused
  refused_fetch before after Usage refused = absurd refused
  refused_fetch before after (BadScript file line why) refused = absurd refused
  refused_fetch before after WriteFault refused = absurd refused
  refused_fetch before after (BadReport line) refused = absurd refused
  refused_fetch before after Illegal refused = absurd refused

  -- a refused script
  pub refused_script : (files : List (List ℕ)) (before after : List ℕ → ℕ) (o : Outcome) (u : List ℕ) (qs : List (List ℕ)) → files ≡ u ∷ qs → AreRead held names files → AreWithin files → after ≡ before → IsRefusedScript kind u qs o → IsRefusedRun kind held names before after o
  refused_script files before after (BadScript file line why) u qs is read within fetched refused = (
    fetched,
    record { update_file = u; query_files = qs; read = subst (AreRead held names) is read; within = subst AreWithin is within; first = refused },
  )
  refused_script files before after NoMemory u qs is read within fetched refused = tt
  refused_script files before after Done u qs is read within fetched refused = absurd refused
  refused_script files before after Usage u qs is read within fetched refused = absurd refused
  refused_script files before after (ReadFault file) u qs is read within fetched refused = absurd refused
  refused_script files before after (TooLarge file) u qs is read within fetched refused = absurd refused
  refused_script files before after WriteFault u qs is read within fetched refused = absurd refused
  refused_script files before after (BadReport line) u qs is read within fetched refused = absurd refused
  refused_script files before after Illegal u qs is read within fetched refused = absurd refused

  -- scripts that were read
  pub runnable : (files : List (List ℕ)) (u : List ℕ) (qs : List (List ℕ)) (ups : List (Numbered (UpLine C))) (asks : List (List (Numbered (AskLine Q)))) → files ≡ u ∷ qs → AreRead held names files → AreWithin files → AreSaid kind u qs ups asks → AreRunnable kind held names ups asks
  runnable files u qs ups asks is read within said = record {
    update_file = u;
    query_files = qs;
    read = subst (AreRead held names) is read;
    within = subst AreWithin is within;
    said = said;
  }

  -- a text of what they ask for is a report
  pub runnable_report : (ups : List (Numbered (UpLine C))) (asks : List (List (Numbered (AskLine Q)))) (text : List ℕ) → AreRunnable kind held names ups asks → IsTextOf kind (script_of (said_of ups) (map said_of asks)) text → HasReport kind held names text
  runnable_report ups asks text r is = record {
    update_file = r.update_file;
    query_files = r.query_files;
    read = r.read;
    accepted = record { within = r.within; ups = ups; asks = asks; said = r.said };
    report = report_is kind r.update_file r.query_files ups asks text r.said is;
  }

  -- where memory ran out, nothing was put, or the front of a report
  pub memory_ends : (ups : List (Numbered (UpLine C))) (asks : List (List (Numbered (AskLine Q)))) (before after : Option (List ℕ)) (Fetched : Type 0) → AreRunnable kind held names ups asks → Fetched → HasPut kind (script_of (said_of ups) (map said_of asks)) before after Memory
      → (after ≡ before) ⊎ (Fetched × ((text : List ℕ) × HasReport kind held names text × AppendsPrefix before after text))
  memory_ends ups asks before after Fetched r fetched (inl same) = inl same
  memory_ends ups asks before after Fetched r fetched (inr (text, is, front)) = inr (fetched, (text, runnable_report ups asks text r is, front))

  -- what 1 to 64 query files say may begin
  pub runnable_begins : (ups : List (Numbered (UpLine C))) (asks : List (List (Numbered (AskLine Q)))) → AreRunnable kind held names ups asks → 2 ≤ length names → length names ≤ 65 → MayBegin ups asks
  runnable_begins ups asks r some few =
      let long : length (r.update_file ∷ r.query_files) ≡ length names = read_long held names (r.update_file ∷ r.query_files) r.read in
      begins kind r.update_file r.query_files ups asks r.within r.said (omega (arith, long, some)) (omega (arith, long, few))

  -- a report of the files that there are is one of the files that are told
  told_report : (text : List ℕ) (u : List ℕ) (qs : List (List ℕ)) → HasReport kind held names text → Tells held names u qs → AreAccepted kind u qs × IsReportOf kind u qs text
  told_report text u qs has tells =
      let same = told_files held names u qs has.update_file has.query_files has.read tells in (
        subst (λ q. AreAccepted kind u q) same.1 (subst (λ v. AreAccepted kind v has.query_files) same.0 has.accepted),
        subst (λ q. IsReportOf kind u q text) same.1 (subst (λ v. IsReportOf kind v has.query_files text) same.0 has.report),
      )

-- files that were read under names, of which there is one, are one and others
pub some_read : (held : List ℕ → Option (List ℕ)) (name : List ℕ) (names files : List (List ℕ)) → AreRead held (name ∷ names) files → (head : List ℕ) × (tail : List (List ℕ)) × (files ≡ head ∷ tail)
some_read held name names [] read = absurd read
some_read held name names (f ∷ files) read = (f, files, refl)

module _ {C Q : Type 0} (kind : Kind C Q) where
  -- a file in the grammar has no fault
  no_fault : (file : ℕ) (bytes : List ℕ) (fault : ScriptFault) → IsLawful kind file bytes → IsFaultOf kind file bytes fault → ⊥
  no_fault zero bytes fault lawful faulty = no_first_fault _ _ _ bytes lawful.0 fault lawful.1 faulty
  no_fault (suc file) bytes fault lawful faulty = no_first_fault _ _ _ bytes lawful.0 fault lawful.1 faulty

-- all that is told is told of the first files, however many
tells_first : (held : List ℕ → Option (List ℕ)) (ns ts : List (List ℕ)) (n : ℕ) → map held ns ≡ map Some ts → map held (take n ns) ≡ map Some (take n ts)
tells_first held ns ts zero tells = refl
tells_first held [] [] (suc n) tells = refl
tells_first held [] (t ∷ ts) (suc n) tells = absurd (cc)
tells_first held (m ∷ ns) [] (suc n) tells = absurd (cc)
tells_first held (m ∷ ns) (t ∷ ts) (suc n) tells =
    let here : held m ≡ Some t = cc in
    let later : map held ns ≡ map Some ts = cc in
    ap (λ x. x ∷ map held (take n ns)) here ∙ ap (λ xs. Some t ∷ xs) (tells_first held ns ts n later)

all_first : {X : Type 0} (P : X → Type 0) (xs : List X) (n : ℕ) → AllByRecursion P xs → AllByRecursion P (take n xs)
all_first P xs zero all = tt
all_first P [] (suc n) all = tt
all_first P (x ∷ xs) (suc n) all = (all.0, all_first P xs n all.1)

-- the first of files within the limits are within them
first_of_within : (files : List (List ℕ)) (n : ℕ) → AreWithin files → AreWithin (take n files)
first_of_within files n within = record {
  short = all_first _ files n within.short;
  few_lines = all_first _ files n within.few_lines;
  short_in_all = omega (arith, sum_by-take-le length files n, within.short_in_all);
  few_lines_in_all = omega (arith, sum_by-take-le line_count files n, within.few_lines_in_all);
}

-- a file says one thing
pub record SaysOneThing {C Q : Type 0} (kind : Kind C Q) : Type 0 where
  pub updates : (bytes : List ℕ) (a b : List (Numbered (UpLine C))) → FileSays kind.updates.is_line kind.updates.words bytes a → FileSays kind.updates.is_line kind.updates.words bytes b → a ≡ b
  pub queries : (bytes : List ℕ) (a b : List (Numbered (AskLine Q))) → FileSays kind.queries.is_line kind.queries.words bytes a → FileSays kind.queries.is_line kind.queries.words bytes b → a ≡ b

one_list : SaysOneThing list_kind
one_list = record {
  updates = λ bytes a b. says_one IsEditLine edit_words one_edit_line edit_speaks bytes a b;
  queries = λ bytes a b. says_one IsViewLine view_words one_view_line view_speaks bytes a b;
}

pub one_table : SaysOneThing table_kind
one_table = record {
  updates = λ bytes a b. one_update_file IsKey decimal one_table_key bytes a b;
  queries = λ bytes a b. one_query_file IsKey decimal one_table_key bytes a b;
}

module _ {C Q : Type 0} (kind : Kind C Q) where
  -- query files say one thing
  one_queries : SaysOneThing kind → (files : List (List ℕ)) (a b : List (List (Numbered (AskLine Q)))) → AsksSay kind.queries.is_line kind.queries.words files a → AsksSay kind.queries.is_line kind.queries.words files b → a ≡ b
  one_queries one [] [] [] says also = refl
  one_queries one [] [] (y ∷ b) says also = absurd also
  one_queries one [] (x ∷ a) b says also = absurd says
  one_queries one (f ∷ files) [] b says also = absurd says
  one_queries one (f ∷ files) (x ∷ a) [] says also = absurd also
  one_queries one (f ∷ files) (x ∷ a) (y ∷ b) says also =
      ap (λ z. z ∷ a) (one.queries f x y says.0 also.0) ∙ ap (λ zs. y ∷ zs) (one_queries one files a b says.1 also.1)

  -- each of the files that say something is in the grammar
  lawful_query : (files : List (List ℕ)) (asks : List (List (Numbered (AskLine Q)))) (i : ℕ) (bytes : List ℕ) → AsksSay kind.queries.is_line kind.queries.words files asks → slice_get files i ≡ Some bytes → IsLawful kind 1 bytes
  lawful_query [] asks i bytes says named = absurd (cc)
  lawful_query (f ∷ files) [] i bytes says named = absurd says
  lawful_query (f ∷ files) (a ∷ asks) zero bytes says named = let same : f ≡ bytes = cc in (a, subst (λ b. FileSays kind.queries.is_line kind.queries.words b a) same says.0)
  lawful_query (f ∷ files) (a ∷ asks) (suc i) bytes says named = lawful_query files asks i bytes says.1 named

  lawful_file : (u : List ℕ) (qs : List (List ℕ)) (ups : List (Numbered (UpLine C))) (asks : List (List (Numbered (AskLine Q)))) → AreSaid kind u qs ups asks → (i : ℕ) (bytes : List ℕ) → slice_get (u ∷ qs) i ≡ Some bytes → IsLawful kind i bytes
  lawful_file u qs ups asks said zero bytes named = let same : u ≡ bytes = cc in (ups, subst (λ b. FileSays kind.updates.is_line kind.updates.words b ups) same said.updates_said)
  lawful_file u qs ups asks said (suc i) bytes named = lawful_query qs asks i bytes said.queries_said named

  -- scripts say one thing
  pub one_script : SaysOneThing kind → (u : List ℕ) (qs : List (List ℕ)) (ups vs : List (Numbered (UpLine C))) (asks bs : List (List (Numbered (AskLine Q)))) → FileSays kind.updates.is_line kind.updates.words u ups → FileSays kind.updates.is_line kind.updates.words u vs → AsksSay kind.queries.is_line kind.queries.words qs asks → AsksSay kind.queries.is_line kind.queries.words qs bs → (ups ≡ vs) × (asks ≡ bs)
  one_script one u qs ups vs asks bs ups_said vs_said asks_said bs_said = (one.updates u ups vs ups_said vs_said, one_queries one qs asks bs asks_said bs_said)

  -- files of which nothing is refused have no first fault
  pub no_bad_script : SaysOneThing kind → (u : List ℕ) (qs : List (List ℕ)) (ups : List (Numbered (UpLine C))) (asks : List (List (Numbered (AskLine Q)))) (file : ℕ) (fault : ScriptFault) → AreSaid kind u qs ups asks → IsBadScript kind u qs file fault → ⊥
  no_bad_script one u qs ups asks file fault said (inl bad) = no_fault kind file bad.bytes fault (lawful_file u qs ups asks said file bad.bytes bad.here) bad.first
  no_bad_script one u qs ups asks file fault said (inr refused) =
      let same = one_script one u qs ups refused.ups asks refused.asks said.updates_said refused.updates_said said.queries_said refused.queries_said in
      let none : checks_refusal kind refused.ups refused.asks ≡ None = subst (λ a. checks_refusal kind refused.ups a ≡ None) same.1 (subst (λ l. checks_refusal kind l asks ≡ None) same.0 said.checked) in
      let some = refused.first in
      absurd (cc)

-- files within the limits have none that is past them
pub none_too_large : (held : List ℕ → Option (List ℕ)) (ns files : List (List ℕ)) (file : ℕ) → map held ns ≡ map Some files → AreWithin files → IsTooLarge held ns file → ⊥
none_too_large held ns files file told within large =
    let same : take (file + 1) files ≡ large.earlier ++ large.bytes ∷ [] = read_told held (take (file + 1) ns) (large.earlier ++ large.bytes ∷ []) (take (file + 1) files) large.read (tells_first held ns files (file + 1) told) in
    large.past (subst AreWithin same (first_of_within files (file + 1) within))

module _ {C Q : Type 0} (kind : Kind C Q) where
  -- where nothing stands against a whole report, the run is done or finds no memory
  complete : SaysOneThing kind → (o : Outside) (ns : List (List ℕ)) (outcome : Outcome) (u : List ℕ) (qs : List (List ℕ)) → MayEndWith kind o ns outcome → IsClear kind o ns u qs → IsDoneOrNoMemory outcome
  complete one o ns Done u qs ends clear = inl refl
  complete one o ns Usage u qs ends clear = absurd ends
  complete one o ns (ReadFault file) u qs ends clear = absurd (clear.no_read_fault ends.0.name ends.0.rose)
  complete one o ns (TooLarge file) u qs ends clear = absurd (none_too_large o.held ns (u ∷ qs) file clear.told clear.accepted.within ends.1)
  complete one o ns (BadScript file line why) u qs ends clear =
      let bad = ends.1 in
      let same = told_files o.held ns u qs bad.update_file bad.query_files bad.read clear.told in
      let first = subst (λ q. IsBadScript kind u q file (record { line = line; why = why })) same.1 (subst (λ v. IsBadScript kind v bad.query_files file (record { line = line; why = why })) same.0 bad.first) in
      absurd (no_bad_script kind one u qs clear.accepted.ups clear.accepted.asks file (record { line = line; why = why }) clear.accepted.said first)
  complete one o ns WriteFault u qs ends clear = absurd (clear.no_write_fault ends.1)
  complete one o ns (BadReport line) u qs ends clear = absurd ends
  complete one o ns Illegal u qs ends clear = absurd ends
  complete one o ns NoMemory u qs ends clear = inr refl

  -- where the run is done and the shelf tells the files, the sink took a report of them
  report_told : (o : Outside) (ns : List (List ℕ)) (outcome : Outcome) (u : List ℕ) (qs : List (List ℕ)) → MayEndWith kind o ns outcome → Tells o.held ns u qs → outcome ≡ Done
      → AreAccepted kind u qs × ((text : List ℕ) × IsReportOf kind u qs text × (o.taken_after ≡ appended o.taken_before text))
  report_told o ns outcome u qs ends tells done =
      let whole : MayEndWith kind o ns Done = subst (MayEndWith kind o ns) done ends in
      let put = whole.1 in
      let told = told_report kind o.held ns put.0 u qs put.1 tells in
      (told.0, (put.0, told.1, put.2))

-- a file of any kind says one thing
one_kind : (named : Named) → SaysOneThing (kind_of named).kind
one_kind table = one_table
one_kind list = one_list

-- the same, of a command that the words give
pub complete_asked : (o : Outside) (words : Option Command) (c asked : RunCommand) (outcome : Outcome) (u : List ℕ) (qs : List (List ℕ)) → words ≡ Some (Run c) → words ≡ Some (Run asked) → MayEndWith (kind_of c.kind).kind o (names c) outcome → IsClear (kind_of asked.kind).kind o (names asked) u qs → IsDoneOrNoMemory outcome
complete_asked o words c asked outcome u qs is also ends clear =
    let same : c ≡ asked = cc in
    complete (kind_of asked.kind).kind (one_kind asked.kind) o (names asked) outcome u qs (subst (λ k. MayEndWith (kind_of k.kind).kind o (names k) outcome) same ends) clear

pub report_asked : (o : Outside) (words : Option Command) (c asked : RunCommand) (outcome : Outcome) (u : List ℕ) (qs : List (List ℕ)) → words ≡ Some (Run c) → words ≡ Some (Run asked) → MayEndWith (kind_of c.kind).kind o (names c) outcome → Tells o.held (names asked) u qs → outcome ≡ Done
    → AreAccepted (kind_of asked.kind).kind u qs × ((text : List ℕ) × IsReportOf (kind_of asked.kind).kind u qs text × (o.taken_after ≡ appended o.taken_before text))
report_asked o words c asked outcome u qs is also ends tells done =
    let same : c ≡ asked = cc in
    report_told (kind_of asked.kind).kind o (names asked) outcome u qs (subst (λ k. MayEndWith (kind_of k.kind).kind o (names k) outcome) same ends) tells done

-- .. which is one command
pub ends_asked : (o : Outside) (words : Option Command) (c asked : RunCommand) (outcome : Outcome) → words ≡ Some (Run c) → words ≡ Some (Run asked) → MayEndWith (kind_of c.kind).kind o (names c) outcome → MayEndWith (kind_of asked.kind).kind o (names asked) outcome
ends_asked o words c asked outcome is also ends =
    let same : c ≡ asked = cc in
    subst (λ k. MayEndWith (kind_of k.kind).kind o (names k) outcome) same ends

-- the run of a seed, of a command that the words give
pub made_asked : (words : Option Command) (seed lines asked_seed asked_lines : ℕ) (before after : Option (List ℕ)) (faults_before faults_after : ℕ) (outcome : Outcome) → words ≡ Some (Make seed lines) → words ≡ Some (Make asked_seed asked_lines)
    → PutsText (made_text seed lines) before after faults_before faults_after outcome → PutsText (made_text asked_seed asked_lines) before after faults_before faults_after outcome
made_asked words seed lines asked_seed asked_lines before after faults_before faults_after outcome is also puts =
    let same_seed : seed ≡ asked_seed = cc in
    let same_lines : lines ≡ asked_lines = cc in
    subst (λ n. PutsText (made_text asked_seed n) before after faults_before faults_after outcome) same_lines (subst (λ s. PutsText (made_text s lines) before after faults_before faults_after outcome) same_seed puts)

-- what an answer says, as something else
pub ok_more : {T E : Type 0} {P Q : T → Type 0} (r : Result T E) → ((x : T) → P x → Q x) → IfOk r P → IfOk r Q
ok_more (Ok x) more p = more x p
ok_more (Err e) more p = tt

pub err_more : {T E : Type 0} {P Q : E → Type 0} (r : Result T E) → ((e : E) → P e → Q e) → IfErr r P → IfErr r Q
err_more (Ok x) more p = tt
err_more (Err e) more p = more e p

pub ok_each : {T E : Type 0} (r : Result T E) (P : Type 0) → P → OnOk r P
ok_each (Ok x) P p = p
ok_each (Err e) P p = tt
