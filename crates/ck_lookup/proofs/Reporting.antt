-- From what a job comes to, to the report of its files.
use Rattle.std.proofs.Common.{◌≡◌, ℕ, ◌+◌, ◌≤◌, List, [], ◌∷◌, length, map, Vec, Option, Some, None, refl, ap, subst, sym, ◌∙◌, arith, decimal, inr, Result, Ok, Err, OnOk, OnErr, IfErr}
use Rattle.std.specs.declared.alloc.Global.{Global}
use Rattle.std.specs.Option.{option_map, option_or}
use Rattle.std.specs.Ordering.{nat_cmp}
use Rattle.ck_history.specs.Map.{after, replies, answer_after}
use Rattle.ck_history.specs.Legal.{AllLegal}
use Rattle.ck_history.specs.declared.update.Update.{Update}
use Rattle.ck_history.specs.declared.update.Reply.{Reply}
use Rattle.ck_script.specs.declared.line.Numbered.{Numbered}
use Rattle.ck_script.specs.declared.line.UpLine.{UpLine}
use Rattle.ck_script.specs.declared.fault.Why.{Why}
use Rattle.ck_script.specs.declared.fault.Why.TheVariants.{Beyond}
use Rattle.ck_script.specs.declared.check.RangeFault.{RangeFault}
use Rattle.ck_script.specs.Checks.{range_fault}
use Rattle.ck_script.specs.declared.line.AskLine.{AskLine}
use Rattle.ck_script.specs.Script.{said_of, updates, holds, HoldLine, bounded_files, ScriptOf, script_of}
use Rattle.ck_report.specs.declared.asked.Asked.{Asked}
use Rattle.ck_report.specs.Text.{report_text}
use Rattle.ck_pool.specs.declared.map_results.MapResults.{MapResults}
use Rattle.ck_pool.specs.Results.{job_script, AreMapResults}
use Rattle.ck_lookup.specs.Kinds.{Kind}
use Rattle.ck_lookup.specs.Tables.{capacity, all_asked, table_kind}
use Rattle.ck_lookup.specs.Lists.{list_kind}
use Rattle.ck_lookup.specs.Headline.{IsReportOf, IsTextOf}
use Rattle.ck_history.specs.declared.edit.Edit.{Edit}
use Rattle.ck_history.specs.declared.edit.EditReply.{EditReply}
use Rattle.ck_history.specs.Lists.{edit_replies}
use Rattle.ck_report.specs.ListText.{list_text}
use Rattle.ck_jobs.specs.declared.list_results.ListResults.{ListResults}
use Rattle.ck_jobs.specs.Lists.{AreListResults}
use Rattle.ck_lookup.specs.Limits.{AreWithin}
use Rattle.ck_report.specs.declared.put.PutError.{PutError}
use Rattle.ck_report.specs.declared.put.PutError.TheVariants.{Failed}
use Rattle.ck_report.specs.declared.put.PutError.TheVariants as put
use Rattle.ck_io.specs.Sink.{AppendsPrefix}
use Rattle.ck_lookup.specs.Causes.{AreSaid, refused_as, checks_refusal}
use Rattle.ck_report.specs.Pairing.{asked_of_files}
use Rattle.ck_lookup.specs.Running.{MayBegin, HasPut}
use Rattle.ck_lookup.proofs.Asking.{files_as}
use Rattle.ck_lookup.proofs.Counting.{job_short}

-- lines that no check refuses
refused_none : (why : Why) (o : Option RangeFault) → option_map (refused_as why) o ≡ None → o ≡ None
refused_none why None none = refl
refused_none why (Some fault) none = absurd (cc)

pub none_of_two : {X : Type 0} (a b : Option X) → option_or a b ≡ None → (a ≡ None) × (b ≡ None)
none_of_two None b none = (refl, none)
none_of_two (Some x) b none = absurd (cc)

module _ {C Q : Type 0} (kind : Kind C Q) where
  -- lines that no check refuses are in range
  pub none_beyond : (ups : List (Numbered (UpLine C))) (asks : List (List (Numbered (AskLine Q)))) → checks_refusal kind ups asks ≡ None → range_fault ups asks ≡ None
  none_beyond ups asks none = refused_none Beyond (range_fault ups asks) (none_of_two _ _ none).0

  -- what 1 to 64 query files within the limits say may begin
  pub begins : (update_file : List ℕ) (query_files : List (List ℕ)) (ups : List (Numbered (UpLine C))) (asks : List (List (Numbered (AskLine Q)))) → AreWithin (update_file ∷ query_files) → AreSaid kind update_file query_files ups asks
      → 1 ≤ length query_files → length query_files ≤ 64 → MayBegin ups asks
  begins update_file query_files ups asks within said some few =
      let short = job_short kind update_file query_files ups asks within said.updates_said said.queries_said in
      record {
        some_file = subst (λ (n : ℕ). 1 ≤ n) (sym short.0) some;
        few_files = subst (λ (n : ℕ). n ≤ 64) (sym short.0) few;
        short = short.1;
        in_range = none_beyond ups asks said.checked;
      }

-- there are answers of each file
legal_long : (count : ℕ) (gives : ℕ → ℕ → Option ℕ) (hs : List HoldLine) (f : ℕ) (files : List (List (AskLine ℕ))) (answers : List (List (Option ℕ))) → AllLegal count gives (bounded_files count hs f files) answers → length files ≡ length answers
legal_long count gives hs f [] [] legal = refl
legal_long count gives hs f [] (bs ∷ answers) legal = absurd legal
legal_long count gives hs f (ls ∷ files) [] legal = absurd legal
legal_long count gives hs f (ls ∷ files) (bs ∷ answers) legal = let h = legal_long count gives hs (f + 1) files answers legal.1 in omega arith

pub map_long : {X Y : Type 0} (g : X → Y) (xs : List X) → length (map g xs) ≡ length xs
map_long g [] = refl
map_long g (x ∷ xs) = let h = map_long g xs in omega arith

module _ (ups : List (Numbered (UpLine (Update ℕ)))) (asks : List (List (Numbered (AskLine ℕ)))) (x : MapResults) (answered : AreMapResults capacity (job_script ups asks) x) where
  pub answered_long : length asks ≡ length x.answers.items
  answered_long =
      let us = updates (said_of ups) in
      let long = legal_long (length us) (answer_after nat_cmp capacity us) (holds 0 (said_of ups)) 1 (map said_of asks) (map (λ file. file.items) x.answers.items) answered.legal in
      sym (map_long said_of asks) ∙ (long ∙ map_long (λ file. file.items) x.answers.items)

  -- the text of what a job came to
  pub text_is : (rs : List Reply) (found : List (List (Asked ℕ))) (ps : List (ℕ × ℕ)) → rs ≡ x.replies.items → ps ≡ x.pairs.items
      → found ≡ asked_of_files (map said_of asks) (map (λ file. file.items) x.answers.items)
      → IsTextOf table_kind (script_of (said_of ups) (map said_of asks)) (report_text decimal rs found ps)
  text_is rs found ps r p a =
      let us = updates (said_of ups) in
      let answers = map (λ (file : Vec (Option ℕ) Global). file.items) x.answers.items in
      let files = map said_of asks in
      let same : found ≡ all_asked (bounded_files (length us) (holds 0 (said_of ups)) 1 files) answers = a ∙ sym (files_as (length us) 1 (holds 0 (said_of ups)) files answers) in
      record {
        answers = answers;
        legal = answered.legal;
        printed =
            ap (λ (v : List Reply). report_text decimal v found ps) (r ∙ answered.replied)
            ∙ (ap (λ (v : List (List (Asked ℕ))). report_text decimal (replies nat_cmp capacity us) v ps) same
            ∙ ap (λ (v : List (ℕ × ℕ)). report_text decimal (replies nat_cmp capacity us) (all_asked (bounded_files (length us) (holds 0 (said_of ups)) 1 files) answers) v) (p ∙ answered.final));
      }

-- the text of what a job over a list came to
pub list_text_is : (ups : List (Numbered (UpLine Edit))) (asks : List (List (Numbered (AskLine (Unit {0}))))) (x : ListResults) → AreListResults (job_script ups asks) x
    → (rs : List EditReply) (found : List (List (List ℕ))) (ms : List ℕ) → rs ≡ x.replies.items → found ≡ map (λ file. file.items) x.answers.items → ms ≡ x.members.items → IsTextOf list_kind (job_script ups asks) (list_text rs found ms)
list_text_is ups asks x answered rs found ms r a m =
    let us = (job_script ups asks).updates in
    let answers = map (λ (file : Vec (List ℕ) Global). file.items) x.answers.items in
    record {
      answers = answers;
      legal = answered.legal;
      printed =
          ap (λ (v : List EditReply). list_text v found ms) (r ∙ answered.replied)
          ∙ (ap (λ (v : List (List (List ℕ))). list_text (edit_replies us) v ms) a ∙ ap (λ (v : List ℕ). list_text (edit_replies us) answers v) (m ∙ answered.final));
    }

module _ {C Q : Type 0} (kind : Kind C Q) where
  -- a text of what files ask for is a report of them
  pub report_is : (update_file : List ℕ) (query_files : List (List ℕ)) (ups : List (Numbered (UpLine C))) (asks : List (List (Numbered (AskLine Q)))) (text : List ℕ) → AreSaid kind update_file query_files ups asks → IsTextOf kind (script_of (said_of ups) (map said_of asks)) text → IsReportOf kind update_file query_files text
  report_is update_file query_files ups asks text said is = record {
    script = script_of (said_of ups) (map said_of asks);
    meant = record { ups = ups; asks = asks; updates_said = said.updates_said; queries_said = said.queries_said; asked = refl };
    report = is;
  }

-- a report that was put whole, or not
module _ {C Q : Type 0} (kind : Kind C Q) (script : ScriptOf C Q) (text : List ℕ) (is : IsTextOf kind script text) where
  pub put_whole : {T E : Type 0} (r : Result T E) (Put : List ℕ → Type 0) → OnOk r (Put text) → OnOk r ((t : List ℕ) × IsTextOf kind script t × Put t)
  put_whole (Ok x) Put put = (text, is, put)
  put_whole (Err e) Put put = tt

  pub put_front : {T : Type 0} (r : Result T PutError) (before after : Option (List ℕ)) → OnErr r (AppendsPrefix before after text) → IfErr r (HasPut kind script before after)
  put_front (Ok x) before after front = tt
  put_front (Err Failed) before after front = (text, is, front)
  put_front (Err put.Memory) before after front = inr (text, is, front)
