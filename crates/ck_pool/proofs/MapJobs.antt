-- Where a job's lines were run over a dictionary that is a map, and the places of its answers are known, the results are legal.
use Rattle.std.proofs.Common.{◌≡◌, ℕ, List, [], length, map, Option, sym, ap, subst, ◌∙◌, zero-add, arith}
use Rattle.std.proofs.lemmas.List.{take_all}
use Rattle.std.specs.Ordering.{nat_cmp}
use Rattle.ck_history.specs.declared.event.WriterEvent.{WriterEvent}
use Rattle.ck_history.specs.declared.update.Update.{Update}
use Rattle.ck_history.specs.declared.update.Reply.{Reply}
use Rattle.ck_history.specs.Map.{after, after_from, answer_after, replies}
use Rattle.ck_history.specs.Events.{updates_in, replies_in}
use Rattle.ck_history.specs.Legal.{AllLegal}
use Rattle.ck_script.specs.declared.line.Numbered.{Numbered}
use Rattle.ck_script.specs.declared.line.UpLine.{UpLine}
use Rattle.ck_script.specs.declared.line.AskLine.{AskLine}
use Rattle.ck_script.specs.Script.{said_of, holds, bounded_files}
use Rattle.ck_script.specs.Script as script
use Rattle.ck_pool.specs.Meaning.{EyeMeaning}
use Rattle.ck_pool.specs.Runs.{UpdatesRan}
use Rattle.ck_pool.specs.Places.{AreUnused, AllPlaced}
use Rattle.ck_pool.specs.Served.{AreServed}
use Rattle.ck_pool.proofs.Composing.{HoldsKept, calls_ran, files_legal}

module _ (most : ℕ) (ups : List (Numbered (UpLine (Update ℕ)))) (done : List (WriterEvent (Update ℕ) Reply)) (rs : List Reply) (ran : UpdatesRan ups done rs) where
  abbrev asked : List (Update ℕ)
  asked = script.updates (said_of ups)

  made : asked ≡ updates_in done
  made = (calls_ran ups done rs ran).0

  pub job_replies : replies_in done ≡ replies nat_cmp most (updates_in done) → rs ≡ replies nat_cmp most asked
  job_replies are = (calls_ran ups done rs ran).1 ∙ (are ∙ ap (λ (us : List (Update ℕ)). replies nat_cmp most us) (sym made))

  pub job_pairs : after_from nat_cmp most [] (updates_in done) ≡ after nat_cmp most asked (length asked)
  job_pairs =
      ap (λ (us : List (Update ℕ)). after_from nat_cmp most [] us) (sym made)
      ∙ ap (λ (us : List (Update ℕ)). after_from nat_cmp most [] us) (sym (take_all (length asked) asked (omega arith)))

  -- `places` are those of each reader's answers, and keep what the `hold` lines ask for
  pub job_legal : {E : Type 0} (eyes : EyeMeaning E ℕ (Option ℕ)) (places : ℕ → List ℕ) (es : List E) (asks : List (List (Numbered (AskLine ℕ)))) (backs : List E) (bss : List (List (Option ℕ)))
      → HoldsKept places (holds 0 (said_of ups)) → AreUnused eyes es → AreServed eyes es asks backs bss
      → AllPlaced eyes (length (updates_in done)) (answer_after nat_cmp most (updates_in done)) places 0 backs
      → AllLegal (length asked) (answer_after nat_cmp most asked) (bounded_files (length asked) (holds 0 (said_of ups)) 1 (map said_of asks)) bss
  job_legal eyes places es asks backs bss kept unused served placed =
      let us = updates_in done in
      let hs = holds 0 (said_of ups) in
      let legal = files_legal eyes (length us) (answer_after nat_cmp most us) places hs kept 0 es asks backs bss unused served placed in
      let first : AllLegal (length us) (answer_after nat_cmp most us) (bounded_files (length us) hs 1 (map said_of asks)) bss =
      subst (λ (k : ℕ). AllLegal (length us) (answer_after nat_cmp most us) (bounded_files (length us) hs k (map said_of asks)) bss) (zero-add 1) legal in
      subst (λ (u : List (Update ℕ)). AllLegal (length u) (answer_after nat_cmp most u) (bounded_files (length u) hs 1 (map said_of asks)) bss) (sym made) first
