-- A job over a snapshot dictionary whose passes are tied to its writer has legal answers.
use Rattle.std.proofs.Common.{◌≡◌, ℕ, zero, suc, ◌+◌, ◌≤◌, List, [], ◌∷◌, ◌++◌, length, map, Option, Some, None, refl, sym, ap, subst, ◌∙◌, arith}
use Rattle.std.specs.Ordering.{nat_cmp}
use Rattle.ck_history.specs.declared.event.WriterEvent.TheVariants.{Updated, Told}
use Rattle.ck_history.specs.declared.log.Look.TheVariants.{Found, Absent}
use Rattle.ck_history.specs.declared.update.Update.{Update}
use Rattle.ck_history.specs.declared.update.Reply.{Reply}
use Rattle.ck_history.specs.Map.{after, after_from, answer_after, replies}
use Rattle.ck_history.specs.Events.{updates_in, replies_in}
use Rattle.ck_history.specs.Legal.{AllLegal}
use Rattle.ck_script.specs.declared.line.Numbered.{Numbered}
use Rattle.ck_script.specs.declared.line.UpLine.{UpLine}
use Rattle.ck_script.specs.declared.line.AskLine.{AskLine}
use Rattle.ck_script.specs.Script.{said_of, holds, bounded_files, script_of}
use Rattle.ck_script.specs.Script as script
use Rattle.ck_snap.specs.Log.{Log, most_pairs, updates, AreReplies, map_after}
use Rattle.ck_snap.specs.Places.{Writing, log_of_events, ArePlacedIn}
use Rattle.ck_snap.specs.Tokens.{Dictionary, PassView, fresh_pass, AreFreshSnapPasses, look_of}
use Rattle.ck_pool.specs.Runs.{UpdatesRan}
use Rattle.ck_pool.specs.Places.{AreUnused, AllPlaced}
use Rattle.ck_pool.specs.Served.{AreReady, AreInOrder, AreServed}
use Rattle.ck_pool.specs.Snapshots.{snap_eye, AllPlacedIn}
use Rattle.ck_pool.proofs.Running.{some_same}
use Rattle.ck_pool.proofs.Composing.{HoldsKept}
use Rattle.ck_pool.proofs.MapJobs.{job_replies, job_pairs, job_legal}

-- what a look-up found
pub was_found : (v : ℕ) (o : Option ℕ) → Found v ≡ look_of o → o ≡ Some v
was_found v None e = cc
was_found v (Some w) e = cc

pub was_absent : (o : Option ℕ) → Absent ≡ look_of o → o ≡ None
was_absent None e = refl
was_absent (Some w) e = cc

updates_long : (log : Log) → length (updates log) ≡ length log
updates_long [] = refl
updates_long (e ∷ log) = let h = updates_long log in omega arith

-- the places of the answers of each file
abbrev places_from : List PassView → ℕ → List ℕ
places_from [] f = []
places_from (p ∷ ps) zero = p.places
places_from (p ∷ ps) (suc f) = places_from ps f

passes_placed : (snap : Dictionary) (log : Log) (places : ℕ → List ℕ) (f : ℕ) (ps : List PassView) → ((j : ℕ) → places (f + j) ≡ places_from ps j) → AllPlacedIn log ps
    → AllPlaced (snap_eye snap) (length log) (answer_after nat_cmp most_pairs (updates log)) places f ps
passes_placed snap log places f [] same tied = tt
passes_placed snap log places f (p ∷ ps) same tied =
    let here : places f ≡ p.places = let z : f + 0 ≡ f = omega arith in ap places (sym z) ∙ same 0 in (
      subst (λ (x : List ℕ). ArePlacedIn log p.done x) (sym here) tied.0,
      passes_placed snap log places (f + 1) ps (λ j. let z : f + 1 + j ≡ f + suc j = omega arith in ap places z ∙ same (suc j)) tied.1,
    )

updates_logged : (es : Writing) → updates_in es ≡ updates (log_of_events es)
updates_logged [] = refl
updates_logged (Updated u r ∷ es) = ap (λ (x : List (Update ℕ)). u ∷ x) (updates_logged es)
updates_logged (Told r n ∷ es) = updates_logged es

replies_logged : (es : Writing) → replies_in es ≡ map (λ e. e.reply) (log_of_events es)
replies_logged [] = refl
replies_logged (Updated u r ∷ es) = ap (λ (x : List Reply). r ∷ x) (replies_logged es)
replies_logged (Told r n ∷ es) = replies_logged es

-- Where a job's lines were run over a new dictionary, with these events of the writer, and each pass that came back is tied to the writer's
-- log: the replies are the map's, the final map is the map after all updates, and the answers are legal
module _ (snap : Dictionary) (ups : List (Numbered (UpLine (Update ℕ)))) (done : Writing) (rs : List Reply) (ran : UpdatesRan ups done rs) where
  abbrev asked : List (Update ℕ)
  asked = script.updates (said_of ups)

  pub snap_replies : AreReplies (log_of_events done) → rs ≡ replies nat_cmp most_pairs asked
  snap_replies map_replies =
      job_replies most_pairs ups done rs ran (replies_logged done ∙ (map_replies ∙ ap (λ (us : List (Update ℕ)). replies nat_cmp most_pairs us) (sym (updates_logged done))))

  pub snap_pairs : map_after (log_of_events done) ≡ after nat_cmp most_pairs asked (length asked)
  snap_pairs = ap (λ (us : List (Update ℕ)). after_from nat_cmp most_pairs [] us) (sym (updates_logged done)) ∙ job_pairs most_pairs ups done rs ran

  pub snap_legal : (es : List PassView) (asks : List (List (Numbered (AskLine ℕ)))) (backs : List PassView) (bss : List (List (Option ℕ)))
      → holds 0 (said_of ups) ≡ [] → AreUnused (snap_eye snap) es → AreServed (snap_eye snap) es asks backs bss → AllPlacedIn (log_of_events done) backs
      → AllLegal (length asked) (answer_after nat_cmp most_pairs asked) (bounded_files (length asked) (holds 0 (said_of ups)) 1 (map said_of asks)) bss
  snap_legal es asks backs bss no_hold unused served tied =
      let log = log_of_events done in
      let placed = passes_placed snap log (places_from backs) 0 backs (λ j. let z : 0 + j ≡ j = omega arith in ap (places_from backs) z) tied in
      let counted : AllPlaced (snap_eye snap) (length (updates log)) (answer_after nat_cmp most_pairs (updates log)) (places_from backs) 0 backs =
      subst (λ (n : ℕ). AllPlaced (snap_eye snap) n (answer_after nat_cmp most_pairs (updates log)) (places_from backs) 0 backs) (sym (updates_long log)) placed in
      let all : AllPlaced (snap_eye snap) (length (updates_in done)) (answer_after nat_cmp most_pairs (updates_in done)) (places_from backs) 0 backs =
      subst (λ (us : List (Update ℕ)). AllPlaced (snap_eye snap) (length us) (answer_after nat_cmp most_pairs us) (places_from backs) 0 backs) (sym (updates_logged done)) counted in
      let kept : HoldsKept (places_from backs) (holds 0 (said_of ups)) = subst (λ hs. HoldsKept (places_from backs) hs) (sym no_hold) tt in
      job_legal most_pairs ups done rs ran (snap_eye snap) (places_from backs) es asks backs bss kept unused served all

-- one more pass that is tied
tied_at : (log : Log) (ps : List PassView) (p : PassView) → ArePlacedIn log p.done p.places → AllPlacedIn log ps → AllPlacedIn log (ps ++ p ∷ [])
tied_at log [] p placed tied = (placed, tt)
tied_at log (q ∷ ps) p placed tied = (tied.0, tied_at log ps p placed tied.1)

pub tied_snoc : (log : Log) (ps qs : List PassView) (p : PassView) → qs ≡ ps ++ p ∷ [] → ArePlacedIn log p.done p.places → AllPlacedIn log ps → AllPlacedIn log qs
tied_snoc log ps qs p whole placed tied = subst (λ (l : List PassView). AllPlacedIn log l) (sym whole) (tied_at log ps p placed tied)

-- the passes of a new dictionary are ready and numbered, and nothing was done with them
pub fresh_ready : (snap : Dictionary) (n : ℕ) (ps : List PassView) → n + length ps ≤ snap.readers → AreFreshSnapPasses snap n ps → AreReady (snap_eye snap) ps
fresh_ready snap n [] le fresh f e is = cc
fresh_ready snap n (p ∷ ps) le fresh zero e is =
    let same : e ≡ fresh_pass snap n = sym (some_same p e is) ∙ fresh.0 in (
      record {
        made = ap (λ (x : PassView). x.origin) same;
        number = let h : e.number ≡ n = ap (λ (x : PassView). x.number) same in omega arith;
      },
      let h : e.calls ≡ 0 = ap (λ (x : PassView). x.calls) same in omega arith,
    )
fresh_ready snap n (p ∷ ps) le fresh (suc f) e is = fresh_ready snap (n + 1) ps (omega arith) fresh.1 f e is

pub fresh_numbered : (snap : Dictionary) (n : ℕ) (ps : List PassView) → AreFreshSnapPasses snap n ps → AreInOrder (snap_eye snap) n ps
fresh_numbered snap n [] fresh = tt
fresh_numbered snap n (p ∷ ps) fresh = (ap (λ (x : PassView). x.number) fresh.0, fresh_numbered snap (n + 1) ps fresh.1)

pub fresh_unused : (snap : Dictionary) (n : ℕ) (ps : List PassView) → AreFreshSnapPasses snap n ps → AreUnused (snap_eye snap) ps
fresh_unused snap n [] fresh = tt
fresh_unused snap n (p ∷ ps) fresh = (ap (λ (x : PassView). x.done) fresh.0, fresh_unused snap (n + 1) ps fresh.1)
