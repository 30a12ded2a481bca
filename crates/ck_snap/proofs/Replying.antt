-- The map and the replies after one more update.
use Rattle.std.proofs.Common.{◌≡◌, ◌∙◌, ℕ, List, [], ◌∷◌, ◌++◌, map, refl, sym, ap}
use Rattle.std.proofs.lemmas.List.{map-append}
use Rattle.std.specs.Ordering.{nat_cmp}
use Rattle.ck_history.specs.declared.log.LogEntry.{LogEntry}
use Rattle.ck_history.specs.declared.update.Update.{Update}
use Rattle.ck_history.specs.declared.update.Reply.{Reply}
use Rattle.ck_history.specs.Map.{Map, step, after_from, replies_from}
use Rattle.ck_snap.specs.Log.{Log, most_pairs, updates, map_after, AreReplies}

updates-snoc : (log : Log) (e : LogEntry ℕ) → updates (log ++ e ∷ []) ≡ updates log ++ e.update ∷ []
updates-snoc log e = map-append (λ (e : LogEntry ℕ). e.update) log (e ∷ [])

after_from-snoc : (m : Map ℕ) (us : List (Update ℕ)) (u : Update ℕ) → after_from nat_cmp most_pairs m (us ++ u ∷ []) ≡ (step nat_cmp most_pairs (after_from nat_cmp most_pairs m us) u).0
after_from-snoc m [] u = refl
after_from-snoc m (v ∷ us) u = after_from-snoc (step nat_cmp most_pairs m v).0 us u

replies_from-snoc : (m : Map ℕ) (us : List (Update ℕ)) (u : Update ℕ) → replies_from nat_cmp most_pairs m (us ++ u ∷ []) ≡ replies_from nat_cmp most_pairs m us ++ (step nat_cmp most_pairs (after_from nat_cmp most_pairs m us) u).1 ∷ []
replies_from-snoc m [] u = refl
replies_from-snoc m (v ∷ us) u = ap (λ rs. (step nat_cmp most_pairs m v).1 ∷ rs) (replies_from-snoc (step nat_cmp most_pairs m v).0 us u)

pub map_after-snoc : (log : Log) (e : LogEntry ℕ) → map_after (log ++ e ∷ []) ≡ (step nat_cmp most_pairs (map_after log) e.update).0
map_after-snoc log e = ap (after_from nat_cmp most_pairs []) (updates-snoc log e) ∙ after_from-snoc [] (updates log) e.update

-- one more reply of the map's
pub AreReplies-snoc : (log : Log) (e : LogEntry ℕ) → AreReplies log → e.reply ≡ (step nat_cmp most_pairs (map_after log) e.update).1 → AreReplies (log ++ e ∷ [])
AreReplies-snoc log e are is =
    let ours : map (λ (e : LogEntry ℕ). e.reply) (log ++ e ∷ []) ≡ map (λ (e : LogEntry ℕ). e.reply) log ++ e.reply ∷ [] = map-append (λ (e : LogEntry ℕ). e.reply) log (e ∷ []) in
    let theirs = ap (replies_from nat_cmp most_pairs []) (updates-snoc log e) ∙ replies_from-snoc [] (updates log) e.update in
    ours ∙ (ap (λ rs. rs ++ e.reply ∷ []) are ∙ (ap (λ (r : Reply). replies_from nat_cmp most_pairs [] (updates log) ++ r ∷ []) is ∙ sym theirs))
