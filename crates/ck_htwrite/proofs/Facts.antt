-- What the law of the table says of the writer's token.
use Rattle.std.proofs.Common.{◌≡◌, ◌≢◌, ℕ, zero, suc, ⊎_elim, ◌+◌, ◌*◌, ◌/◌, ◌%◌, ◌^◌, ◌<◌, ◌≤◌, List, [], ◌++◌, length, append-nil, refl, sym, ap, ◌∙◌, subst, arith}
use Rattle.std.specs.Prelude.{Some, None}
use Rattle.std.specs.Ordering.{nat_cmp}
use Rattle.ck_run.specs.Run.{Run, account}
use Rattle.ck_run.specs.Tokens.{number, origin}
use Rattle.ck_history.specs.declared.log.LogEntry.{LogEntry}
use Rattle.ck_history.specs.Map.{step, find, IsMap as Sorted}
use mathlib.Core.Logic.{dite}
use native.Mathlib.Decide.{ℕ_discrete}
use Rattle.ck_slots.specs.Slots.{SlotsView, Holds}
use Rattle.ck_slots.specs.Counting.{count as how_many}
use Rattle.ck_slots.proofs.Counts.{count_here, count_else}
use Rattle.ck_htplan.specs.declared.cases.Plan.{Plan}
use Rattle.ck_htplan.specs.declared.cases.Plan.TheVariants.{Empty, Reuse, Stand, Move}
use Rattle.ck_htplan.proofs.Says.{Says}
use Rattle.ck_epoch.specs.State.{Token}
use Rattle.ck_epoch.specs.Ends.{IsDomainToken}
use Rattle.ck_epoch.specs.Epochs.{Reclamation}
use Rattle.ck_epoch.specs.Within.{IsWithin}
use Rattle.ck_epoch.proofs.Reclaiming.{reclamation}
use Rattle.ck_reclaim.specs.Reclaim.{ReclaimsPieces}
use Rattle.ck_reclaim.proofs.Reclaiming.{reclaims}
use Rattle.ck_htlaw.specs.Host.{Host, lies}
use Rattle.ck_htlaw.specs.Regions.{regions}
use Rattle.ck_htlaw.specs.Calls.{Opening}
use Rattle.ck_htlaw.specs.Stages.{idle, after_rebuild, Stage, IsMap}
use Rattle.ck_htlaw.specs.Table.{Layout, WriterState, writer, view}
use Rattle.ck_htlaw.specs.Actions.{most, answer_to, keys_now, plan_now, slots_now, tombstones_now}
use Rattle.ck_htlaw.specs.Invariant.{WriterInvariant, owed}
use Rattle.ck_htlaw.specs.Client.{Answers, answers_after, table}
use Rattle.ck_htlaw.specs.Linearized.{map_after, under_way}
use Rattle.ck_htlaw.specs.Known.{knows}
use Rattle.ck_htlaw.proofs.Reclaim.{IsTrue, Holds as HoldsAt, scene}
use Rattle.ck_htlaw.proofs.Always.{always_at}
use Rattle.ck_htlaw.proofs.Linked.{retires_regions}
use Rattle.ck_htlaw.proofs.Logging.{HasLog, has_log}
use Rattle.ck_htlaw.proofs.LogSteps.{Logged}
use Rattle.ck_htlaw.proofs.Lives.{opt, live_keys}
use Rattle.ck_htlaw.proofs.Effects.{answer_right}
use Rattle.ck_htlaw.proofs.Soundness.{plan_right, plan_says, now}
use Rattle.ck_htlaw.proofs.Planning.{missing}
use Rattle.ck_htlaw.proofs.RebuildSteps.{calm_map}
use Rattle.ck_htwrite.specs.Entries.{HasKeys, HoldsMap, key_in}
use Rattle.ck_htwrite.specs.Writes.{WriterIs}

-- where none is counted none is
none_counted : (f : ℕ → ℕ) (x n : ℕ) → how_many f x n ≡ 0 → (s : ℕ) → s < n → f s ≡ x → ⊥
none_counted f x zero e s b is = absurd (omega arith)
none_counted f x (suc n) e s b is = dite (ℕ_discrete (f n) x)
    (λ (z : f n ≡ x). let h = count_here f x n z in absurd (omega arith))
    (λ (z : f n ≢ x). let h = count_else f x n z in dite (ℕ_discrete s n) (λ (y : s ≡ n). absurd (z (ap f (sym y) ∙ is))) (λ (y : s ≢ n). none_counted f x n (omega arith) s (omega arith) is))

opt_none : (x : ℕ) → opt x ≡ None → x ≡ 0
opt_none zero e = refl
opt_none (suc x) e = absurd (let z : Some x ≡ None = e in cc)

module _ {D : Type 0} (h : Host D) (within : IsWithin table h.client h.place h.part) (t : Token D) (part : IsDomainToken h.client t) (zero : number t ≡ 0)
    (p : WriterState) (is : WriterIs h (origin t) t p) where
  abbrev l : Layout
  l = lies h (origin t)

  epochs_law : Reclamation D
  epochs_law = reclamation D

  pieces : ReclaimsPieces (regions h)
  pieces = reclaims (regions h) epochs_law (retires_regions h within)

  abbrev run : Run
  run = part.run

  whole : IsTrue h within epochs_law pieces (origin t) (run ++ [])
  whole = subst (IsTrue h within epochs_law pieces (origin t)) (sym (append-nil run)) part.is_run

  logged : HasLog h within epochs_law pieces (origin t) (plan_right l (λ root. ((λ k. refl), (λ k. refl)))) run
  logged = has_log h within epochs_law pieces (origin t) (plan_right l (λ root. ((λ k. refl), (λ k. refl)))) run [] whole

  held : HoldsAt h within epochs_law pieces (origin t) run
  held = always_at h within epochs_law pieces (origin t) (plan_right l (λ root. ((λ k. refl), (λ k. refl)))) run [] whole

  -- the run tells what the account tells
  told : knows h (origin t) t ≡ answers_after l (origin t).words 0 (account 0 run)
  told = ap (λ es. answers_after l (origin t).words (number t) es) (sym part.mine) ∙ ap (λ (n : ℕ). answers_after l (origin t).words n (account n run)) zero

  same : logged.writer_state ≡ p
  same = let z : writer logged.writer_state ≡ writer p = sym logged.local ∙ (ap (λ (a : Answers). a.local) (sym told) ∙ is) in cc

  same_table : held.is_table.writer_state ≡ p
  same_table = let z : writer held.is_table.writer_state ≡ writer logged.writer_state = sym held.is_table.is_writer ∙ logged.at_writer in let y : held.is_table.writer_state ≡ logged.writer_state = cc in y ∙ same

  logs : Logged p.stage p.linearized p.log p.maps (knows h (origin t) t).log logged.us (knows h (origin t) t).due
  logs = subst (λ (x : Answers). Logged p.stage p.linearized p.log p.maps x.log logged.us x.due) (sym told)
      (subst (λ (q : WriterState). Logged q.stage q.linearized q.log q.maps (answers_after l (origin t).words 0 (account 0 run)).log logged.us (answers_after l (origin t).words 0 (account 0 run)).due) same logged.logs)

  abbrev words : List ℕ
  words = (scene h within epochs_law pieces (origin t) run).words

  holds : WriterInvariant l words p
  holds = subst (λ (q : WriterState). WriterInvariant l words q) same_table held.is_table.holds

  is_now : slots_now l p ≡ view l words p.root
  is_now = now l words p holds

  -- some slot is empty
  pub has_hole : (e : ℕ) × (e < (l.order p.root).slots) × ((view l p.words p.root).state e ≡ 0)
  has_hole = subst (λ (v : SlotsView). (e : ℕ) × (e < (l.order p.root).slots) × (v.state e ≡ 0)) (sym is_now) holds.map.hole

  pub log_is : length (knows h (origin t) t).log ≡ p.log
  log_is = logs.count

  -- the map that the slots stand for is the map after the log, where no update is under way
  pairs_now : under_way p.stage (knows h (origin t) t).due ≡ [] → (k : ℕ) → opt (p.maps p.linearized k) ≡ find nat_cmp (map_after (knows h (origin t) t).log) k
  pairs_now calm k = subst (λ (us : List (LogEntry ℕ)). opt (p.maps p.linearized k) ≡ find nat_cmp (map_after us) k) (logs.is ∙ (ap (λ (x : List (LogEntry ℕ)). (knows h (origin t) t).log ++ x) calm ∙ append-nil (knows h (origin t) t).log)) (logs.pairs k)

  -- between two calls
  module _ (idles : p.stage ≡ idle) where
    pub few_bumps : p.bumps ≤ 2 * p.log
    few_bumps = let r = subst (λ (g : Stage). p.bumps ≤ 2 * p.log + owed g) idles holds.bumps in omega arith

    -- what a call answers is what the map of one thread answers
    pub right : (c : Opening) → (step nat_cmp most (map_after (knows h (origin t) t).log) (answer_to l p c).update).1 ≡ (answer_to l p c).reply
    right c = answer_right l words p holds slots (map_after (knows h (origin t) t).log) (subst (λ (us : List (LogEntry ℕ)). Sorted nat_cmp (map_after us)) is_us idle_logs.sorted) (subst (λ (us : List (LogEntry ℕ)). (j : ℕ) → opt (p.maps p.linearized j) ≡ find nat_cmp (map_after us) j) is_us idle_logs.pairs) c
      where
        slots : IsMap (l.order p.root) (view l words p.root) p.maps p.linearized idle
        slots = subst (λ (g : Stage). IsMap (l.order p.root) (view l words p.root) p.maps p.linearized g) idles holds.map

        idle_logs : Logged idle p.linearized p.log p.maps (knows h (origin t) t).log logged.us (knows h (origin t) t).due
        idle_logs = subst (λ (g : Stage). Logged g p.linearized p.log p.maps (knows h (origin t) t).log logged.us (knows h (origin t) t).due) idles logs

        is_us : logged.us ≡ (knows h (origin t) t).log
        is_us = idle_logs.is ∙ append-nil (knows h (origin t) t).log

    abbrev seen : SlotsView
    seen = view l words p.root

    map_idle : IsMap (l.order p.root) seen p.maps p.linearized idle
    map_idle = subst (λ (g : Stage). IsMap (l.order p.root) seen p.maps p.linearized g) idles holds.map

    calm : under_way p.stage (knows h (origin t) t).due ≡ []
    calm = ap (λ (g : Stage). under_way g (knows h (origin t) t).due) idles

    -- the map after the log has its pairs by ascending key, and as many as slots are full
    pub sorted_now : Sorted nat_cmp (map_after (knows h (origin t) t).log)
    sorted_now = subst (λ (us : List (LogEntry ℕ)). Sorted nat_cmp (map_after us)) (logs.is ∙ (ap (λ (x : List (LogEntry ℕ)). (knows h (origin t) t).log ++ x) calm ∙ append-nil (knows h (origin t) t).log)) logs.sorted

    pub as_many : keys_now l p ≡ length (map_after (knows h (origin t) t).log)
    as_many = ap (λ (v : SlotsView). how_many v.state 1 (l.order p.root).slots) is_now ∙ live_keys (l.order p.root) holds.region.ok seen p.maps p.linearized map_idle (map_after (knows h (origin t) t).log) sorted_now (pairs_now calm)

    -- the full slots hold the pairs of the map after the log
    pub holds_map : HasKeys (map_after (knows h (origin t) t).log) → HoldsMap (slots_now l p) (l.order p.root).slots (map_after (knows h (origin t) t).log)
    holds_map keys = subst (λ (v : SlotsView). HoldsMap v (l.order p.root).slots (map_after (knows h (origin t) t).log)) (sym is_now) record {
      sorted = sorted_now;
      keys = keys;
      full = λ s low is. let k = map_idle.keyed s low is in
          ap (find nat_cmp (map_after (knows h (origin t) t).log)) (number_is k.0 s k.1.is_low k.1.is_high)
          ∙ (sym (pairs_now calm k.0) ∙ ap opt (⊎_elim (λ (z : ⊥). absurd z) (λ (z : p.maps p.linearized k.0 ≡ suc (seen.value s)). z) (map_idle.present k.0 s k.1)));
      none = λ k not. sym (pairs_now calm k) ∙ ap opt (missing (l.order p.root) seen p.maps p.linearized map_idle k 0 (λ s x. not s x.inside x.full (number_is k s x.is_low x.is_high)));
    }
      where
        number_is : (k s : ℕ) → seen.low s ≡ k % 2 ^ 64 → seen.high s ≡ k / 2 ^ 64 → key_in seen s ≡ k
        number_is k s low high = omega arith

    -- no two full slots have the same key
    pub keys_once : (a b : ℕ) → a < (l.order p.root).slots → b < (l.order p.root).slots → (slots_now l p).state a ≡ 1 → (slots_now l p).state b ≡ 1 → (slots_now l p).low a ≡ (slots_now l p).low b → (slots_now l p).high a ≡ (slots_now l p).high b → a ≡ b
    keys_once a b low_a low_b = subst (λ (v : SlotsView). v.state a ≡ 1 → v.state b ≡ 1 → v.low a ≡ v.low b → v.high a ≡ v.high b → a ≡ b) (sym is_now)
        (λ full_a full_b same_low same_high. let k = map_idle.keyed a low_a full_a in
        ⊎_elim (λ (e : a ≡ b). e) (λ z. ⊎_elim (λ y. absurd y) (λ y. absurd y) z)
        (map_idle.once k.0 a b k.1 (record { inside = low_b; full = full_b; is_low = sym same_low ∙ k.1.is_low; is_high = sym same_high ∙ k.1.is_high })))

    -- a key whose plan names an empty slot is absent
    pub absent : (key at : ℕ) → plan_now l p key ≡ Empty at → find nat_cmp (map_after (knows h (origin t) t).log) key ≡ None
    absent key at planned = sym (pairs_now (ap (λ (g : Stage). under_way g (knows h (origin t) t).due) idles) key)
        ∙ ap opt (missing (l.order p.root) seen p.maps p.linearized map_idle key 0 (subst (Says (l.order p.root) seen key) planned (plan_says l words p holds map_idle key)).3)

  -- after a rebuild the plan of an absent key names an empty slot
  pub empty_after : (call : List ℕ) → p.stage ≡ after_rebuild call → (key : ℕ) → find nat_cmp (map_after (knows h (origin t) t).log) key ≡ None → tombstones_now l p ≡ 0 → (at : ℕ) × (plan_now l p key ≡ Empty at)
  empty_after call after key not_found clean = by (plan_now l p key) (plan_says l words p holds map_after_rebuild key)
    where
      none : p.maps p.linearized key ≡ 0
      none = opt_none (p.maps p.linearized key) (pairs_now (ap (λ (g : Stage). under_way g (knows h (origin t) t).due) after) key ∙ not_found)

      map_after_rebuild : IsMap (l.order p.root) (view l words p.root) p.maps p.linearized idle
      map_after_rebuild = calm_map (l.order p.root) (view l words p.root) p.maps p.linearized (after_rebuild call) idle tt tt (subst (λ (g : Stage). IsMap (l.order p.root) (view l words p.root) p.maps p.linearized g) after holds.map)

      held : (s : ℕ) → Holds (l.order p.root) (view l words p.root) key s → ⊥
      held s x = ⊎_elim (λ z. z) (λ (e : p.maps p.linearized key ≡ suc ((view l words p.root).value s)). absurd (let z : 0 ≡ suc ((view l words p.root).value s) = sym none ∙ e in cc)) (map_after_rebuild.present key s x)

      tombstone : (s : ℕ) → s < (l.order p.root).slots → (view l words p.root).state s ≡ 2 → ⊥
      tombstone s low is = none_counted (view l words p.root).state 2 (l.order p.root).slots (subst (λ (u : SlotsView). how_many u.state 2 (l.order p.root).slots ≡ 0) is_now clean) s low is

      by : (plan : Plan) → Says (l.order p.root) (view l words p.root) key plan → (at : ℕ) × (plan ≡ Empty at)
      by (Empty s) x = (s, refl)
      by (Reuse s) x = absurd (tombstone s x.0 x.1)
      by (Stand s) x = absurd (held s x)
      by (Move t s) x = absurd (held s x.2)
