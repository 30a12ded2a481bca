-- A call that rebuilds the map, and then puts a fresh key into an empty slot.
use Rattle.std.proofs.Common.{◌≡◌, ℕ, ◌+◌, ◌*◌, ◌^◌, ◌<◌, ◌≤◌, cond, Bool, List, [], ◌++◌, length, map, refl, sym, ap, ◌∙◌, subst, arith}
use Rattle.std.specs.Prelude.{None}
use Rattle.std.specs.Ordering.{nat_cmp}
use Rattle.ck_run.specs.declared.account.Step.{Step}
use Rattle.ck_run.specs.declared.account.Entry.{Entry}
use Rattle.ck_run.specs.Machine.{state_after}
use Rattle.ck_run.specs.Run.{entry, further}
use Rattle.ck_run.specs.Tokens.{adding, number, origin}
use Rattle.ck_run.proofs.Moments.{adding-append}
use Rattle.ck_history.specs.declared.log.LogEntry.{LogEntry}
use Rattle.ck_history.specs.declared.update.Reply.TheVariants.{Fresh, Full}
use Rattle.ck_history.specs.Map.{find}
use Rattle.ck_epoch.specs.State.{Origin, Token, Retirement, base_of, state}
use Rattle.ck_epoch.specs.Ends.{Writer, IsDomainToken}
use Rattle.ck_epoch.specs.Within.{IsWithin}
use Rattle.ck_slots.specs.Counting.{rebuilt_log}
use Rattle.ck_htplan.specs.declared.cases.Plan.TheVariants.{Empty}
use Rattle.ck_htplan.specs.Region.{view_of}
use Rattle.ck_htlaw.specs.declared.client.HtClient.{HtClient}
use Rattle.ck_htlaw.specs.Host.{Host, first, inner, lies}
use Rattle.ck_htlaw.specs.Calls.{opening_of}
use Rattle.ck_htlaw.specs.Stages.{Insertion, Stage, empty, after_rebuild}
use Rattle.ck_htlaw.specs.Layout.{log_of}
use Rattle.ck_htlaw.specs.Table.{Layout, WriterState, inserts}
use Rattle.ck_htlaw.specs.Actions.{action, added, answer_to, plan_now}
use Rattle.ck_htlaw.specs.Client.{Answers, answers_next, table}
use Rattle.ck_htlaw.specs.Linearized.{map_after}
use Rattle.ck_htlaw.specs.Known.{knows}
use Rattle.ck_htwrite.specs.declared.state.HtState.{HtState}
use Rattle.ck_htwrite.specs.declared.state.Need.{Need}
use Rattle.ck_arena.specs.Arena.{HasNoneFree, unreturned}
use Rattle.ck_htwrite.specs.Arena.{AddsRegion, IsKept}
use Rattle.ck_htwrite.specs.Rebuild.{BeginsRebuildAt, Rebuilt, rebuild_entries}
use Rattle.ck_htwrite.specs.State.{IsReady}
use Rattle.ck_htwrite.specs.Updates.{AddsFresh, IsGrown, IsNeeded, IsOver, MayBegin, insert_steps, inserted_lists, needed_log, settled_answer}
use Rattle.ck_htwrite.specs.Writes.{MayMake, Steps, counters_in}
use Rattle.ck_htwrite.proofs.Agree.{tombstones_are}
use Rattle.ck_htwrite.proofs.Between.{next_plan, not_found}
use Rattle.ck_htwrite.proofs.Finishing.{can_insert, insert_over}
use Rattle.ck_htwrite.proofs.Growing.{IsGrownLog, begins_rebuilding, goes_in_after, grown_log, keys_below, log_now, not_roomy}
use Rattle.ck_htwrite.proofs.Plans.{room}

module _ {D : Type 0} (h : Host D) (o : Origin D) {t : Token D} (s : HtState) (r : IsReady h o t s) where
  -- a region of the length that is taken has room for the pairs and one more
  pub grown_fits : s.keys < 262144 → (log : ℕ) → log ≡ rebuilt_log (log_of s.root) s.keys → IsGrownLog (log_of s.root) s.keys log
  grown_fits few log is =
      let shape = r.reflects.mirrors.shape in
      subst (IsGrownLog (log_of s.root) s.keys) (sym is) (grown_log (log_of s.root) s.keys shape.is_root.piece.some_lines shape.is_root.few few (keys_below (base_of (inner h o)) (first h o) (inner h o).config.client r.is_writer s r.reflects))

  -- and the call's first step begins a rebuild into it
  pub begins_growing : (opens : List ℕ) (key value at : ℕ) → AddsFresh opens key value → plan_now (lies h o) r.is_writer key ≡ Empty at → s.keys < 262144 → 3 * 2 ^ log_of s.root < 4 * (s.keys + s.tombstones + 1) → (log : ℕ) → log ≡ rebuilt_log (log_of s.root) s.keys → (root : ℕ) → log_of root ≡ log → BeginsRebuildAt (lies h o) r.is_writer opens root
  begins_growing opens key value at adds planned few full log log_is root is = begins_rebuilding (base_of (inner h o)) (first h o) (inner h o).config.client r.is_writer s r.reflects opens key value at adds planned r.idles few full root (is ∙ log_is)

  -- where no piece is free
  pub needed_whole : (key old_at : ℕ) → plan_now (lies h o) r.is_writer key ≡ Empty old_at → (log : ℕ) → log ≡ rebuilt_log (log_of s.root) s.keys → s.keys < 262144 → 3 * 2 ^ log_of s.root < 4 * (s.keys + s.tombstones + 1) → (need : Need) → need ≡ record { shelf = 0; log = log + 2 } → HasNoneFree s.arena (log + 2)
      → IsNeeded h o r.is_writer (Empty old_at) s need
  needed_whole key old_at planned log log_is few full need is none =
      let floor = base_of (inner h o) in let client = (inner h o).config.client in
      record {
        due = record { slot = old_at; fresh = refl; room = room floor (first h o) client r.is_writer s r.reflects few; full = not_roomy floor (first h o) client r.is_writer s r.reflects full };
        shelf = ap (λ (x : Need). x.shelf) is;
        log = ap (λ (x : Need). x.log) is ∙ ap (λ (k : ℕ). k + 2) (log_is ∙ log_now floor (first h o) client r.is_writer s r.reflects);
        none = subst (HasNoneFree s.arena) (sym (ap (λ (x : Need). x.log) is)) none;
      }

-- The call rebuilt the map, and has its fresh key yet to put in
pub record IsRegrown {D F : Type 0} (h : Host D) (o : Origin D) (w w1 : Writer D F) (s s1 : HtState) (r : IsReady h o w.token s) (opens : List ℕ) (key value old_at : ℕ) : Type 0 where
  pub same : origin w.token ≡ o
  pub part : IsDomainToken h.client w.token
  pub zero : number w.token ≡ 0
  pub planned : plan_now (lies h o) r.is_writer key ≡ Empty old_at
  pub adds : AddsFresh opens key value
  pub few : s.keys < 262144
  pub full : 3 * 2 ^ log_of s.root < 4 * (s.keys + s.tombstones + 1)
  pub log : ℕ
  pub log_is : log ≡ rebuilt_log (log_of s.root) s.keys
  pub stores : List Step
  pub epoch : ℕ
  pub made : w1 ≡ record w { token = adding w.token (rebuild_entries (lies h o) opens s.root s1.root stores epoch); calls = w.calls + 1 }
  pub is_token : IsDomainToken h.client w1.token
  pub lists : (s1.keys ≡ s.keys) × (s1.tombstones ≡ 0) × (log_of s1.root ≡ log)
  pub free : HasNoneFree s.arena (log + 2) → ⊥
  pub retired : length (state w1.token).pending ≡ length (state w.token).pending + 1
  pub items : AddsRegion (counters_in h o) (h.place o.config.client) (unreturned (state w.token) w.waiting) (unreturned (state w1.token) w1.waiting)
  pub arena : IsKept (counters_in h o) (h.place o.config.client) s1.root (unreturned (state w1.token) w1.waiting) s1.arena
  pub rebuilt : Rebuilt (counters_in h o) (lies h o) (knows h o w1.token) (after_rebuild opens) (answer_to (lies h o) r.is_writer (opening_of opens)) (knows h o w.token).log s1

module _ {D F : Type 0} (h : Host D) (within : IsWithin table h.client h.place h.part) (o : Origin D) (w w1 : Writer D F) (s s1 : HtState) (r : IsReady h o w.token s) (opens : List ℕ) (key value old_at : ℕ) (x : IsRegrown h o w w1 s s1 r opens key value old_at) where
  abbrev l : Layout
  l = lies h o

  abbrev n : ℕ
  n = counters_in h o

  abbrev p : WriterState
  p = r.is_writer

  abbrev b : Rebuilt n l (knows h o w1.token) (after_rebuild opens) (answer_to l p (opening_of opens)) (knows h o w.token).log s1
  b = x.rebuilt

  abbrev q : WriterState
  q = b.is_writer

  abbrev es : List Entry
  es = rebuild_entries l opens s.root s1.root x.stores x.epoch

  abbrev floor : ℕ
  floor = base_of (inner h o)

  abbrev client : HtClient
  client = (inner h o).config.client

  -- the key's plan in the new region
  pub plan_then : (at : ℕ) × (plan_now l q key ≡ Empty at)
  plan_then = next_plan h within o w1.token (ap (λ (v : Writer D F). origin v.token) x.made ∙ x.same) x.is_token (ap (λ (v : Writer D F). number v.token) x.made ∙ x.zero) q b.at.local opens b.stage_is key
      (subst (λ (us : List (LogEntry ℕ)). find nat_cmp (map_after us) key ≡ None) (sym b.at.log) (not_found h within o w.token x.same x.part x.zero s r key old_at x.planned))
      (sym (tombstones_are floor (first h o) n client q s1 b.lists) ∙ x.lists.1)

  module _ (at : ℕ) (here : plan_now l q key ≡ Empty at) (low : at < 2 ^ log_of s1.root) where
    abbrev pair : Insertion
    pair = record { key = key; number = value; to = at }

    does : (x : Step) → action l q (entry [] x) ≡ inserts empty pair
    does = goes_in_after floor (first h o) client q s1 b.lists opens key value at x.adds here b.stage_is (let e = x.lists.0 in let few = x.few in omega arith) x.lists.1 (let e = x.lists.0 in let y = (grown_fits h o s r x.few x.log x.log_is).roomy in subst (λ (k : ℕ). 4 * (s1.keys + 1) ≤ 3 * 2 ^ k) (sym x.lists.2) (omega arith))

    begins : MayBegin q.stage []
    begins = subst (λ (g : Stage). MayBegin g []) (sym b.stage_is) refl

    pub may_go_in : MayMake h o w1.token (map further (insert_steps l s1.root at key value))
    may_go_in = (q, b.at.local, can_insert floor (first h o) client q s1 b.lists [] begins key value at low does)

    module _ (w2 : Writer D F) (s2 : HtState) (steps : Steps h o w1 (map further (insert_steps l s1.root at key value)) w2) (is : s2 ≡ inserted_lists s1 at key value) (was : (view_of s1.words.items).state at ≡ 0) where
      abbrev answer : LogEntry ℕ
      answer = answer_to l p (opening_of opens)

      over : IsOver n l (knows h o w2.token) answer (knows h o w.token).log s2
      over = subst (λ (x : Answers). IsOver n l x answer (knows h o w.token).log s2) (sym steps.knows_now)
          (subst (λ (x : HtState). IsOver n l (state_after (answers_next l) (knows h o w1.token) (map further (insert_steps l s1.root at key value))) answer (knows h o w.token).log x) (sym is)
          (subst (λ (x : LogEntry ℕ). IsOver n l (state_after (answers_next l) (knows h o w1.token) (map further (insert_steps l s1.root at key value))) x (knows h o w.token).log (inserted_lists s1 at key value)) (ap (λ (g : Stage). settled_answer l q g [] answer) b.stage_is)
          (insert_over floor (first h o) client q s1 b.lists [] begins key value at low does (knows h o w1.token) answer (knows h o w.token).log b.at was)))

      pub grown_whole : IsGrown h o p (added l p) (Empty old_at) opens key value w Fresh w2 s s2
      grown_whole =
          let fits = room floor (first h o) client p s r.reflects x.few in
          let needed : x.log + 2 ≡ needed_log l p = ap (λ (k : ℕ). k + 2) (x.log_is ∙ log_now floor (first h o) client p s r.reflects) in
          record {
            reply_is = sym (ap (λ (b : Bool). cond b Fresh Full) fits);
            due = record { slot = old_at; fresh = refl; room = fits; full = not_roomy floor (first h o) client p s r.reflects x.full };
            free = λ none. x.free (subst (HasNoneFree s.arena) (sym needed) none);
            entries = es ++ map further (insert_steps l s1.root at key value);
            are = record {
              root = s1.root;
              at = at;
              epoch = x.epoch;
              stores = x.stores;
              are = ap (λ (root : ℕ). rebuild_entries l opens root s1.root x.stores x.epoch ++ map further (insert_steps l s1.root at key value)) (sym r.reflects.root);
            };
            made = steps.made ∙ (ap (λ (v : Writer D F). record v { token = adding v.token (map further (insert_steps l s1.root at key value)) }) x.made ∙ ap (λ (t : Token D). record w { token = t; calls = w.calls + 1 }) (adding-append w.token es (map further (insert_steps l s1.root at key value))));
            is_token = steps.is_token;
            retired = ap (λ (xs : List Retirement). length xs) steps.same.0 ∙ x.retired;
            items = (x.items.0, x.items.1, ap (λ (v : Writer D F). unreturned (state w2.token) v.waiting) steps.made ∙ (λ i. unreturned (record (state w2.token) { pending = steps.same.0 i; dispatched = steps.same.1 i }) w1.waiting) ∙ x.items.2);
            over = over;
            arena = subst (λ (y : HtState). IsKept n (h.place o.config.client) y.root (unreturned (state w2.token) w2.waiting) y.arena) (sym is)
                (subst (λ ks. IsKept n (h.place o.config.client) s1.root ks s1.arena) (λ i. unreturned (record (state w2.token) { pending = sym steps.same.0 i; dispatched = sym steps.same.1 i }) (sym (ap (λ (v : Writer D F). v.waiting) steps.made) i)) x.arena);
          }
