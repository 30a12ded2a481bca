-- The writer's end between two calls.
use Rattle.std.proofs.Common.{◌≡◌, ℕ, ◌+◌, ◌^◌, ◌<◌, ◌≤◌, ◌⊎◌, List, [], ◌∷◌, length, length-append, refl, sym, ap, ◌∙◌, subst, arith, ⊎_elim, inl, inr}
use Rattle.std.specs.Prelude.{IfErr, MatchResult, None, Some}
use Rattle.std.specs.Result.{IsErrAnd}
use Rattle.std.specs.declared.result.Result.{Result}
use Rattle.std.specs.declared.result.Result.TheVariants.{Ok, Err}
use Rattle.std.specs.Ordering.{nat_cmp}
use Rattle.ck_run.specs.declared.account.Entry.{Entry}
use Rattle.ck_run.specs.declared.account.Step.{Step}
use Rattle.ck_run.specs.Tokens.{adding, origin, number}
use Rattle.ck_history.specs.declared.log.LogEntry.{LogEntry}
use Rattle.ck_history.specs.declared.update.Reply.{Reply}
use Rattle.ck_history.specs.Key.{number_of_words}
use Rattle.ck_history.specs.Map.{find, step}
use Rattle.ck_htplan.specs.declared.cases.Plan.TheVariants.{Empty}
use Rattle.ck_htlaw.specs.Stages.{after_rebuild}
use Rattle.ck_epoch.specs.State.{Origin, Token, Retirement, base_of, state}
use Rattle.ck_epoch.specs.Ends.{Writer, IsDomainToken}
use Rattle.ck_epoch.specs.Within.{IsWithin}
use Rattle.ck_htplan.specs.Region.{view_of}
use Rattle.ck_htlaw.specs.Host.{Host, first, inner, lies}
use Rattle.ck_htlaw.specs.Calls.{Opening, opening_of}
use Rattle.ck_htlaw.specs.Layout.{log_of}
use Rattle.ck_htlaw.specs.Table.{Layout, WriterState, writer, view}
use Rattle.ck_htlaw.specs.Actions.{most, answer_to, keys_now, plan_now, slots_now, tombstones_now}
use Rattle.ck_htlaw.specs.Client.{table}
use Rattle.ck_htlaw.specs.Linearized.{map_after}
use Rattle.ck_htlaw.specs.Known.{knows}
use Rattle.ck_htwrite.specs.declared.state.HtState.{HtState}
use Rattle.ck_htwrite.specs.declared.state.Need.{Need}
use Rattle.ck_arena.specs.Arena.{HasNoneFree, unreturned}
use Rattle.ck_htwrite.specs.Arena.{AddsRegion, IsKept, MayAddRegion}
use Rattle.ck_htwrite.specs.Entries.{HasKeys, HoldsMap}
use Rattle.ck_htwrite.specs.State.{IsReady, Ready, counter_at, next_count}
use Rattle.ck_htplan.specs.declared.cases.Plan.{Plan}
use Rattle.ck_htwrite.specs.Updates.{IsDone, IsGrown, IsMade, IsOver, IsRebuildDue, Makes, needed_log}
use Rattle.ck_htwrite.specs.Writes.{opened, Steps, WriterIs, counters_in}
use Rattle.ck_htwrite.proofs.Agree.{agree, agree_now}
use Rattle.ck_htwrite.proofs.Facts.{absent, as_many, holds_map, empty_after, has_hole, few_bumps, log_is, right, keys_once}

-- what holds of an error
pub if_err : (r : Result Reply Need) (P Q : Need → Type 0) → IsErrAnd r P → ((e : Need) → P e → Q e) → IfErr r Q
if_err (Ok x) P Q h f = tt
if_err (Err e) P Q h f = f e h

pub match_err : (r : Result Reply Need) (P Q : Need → Type 0) (R : Reply → Type 0) → IsErrAnd r P → ((e : Need) → P e → Q e) → MatchResult r R Q
match_err (Ok x) P Q R h f = absurd h
match_err (Err e) P Q R h f = f e h

module _ {D : Type 0} (h : Host D) (within : IsWithin table h.client h.place h.part) (o : Origin D) where
  abbrev l : Layout
  l = lies h o

  abbrev n : ℕ
  n = counters_in h o

  -- the account has one state
  pub same_writer : (t : Token D) (s : HtState) (r : IsReady h o t s) (p : WriterState) → WriterIs h o t p → r.is_writer ≡ p
  same_writer t s r p is = let z : writer r.is_writer ≡ writer p = sym r.is ∙ is in cc

  -- before a call
  module _ (t : Token D) (same : origin t ≡ o) (part : IsDomainToken h.client t) (zero : number t ≡ 0) (s : HtState) (r : IsReady h o t s) where
    abbrev p : WriterState
    p = r.is_writer

    is_then : WriterIs h (origin t) t p
    is_then = subst (λ (q : Origin D). WriterIs h q t p) (sym same) r.is

    -- what a call answers is what the map of one thread answers
    pub answers : (c : Opening) → (step nat_cmp most (map_after (knows h o t).log) (answer_to l p c).update).1 ≡ (answer_to l p c).reply
    answers c = subst (λ (q : Origin D). (step nat_cmp most (map_after (knows h q t).log) (answer_to (lies h q) p c).update).1 ≡ (answer_to (lies h q) p c).reply) same
        (right h within t part zero p is_then r.idles c)

    pub small : (tally calls : ℕ) → tally ≡ length (knows h o t).log → tally ≤ calls → calls < 2 ^ 40 → next_count n s < 2 ^ 62
    small tally calls is few low =
        let a = few_bumps h within t part zero p is_then r.idles in
        let b : length (knows h o t).log ≡ p.log = ap (λ (q : Origin D). length (knows h q t).log) (sym same) ∙ log_is h within t part zero p is_then in
        let d = r.reflects.bumped (counter_at n s.root) in omega arith

    -- a key whose plan names an empty slot is absent
    pub not_found : (key at : ℕ) → plan_now l p key ≡ Empty at → find nat_cmp (map_after (knows h o t).log) key ≡ None
    not_found key at = subst (λ (q : Origin D). plan_now (lies h q) p key ≡ Empty at → find nat_cmp (map_after (knows h q t).log) key ≡ None) same (absent h within t part zero p is_then r.idles key at)

    -- the map has as many pairs as slots are full
    pub as_many_pairs : keys_now l p ≡ length (map_after (knows h o t).log)
    as_many_pairs = subst (λ (q : Origin D). keys_now (lies h q) p ≡ length (map_after (knows h q t).log)) same (as_many h within t part zero p is_then r.idles)

    -- the full slots of the lists hold the pairs of the map
    pub holds_pairs : HasKeys (map_after (knows h o t).log) → HoldsMap (view_of s.words.items) (2 ^ log_of s.root) (map_after (knows h o t).log)
    holds_pairs keys =
        let m = map_after (knows h o t).log in
        let g = agree_now (base_of (inner h o)) (first h o) n (inner h o).config.client p s r.reflects in
        let many : 2 ^ log_of s.root ≡ 2 ^ log_of p.root = ap (λ (x : ℕ). 2 ^ log_of x) (sym r.reflects.root) in
        let there = subst (λ (q : Origin D). HasKeys (map_after (knows h q t).log) → HoldsMap (slots_now (lies h q) p) ((lies h q).order p.root).slots (map_after (knows h q t).log)) same (holds_map h within t part zero p is_then r.idles) keys in
        record {
          sorted = there.sorted;
          keys = keys;
          full = λ a low is. ap (find nat_cmp m) (λ i. number_of_words (g.high a low is i) (g.low a low is i)) ∙ (there.full a (subst (λ (k : ℕ). a < k) many low) (sym (g.state a low) ∙ is) ∙ ap (λ (x : ℕ). Some x) (sym (g.value a low is)));
          none = λ k not. there.none k (λ a low is e. let here = subst (λ (x : ℕ). a < x) (sym many) low in let full = g.state a here ∙ is in not a here full ((λ i. number_of_words (g.high a here full i) (g.low a here full i)) ∙ e));
        }

    -- no two full slots of the lists have the same key
    pub once : (a b : ℕ) → a < 2 ^ log_of s.root → b < 2 ^ log_of s.root → (view_of s.words.items).state a ≡ 1 → (view_of s.words.items).state b ≡ 1 → (view_of s.words.items).low a ≡ (view_of s.words.items).low b → (view_of s.words.items).high a ≡ (view_of s.words.items).high b → a ≡ b
    once a b low_a low_b full_a full_b same_low same_high =
        let g = agree_now (base_of (inner h o)) (first h o) n (inner h o).config.client p s r.reflects in
        let many : 2 ^ log_of s.root ≡ 2 ^ log_of p.root = ap (λ (x : ℕ). 2 ^ log_of x) (sym r.reflects.root) in
        subst (λ (q : Origin D). (a b : ℕ) → a < ((lies h q).order p.root).slots → b < ((lies h q).order p.root).slots → (slots_now (lies h q) p).state a ≡ 1 → (slots_now (lies h q) p).state b ≡ 1 → (slots_now (lies h q) p).low a ≡ (slots_now (lies h q) p).low b → (slots_now (lies h q) p).high a ≡ (slots_now (lies h q) p).high b → a ≡ b) same
        (keys_once h within t part zero p is_then r.idles) a b (subst (λ (m : ℕ). a < m) many low_a) (subst (λ (m : ℕ). b < m) many low_b)
        (sym (g.state a low_a) ∙ full_a) (sym (g.state b low_b) ∙ full_b) (sym (g.low a low_a full_a) ∙ (same_low ∙ g.low b low_b full_b)) (sym (g.high a low_a full_a) ∙ (same_high ∙ g.high b low_b full_b))

  -- after a rebuild the plan of an absent key names an empty slot
  pub next_plan : (t : Token D) → origin t ≡ o → IsDomainToken h.client t → number t ≡ 0 → (p : WriterState) → WriterIs h o t p → (call : List ℕ) → p.stage ≡ after_rebuild call → (key : ℕ) → find nat_cmp (map_after (knows h o t).log) key ≡ None → tombstones_now l p ≡ 0 → (at : ℕ) × (plan_now l p key ≡ Empty at)
  next_plan t same part zero p is call after key none clean = subst (λ (q : Origin D). find nat_cmp (map_after (knows h q t).log) key ≡ None → tombstones_now (lies h q) p ≡ 0 → (at : ℕ) × (plan_now (lies h q) p key ≡ Empty at)) same
      (empty_after h within t part zero p (subst (λ (q : Origin D). WriterIs h q t p) (sym same) is) call after key) none clean

  -- after a call
  module _ {F : Type 0} (w w' : Writer D F) (same_u : origin w'.token ≡ o) (is_token : IsDomainToken h.client w'.token) (zero_u : number w'.token ≡ 0) (s s' : HtState) (rd : Ready h o w s) (answer : LogEntry ℕ) (over : IsOver n l (knows h o w'.token) answer (knows h o w.token).log s') where
    abbrev u : Token D
    u = w'.token

    abbrev q : WriterState
    q = over.is_writer

    hole : (e : ℕ) × (e < 2 ^ log_of s'.root) × ((view_of s'.words.items).state e ≡ 0)
    hole =
        let found = has_hole h within u is_token zero_u q (subst (λ (x : Origin D). WriterIs h x u q) (sym same_u) over.at.local) in
        let here = subst (λ (x : Origin D × ℕ). (e : ℕ) × (e < ((lies h x.0).order x.1).slots) × ((view (lies h x.0) q.words x.1).state e ≡ 0)) (λ i. (same_u i, over.root i)) found in
        (here.0, here.1, (agree (base_of (inner h o)) (first h o) n (inner h o).config.client q.words s' over.mirrors).state here.0 here.1 ∙ here.2)

    pub ready_lists : IsReady h o u s'
    ready_lists = record {
      is_writer = q;
      is = over.at.local;
      idles = over.idles;
      reflects = record { root = over.root; mirrors = over.mirrors; bumped = over.bumped; hole = hole };
    }

    longer : length (knows h o u).log ≡ length (knows h o w.token).log + 1
    longer = ap length over.at.log ∙ length-append (knows h o w.token).log (answer ∷ [])

    pub ready_again : IsKept n (h.place o.config.client) s'.root (unreturned (state u) w'.waiting) s'.arena → w'.tally ≡ w.tally → w.calls ≤ w'.calls → Ready h o (record w' { calls = w'.calls + 1; tally = w'.tally + 1 }) s'
    ready_again kept tallied called = let before = rd.tally in let few = rd.few in let more = longer in record { lists = ready_lists; arena = kept; tally = omega arith; few = omega arith }

  -- after its steps, where nothing was taken or retired
  module _ {F : Type 0} (w w' : Writer D F) (es : List Entry) (same : origin w.token ≡ o) (zero : number w.token ≡ 0) (steps : Steps h o w es w') (s s' : HtState) (rd : Ready h o w s) (answer : LogEntry ℕ) (over : IsOver n l (knows h o w'.token) answer (knows h o w.token).log s') where
    pub ready_next : (s'.root ≡ s.root) × (s'.arena ≡ s.arena) → Ready h o (record w' { calls = w'.calls + 1; tally = w'.tally + 1 }) s'
    ready_next kept =
        let called : w'.calls ≡ w.calls = ap (λ (v : Writer D F). v.calls) steps.made in
        ready_again w w' (ap (λ (v : Writer D F). origin v.token) steps.made ∙ same) steps.is_token (ap (λ (v : Writer D F). number v.token) steps.made ∙ zero) s s' rd answer over
        (subst (λ (x : ℕ). IsKept n (h.place o.config.client) x (unreturned (state w'.token) w'.waiting) s'.arena) (sym kept.0)
        (subst (λ a. IsKept n (h.place o.config.client) s.root (unreturned (state w'.token) w'.waiting) a) (sym kept.1)
        (subst (λ ks. IsKept n (h.place o.config.client) s.root ks s.arena) items rd.arena)))
        (ap (λ (v : Writer D F). v.tally) steps.made) (omega arith)
      where
        items : unreturned (state w.token) w.waiting ≡ unreturned (state w'.token) w'.waiting
        items = (λ i. unreturned (record (state w'.token) { pending = sym steps.same.0 i; dispatched = sym steps.same.1 i }) (sym (ap (λ (v : Writer D F). v.waiting) steps.made) i))

  -- after a call that may rebuild
  module _ {F : Type 0} (w w' : Writer D F) (same : origin w.token ≡ o) (zero : number w.token ≡ 0) (s s' : HtState) (rd : Ready h o w s) (expected reply : Reply) (AreSteps : List Step → Type 0) (plan : Plan) (opens : List ℕ) (key value : ℕ)
      (done : IsDone h o rd.lists.is_writer expected AreSteps plan opens key value w reply w' s s') where
    abbrev from : WriterState
    from = rd.lists.is_writer

    abbrev Grown : Type 0
    Grown = IsGrown h o from expected plan opens key value w reply w' s s'

    abbrev Made : Type 0
    Made = IsMade h o from expected AreSteps opens w reply w' s' × (s'.root ≡ s.root) × (s'.arena ≡ s.arena)

    pub done_reply : reply ≡ expected
    done_reply = ⊎_elim (λ (x : Made). x.0.reply_is) (λ (x : Grown). x.reply_is) done

    pub done_over : IsOver n l (knows h o w'.token) (answer_to l from (opening_of opens)) (knows h o w.token).log s'
    done_over = ⊎_elim (λ (x : Made). x.0.over) (λ (x : Grown). x.over) done

    pub done_made : (es : List Entry) × Makes l from AreSteps plan opens key value es × (w' ≡ record w { token = adding w.token es; calls = w'.calls })
    done_made = ⊎_elim
        (λ (x : Made). (opened opens x.0.steps, inl (x.0.steps, x.0.are, refl), x.0.made.made ∙ ap (λ (k : ℕ). record w { token = adding w.token (opened opens x.0.steps); calls = k }) (sym (ap (λ (v : Writer D F). v.calls) x.0.made.made))))
        (λ (x : Grown). (x.entries, inr (x.due, x.are), x.made ∙ ap (λ (k : ℕ). record w { token = adding w.token x.entries; calls = k }) (sym (ap (λ (v : Writer D F). v.calls) x.made))))
        done

    pub done_calls : (w.calls ≤ w'.calls) × (w'.calls ≤ w.calls + 1)
    done_calls = ⊎_elim
        (λ (x : Made). let e : w'.calls ≡ w.calls = ap (λ (v : Writer D F). v.calls) x.0.made.made in (omega arith, omega arith))
        (λ (x : Grown). let e : w'.calls ≡ w.calls + 1 = ap (λ (v : Writer D F). v.calls) x.made in (omega arith, omega arith))
        done

    pub done_free : ((ss : List Step) → AreSteps ss → IsRebuildDue l from plan → ⊥) → IsRebuildDue l from plan → HasNoneFree s.arena (needed_log l from) → ⊥
    done_free apart due none = ⊎_elim (λ (x : Made). apart x.0.steps x.0.are due) (λ (x : Grown). x.free none) done

    pub done_pending : length (state w'.token).pending ≤ length (state w.token).pending + 1
    done_pending = ⊎_elim
        (λ (x : Made). let e = ap (λ (ks : List Retirement). length ks) x.0.made.same.0 in omega arith)
        (λ (x : Grown). let e = x.retired in omega arith)
        done

    pub done_items : MayAddRegion n (h.place o.config.client) (unreturned (state w.token) w.waiting) (unreturned (state w'.token) w'.waiting)
    done_items = ⊎_elim
        (λ (x : Made). inl (λ i. unreturned (record (state w'.token) { pending = x.0.made.same.0 i; dispatched = x.0.made.same.1 i }) ((ap (λ (v : Writer D F). v.waiting) x.0.made.made) i)))
        (λ (x : Grown). inr x.items)
        done

    -- the region is as before, or it was replaced and isn't given back
    pub done_root : (s'.root ≡ s.root) ⊎ AddsRegion n (h.place o.config.client) (unreturned (state w.token) w.waiting) (unreturned (state w'.token) w'.waiting)
    done_root = ⊎_elim (λ (x : Made). inl x.1) (λ (x : Grown). inr x.items) done

    pub done_ready : Ready h o (record w' { calls = w'.calls + 1; tally = w'.tally + 1 }) s'
    done_ready = ⊎_elim
        (λ (x : Made). ready_next w w' (opened opens x.0.steps) same zero x.0.made s s' rd (answer_to l from (opening_of opens)) x.0.over (x.1, x.2))
        (λ (x : Grown). ready_again w w' (ap (λ (v : Writer D F). origin v.token) x.made ∙ same) x.is_token (ap (λ (v : Writer D F). number v.token) x.made ∙ zero) s s' rd (answer_to l from (opening_of opens)) x.over x.arena
        (ap (λ (v : Writer D F). v.tally) x.made) done_calls.0)
        done
