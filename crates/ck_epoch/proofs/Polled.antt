-- What a poll leaves of the writer's queue.
use Rattle.std.proofs.Common.{◌≡◌, ℕ, ◌+◌, ◌-◌, ◌%◌, ◌≤◌, Bool, true, false, not, cond, List, [], ◌++◌, length, append_assoc, sym, ap, ◌∙◌, subst, refl, arith}
use Rattle.std.proofs.lemmas.List.Elements.{All-filter}
use Rattle.ck_words.specs.declared.back.Back.{Back}
use Rattle.ck_run.specs.Tokens.{Table, table, origin}
use Rattle.ck_epoch.specs.declared.about.About.{About}
use Rattle.ck_epoch.specs.declared.item.Item.{Item}
use Rattle.ck_epoch.specs.declared.item.Retired.{Retired}
use Rattle.ck_epoch.specs.declared.answers.Poll.{Poll}
use Rattle.ck_epoch.specs.declared.answers.Poll.TheVariants.{Clear, Moved}
use Rattle.ck_epoch.specs.State.{Token, TokenState, Retirement, on_list, off_list, list_by_list, queue, state}
use Rattle.ck_epoch.specs.Lists.{Backlog, is_on, on, off, by_list, homes, AreListsOf, AreRetired}
use Rattle.ck_epoch.specs.Client.{Client}
use Rattle.ck_epoch.specs.Ends.{Writer, IsWriter}
use Rattle.ck_epoch.specs.Calls.{dispatched_items, pending_after}
use Rattle.ck_epoch.specs.Scan.{first_dispatch, IsDone}
use Rattle.ck_epoch.proofs.FourLists.{on_gone, queue_off, queue_on, queue_by_list, queue_behind}
use Rattle.ck_epoch.proofs.Emptying.{IsEmptied, lists_off}

-- the writer's domain is the one that keeps this
pub config_is : {C F : Type 0} {w v : Writer C F} {d now : Table (About C)} {about : About C} → w ≡ v → table v.token ≡ now → d ≡ now → d.origin.config ≡ about → (origin w.token).config ≡ about
config_is view same keeps told = ap (λ (u : Writer _ _). (origin u.token).config) view ∙ (ap (λ (x : Table (About _)). x.origin.config) (same ∙ sym keeps) ∙ told)

module _ {C : Type 0} (client : Client C) (t : Token C) (b : Backlog) (inv : IsWriter client t b) (about : About C) (config : (origin t).config ≡ about) where
  abbrev pub retires : Item → Bool
  retires = client.retires about.client

  pub were_retired : AreRetired retires (queue (state t).pending)
  were_retired = subst (λ (a : About C). AreRetired (client.retires a.client) (queue (state t).pending)) config inv.retired

  -- after one list was dispatched
  module _ (list : ℕ) where
    pub left_retired : AreRetired retires (queue (off_list list (state t).pending))
    left_retired = subst (AreRetired retires) (sym (queue_off list (state t).pending))
        (All-filter (λ (r : Retired). not (is_on list r)) (λ (r : Retired). retires r.item ≡ true) (queue (state t).pending) were_retired)

    module _ (lists : List (List Retired)) (is : IsEmptied list b.lists lists) where
      pub left_queue : AreListsOf lists (queue (off_list list (state t).pending))
      left_queue = subst (AreListsOf lists) (sym (queue_off list (state t).pending)) (lists_off list b.lists lists (queue (state t).pending) inv.pending is)

      -- and then another
      module _ (list' : ℕ) where
        pub rest_retired : AreRetired retires (queue (off_list list' (off_list list (state t).pending)))
        rest_retired = subst (AreRetired retires) (sym (queue_off list' (off_list list (state t).pending)))
            (All-filter (λ (r : Retired). not (is_on list' r)) (λ (r : Retired). retires r.item ≡ true) (queue (off_list list (state t).pending)) left_retired)

        pub rest_queue : (lists' : List (List Retired)) → IsEmptied list' lists lists' → AreListsOf lists' (queue (off_list list' (off_list list (state t).pending)))
        rest_queue lists' is' = subst (AreListsOf lists') (sym (queue_off list' (off_list list (state t).pending))) (lists_off list' lists lists' (queue (off_list list (state t).pending)) left_queue is')

  -- the writer between two calls, with what is left
  pub writer_after : (u : Token C) (e : ℕ) (ks gone : List Retirement) (b' : Backlog) → IsDone client t u e ks gone → (origin u).config ≡ about → AreListsOf b'.lists (queue ks) → AreRetired retires (queue ks) → IsWriter client u b'
  writer_after u e ks gone b' done same pending retired = record {
    part = done.part;
    first = done.first;
    stage = done.stage;
    pending = subst (λ (xs : List Retirement). AreListsOf b'.lists (queue xs)) (sym done.pending_is) pending;
    retired = subst (λ (xs : List Retirement). AreRetired (client.retires (origin u).config.client) (queue xs)) (sym done.pending_is)
        (subst (λ (a : About C). AreRetired (client.retires a.client) (queue ks)) (sym same) retired);
  }

  pub calls_after : (u : Token C) (e calls : ℕ) (ks gone : List Retirement) → IsDone client t u e ks gone → (state t).calls ≤ calls → (state u).calls ≤ calls + 1
  calls_after u e calls ks gone done few = let z = done.calls in omega arith

-- what stays pending, as the account tells it
pub kept_one : (e : ℕ) (ks : List Retirement) → queue (off_list ((e - 2) % 4) ks) ≡ off ((e - 2) % 4) (queue ks)
kept_one e ks = queue_off ((e - 2) % 4) ks

pub kept_two : (e : ℕ) (ks : List Retirement) → queue (off_list ((e - 1) % 4) (off_list ((e - 2) % 4) ks)) ≡ off ((e - 1) % 4) (off ((e - 2) % 4) (queue ks))
kept_two e ks = queue_off ((e - 1) % 4) (off_list ((e - 2) % 4) ks) ∙ ap (off ((e - 1) % 4)) (kept_one e ks)

-- by the account no item is pending of a list that was dispatched
pub none_on : (list : ℕ) (ks : List Retirement) → on list (queue (off_list list ks)) ≡ []
none_on list ks = ap (on list) (queue_off list ks) ∙ on_gone list (queue ks)

-- the same where a poll may have dispatched all
pub none_on_yet : (done : Bool) (list : ℕ) (ks : List Retirement) → on list (queue (cond done [] (off_list list ks))) ≡ []
none_on_yet true list ks = refl
none_on_yet false list ks = none_on list ks

-- what was dispatched behind what was dispatched before, as the account tells it
module _ (e : ℕ) (s : TokenState) where
  abbrev first_list : ℕ
  first_list = (e - 2) % 4

  pub gone_one : queue (first_dispatch e s) ≡ queue s.dispatched ++ on first_list (queue s.pending)
  gone_one = queue_behind s.dispatched (on_list first_list s.pending) (on first_list (queue s.pending)) (queue_on first_list s.pending)

  gone_more : (items : List Retirement) (rest : List Retired) → queue items ≡ rest → queue (first_dispatch e s ++ items) ≡ queue s.dispatched ++ (on first_list (queue s.pending) ++ rest)
  gone_more items rest is = queue_behind (first_dispatch e s) items rest is ∙ (ap (λ (rs : List Retired). rs ++ rest) gone_one ∙ append_assoc (queue s.dispatched) (on first_list (queue s.pending)) rest)

  pub gone_two : queue (first_dispatch e s ++ on_list ((e - 1) % 4) (off_list first_list s.pending)) ≡ queue s.dispatched ++ dispatched_items e (Moved 0 0) (queue s.pending)
  gone_two = gone_more (on_list ((e - 1) % 4) (off_list first_list s.pending)) (on ((e - 1) % 4) (off first_list (queue s.pending)))
      (queue_on ((e - 1) % 4) (off_list first_list s.pending) ∙ ap (on ((e - 1) % 4)) (queue_off first_list s.pending))

  pub gone_all : queue (first_dispatch e s ++ list_by_list (off_list first_list s.pending)) ≡ queue s.dispatched ++ dispatched_items e (Clear 0) (queue s.pending)
  gone_all = gone_more (list_by_list (off_list first_list s.pending)) (by_list (off first_list (queue s.pending)))
      (queue_by_list (off_list first_list s.pending) ∙ ap by_list (queue_off first_list s.pending))

-- The same told of the writer as contracts see it
module _ {C F : Type 0} {w v : Writer C F} (view : w ≡ v) {e : ℕ} (epoch : (state w.token).epoch ≡ e) (p : Poll) where
  seen : {X : Type 0} (G : ℕ → Writer C F → X) → G e w ≡ G (state v.token).epoch v
  seen G = ap (λ (k : ℕ). G k w) (sym epoch) ∙ ap (λ (u : Writer C F). G (state u.token).epoch u) view

  pub told_pending : (rs : List Retired) → rs ≡ pending_after e p (queue (state w.token).pending) → rs ≡ pending_after (state v.token).epoch p (queue (state v.token).pending)
  told_pending rs is = is ∙ seen (λ (k : ℕ) (u : Writer C F). pending_after k p (queue (state u.token).pending))

  pub told_dispatched : (rs : List Retired) → rs ≡ queue (state w.token).dispatched ++ dispatched_items e p (queue (state w.token).pending) → rs ≡ queue (state v.token).dispatched ++ dispatched_items (state v.token).epoch p (queue (state v.token).pending)
  told_dispatched rs is = is ∙ seen (λ (k : ℕ) (u : Writer C F). queue (state u.token).dispatched ++ dispatched_items k p (queue (state u.token).pending))

  pub told_count : (n : ℕ) → n ≡ length (dispatched_items e p (queue (state w.token).pending)) → n ≡ length (dispatched_items (state v.token).epoch p (queue (state v.token).pending))
  told_count n is = is ∙ seen (λ (k : ℕ) (u : Writer C F). length (dispatched_items k p (queue (state u.token).pending)))

  -- and of the domain
  pub told_waiting : (client : Client C) (about : About C) (d now : Table (About C)) → d ≡ now → d.origin.config ≡ about → (bs : List Back) → bs ≡ w.waiting ++ homes (client.home about.client) (dispatched_items e p (queue (state w.token).pending))
      → bs ≡ v.waiting ++ homes (client.home now.origin.config.client) (dispatched_items (state v.token).epoch p (queue (state v.token).pending))
  told_waiting client about d now keeps told bs is = is
      ∙ (ap (λ (a : About C). w.waiting ++ homes (client.home a.client) (dispatched_items e p (queue (state w.token).pending))) (sym told ∙ ap (λ (x : Table (About C)). x.origin.config) keeps)
      ∙ seen (λ (k : ℕ) (u : Writer C F). u.waiting ++ homes (client.home now.origin.config.client) (dispatched_items k p (queue (state u.token).pending))))
