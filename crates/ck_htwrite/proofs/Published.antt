-- A rebuilt region is published, and the lists are those of it.
use Rattle.std.proofs.Common.{◌≡◌, ◌≢◌, ℕ, suc, ◌+◌, ◌-◌, ◌^◌, ◌≤◌, le_refl, Bool, true, cond, nat_le, List, [], set, length-set, get_or, get_or-set_other, refl, sym, ap, ◌∙◌, subst, arith}
use Rattle.std.specs.Prelude.{None}
use Rattle.ck_run.specs.declared.account.Step.TheVariants.{Store}
use Rattle.ck_run.specs.declared.account.Entry.{Entry}
use Rattle.ck_run.specs.Run.{further}
use Rattle.ck_history.specs.declared.log.LogEntry.{LogEntry}
use Rattle.ck_slots.specs.Slots.{SlotsView}
use Rattle.ck_slots.proofs.Counts.{one_empty}
use Rattle.ck_htplan.specs.Region.{view_of}
use Rattle.ck_htplan.proofs.Orders.{four}
use Rattle.ck_htlaw.specs.declared.client.HtClient.{HtClient}
use Rattle.ck_htlaw.specs.Stages.{idle, copying, retiring, retiring_at_end}
use Rattle.ck_htlaw.specs.Calls.{opening_of}
use Rattle.ck_htlaw.specs.Layout.{log_of, counters_of, layout}
use Rattle.ck_htlaw.specs.Table.{Layout, WriterState, Action, no_action, second, repeated, is_table_word, MayWriterStep}
use Rattle.ck_htlaw.specs.Actions.{action, slots_now, to_copy, when_copied}
use Rattle.ck_htplan.specs.Deciding.{next_full}
use Rattle.ck_htlaw.specs.Client.{Answers, answers_next, orders_of}
use Rattle.ck_htlaw.proofs.Tokens.{is_inside}
use Rattle.ck_htwrite.specs.declared.state.HtState.{HtState}
use Rattle.ck_htwrite.specs.State.{Mirrors, Reflects}
use Rattle.ck_htwrite.specs.Writes.{WriterAt, IsNextStep}
use Rattle.ck_htwrite.specs.Rebuild.{CanHoldAll, IsCopying, adopted_lists}
use Rattle.ck_htwrite.proofs.Agree.{Agree, agree_now, next_agree}
use Rattle.ck_htwrite.proofs.Finding.{next_none, le_true}
use Rattle.ck_htwrite.proofs.Begun.{count_none}
use Rattle.ck_htwrite.proofs.Writing.{goes_on}

module _ (floor base : ℕ) (client : HtClient) where
  abbrev n : ℕ
  n = counters_of client

  abbrev l : Layout
  l = layout floor base n (orders_of client)

  module _ (p : WriterState) (s : HtState) (root : ℕ) (can : CanHoldAll n s root) (ws : List ℕ) (j : ℕ) (c : IsCopying n l p s ws root j (2 ^ log_of s.root)) where
    abbrev N : ℕ
    N = 2 ^ log_of root

    abbrev M : ℕ
    M = 2 ^ log_of s.root

    abbrev v : SlotsView
    v = view_of s.words.items

    abbrev v' : SlotsView
    v' = view_of s.spare.items

    own : is_table_word l (Store base root) ≡ true
    own = is_inside l (Store base root) (le_refl base) (omega arith)

    abbrev published_words : List ℕ
    published_words = set ws base root

    module _ (call : List ℕ) where
      abbrev here : WriterState
      here = record p { stage = copying call root j idle; words = ws }

      abbrev e : Entry
      e = further (Store base root)

      agree_old : Agree M v (slots_now l here)
      agree_old = agree_now floor base n client (record p { words = ws }) s c.lists

      no_more : next_full (slots_now l here).state ((l.order p.root).slots - j) j ≡ None
      no_more = ap (λ (k : ℕ). next_full (slots_now l here).state (2 ^ log_of k - j) j) c.lists.root
          ∙ (sym (next_agree v.state (slots_now l here).state (M - j) j (λ t lt. agree_old.state t (let d = c.passed in omega arith))) ∙ next_none v.state (M - j) j (λ t a b. c.none t a (let d = c.passed in omega arith)))

      all_passed : nat_le j (l.order p.root).slots ≡ true
      all_passed = ap (λ (k : ℕ). nat_le j (2 ^ log_of k)) c.lists.root ∙ le_true j M c.passed

      -- the writer is about to publish
      about : action l here e ≡ when_copied l here (opening_of call)
      about = ap (to_copy l here (opening_of call) root j) no_more ∙ ap (λ (b : Bool). cond b (when_copied l here (opening_of call)) no_action) all_passed

      abbrev pub goes_on_with : WriterState
      goes_on_with = record p { root = root; stage = retiring p.root call; words = published_words }

      abbrev pub ends_with : WriterState
      ends_with = record p { root = root; stage = retiring_at_end p.root; linearized = suc p.linearized; maps = repeated p.maps p.linearized; words = published_words }

      -- the store of the root, after which the writer is there
      module _ (does : Action) (is : when_copied l here (opening_of call) ≡ does) (then : WriterState) (after : record (second l [] here does (copying call root j idle)) { words = published_words } ≡ then) where
        pub publish_step : MayWriterStep l here does (copying call root j idle) e.step → (Free : ℕ → Type 0) → IsNextStep l Free here e
        publish_step may Free = record { may = subst (λ (a : Action). MayWriterStep l here a (copying call root j idle) e.step) (sym (about ∙ is)) may; goes = refl; takes = λ r t. absurd t }

        pub publish_at : then.log ≡ p.log → (a : Answers) (d : LogEntry ℕ) (told : List (LogEntry ℕ)) → WriterAt a here d told → WriterAt (answers_next l a e) then d told
        publish_at same a d told at = goes_on l a here then d d told e at own ((λ z. record (second l [] here ((about ∙ is) z) (copying call root j idle)) { words = published_words }) ∙ after) refl same

    -- the lists of the new region
    off_root : (t k : ℕ) → l.word root t k ≢ base
    off_root t k z = let a = can.is_root.piece.low in absurd (omega arith)

    pub adopted : (q : WriterState) → q.root ≡ root → q.words ≡ published_words → q.bumps ≡ p.bumps → Reflects n l q (adopted_lists s root)
    adopted q is_root words bumps = let m = c.lists.mirrors in record {
      root = is_root;
      mirrors = subst (λ (xs : List ℕ). Mirrors n l xs (adopted_lists s root)) (sym words) record {
        shape = record { is_root = can.is_root; long = c.long ∙ sym (four (log_of root)); many = m.shape.many; small = m.shape.small; room = m.shape.other_room; other_room = m.shape.room };
        states = λ t lt. c.states t lt ∙ sym (get_or-set_other ws base (l.word root t 0) root 0 (off_root t 0));
        pairs = λ t k lt lk full. c.pairs t k lt lk full ∙ sym (get_or-set_other ws base (l.word root t k) root 0 (off_root t k));
        fits = subst (λ (z : ℕ). l.base + l.size ≤ z) (sym (length-set ws base root)) m.fits;
        counts = λ k lt. m.counts k lt ∙ sym (get_or-set_other ws base (l.base + 1 + k) root 0 (λ z. absurd (omega arith)));
        keys = m.keys ∙ sym c.full;
        tombstones = sym (count_none v'.state 2 N c.no_tombstone);
      };
      bumped = λ i. subst (λ (k : ℕ). get_or s.counters.items i 0 ≤ k) (sym bumps) (c.lists.bumped i);
      hole = one_empty v'.state N (let a = c.as_many in let b = can.room in omega arith);
    }
