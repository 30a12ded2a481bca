-- What a record's words tell of its section, and which pending items an open section is not older than. No matter who polls.
use Rattle.std.proofs.Common.{◌≡◌, ℕ, ◌+◌, ◌-◌, ◌%◌, ◌≤◌, Bool, List, ◌++◌, get_or, All, sym, ◌∙◌, arith}
use Rattle.std.proofs.lemmas.Bool.{eqb-true}
use Rattle.std.proofs.lemmas.List.Elements.{All-filter, All-append, filter_passes}
use Rattle.ck_epoch.specs.Lists.{is_on}
use Rattle.ck_epoch.specs.State.{Stage, holding, inside, Retirement, on_list, list_by_list}
use Rattle.ck_epoch.specs.Held.{active_of, IsTimely, IsAtGlobal}

-- an item of the list of the epoch before the last, or of the last
pub two_back : (x E : ℕ) → x ≤ E → 4 ≤ E → x % 4 ≡ (E - 2) % 4 → x ≤ E - 2
two_back x E le late same = omega arith

pub one_back : (x E : ℕ) → x ≤ E → 4 ≤ E → x % 4 ≡ (E - 1) % 4 → x ≤ E - 1
one_back x E le late same = omega arith

pub All-four : (P : Retirement → Type 0) (items : List Retirement) → All P items → All P (list_by_list items)
All-four P items h = All-append P (on_list 0 items) (on_list 1 items ++ (on_list 2 items ++ on_list 3 items)) (All-filter (λ (k : Retirement). is_on 0 k.retired) P items h)
    (All-append P (on_list 1 items) (on_list 2 items ++ on_list 3 items) (All-filter (λ (k : Retirement). is_on 1 k.retired) P items h)
    (All-append P (on_list 2 items) (on_list 3 items) (All-filter (λ (k : Retirement). is_on 2 k.retired) P items h) (All-filter (λ (k : Retirement). is_on 3 k.retired) P items h)))

-- the epoch of a pending item
abbrev pub Bounded : ℕ → ℕ → Retirement → Type 0
Bounded global up k = k.retired.epoch + up ≤ global

-- Of the pending items those may be dispatched of which the section, whose epoch is x, is not older
module _ (older : ℕ → Type 0) (x global up : ℕ) (pending dispatched : List Retirement) (late : All (λ (k : Retirement). older k.number → x ≤ k.retired.epoch) pending)
    (before : All (λ (k : Retirement). ¬ older k.number) dispatched) (low : All (Bounded global up) pending) where
  abbrev Younger : Retirement → Type 0
  Younger k = ¬ older k.number

  pub list_goes : (list : ℕ) → ((e : ℕ) → e % 4 ≡ list → x ≤ e → e + up ≤ global → ⊥) → All Younger (dispatched ++ on_list list pending)
  list_goes list may = All-append Younger dispatched (on_list list pending) before
      (λ k d l o. let test : Retirement → Bool = λ k. is_on list k.retired in let item = get_or (on_list list pending) k d in
      may item.retired.epoch (eqb-true (item.retired.epoch % 4) list (filter_passes test pending k d l))
      (All-filter test (λ (k : Retirement). older k.number → x ≤ k.retired.epoch) pending late k d l o) (All-filter test (Bounded global up) pending low k d l))

  pub all_go : ((e : ℕ) → x ≤ e → e + up ≤ global → ⊥) → All Younger (dispatched ++ list_by_list pending)
  all_go may = All-append Younger dispatched (list_by_list pending) before
      (All-four Younger pending (λ k d l o. may (get_or pending k d).retired.epoch (late k d l o) (low k d l)))

-- a record that is inactive has no epoch, and one whose epoch is the global one has that
pub idle_current : (global own : ℕ) (g : Stage) → active_of g ≡ 0 → IsTimely global own g → IsAtGlobal global g
idle_current global own (holding x) none t = absurd (omega arith)
idle_current global own (inside d x) none t = let some = t.0 in absurd (omega arith)
idle_current global own g none t = tt

pub own_current : (global own : ℕ) (g : Stage) → own ≡ global → IsTimely global own g → IsAtGlobal global g
own_current global own (holding x) at t = let a = t.0 in let b = t.2 in omega arith
own_current global own (inside d x) at t = sym t.1 ∙ at
own_current global own g at t = tt

pub timely_up : (global own : ℕ) (g : Stage) → IsAtGlobal global g → IsTimely global own g → IsTimely (global + 1) own g
timely_up global own (holding x) at t = (omega arith, omega arith, t.2)
timely_up global own (inside d x) at t = (t.0, t.1, omega arith, omega arith)
timely_up global own g at t = tt
