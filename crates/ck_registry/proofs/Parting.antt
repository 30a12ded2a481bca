-- The visitors at the beginning and at the end.
use Rattle.std.proofs.Common.{◌≡◌, ℕ, ◌+◌, ◌<◌, ◌≤◌, List, [], ◌∷◌, ◌++◌, map, length, length-append, drop, get_or, All, sym, ap, ◌∙◌, subst, arith}
use Rattle.std.proofs.lemmas.List.Elements.{All-cons}
use Rattle.ck_run.specs.declared.account.View.{View}
use Rattle.ck_run.specs.Run.{account}
use Rattle.ck_run.specs.Rule.{IsRun, IsClosed}
use Rattle.ck_run.specs.Machine.{IsAt, follows_of}
use Rattle.ck_run.specs.Tokens.{Table, table, number, did, origin}
use Rattle.ck_run.specs.Ends.{EachFrom, AreTied, fresh, joined_all}
use Rattle.ck_run.proofs.Lists.{All-weaker, All-both, All-unmap}
use Rattle.ck_run.proofs.Moments.{is_new}
use Rattle.ck_run.proofs.Ends.{tied_map, are_closed}
use Rattle.ck_epoch.specs.State.{queue}
use Rattle.ck_epoch.specs.Lists.{AreListsOf}
use Rattle.ck_registry.specs.State.{Origin, Token, TokenState, start, IsOpening, registry, state}
use Rattle.ck_registry.specs.Deferred.{Deferred, IsLeftOf}
use Rattle.ck_registry.specs.Ends.{Visitor, IsVisitor}
use Rattle.ck_registry.specs.Closing.{IsClosedRegistry}
use Rattle.ck_registry.proofs.RegistryLaw.{registry_law}

-- a visitor that made no step
pub new_visitor : (table : Table ℕ) (t : Token) (n : ℕ) (d : Deferred) → t ≡ fresh table n → n < table.origin.tokens → IsOpening table.origin → AreListsOf d.lists [] → d.waiting ≡ []
    → IsVisitor t d × ((state t).calls ≤ 0)
new_visitor table t n d is low opening none empty =
    let i : IsAt registry t (start n) = is_new registry t n (subst IsOpening (sym (ap origin is)) opening) (ap did is) (ap number is) in (
      record {
        part = i.part;
        low = subst (λ (x : Token). number x < (origin x).tokens) (sym is) low;
        stands = ap (λ (s : TokenState). s.activity) i.state;
        none = ap (λ (s : TokenState). s.pending) i.state;
        pending = none;
        empty = empty;
        waits = subst (λ (s : TokenState). IsLeftOf d.waiting (queue s.dispatched)) (sym i.state) ([], empty);
      },
      let z : (state t).calls ≡ 0 = ap (λ (s : TokenState). s.calls) i.state in omega arith,
    )

-- what holds of the next of a list, each with its number
pub each_next : {A : Type 0} (P : ℕ → A → Type 0) (n : ℕ) (xs ys all : List A) (x : A) → xs ++ x ∷ ys ≡ all → EachFrom P n all → P (n + length xs) x
each_next P n xs ys all x e h = each P n xs ys x (subst (EachFrom P n) (sym e) h)
  where
    each : {A : Type 0} (P : ℕ → A → Type 0) (n : ℕ) (xs ys : List A) (x : A) → EachFrom P n (xs ++ x ∷ ys) → P (n + length xs) x
    each P n [] ys x h = subst (λ (k : ℕ). P k x) (omega arith) h.0
    each P n (y ∷ xs) ys x h = subst (λ (k : ℕ). P k x) (omega arith) (each P (n + 1) xs ys x h.1)

pub low_next : {A : Type 0} (xs ys all : List A) (x : A) → xs ++ x ∷ ys ≡ all → length xs < length all
low_next xs ys all x e = let a = ap length e in let b = length-append xs (x ∷ ys) in omega arith

-- the first of a list, and the others
pub taken_out : {A : Type 0} (xs ys : List A) (x : A) → 0 < length xs → x ≡ get_or xs 0 x → ys ≡ drop 1 xs → x ∷ ys ≡ xs
taken_out [] ys x some first others = absurd (omega arith)
taken_out (z ∷ xs) ys x some first others = λ i. first i ∷ others i

-- The accounts of the visitors that were given back are the parts of a true run, which is lawful
pub closed_registry : (R : Visitor → Token → Type 0) (v : Visitor) (vs : List Visitor) (ts : List Token) (d : Table ℕ) (w : View ℕ) (words : List ℕ)
    → ((p : Visitor) (t : Token) → R p t → t ≡ p.token) → AreTied R vs ts → w ≡ joined_all v.token.view ts
    → All (λ (p : Visitor). table p.token ≡ d) (v ∷ vs) → IsClosed (follows_of registry) w words → IsClosedRegistry d (v ∷ vs)
closed_registry R v vs ts d w words tells tied e all closed =
    let tokens : List Token = map (λ (p : Visitor). p.token) vs in
    let view : w ≡ joined_all v.token.view tokens = e ∙ ap (joined_all v.token.view) (tied_map R (λ (p : Visitor). p.token) vs ts tells tied) in
    let c = are_closed (follows_of registry) v.token.view tokens words (subst (λ (x : View ℕ). IsClosed (follows_of registry) x words) view closed) in
    let same : origin v.token ≡ d.origin = ap (λ (x : Table ℕ). x.origin) (all 0 v (omega arith)) in
    let run : IsRun (follows_of registry) d.origin c.run = subst (λ (o : Origin). IsRun (follows_of registry) o c.run) same c.is_run in
    record {
      run = c.run;
      is_run = run;
      visitors = All-both (λ (p : Visitor). origin p.token ≡ d.origin) (λ (p : Visitor). account (number p.token) c.run ≡ did p.token) (v ∷ vs)
          (All-weaker (λ (p : Visitor). table p.token ≡ d) (λ (p : Visitor). origin p.token ≡ d.origin) (v ∷ vs) (λ p h. ap (λ (x : Table ℕ). x.origin) h) all)
          (All-cons (λ (p : Visitor). account (number p.token) c.run ≡ did p.token) v vs c.mine.0
          (All-unmap (λ (p : Visitor). p.token) (λ (t : Token). account (number t) c.run ≡ did t) vs c.theirs));
      lawful = registry_law d.origin c.run run;
    }
