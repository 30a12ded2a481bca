-- The tokens at the beginning and at the end.
use Rattle.std.proofs.Common.{◌≡◌, ℕ, suc, ◌-◌, ◌<◌, ◌≤◌, true, List, [], map, drop, All, refl, sym, ap, ◌∙◌, subst, arith}
use Rattle.std.proofs.lemmas.List.Elements.{All-nil}
use Rattle.ck_run.specs.declared.account.View.{View}
use Rattle.ck_run.specs.Run.{account}
use Rattle.ck_run.specs.Rule.{IsRun, IsClosed}
use Rattle.ck_run.specs.Machine.{follows_of}
use Rattle.ck_run.specs.Tokens.{Table, table, number, did, origin}
use Rattle.ck_run.specs.Ends.{AreTied, fresh, joined_all}
use Rattle.ck_run.proofs.Lists.{All-weaker, All-both, All-unmap}
use Rattle.ck_run.proofs.Moments.{run_weaker}
use Rattle.ck_run.proofs.Ends.{tied_map, are_closed}
use Rattle.ck_epoch.specs.declared.about.About.{About}
use Rattle.ck_epoch.specs.State.{Token, TokenState, start, records_of, base_of, epochs, queue, state}
use Rattle.ck_epoch.specs.Client.{Client, Starts, program}
use Rattle.ck_epoch.specs.declared.item.Retired.{Retired}
use Rattle.ck_epoch.specs.Lists.{Backlog, AreListsOf, AreRetired}
use Rattle.ck_epoch.specs.Ends.{Pass, IsDomainToken, IsWriter, IsPass}
use Rattle.ck_epoch.specs.Closing.{AreOpening, IsClosedDomain}
use Rattle.ck_epoch.proofs.EpochLaw.{safe, keeps_epochs}

module _ {C : Type 0} where
  module _ (client : Client C) (starts : Starts client) (table : Table (About C)) (opening : AreOpening client table.origin) where
    pub may_start : (n : ℕ) → program client table.origin n []
    may_start n = ((opening.0, tt), opening.1, (λ other. tt), starts (base_of table.origin) table.origin opening.1.words n)

    new_in_run : (t : Token C) (n : ℕ) → t ≡ fresh table n → IsDomainToken client t
    new_in_run t n is = subst (IsDomainToken client) (sym is) record { run = []; is_run = record { is_true = tt; follow = may_start; none = λ k b. refl }; mine = refl }

    pub new_pass : (t : Token C) (n : ℕ) → t ≡ fresh table n → 0 < n → n ≤ records_of table.origin → IsPass client t (n - 1) 0 × ((state t).calls ≤ 0)
    new_pass t n is pos low =
        let rec : ℕ = n - 1 in
        let one : n ≡ suc rec = omega arith in
        let there : state t ≡ start (suc rec) = ap state is ∙ ap start one in (
          record {
            part = new_in_run t n is;
            other = ap number is ∙ one;
            low = let z = ap (λ (x : Token C). records_of (origin x)) is in omega arith;
            stage = (0, ap (λ (s : TokenState). s.stage) there);
          },
          let z : (state t).calls ≡ 0 = ap (λ (s : TokenState). s.calls) there in omega arith,
        )

    pub new_writer : (t : Token C) (b : Backlog) → t ≡ fresh table 0 → AreListsOf b.lists [] → IsWriter client t b × ((state t).calls ≤ 0)
    new_writer t b is none = (
      record {
        part = new_in_run t 0 is;
        first = ap number is;
        stage = ap (λ (x : Token C). (state x).stage) is;
        pending = subst (λ (x : Token C). AreListsOf b.lists (queue (state x).pending)) (sym is) none;
        retired = subst (λ (x : Token C). AreRetired (client.retires (origin t).config.client) (queue (state x).pending)) (sym is) (All-nil (λ (r : Retired). client.retires (origin t).config.client r.item ≡ true));
      },
      let z : (state t).calls ≡ 0 = ap (λ (x : Token C). (state x).calls) is in omega arith,
    )

module _ {C : Type 0} where
  -- the accounts of the tokens that were given back are the parts of a true run, which is safe
  pub closed_domain : (R : Pass C → Token C → Type 0) (client : Client C) (w : Token C) (ps : List (Pass C)) (ts : List (Token C)) (d : Table (About C)) (v : View (About C)) (words left : List ℕ)
      → ((p : Pass C) (t : Token C) → R p t → t ≡ p.token) → AreTied R ps ts → v ≡ joined_all w.view ts → table w ≡ d
      → All (λ (p : Pass C). table p.token ≡ d) ps → IsClosed (program client) v words → left ≡ drop (base_of (origin w)) words → IsClosedDomain client w ps left
  closed_domain R client w ps ts d v words left held tied e same all closed left_is =
      let tokens : List (Token C) = map (λ (p : Pass C). p.token) ps in
      let view : v ≡ joined_all w.view tokens = e ∙ ap (joined_all w.view) (tied_map R (λ (p : Pass C). p.token) ps ts held tied) in
      let c = are_closed (program client) w.view tokens words (subst (λ (x : View (About C)). IsClosed (program client) x words) view closed) in
      let epochs_run : IsRun (follows_of epochs) (origin w) c.run = run_weaker (program client) (follows_of epochs) (origin w) c.run (λ n es h. h.0) c.is_run in
      record {
        run = c.run;
        is_run = c.is_run;
        writer = c.mine.0;
        passes = All-both (λ (p : Pass C). origin p.token ≡ origin w) (λ (p : Pass C). account (number p.token) c.run ≡ did p.token) ps
            (All-weaker (λ (p : Pass C). table p.token ≡ d) (λ (p : Pass C). origin p.token ≡ origin w) ps (λ p h. ap (λ (x : Table (About C)). x.origin) (h ∙ sym same)) all)
            (All-unmap (λ (p : Pass C). p.token) (λ (t : Token C). account (number t) c.run ≡ did t) ps c.theirs);
        leaves = left_is ∙ ap (drop (base_of (origin w))) (sym c.leaves);
        safe = safe (origin w) c.run epochs_run;
        epochs = keeps_epochs (origin w) c.run epochs_run;
      }
