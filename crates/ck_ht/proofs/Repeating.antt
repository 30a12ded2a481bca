-- Looks that are made again until one answers.
use Rattle.std.proofs.Common.{◌≡◌, ℕ, ◌+◌, List, [], ◌∷◌, ◌++◌, length, length-append, append-nil, refl, sym, ap, ◌∙◌, subst, arith}
use Rattle.std.specs.Ordering.{nat_cmp}
use Rattle.ck_run.specs.declared.account.Entry.{Entry}
use Rattle.ck_run.specs.Run.{Run}
use Rattle.ck_run.specs.Tokens.{table, adding, viewing, did}
use Rattle.ck_run.proofs.Moments.{adding-append}
use Rattle.ck_history.specs.Map.{find}
use Rattle.ck_history.specs.declared.log.Look.{Look}
use Rattle.ck_history.specs.declared.log.Look.TheVariants.{Again}
use Rattle.ck_epoch.specs.State.{Origin, Token, depth}
use Rattle.ck_epoch.specs.Ends.{Pass}
use Rattle.ck_signal.specs.declared.signals.Signals.{Signals}
use Rattle.ck_htlaw.specs.declared.client.HtClient.{HtClient}
use Rattle.ck_htlaw.specs.Known.{knows}
use Rattle.ck_htlaw.specs.Law.{IsTableRun, map_in, retries_of}
use Rattle.ck_htlaw.specs.Reached.{with_signals}
use Rattle.ck_htread.specs.Answered.{StandTogether, AnswersAlone}
use Rattle.ck_htread.specs.Reading.{Looks, look_entries}
use Rattle.ck_htread.proofs.Alone.{begin_together}
use Rattle.ck_htread.proofs.WholeLook.{again_is}
use Rattle.ck_ht.specs.Ends.{IsPassReady}
use Rattle.ck_ht.specs.Events.{pass_events}
use Rattle.ck_ht.specs.Getting.{Repeats, Gets}

module _ (o : Origin (Signals HtClient)) (key : ℕ) where
  -- the looks so far were to be made again
  pub record HasLooked (p q : Pass (Signals HtClient)) : Type 0 where
    pub same : table q.token ≡ table p.token
    pub deep : depth q.token ≡ depth p.token
    pub calls : q.calls ≡ p.calls
    pub ready : IsPassReady o q
    pub looks : (knows with_signals o q.token).looks ≡ (knows with_signals o p.token).looks
    pub events : pass_events o q.token ≡ pass_events o p.token
    pub tokens : List (Token (Signals HtClient))
    pub repeats : Repeats o key p.token tokens q.token
    pub retries : retries_of (knows with_signals o q.token).local ≡ retries_of (knows with_signals o p.token).local + length tokens
    pub steps : List Entry
    pub made : q.token ≡ adding p.token steps
    pub once : (past run : Run) → IsTableRun with_signals o run → StandTogether p.token q.token past run → tokens ≡ []

  repeats_more : (vs : List (Token (Signals HtClient))) (t u v : Token (Signals HtClient)) (before after : ℕ) → Repeats o key t vs u → Looks with_signals o key u (Again before after) v → Repeats o key t (vs ++ v ∷ []) v
  repeats_more [] t u v before after h look = ((before, after, subst (λ (w : Token (Signals HtClient)). Looks with_signals o key w (Again before after) v) h look), refl)
  repeats_more (w ∷ vs) t u v before after h look = (h.0, repeats_more vs w u v before after h.1 look)

  pub none_looked : (p : Pass (Signals HtClient)) → IsPassReady o p → HasLooked p p
  none_looked p r = record {
    same = refl;
    deep = refl;
    calls = refl;
    ready = r;
    looks = refl;
    events = refl;
    tokens = [];
    repeats = refl;
    retries = (let n = retries_of (knows with_signals o p.token).local in omega arith);
    steps = [];
    made = ap (λ (es : List Entry). viewing p.token (record p.token.view { own = record p.token.view.own { entries = es } })) (sym (append-nil (did p.token)));
    once = λ past run is_run together. refl;
  }

  -- the look after these
  module _ (p q : Pass (Signals HtClient)) (result : Look) (u : Token (Signals HtClient)) (h : HasLooked p q) (look : Looks with_signals o key q.token result u) where
    -- is the first, where no other token steps among its steps and theirs
    is_first : (past run : Run) → IsTableRun with_signals o run → StandTogether p.token u past run → h.tokens ≡ []
    is_first past run is_run together = h.once past run is_run (begin_together p.token q.token u h.steps _ past run h.made look.steps together)

    pub last_alone : AnswersAlone with_signals o q.token key result u → AnswersAlone with_signals o p.token key result u
    last_alone alone past run is_run together =
        let none : q.token ≡ p.token = subst (λ (vs : List (Token (Signals HtClient))). Repeats o key p.token vs q.token) (is_first past run is_run together) h.repeats in
        alone past run is_run (subst (λ (t : Token (Signals HtClient)). StandTogether t u past run) (sym none) together)

    pub gets : retries_of (knows with_signals o u).local ≡ retries_of (knows with_signals o q.token).local + 0 → Gets o key p.token result u
    gets retries = record { tokens = h.tokens; last = q.token; repeats = h.repeats; looks = look; retries = (let m = h.retries in omega arith); once = is_first }

  pub looks_again : (p q s : Pass (Signals HtClient)) (before after : ℕ) → HasLooked p q → table s.token ≡ table q.token → depth s.token ≡ depth q.token → s.calls ≡ q.calls + 0 → IsPassReady o s
      → (knows with_signals o s.token).looks ≡ (knows with_signals o q.token).looks ++ [] → pass_events o s.token ≡ pass_events o q.token ++ []
      → retries_of (knows with_signals o s.token).local ≡ retries_of (knows with_signals o q.token).local + 1 → Looks with_signals o key q.token (Again before after) s.token → AnswersAlone with_signals o q.token key (Again before after) s.token → HasLooked p s
  looks_again p q s before after h same deep calls ready looks events retries look alone = let es : List Entry = look_entries with_signals o key look.root look.before look.slots look.after in record {
    same = same ∙ h.same;
    deep = deep ∙ h.deep;
    calls = (let a = h.calls in omega arith);
    ready = ready;
    looks = looks ∙ (append-nil (knows with_signals o q.token).looks ∙ h.looks);
    events = events ∙ (append-nil (pass_events o q.token) ∙ h.events);
    tokens = h.tokens ++ s.token ∷ [];
    repeats = repeats_more h.tokens p.token q.token s.token before after h.repeats look;
    retries = (let m = h.retries in let n = length-append h.tokens (s.token ∷ []) in omega arith);
    steps = h.steps ++ es;
    made = look.steps ∙ (ap (λ (t : Token (Signals HtClient)). adding t es) h.made ∙ adding-append p.token h.steps es);
    once = λ past run is_run together. absurd (again_is with_signals o before after (find nat_cmp (map_in with_signals o past) key) (last_alone p q (Again before after) s.token h look alone past run is_run together));
  }
