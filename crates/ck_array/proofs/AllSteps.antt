-- What an `all` of an array with signals leaves of its pass.
use Rattle.std.proofs.Common.{◌≡◌, ℕ, suc, ◌+◌, List, [], ◌∷◌, ◌++◌, length-append, arith}
use Rattle.ck_run.specs.declared.account.Step.TheVariants.{Load}
use Rattle.ck_run.specs.Run.{entry, further}
use Rattle.ck_run.proofs.Lists.{first_is}
use Rattle.ck_history.specs.declared.event.ReaderEvent.TheVariants.{Answered}
use Rattle.ck_epoch.specs.State.{Origin, Token}
use Rattle.ck_epoch.specs.Ends.{Pass}
use Rattle.ck_signal.specs.declared.signals.Signals.{Signals}
use Rattle.ck_signal.specs.Words.{reached}
use Rattle.ck_events.proofs.Steps.{AreSilent}
use Rattle.ck_arraylaw.specs.declared.client.ArrayClient.{ArrayClient}
use Rattle.ck_arraylaw.specs.Array.{reader}
use Rattle.ck_arraylaw.specs.Calls.{all}
use Rattle.ck_arraylaw.specs.Client.{array, answers_of}
use Rattle.ck_arraylaw.specs.Host.{base_word}
use Rattle.ck_arraylaw.specs.Known.{knows}
use Rattle.ck_arraylaw.specs.Layout.{region_at}
use Rattle.ck_arraylaw.specs.Reached.{with_signals}
use Rattle.ck_array.specs.Ends.{IsPassReady}
use Rattle.ck_array.specs.Events.{pass_events}
use Rattle.ck_array.specs.Reads.{resting, member_loads, ReadsAll}
use Rattle.ck_array.proofs.EventSteps.{answers_are_events}

module _ (o : Origin (Signals ArrayClient)) where
  loads_silent : (word : ℕ) (members : List ℕ) → AreSilent array o (member_loads word members)
  loads_silent word [] = tt
  loads_silent word (x ∷ xs) = ((λ wanted found opens step. cc), loads_silent (suc word) xs)

  -- the answer that it gives
  pub all_events : (t u : Token (Signals ArrayClient)) (root count : ℕ) (members : List ℕ) → ReadsAll with_signals o t u root count members → answers_of (knows with_signals o u) ≡ answers_of (knows with_signals o t) ++ members ∷ []
      → pass_events o u ≡ pass_events o t ++ Answered tt members ∷ []
  all_events t u root count members r answers =
      let b = base_word with_signals o in
      answers_are_events o t u (entry (all ∷ []) (Load b root) ∷ further (Load (b + region_at root) count) ∷ member_loads (b + region_at root + 1) members) (members ∷ []) r.steps
      ((λ wanted found opens step. let z : all ≡ reached = first_is all reached [] (wanted ∷ []) opens in absurd (omega arith)), ((λ wanted found opens step. cc), loads_silent (b + region_at root + 1) members)) answers

  -- the pass after it, with its tally
  pub all_ready : (p q : Pass (Signals ArrayClient)) (members : List ℕ) (r : IsPassReady o p) → knows with_signals o q.token ≡ reader (resting (r.answers ++ members ∷ [])) → q.tally ≡ p.tally + 1 → q.calls ≡ p.calls + 1 → IsPassReady o q
  all_ready p q members r local tally calls = record {
    answers = r.answers ++ members ∷ [];
    local = local;
    tally = (let long = length-append r.answers (members ∷ []) in let was = r.tally in omega arith);
    few = (let few = r.few in omega arith);
  }
