-- How a table begins.
use Rattle.std.proofs.Common.{◌≡◌, List, [], refl, arith}
use Rattle.std.specs.Prelude.{All}
use Rattle.ck_run.specs.Tokens.{Table}
use Rattle.ck_epoch.specs.declared.about.About.{About}
use Rattle.ck_epoch.specs.Closing.{AreFreshPasses}
use Rattle.ck_epoch.specs.Ends.{Pass}
use Rattle.ck_epoch.specs.State.{depth}
use Rattle.ck_signal.specs.declared.signals.Signals.{Signals}
use Rattle.ck_events.proofs.Opening.{all_fresh}
use Rattle.ck_htlaw.specs.declared.client.HtClient.{HtClient}
use Rattle.ck_htlaw.specs.Client.{first_reader}
use Rattle.ck_ht.specs.Ends.{IsPassReady}
use Rattle.ck_ht.specs.Events.{pass_events}

module _ (t : Table (About (Signals HtClient))) where
  pub all_ready : (ps : List (Pass (Signals HtClient))) → AreFreshPasses t 1 ps → All (λ (p : Pass (Signals HtClient)). IsPassReady t.origin p) ps
  all_ready = all_fresh t (λ (p : Pass (Signals HtClient)). IsPassReady t.origin p) (λ n. record { reader_state = first_reader; local = refl; outside = refl; tally = refl; few = omega arith })

  pub none_entered : (ps : List (Pass (Signals HtClient))) → AreFreshPasses t 1 ps → All (λ (p : Pass (Signals HtClient)). (depth p.token ≡ 0) × (p.calls ≡ 0)) ps
  none_entered = all_fresh t (λ (p : Pass (Signals HtClient)). (depth p.token ≡ 0) × (p.calls ≡ 0)) (λ n. (refl, refl))

  pub none_done : (ps : List (Pass (Signals HtClient))) → AreFreshPasses t 1 ps → All (λ (p : Pass (Signals HtClient)). pass_events t.origin p.token ≡ []) ps
  none_done = all_fresh t (λ (p : Pass (Signals HtClient)). pass_events t.origin p.token ≡ []) (λ n. refl)
