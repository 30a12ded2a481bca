-- What the signals of a table count are its own log and answers, in every true run.
use Rattle.std.proofs.Common.{◌≡◌, ℕ, suc, ◌≤◌, true, [], ◌++◌, length, length-append, sym, ap, ◌∙◌, arith, add-zero}
use Rattle.std.proofs.lemmas.List.{length-map}
use Rattle.ck_run.specs.Run.{Run, account}
use Rattle.ck_epoch.specs.State.{Origin, base_of}
use Rattle.ck_signal.specs.declared.signals.Signals.{Signals}
use Rattle.ck_signal.specs.Signals.{inside}
use Rattle.ck_signal.specs.Told.{IsRunOf, log_during, answers_during}
use Rattle.ck_events.proofs.Placed.{known_in, given_in}
use Rattle.ck_htlaw.specs.declared.client.HtClient.{HtClient}
use Rattle.ck_htlaw.specs.Client.{table, answers_after, layout_of}
use Rattle.ck_htlaw.specs.Host.{lies}
use Rattle.ck_htlaw.specs.Law.{TableLaw, local_in, log_in, linearized}
use Rattle.ck_htlaw.specs.Reached.{with_signals}
use Rattle.ck_htlaw.proofs.Tokens.{local_after_all}
use Rattle.ck_ht.specs.Events.{is_idle_writer, replied, known}
use Rattle.ck_ht.specs.Settled.{SettledLaw}
use Rattle.ck_ht.proofs.EventSteps.{idle_is}

module _ (o : Origin (Signals HtClient)) where
  -- the state by which a token's answers are told
  pub local_is : (run : Run) (n : ℕ) → (known_in table o (known o) run n).local ≡ local_in with_signals o run n
  local_is run n = local_after_all (lies with_signals o) (answers_after (lies with_signals o) o.words n []) (account n run)

  pub few_given : (run : Run) (r : ℕ) → answers_during table o run r ≤ length (given_in table o (known o) run r)
  few_given run r =
      let same : answers_during table o run r ≡ length (given_in table o (known o) run r) = ap (λ (first : ℕ). length (answers_after (layout_of first (inside o)) o.words (suc r) (account (suc r) run)).looks) (sym (add-zero (base_of o))) in
      omega arith

  pub log_is_whole : SettledLaw o → (past rest : Run) → IsRunOf table o (past ++ rest) → (known o).is_idle (known_in table o (known o) past 0) ≡ true → linearized with_signals o past ≤ length ((known o).log (known_in table o (known o) past 0))
  log_is_whole settled past rest t free =
      let all = ap length (settled past rest t (idle_is (local_in with_signals o past 0) (ap is_idle_writer (sym (local_is past 0)) ∙ free))) in
      let long = length-map (log_in with_signals o past) replied in
      omega arith

  pub has_logged : TableLaw with_signals o → (past rest : Run) → IsRunOf table o (past ++ rest) → length (log_during table o past) ≤ linearized with_signals o past
  has_logged law past rest t =
      let same : length (log_during table o past) ≡ length (log_in with_signals o past) = ap (λ (first : ℕ). length (answers_after (layout_of first (inside o)) o.words 0 (account 0 past)).log) (sym (add-zero (base_of o))) in
      let all = law.log past rest t in
      let longer = ap length all.1 ∙ length-append (log_in with_signals o past) all.0 in
      omega arith
