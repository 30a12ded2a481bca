-- How an array begins.
use Rattle.std.proofs.Common.{◌≡◌, ℕ, ◌≤◌, List, [], length, refl, sym, ap, ◌∙◌, subst, arith}
use Rattle.std.specs.Prelude.{All}
use Rattle.std.proofs.lemmas.List.Elements.{All-nil}
use Rattle.ck_run.specs.Ends.{fresh}
use Rattle.ck_run.specs.Tokens.{Table}
use Rattle.ck_epoch.specs.declared.about.About.{About}
use Rattle.ck_epoch.specs.Closing.{AreFreshPasses}
use Rattle.ck_history.specs.Lists.{empty_lists}
use Rattle.ck_epoch.specs.declared.item.Item.{Item}
use Rattle.ck_epoch.specs.declared.item.Retired.{Retired}
use Rattle.ck_epoch.specs.State.{Token, state}
use Rattle.ck_epoch.specs.Ends.{Pass, Writer}
use Rattle.ck_events.proofs.Opening.{all_fresh}
use Rattle.ck_arena.specs.Arena.{AreItems, IsKept, unreturned}
use Rattle.ck_arraylaw.specs.Array.{writer}
use Rattle.ck_arraylaw.specs.Known.{knows}
use Rattle.ck_arraylaw.specs.Layout.{first_region, IsArrayItem, IsRegion}
use Rattle.ck_arraylaw.specs.Reached.{with_signals}
use Rattle.ck_arraylaw.specs.Regions.{place_in}
use Rattle.ck_array.specs.declared.state.ArrayState.{ArrayState}
use Rattle.ck_array.specs.Writes.{idle, largest_log, region_piece, IsArenaOfArray}
use Rattle.ck_signal.specs.declared.signals.Signals.{Signals}
use Rattle.ck_arraylaw.specs.declared.client.ArrayClient.{ArrayClient}
use Rattle.ck_array.specs.Ends.{edits_by, IsPassReady, IsWriterReady}
use Rattle.ck_array.specs.Events.{pass_events}

module _ (t : Table (About (Signals ArrayClient))) where
  pub all_ready : (ps : List (Pass (Signals ArrayClient))) → AreFreshPasses t 1 ps → All (λ (p : Pass (Signals ArrayClient)). IsPassReady t.origin p) ps
  all_ready = all_fresh t (λ (p : Pass (Signals ArrayClient)). IsPassReady t.origin p) (λ n. record { answers = []; local = refl; tally = refl; few = omega arith })

  pub none_done : (ps : List (Pass (Signals ArrayClient))) → AreFreshPasses t 1 ps → All (λ (p : Pass (Signals ArrayClient)). pass_events t.origin p.token ≡ []) ps
  none_done = all_fresh t (λ (p : Pass (Signals ArrayClient)). pass_events t.origin p.token ≡ []) (λ n. refl)

-- the writer at opening
pub opened_ready : {F : Type 0} (t : Table (About (Signals ArrayClient))) (w : Writer (Signals ArrayClient) F) (s : ArrayState) → w.token ≡ fresh t 0 → w.waiting ≡ [] → w.tally ≡ 0 → 4096 ≤ w.room → s.lists ≡ empty_lists → s.region ≡ first_region → IsArenaOfArray s.arena
    → ((place : ℕ) → IsKept (IsArrayItem place) place (region_piece s.region) [] s.arena) → IsWriterReady t.origin w s
opened_ready {F} t w s is none tally room lists region arena kept = record {
  ready = record {
    log = [];
    local = ap (λ (x : Token (Signals ArrayClient)). knows with_signals t.origin x) is ∙ ap (λ (r : Item). writer (idle [] r)) (sym region);
    lists = lists;
    inside = subst IsRegion (sym region) record { low = omega arith; high = omega arith };
    short = subst (λ (r : Item). r.log ≤ largest_log) (sym region) (omega arith);
    arena = arena;
    kept = subst (λ (ks : List Retired). IsKept (IsArrayItem place) place (region_piece s.region) ks s.arena) (sym nothing) (kept place);
  };
  own = subst (AreItems (IsArrayItem place)) (sym nothing) (All-nil (λ (k : Retired). IsArrayItem place k.item));
  given = none;
  room = room;
  tally = tally ∙ sym (ap (λ (x : Token (Signals ArrayClient)). length (edits_by t.origin x)) is);
  few = omega arith;
}
  where
    place : ℕ
    place = place_in with_signals t.origin

    nothing : unreturned (state w.token) w.waiting ≡ []
    nothing i = unreturned (state (is i)) (none i)
