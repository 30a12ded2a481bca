-- A table at its opening.
use Rattle.std.proofs.Common.{◌≡◌, ℕ, ◌+◌, ◌<◌, ◌≤◌, refl, arith, List, length, get_or}
use Rattle.ck_htlaw.specs.Table.{Layout, view, LocalState}
use Rattle.ck_htlaw.specs.Invariant.{IsRegion, TableInvariant}
use Rattle.ck_htlaw.specs.Trace.{Scene}
use Rattle.ck_htlaw.specs.Client.{first_writer, first_reader, start}
use Rattle.ck_htlaw.proofs.Parts.{blank}

abbrev pub opening : Layout → List ℕ → Scene LocalState (ℕ → ℕ)
opening l ws = record { words = ws; at = start l ws; note = λ n. 0 }

pub starts : (l : Layout) (ws : List ℕ) → 0 < l.size → l.base + l.size ≤ length ws → IsRegion l (length ws) (get_or ws l.base 0) → ((s : ℕ) → s < (l.order (get_or ws l.base 0)).slots → (view l ws (get_or ws l.base 0)).state s ≡ 0) → TableInvariant l (opening l ws)
starts l ws some fits region clear = record {
  writer_state = first_writer l ws;
  is_writer = refl;
  holds = record { words = λ i own. refl; long = refl; fits = fits; root = refl; some_word = some; region = region; map = blank (l.order (get_or ws l.base 0)) (view l ws (get_or ws l.base 0)) (λ p k. 0) region.some_slot clear (λ k. refl); bumps = omega arith; hidden = tt };
  readers = λ n. (first_reader, refl, record { retries = omega arith; looks = λ not_out. absurd (not_out refl) });
}
