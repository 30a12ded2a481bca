use Rattle.std.proofs.Common.{◌≤◌, ℕ, arith}
use Rattle.ck_script.specs.Script.{said_of, updates}
use Rattle.ck_ht.specs.Room.{HasRoomFor}
use Rattle.ck_jobs.specs.Room.{pairs_after}
use Rattle.ck_jobs.proofs.over_table.run_over_table.Goals as goal

less_room : (log few many : ℕ) → few ≤ many → HasRoomFor log many → HasRoomFor log few
less_room log few many le room = omega arith

pub serve_and_close-requires-clause-room : goal.serve_and_close-requires-clause-room
serve_and_close-requires-clause-room g c κs within p =
    less_room c.in_ok-table.table.origin.config.client.client.arena_log (pairs_after (updates (said_of c.args.job.now.ups.items)) p) c.in_ok-pairs.pairs (c.in_ok-pairs.ensures.enough p) c.in_ok-table.ensures.room
