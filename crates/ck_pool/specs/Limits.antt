-- How large a job may be.
use Rattle.std.specs.Prelude.{ℕ, ◌^◌}

-- Lines in all files of a job. A line makes at most 8 counted calls, so that all of them together make 32,000,000, far fewer than 2 ^ 38
abbrev pub most_job_lines : ℕ
most_job_lines = 4000000

-- Query files of a job. Their numbers fit into the ring
abbrev pub most_query_files : ℕ
most_query_files = 64

-- Tasks that answer queries. Each has a part of the desk, and there are more parts than these
abbrev pub most_workers : ℕ
most_workers = 16

-- Fewer counted calls than this were made with an end before a counted call of the dictionary. Those of ck_snap ask for fewer than 2 ^ 40
abbrev pub call_bound : ℕ
call_bound = 2 ^ 39

-- Fewer than this were made with an end before a job. With those of the job they stay below `call_bound`
abbrev pub start_call_bound : ℕ
start_call_bound = 2 ^ 38
