-- `hold` lines that are beyond, for one query file at a time.
use Rattle.std.specs.Prelude.{ℕ, ◌==◌, ◌&&◌, ◌||◌, nat_lt, Bool, false}
use Rattle.ck_script.specs.declared.line.UpLine.{UpLine}
use Rattle.ck_script.specs.declared.line.UpLine.TheVariants.{Call, Hold}

-- a `hold` line for none of so many query files
abbrev pub names_no_file : {C : Type 0} → ℕ → UpLine C → Bool
names_no_file files (Call u) = false
names_no_file files (Hold file count) = (file == 0) || nat_lt files file

-- a `hold` line for more than n queries of file f
abbrev pub is_short : {C : Type 0} → ℕ → ℕ → UpLine C → Bool
is_short f n (Call u) = false
is_short f n (Hold file count) = (file == f) && nat_lt n count
