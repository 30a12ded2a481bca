-- Files within the limits, one by one.
use Rattle.std.proofs.Common.{ℕ, ◌+◌, ◌<◌, ◌≤◌, List, [], ◌∷◌, ◌++◌, length, refl, sym, arith}
use Rattle.std.specs.List.{AllByRecursion}
use Rattle.std.proofs.lemmas.List.Sums.{sum_by_push}
use Rattle.ck_lookup.specs.Limits.{AreWithin, line_count, most_bytes, most_lines, all_bytes, all_lines}
use Rattle.ck_lookup.specs.Fetching.{AreCounted}

all_snoc : {X : Type 0} (P : X → Type 0) (xs : List X) (x : X) → AllByRecursion P xs → P x → AllByRecursion P (xs ++ x ∷ [])
all_snoc P [] x all here = (here, tt)
all_snoc P (y ∷ xs) x all here = (all.0, all_snoc P xs x all.1 here)

all_last : {X : Type 0} (P : X → Type 0) (xs : List X) (x : X) → AllByRecursion P (xs ++ x ∷ []) → P x
all_last P [] x all = all.0
all_last P (y ∷ xs) x all = all_last P xs x all.1

-- no files
pub none_counted : AreCounted [] 0 0
none_counted = record { within = record { short = tt; few_lines = tt; short_in_all = omega arith; few_lines_in_all = omega arith }; count_of_bytes = refl; count_of_lines = refl }

-- one more file that fits
pub one_more_counted : (files : List (List ℕ)) (bytes lines : ℕ) (file : List ℕ) → AreCounted files bytes lines → length file ≤ most_bytes → line_count file ≤ most_lines → bytes + length file ≤ all_bytes → lines + line_count file ≤ all_lines → AreCounted (files ++ file ∷ []) (bytes + length file) (lines + line_count file)
one_more_counted files bytes lines file counted short few in_all few_in_all =
    let bytes_now = sum_by_push length files file in
    let lines_now = sum_by_push line_count files file in
    record {
      within = record {
        short = all_snoc _ files file counted.within.short short;
        few_lines = all_snoc _ files file counted.within.few_lines few;
        short_in_all = omega (arith, bytes_now, counted.count_of_bytes);
        few_lines_in_all = omega (arith, lines_now, counted.count_of_lines);
      };
      count_of_bytes = rw counted.count_of_bytes (sym bytes_now);
      count_of_lines = rw counted.count_of_lines (sym lines_now);
    }

-- one more file that is within fits
pub fits_if_within : (files : List (List ℕ)) (bytes lines : ℕ) (file : List ℕ) → AreCounted files bytes lines → AreWithin (files ++ file ∷ []) → (length file ≤ most_bytes) × (line_count file ≤ most_lines) × (bytes + length file ≤ all_bytes) × (lines + line_count file ≤ all_lines)
fits_if_within files bytes lines file counted within = (
  all_last _ files file within.short,
  all_last _ files file within.few_lines,
  omega (arith, sum_by_push length files file, within.short_in_all, counted.count_of_bytes),
  omega (arith, sum_by_push line_count files file, within.few_lines_in_all, counted.count_of_lines),
)

-- a file that is too long for itself fits nowhere
pub too_long_past : (files : List (List ℕ)) (file : List ℕ) → most_bytes < length file → AreWithin (files ++ file ∷ []) → ⊥
too_long_past files file long within =
    let short : length file ≤ most_bytes = all_last _ files file within.short in
    omega (arith, short, long)
