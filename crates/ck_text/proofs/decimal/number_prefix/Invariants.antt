use Rattle.std.proofs.Common.{◌≡◌, ◌<◌, ◌^◌, take}
use Rattle.std.specs.Str.Parse.{AllDigits, digits_value}
use Rattle.ck_text.proofs.decimal.number_prefix.Given as goal

-- the digits so far write the number so far
abbrev pub invariant-loop-i : goal.invariant-loop-i
invariant-loop-i l = record {
  small : l.n < 2 ^ 64;
  digits : AllDigits 10 (take l.i l.text);
  value : l.n ≡ digits_value 10 (take l.i l.text);
}
