use Rattle.std.proofs.Common.{◌≡◌, ◌<◌, ◌≤◌, length, take, true}
use Rattle.std.specs.Char.{is_ascii_digit}
use Rattle.std.specs.List.{list_all}
use Rattle.std.specs.Str.Parse.{digits_value}
use Rattle.amcp_text.proofs.number.number_within.Given as goal

-- the characters so far are digits, and their number is not above the upper end
abbrev pub invariant-loop-digit : goal.invariant-loop-digit
invariant-loop-digit l = record {
  some : 0 < length l.text;
  value : l.value ≡ digits_value 10 (take l.digit-index l.text);
  digits : list_all is_ascii_digit (take l.digit-index l.text) ≡ true;
  bounded : l.value ≤ l.most;
}
