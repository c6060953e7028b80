-- The bytes so far are digits, and their number is at most the limit.
use Rattle.std.proofs.Common.{◌≡◌, ◌≤◌, take, true}
use Rattle.std.specs.Char.{is_ascii_digit}
use Rattle.std.specs.List.{list_all}
use Rattle.std.specs.Str.Parse.{digits_value}
use Rattle.btf_relocate_model.specs.Access.{index_limit}
use Rattle.btf_relocate.proofs.access.index_of.Given as goal

abbrev pub invariant-loop-byte : goal.invariant-loop-byte
invariant-loop-byte l = record {
  digits : list_all is_ascii_digit (take l.byte-index l.part) ≡ true;
  value : l.index ≡ digits_value 10 (take l.byte-index l.part);
  small : l.index ≤ index_limit;
}
