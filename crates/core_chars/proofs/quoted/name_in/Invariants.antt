use Rattle.std.proofs.Common.{◌≡◌, ◌++◌, drop, string_bytes, encode_utf8_all}
use Rattle.core_chars.proofs.quoted.name_in.Given as goal

abbrev pub invariant-loop-c : goal.invariant-loop-c
invariant-loop-c l = string_bytes l.spelled ++ encode_utf8_all (drop l.c-index l.text) ≡ encode_utf8_all l.text
