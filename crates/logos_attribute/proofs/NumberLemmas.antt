-- Numbers in attributes.
use Rattle.std.proofs.Common.{◌≡◌, ◌<◌, ◌^◌, ℕ, List, length, Result, Ok, Err, true, arith}
use Rattle.std.proofs.lemmas.Bool.Decides.{nat_tests}
use Rattle.std.specs.Result.{OkIff, result_ok}
use Rattle.std.specs.Str.{all_ascii_digits}
use Rattle.std.specs.Str.Parse.{digits_value, ParsesUnsigned}
use Rattle.std.proofs.lemmas.Str.Parse.{numerals_by_value, tells_all_ascii_digits, parse_digits}
use Rattle.logos_attribute.specs.Values.{decimal}

by_answer : {E : Type 0} (text : List ℕ) (answer : Result ℕ E) → all_ascii_digits text ≡ true → OkIff answer ((0 < length text) × (digits_value 10 text < 2 ^ 64)) (digits_value 10 text) → result_ok answer ≡ decimal text
by_answer text (Ok value) digits h = grind (arith, nat_tests)
by_answer text (Err error) digits h = grind (arith, nat_tests)

-- the result of `parse` on digits
pub decimal_parsed : {E : Type 0} (text : List ℕ) (answer : Result ℕ E) → all_ascii_digits text ≡ true → ParsesUnsigned 64 10 text answer → result_ok answer ≡ decimal text
decimal_parsed text answer digits h = by_answer text answer digits (parse_digits (numerals_by_value _ tells_all_ascii_digits) 64 text answer h digits)
