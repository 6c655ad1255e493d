-- The longest prefix that is UTF-8, and the bytes after it.
use Rattle.std.proofs.Common.{◌≡◌, inr, ℕ, ◌+◌, Bool, IsTrue, List, take, drop, sym, subst, arith}
use Rattle.std.proofs.Math.Seq.{take-add}
use Rattle.std.proofs.lemmas.List.{length-drop}
use Rattle.std.proofs.lemmas.Str.{IsUtf8-append, IsUtf8-nil}
use Rattle.std.specs.Option.{is_some}
use Rattle.std.specs.Str.{IsUtf8, IsValidUpTo}
use Rattle.std.specs.Str.Lossy.{utf8_error_len}
use Rattle.logos_stream.specs.Tails.{IsTail}

pub rest_is_no_text : (bytes : List ℕ) (n : ℕ) → IsValidUpTo bytes n → IsValidUpTo (drop n bytes) 0
rest_is_no_text bytes n v = record {
  short = let short = v.short in omega (arith, short, length-drop n bytes);
  front = IsUtf8-nil;
  longest = λ m some u. v.longest (n + m) (omega arith) (subst IsUtf8 (sym (take-add n m bytes)) (IsUtf8-append (take n bytes) (take m (drop n bytes)) v.front u));
}

-- of a text, with the standard library's contract about its fault
pub text_front : (utf8 : Bool) (bytes : List ℕ) (valid : ℕ) (fault : Bool) → IsTrue utf8 → IsValidUpTo bytes valid → fault ≡ is_some (utf8_error_len (drop valid bytes)) →
    IsTail utf8 bytes (record { valid = valid; is_at_fault = fault })
text_front utf8 bytes valid fault text v f = record {
  within = let short = v.short in omega (arith, short);
  text = λ _. v.front;
  rest = inr (text, record { none = rest_is_no_text bytes valid v; fault = f });
}
