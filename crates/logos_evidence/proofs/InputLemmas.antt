-- The rest of an input from a boundary on is an input.
use Rattle.std.proofs.Common.{ℕ, zero, suc, Bool, List, [], ◌∷◌, drop, IsTrue, arith}
use Rattle.std.specs.Str.{IsCharBoundary}
use Rattle.std.proofs.lemmas.Str.{IsUtf8-drop}
use Rattle.logos_hir.specs.Text.{IsBytes}
use Rattle.logos_automaton.specs.Munch.{IsInput}

pub bytes_on : (bytes : List ℕ) (from : ℕ) → IsBytes bytes → IsBytes (drop from bytes)
bytes_on bytes zero are = are
bytes_on [] (suc from) are = are
bytes_on (b ∷ bytes) (suc from) are = bytes_on bytes from (λ k d l. are (suc k) d (omega (arith, l)))

pub input_on : (utf8 : Bool) (bytes : List ℕ) (from : ℕ) → IsInput utf8 bytes → (IsTrue utf8 → IsCharBoundary bytes from) → IsInput utf8 (drop from bytes)
input_on utf8 bytes from input at = (bytes_on bytes from input.0, λ t. IsUtf8-drop bytes from (input.1 t) (at t))
