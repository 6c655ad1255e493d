-- The elements of a slice of bytes are bytes.
use Rattle.std.proofs.Common.{ℕ, List, get_or, Fits, w8}
use Rattle.std.proofs.Math.Facts.{Fits-lt-pow}
use Rattle.std.proofs.lemmas.Grind.{get_or_default_zero}
use Rattle.logos_hir.specs.Text.{IsBytes}

pub are_bytes : (bytes : List ℕ) → ((i : ℕ) → Fits w8 (get_or bytes i 0)) → IsBytes bytes
are_bytes bytes h = λ k d l. rw (get_or_default_zero bytes k d l) (Fits-lt-pow (h k))
