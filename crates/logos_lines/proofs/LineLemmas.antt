-- The starts and the ends of lines.
use Rattle.std.proofs.Common.{◌≡◌, ℕ, suc, ◌+◌, ◌<◌, List, [], ◌∷◌, length, drop, true, false, refl, arith}
use Rattle.std.proofs.lemmas.Bool.{cond-true, cond-false}
use Rattle.std.proofs.Math.Seq.{drop-cons}
use Rattle.logos_lines.specs.Locations.{ends_line, line_length}

pub ended : (text : List ℕ) → ends_line text ≡ true → line_length text ≡ 0
ended [] e = refl
ended (b ∷ rest) e = cond-true _ _ _ e

-- a line continues by one byte
pub continues : (text : List ℕ) (j : ℕ) → j < length text → ends_line (drop j text) ≡ false → line_length (drop j text) ≡ 1 + line_length (drop (j + 1) text)
continues text j l e =
    let k : suc j ≡ j + 1 = omega arith in
    let d = rw k at (drop-cons text j 0 l) in
    rw d (cond-false _ _ _ (rw d at e))
