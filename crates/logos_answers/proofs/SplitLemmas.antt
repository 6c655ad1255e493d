-- Cutting an argument at its first colon.
use Rattle.std.proofs.Common.{◌≡◌, ◌≢◌, ◌<◌, ℕ, List, length, None, refl, arith, eq-eqb, ne_eqb}
use Rattle.std.specs.List.{after_first, before_first, position_or_len}
use Rattle.logos_answers.specs.Locations.{is_colon, number_named, location_named, location_of}

pub no_split : (word : List ℕ) → position_or_len is_colon word ≡ length word → None ≡ location_named word
no_split word e = rw (eq-eqb _ _ e) refl

pub one_split : (word line column : List ℕ) → line ≡ before_first is_colon word → column ≡ after_first is_colon word → position_or_len is_colon word < length word →
    location_of (number_named line) (number_named column) ≡ location_named word
one_split word line column n v l =
    let other : position_or_len is_colon word ≢ length word = λ e. absurd (omega (arith, l, e)) in
    rw (ne_eqb _ _ other, n, v) refl
