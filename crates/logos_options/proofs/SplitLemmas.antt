-- Cutting an argument at its first `=`.
use Rattle.std.proofs.Common.{◌≡◌, ◌≢◌, ◌<◌, ℕ, List, length, Some, None, refl, arith, eq-eqb, ne_eqb}
use Rattle.std.specs.List.{after_first, before_first, position_or_len}
use Rattle.logos_options.specs.ArgumentSteps.{is_equals, split_at_equals}

pub no_split : (word : List ℕ) → position_or_len is_equals word ≡ length word → None ≡ split_at_equals word
no_split word e = rw (eq-eqb _ _ e) refl

pub one_split : (word name value : List ℕ) → name ≡ before_first is_equals word → value ≡ after_first is_equals word → position_or_len is_equals word < length word →
    Some (name, value) ≡ split_at_equals word
one_split word name value n v l =
    let other : position_or_len is_equals word ≢ length word = λ e. absurd (omega (arith, l, e)) in
    rw (ne_eqb _ _ other, n, v) refl
