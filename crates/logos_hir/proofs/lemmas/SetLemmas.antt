-- Sets of few members as ranges.
use Rattle.std.proofs.Common.{◌≡◌, ℕ, Bool, true, false, ◌&&◌, ◌||◌, ◌==◌, nat_le, [], ◌∷◌, refl, arith}
use Rattle.std.proofs.lemmas.Bool.Decides.{nat_tests}
use Rattle.std.proofs.Math.Path.{fun_ext}
use lib.Utf8.{scalar}
use Rattle.logos_hir.specs.Sets.{only_chars, members, in_range}
use Rattle.logos_hir.proofs.lemmas.RangeLemmas.{members_are, or_false}

same_number : (k c : ℕ) → ((nat_le k c && nat_le c k) || false) ≡ (c == k)
same_number k c = grind (arith, nat_tests)

pub one_member : (k : ℕ) → members ((k, k) ∷ []) ≡ only_chars (λ c. c == k)
one_member k = members_are ((k, k) ∷ []) (λ c. c == k) (λ c s. same_number k c)

pub one_range : (a b : ℕ) → members ((a, b) ∷ []) ≡ only_chars (in_range (a, b))
one_range a b = members_are ((a, b) ∷ []) (in_range (a, b)) (λ c s. or_false (in_range (a, b) c))

none_of : (b : Bool) → (b && false) ≡ false
none_of true = refl
none_of false = refl

pub no_member : members [] ≡ (λ c. false)
no_member = fun_ext (λ c. none_of (scalar c))
