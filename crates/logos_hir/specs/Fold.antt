-- Sets closed under a change of case.
use Rattle.std.specs.Prelude.{ℕ, zero, suc, Bool, false, ◌&&◌, ◌||◌, ◌==◌}
use Rattle.std.specs.Char.{to_ascii_lowercase, to_ascii_uppercase}
use lib.Utf8.{scalar}
use Rattle.unicode.specs.CaseFolding.{simple_fold}
use Rattle.logos_hir.specs.Sets.{Set}

-- Some number below `n` passes the test.
unfoldable pub any_below : ℕ → (ℕ → Bool) → Bool
any_below zero test = false
any_below (suc n) test = test n || any_below n test

-- The characters that have the same simple folding as a member.
abbrev pub fold_case : Set → Set
fold_case set c =
    scalar c && any_below 0x11_0000 (λ d. (scalar d && set d) && (simple_fold d == simple_fold c))

-- The numbers that are members, or are the other case of an ASCII letter that is a member.
abbrev pub fold_ascii : Set → Set
fold_ascii set c = set (to_ascii_lowercase c) || set (to_ascii_uppercase c)
