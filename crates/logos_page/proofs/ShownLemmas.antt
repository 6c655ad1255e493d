-- The characters of a text, one after another, as they are shown.
use Rattle.std.proofs.Common.{◌≡◌, ℕ, ◌+◌, ◌<◌, ◌≤◌, List, length, get_or, drop, sym, subst}
use Rattle.std.proofs.lemmas.List.{at_drop_more, at_drop_all}
use Rattle.std.specs.List.{flat_map}
use Rattle.logos_page.specs.Pages.{PageValue, Gains}
use Rattle.logos_page.specs.Shown.{shown_char}
use Rattle.logos_page.proofs.PageLemmas.{gains_nothing, gains_then}

-- one character, and those after it
pub one_more : (cs : List ℕ) (n c : ℕ) (old middle new : PageValue) → (n < length cs) × (c ≡ get_or cs n c) → Gains (shown_char c) old middle →
    Gains (flat_map shown_char (drop (n + 1) cs)) middle new → Gains (flat_map shown_char (drop n cs)) old new
one_more cs n c old middle new h g rest =
    let here = subst (λ x. Gains (shown_char x) old middle) h.1 g in
    subst (λ bytes. Gains bytes old new) (sym (at_drop_more (flat_map shown_char) cs n c h.0)) (gains_then here rest)

-- no character is left
pub no_more : (cs : List ℕ) (n : ℕ) (page : PageValue) → length cs ≤ n → Gains (flat_map shown_char (drop n cs)) page page
no_more cs n page l = subst (λ bytes. Gains bytes page page) (sym (at_drop_all (flat_map shown_char) cs n l)) (gains_nothing page)
