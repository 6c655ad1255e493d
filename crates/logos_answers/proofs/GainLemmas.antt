-- A page that gains the texts of a list, one after another.
use Rattle.std.proofs.Common.{◌≡◌, ◌≤◌, ◌<◌, ◌+◌, ℕ, Bool, true, false, List, ◌++◌, length, get_or, drop, sym, ap, ◌∙◌, refl, subst}
use Rattle.std.proofs.lemmas.List.{at_drop_more, at_drop_all}
use Rattle.std.proofs.lemmas.Str.{IsUtf8-from_is_utf8, is_utf8-from_IsUtf8}
use Rattle.std.specs.List.{flat_map}
use Rattle.std.specs.Str.{IsUtf8, chars, is_utf8}
use Rattle.logos_answers.specs.Quoting.{byte_literal, literal, shown_byte, shown_bytes, shown_character, string_literal}
use Rattle.logos_page.specs.Pages.{PageValue, Gains}
use Rattle.logos_page.proofs.PageLemmas.{gains_nothing, gains_then}

module _ {X : Type 0} (f : X → List ℕ) (xs : List X) (k : ℕ) where
  -- the text of the next one, and those of the rest
  pub next_gained : (x : X) {old middle new : PageValue} → k < length xs → x ≡ get_or xs k x → Gains (f x) old middle → Gains (flat_map f (drop (k + 1) xs)) middle new → Gains (flat_map f (drop k xs)) old new
  next_gained x {old} {middle} {new} l e one rest =
      subst (λ bytes. Gains bytes old new) (ap (λ y. f y ++ flat_map f (drop (k + 1) xs)) e ∙ sym (at_drop_more (flat_map f) xs k x l)) (gains_then one rest)

  -- the texts of the element at the index, and of the rest
  pub next_gained_at : (d : X) {old middle new : PageValue} → k < length xs → Gains (f (get_or xs k d)) old middle → Gains (flat_map f (drop (k + 1) xs)) middle new → Gains (flat_map f (drop k xs)) old new
  next_gained_at d {old} {middle} {new} l one rest = subst (λ bytes. Gains bytes old new) (sym (at_drop_more (flat_map f) xs k d l)) (gains_then one rest)

  -- nothing is left
  pub none_gained : (page : PageValue) → length xs ≤ k → Gains (flat_map f (drop k xs)) page page
  none_gained page l = subst (λ bytes. Gains bytes page page) (sym (at_drop_all (flat_map f) xs k l)) (gains_nothing page)

-- bytes that are not UTF-8 do not pass the test
not_utf8 : (bytes : List ℕ) → ¬ IsUtf8 bytes → is_utf8 bytes ≡ false
not_utf8 bytes other = go (is_utf8 bytes) refl
  where
    go : (b : Bool) → is_utf8 bytes ≡ b → is_utf8 bytes ≡ false
    go true e = absurd (other (IsUtf8-from_is_utf8 bytes e))
    go false e = e

-- the shown form of bytes that are UTF-8, and of others
pub utf8_shown : (bytes : List ℕ) → IsUtf8 bytes → shown_bytes bytes ≡ flat_map shown_character (chars bytes)
utf8_shown bytes u = rw (is_utf8-from_IsUtf8 bytes u) refl

pub other_shown : (bytes : List ℕ) → ¬ IsUtf8 bytes → shown_bytes bytes ≡ flat_map shown_byte bytes
other_shown bytes other = rw (not_utf8 bytes other) refl

-- the literal of bytes that are UTF-8, and of others
pub utf8_literal : (bytes : List ℕ) → IsUtf8 bytes → literal bytes ≡ string_literal bytes
utf8_literal bytes u = rw (is_utf8-from_IsUtf8 bytes u) refl

pub other_literal : (bytes : List ℕ) → ¬ IsUtf8 bytes → literal bytes ≡ byte_literal bytes
other_literal bytes other = rw (not_utf8 bytes other) refl
