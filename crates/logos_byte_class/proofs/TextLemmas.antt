-- Texts of ranges that a loop makes.
use Rattle.std.proofs.Common.{◌≡◌, ℕ, ◌+◌, ◌<◌, List, [], ◌∷◌, ◌++◌, length, map, take, get_or, append-nil, refl, sym, ◌∙◌, ap}
use Rattle.std.proofs.lemmas.List.{get_or_default, map-append, take_more}
use Rattle.std.proofs.lemmas.List.Concat.{flat_map-append}
use Rattle.std.specs.Range.{range_inclusive_start, range_inclusive_end}
use Rattle.std.specs.declared.ops.RangeInclusive.{RangeInclusive}
use Rattle.logos_byte_class.specs.Bytes.{bounds}
use Rattle.logos_byte_class.specs.ClassText.{range_text, next_ranges_text}

-- one more range, after a text
pub range_added : (between : List ℕ) (ranges : List (RangeInclusive ℕ)) (i : ℕ) (d e : RangeInclusive ℕ) (first last : ℕ) → i < length ranges →
    first ≡ range_inclusive_start (get_or ranges i d) → last ≡ range_inclusive_end (get_or ranges i e) →
    next_ranges_text between (map bounds (take i ranges)) ++ (between ++ range_text (first, last)) ≡ next_ranges_text between (map bounds (take (i + 1) ranges))
range_added between ranges i d e first last l start end =
    let same : (first, last) ≡ bounds (get_or ranges i d) = rw (start, end, get_or_default ranges i e d l) refl in
    ap (λ r. next_ranges_text between (map bounds (take i ranges)) ++ (between ++ range_text r)) same
    ∙ sym (ap (λ rs. next_ranges_text between (map bounds rs)) (take_more ranges i d l)
    ∙ ap (next_ranges_text between) (map-append bounds (take i ranges) (get_or ranges i d ∷ []))
    ∙ flat_map-append (λ range. between ++ range_text range) (map bounds (take i ranges)) (bounds (get_or ranges i d) ∷ [])
    ∙ ap (λ text. next_ranges_text between (map bounds (take i ranges)) ++ text) (append-nil (between ++ range_text (bounds (get_or ranges i d)))))
