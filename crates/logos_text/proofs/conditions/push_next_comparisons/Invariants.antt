use Rattle.std.proofs.Common.{◌≡◌, ◌++◌, codes, drop, map, string_bytes}
use Rattle.std.specs.List.{flat_map}
use Rattle.logos_byte_class.specs.Bytes.{comparison_of}
use Rattle.logos_text.specs.Texts.{comparison_text}
use Rattle.logos_text.proofs.conditions.push_next_comparisons.Given as goal

abbrev pub invariant-loop-comparison : goal.invariant-loop-comparison
invariant-loop-comparison l =
    string_bytes l.text ++ flat_map (λ c. codes " || " ++ comparison_text c) (map comparison_of (drop l.comparison-index l.comparisons))
    ≡ string_bytes l.initial.text ++ flat_map (λ c. codes " || " ++ comparison_text c) (map comparison_of l.comparisons)
