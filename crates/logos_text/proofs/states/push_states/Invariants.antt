use Rattle.std.proofs.Common.{List, ℕ, drop, map, string_bytes}
use Rattle.std.specs.List.{flat_map}
use Rattle.logos_code.specs.CodeView.{state_of}
use Rattle.logos_text.specs.Occurrence.{Adds}
use Rattle.logos_text.specs.Texts.{state_texts}
use Rattle.logos_text.proofs.states.push_states.Given as goal

abbrev pub invariant-loop-s : goal.invariant-loop-s
invariant-loop-s l =
    (whole : List ℕ) → Adds (flat_map (state_texts l.names.shape) (map (state_of l.parts.jump_tables.items) (drop l.s l.parts.states.items))) (string_bytes l.text) whole →
    Adds (flat_map (state_texts l.names.shape) (map (state_of l.parts.jump_tables.items) l.parts.states.items)) (string_bytes l.initial.text) whole
