-- Marks of states.
use Rattle.std.proofs.Common.{◌≡◌, ℕ, ◌+◌, ◌<◌, List, length, map, All, Option, Some, None, IfSome, get_or, option_map, sym, ◌∙◌, ap, arith}
use Rattle.std.proofs.lemmas.List.{get_or_default, length-map}
use Rattle.std.proofs.lemmas.Simd.{map-map}
use Rattle.logos_code.specs.Code.{CodeValue}
use Rattle.logos_code.specs.CodeView.{code_of, mark_of, state_of, use_of}
use Rattle.logos_code.specs.Headline.{IsSound, NamesExisting}
use Rattle.logos_code.specs.declared.code.CodeLeaf.{CodeLeaf}
use Rattle.logos_code.specs.declared.code.CodeParts.{CodeParts}
use Rattle.logos_code.specs.declared.code.Mark.{Mark as TheMark}
use Rattle.logos_code.specs.declared.code.CodeState.{CodeState as TheState}
use Rattle.logos_code.proofs.CodeLemmas.{All-map}
use Rattle.logos_tables.specs.Steps.{mark_number, skip_number}

-- the leaf of a mark is below a bound
small_mark : (mark : Option TheMark) (count bound : ℕ) → count < bound + 1 → IfSome (option_map mark_of mark) (λ mark. mark.leaf < count) → IfSome mark (λ mark. mark.leaf.0 < bound)
small_mark None count bound h l = tt
small_mark (Some mark) count bound h l = omega (arith, h, l)

-- the leaves of all marks have numbers that fit
pub small_marks : (parts : CodeParts) → IsSound (code_of parts) → All (λ state. IfSome state.mark (λ mark. mark.leaf.0 < 9223372036854775807)) parts.states.items
small_marks parts sound k d l =
    let states = parts.states.items in
    let state = get_or states k d in
    let long = length-map parts.leaves.items use_of in
    let count : length (map use_of parts.leaves.items) < 9223372036854775808 = omega (arith, long, parts.leaves.ok.0, parts.leaves.ok.1, parts.leaves.small) in
    let names = All-map (NamesExisting (code_of parts)) (state_of parts.jump_tables.items) states k state sound.states l (get_or_default states k d state l) in
    small_mark state.mark (length (map use_of parts.leaves.items)) 9223372036854775807 count names.mark

-- the numbers of all marks, by the facts about the code
pub marks_seen : (parts : CodeParts) (code : CodeValue) (states : List TheState) → states ≡ parts.states.items → code_of parts ≡ code →
    map (λ (state : TheState). mark_number (option_map mark_of state.mark)) states ≡ map (λ state. mark_number state.mark) code.states
marks_seen parts code states same is =
    ap (λ (xs : List TheState). map (λ (state : TheState). mark_number (option_map mark_of state.mark)) xs) same
    ∙ sym (map-map (λ state. mark_number state.mark) (state_of parts.jump_tables.items) parts.states.items) ∙ ap (λ (code : CodeValue). map (λ state. mark_number state.mark) code.states) is

-- which leaves are left out, by the facts about the code
pub skips_seen : (parts : CodeParts) (code : CodeValue) (leaves : List CodeLeaf) → leaves ≡ parts.leaves.items → code_of parts ≡ code →
    map (λ leaf. skip_number (use_of leaf)) leaves ≡ map skip_number code.leaves
skips_seen parts code leaves same is =
    ap (λ (xs : List CodeLeaf). map (λ leaf. skip_number (use_of leaf)) xs) same
    ∙ sym (map-map skip_number use_of parts.leaves.items) ∙ ap (λ (code : CodeValue). map skip_number code.leaves) is
