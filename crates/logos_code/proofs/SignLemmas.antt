-- Signs, and the marks of states.
use Rattle.std.proofs.Common.{◌≡◌, ℕ, ◌+◌, ◌<◌, ◌⊎◌, ⊎_elim, ◌++◌, List, [], ◌∷◌, length, map, get_or, slice_index_or, None, option_map, ap, subst, ◌∙◌, arith}
use Rattle.std.proofs.lemmas.List.{get_or_append_left, get_or_push, map-append, length-map}
use Rattle.logos_code.specs.CodeView.{state_at, mark_of, code_of}
use Rattle.logos_code.specs.Signs.{mark_by}
use Rattle.logos_code.specs.declared.code.CodeParts.{CodeParts}
use Rattle.logos_code.specs.declared.code.CodeState.{CodeState as TheState}
use Rattle.logos_code.specs.declared.code.signs.Sign.{Sign}
use Rattle.logos_code.proofs.RowLemmas.{state_there}

-- one more sign
pub signs_turn : (parts : CodeParts) (signs new : List Sign) (sign : Sign) (s : ℕ) (state : TheState) → length signs ≡ s → new ≡ signs ++ sign ∷ [] →
    s < length parts.states.items → state ≡ get_or parts.states.items s state → mark_by sign ≡ option_map mark_of state.mark →
    ((k : ℕ) → k < s → slice_index_or (map mark_by signs) k None ≡ (state_at (code_of parts) k).mark) →
    (k : ℕ) → k < s + 1 → slice_index_or (map mark_by new) k None ≡ (state_at (code_of parts) k).mark
signs_turn parts signs new sign s state long is there here last before k h = ⊎_elim old now (either k s h)
  where
    either : (a b : ℕ) → a < b + 1 → (a < b) ⊎ (b ≡ a)
    either a b h = grind arith

    marks : map mark_by new ≡ map mark_by signs ++ mark_by sign ∷ []
    marks = ap (map mark_by) is ∙ map-append mark_by signs (sign ∷ [])

    as_long : length (map mark_by signs) ≡ s
    as_long = rw length-map long

    old : k < s → slice_index_or (map mark_by new) k None ≡ (state_at (code_of parts) k).mark
    old l = rw (marks, get_or_append_left (map mark_by signs) (mark_by sign ∷ []) None k (omega (arith, l, as_long))) (before k l)

    now : s ≡ k → slice_index_or (map mark_by new) k None ≡ (state_at (code_of parts) k).mark
    now e = subst (λ n. slice_index_or (map mark_by new) n None ≡ (state_at (code_of parts) n).mark) e
        (rw (state_there parts s state there here, marks, get_or_push (map mark_by signs) (mark_by sign) None s as_long) last)
