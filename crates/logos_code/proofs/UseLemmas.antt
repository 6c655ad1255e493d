-- The uses that a code keeps of its leaves.
use Rattle.std.proofs.Common.{◌≡◌, ◌∙◌, ℕ, ◌+◌, ◌<◌, List, [], ◌∷◌, ◌++◌, length, drop, map, get_or, slice_get, Some, option_map, ap, sym, append_assoc}
use Rattle.std.proofs.lemmas.List.{drop_more, length-map, map-append}
use Rattle.std.proofs.lemmas.Option.{slice_get-get_or, slice_get-map}
use Rattle.logos_automaton.specs.Munch.{Use}
use Rattle.logos_code.specs.CodeView.{use_of}
use Rattle.logos_code.specs.Uses.{use_by}
use Rattle.logos_code.specs.declared.code.CodeLeaf.{CodeLeaf}
use Rattle.logos_code.specs.declared.code.uses.LeafUse.{LeafUse}

-- one leaf more
pub uses_turn : (leaves : List CodeLeaf) (i : ℕ) (d : CodeLeaf) (old new : List LeafUse) (x : LeafUse) (whole : List Use) → i < length leaves → new ≡ old ++ x ∷ [] →
    use_by x ≡ use_of (get_or leaves i d) → map use_by old ++ map use_of (drop i leaves) ≡ whole → map use_by new ++ map use_of (drop (i + 1) leaves) ≡ whole
uses_turn leaves i d old new x whole lt is same before =
    let split : map use_by (old ++ x ∷ []) ++ map use_of (drop (i + 1) leaves) ≡ map use_by old ++ (use_by x ∷ map use_of (drop (i + 1) leaves)) =
    ap (λ l. l ++ map use_of (drop (i + 1) leaves)) (map-append use_by old (x ∷ [])) ∙ append_assoc (map use_by old) (use_by x ∷ []) (map use_of (drop (i + 1) leaves)) in
    rw is (split ∙ ap (λ u. map use_by old ++ (u ∷ map use_of (drop (i + 1) leaves))) same ∙ (rw (drop_more leaves i d lt) at before))

pub uses_long : (uses : List LeafUse) (leaves : List Use) → map use_by uses ≡ leaves → length leaves ≡ length uses
uses_long uses leaves e = ap length (sym e) ∙ length-map uses use_by

-- the use of a leaf that is there
pub use_at : (uses : List LeafUse) (leaves : List Use) (k : ℕ) (u : LeafUse) → map use_by uses ≡ leaves → k < length uses → u ≡ get_or uses k u → slice_get leaves k ≡ Some (use_by u)
use_at uses leaves k u e l is =
    ap (λ xs. slice_get xs k) (sym e) ∙ slice_get-map use_by uses k ∙ ap (option_map use_by) (slice_get-get_or uses k u l ∙ ap Some (sym is))
