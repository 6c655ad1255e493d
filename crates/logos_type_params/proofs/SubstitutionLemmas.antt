-- Parts that are replaced one by one.
use Rattle.std.specs.Prelude.{Result, Ok, Err, IfOk, IfErr, true, false}
use Rattle.std.proofs.Common.{subst, ◌≡◌, ℕ, ◌<◌, List, [], ◌∷◌, ◌++◌, ◌+◌, length, get_or, drop, map, refl, sym, ap, ◌∙◌}
use Rattle.std.proofs.lemmas.List.{map_push, at_drop_more}
use Rattle.logos_type.specs.declared.type_expr.TypePart.{TypePart}
use Rattle.logos_type_reader.specs.declared.reader.TypeFault.{TypeFault}
use Rattle.logos_type_reader.specs.declared.reader.TypeFault.TheVariants as faults
use Rattle.logos_type.specs.Parts.{Tree, Trees, none, also, still, trees, tree_of}
use Rattle.logos_type.specs.Depth.{exceeds}
use Rattle.logos_type_params.specs.Substitution.{Params, After, AllAfter, none_after, also_after, Passes, SomePasses, first_passes, later_passes, stays_still, still_here}
use Rattle.logos_type_params.specs.SubstitutionViews.{IfDeep}

-- these trees, and then those
abbrev pub joined : List Tree → Trees → Trees
joined [] ts = ts
joined (t ∷ rest) ts = also t (joined rest ts)

joined-none : (l : List Tree) → joined l none ≡ trees l
joined-none [] = refl
joined-none (t ∷ rest) = ap (also t) (joined-none rest)

joined-push : (l : List Tree) (t : Tree) (ts : Trees) → joined (l ++ t ∷ []) ts ≡ joined l (also t ts)
joined-push [] t ts = refl
joined-push (x ∷ rest) t ts = ap (also x) (joined-push rest t ts)

-- with the results for the parts so far, the result for the rest completes the whole, and a type
-- that exceeds the limit in the rest does so in the whole
pub record Remains (params : Params) (levels : ℕ) (all : Trees) (now : List TypePart) (rest : Trees) : Type 0 where
  pub completes : (others : Trees) → AllAfter params levels rest others → AllAfter params levels all (joined (map tree_of now) others)
  pub passes : SomePasses params levels rest → SomePasses params levels all

module _ (params : Params) (levels : ℕ) (all : Trees) where
  pub begun : Remains params levels all [] all
  begun = record { completes = λ others h. h; passes = λ h. h }

  pub continues : (now then : List TypePart) (rest : Trees) (t : Tree) (ts : Trees) (p : TypePart) → Remains params levels all now rest → rest ≡ also t ts → After params levels t (tree_of p) → then ≡ now ++ p ∷ [] →
      Remains params levels all then ts
  continues now then rest t ts p r e a pushed = record {
    completes = λ others h. rw (same others) (r.completes (also (tree_of p) others) (rw e (also_after a h)));
    passes = λ h. r.passes (rw e (later_passes h));
  }
    where
      same : (others : Trees) → joined (map tree_of then) others ≡ joined (map tree_of now) (also (tree_of p) others)
      same others = ap (λ (ps : List TypePart). joined (map tree_of ps) others) pushed ∙ ap (λ (l : List Tree). joined l others) (map_push tree_of now p) ∙ joined-push (map tree_of now) (tree_of p) others

  pub finished : (now : List TypePart) (rest : Trees) → Remains params levels all now rest → rest ≡ none → AllAfter params levels all (trees (map tree_of now))
  finished now rest r e = rw (sym (joined-none (map tree_of now))) (r.completes none (rw e none_after))

  pub stopped : (now : List TypePart) (rest : Trees) (t : Tree) (ts : Trees) → Remains params levels all now rest → rest ≡ also t ts → (fault : TypeFault) → IfDeep (Passes params levels t) fault → IfDeep (SomePasses params levels all) fault
  stopped now rest t ts r e faults.LimitNesting h = r.passes (rw e (first_passes h))
  stopped now rest t ts r e faults.Memory h = tt
  stopped now rest t ts r e (faults.Unsupported span) h = h
  stopped now rest t ts r e (faults.Mismatch span) h = h

pub if_deep-map : (P Q : Type 0) → (P → Q) → (fault : TypeFault) → IfDeep P fault → IfDeep Q fault
if_deep-map P Q f faults.LimitNesting h = f h
if_deep-map P Q f faults.Memory h = tt
if_deep-map P Q f (faults.Unsupported span) h = h
if_deep-map P Q f (faults.Mismatch span) h = h

-- the first of the parts that are left
pub rest_front : (items : List TypePart) (k : ℕ) (p : TypePart) → k < length items → p ≡ get_or items k p →
    trees (map tree_of (drop k items)) ≡ also (tree_of p) (trees (map tree_of (drop (k + 1) items)))
rest_front items k p h e =
    at_drop_more (λ ps. trees (map tree_of ps)) items k p h ∙ ap (λ (q : TypePart). also (tree_of q) (trees (map tree_of (drop (k + 1) items)))) (sym e)

-- parts that are unchanged, within the levels or not
pub still_after : (params : Params) (levels : ℕ) (t : Tree) (ts : Trees) (result : Result TypePart TypeFault) → t ≡ still ts → IfOk result (λ after. (tree_of after ≡ t) × (exceeds levels t ≡ false)) →
    IfOk result (λ after. After params levels t (tree_of after))
still_after params levels t ts (Ok after) e h =
    let k : exceeds levels (still ts) ≡ false = subst (λ (x : Tree). exceeds levels x ≡ false) e h.1 in
    subst (λ (x : Tree). After params levels t x) (sym h.0) (subst (λ (x : Tree). After params levels x x) (sym e) (stays_still k))
still_after params levels t ts (Err fault) e h = tt

pub still_passes : (params : Params) (levels : ℕ) (t : Tree) (ts : Trees) (result : Result TypePart TypeFault) → t ≡ still ts → IfErr result (IfDeep (exceeds levels t ≡ true)) → IfErr result (IfDeep (Passes params levels t))
still_passes params levels t ts (Ok after) e h = tt
still_passes params levels t ts (Err fault) e h = if_deep-map (exceeds levels t ≡ true) (Passes params levels t) (λ k. subst (λ (x : Tree). Passes params levels x) (sym e) (still_here (let l : exceeds levels (still ts) ≡ true = subst (λ (x : Tree). exceeds levels x ≡ true) e k in l))) fault h
