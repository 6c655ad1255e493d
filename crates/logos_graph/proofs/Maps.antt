-- A map of states that preserves types and edges preserves the results of a graph.
use Rattle.std.proofs.Common.{◌≡◌, ℕ, ◌+◌, ◌<◌, List, [], ◌∷◌, Option, Some, None, refl, ◌∙◌, ap, option_map}
use Rattle.logos_graph.proofs.Steps.{first_byte, other_bytes}
use Rattle.std.specs.Option.{option_map_or}
use Rattle.logos_hir.specs.Text.{IsBytes}
use Rattle.logos_reduce.specs.Edges.{Edges, Leads, to_mark, onward, to_end}
use Rattle.logos_graph.specs.inside.Walk.{marked, last_mark, followed}

-- on the states that are in, and to which their edges lead, f keeps types and commutes with edges
pub record IsMap {S T : Type 0} (IsIn : S → Type 0) (f : S → T) (g : Edges S) (h : Edges T) : Type 0 where
  pub inside : (s t : S) (b : ℕ) → b < 256 → IsIn s → g.next s b ≡ Some t → IsIn t
  pub types : (s : S) → IsIn s → h.type_of (f s) ≡ g.type_of s
  pub edges : (s : S) (b : ℕ) → b < 256 → IsIn s → h.next (f s) b ≡ option_map f (g.next s b)
  pub ends : (s : S) → IsIn s → h.at_end (f s) ≡ option_map f (g.at_end s)
  pub end_types : (s t : S) → IsIn s → g.at_end s ≡ Some t → h.type_of (f t) ≡ g.type_of t

module _ {S T : Type 0} (IsIn : S → Type 0) (f : S → T) (g : Edges S) (h : Edges T) (m : IsMap IsIn f g h) where
  pub map_marks : (rest : List ℕ) → IsBytes rest → (s : S) → IsIn s → (at : ℕ) (last : Option (ℕ × ℕ)) →
      last_mark h (f s) rest at last ≡ last_mark g s rest at last
  map_marks [] ok s i at last = rw (m.ends s i) (go (g.at_end s) refl)
    where
      go : (o : Option S) → g.at_end s ≡ o → option_map_or (λ t. marked (h.type_of t) at last) (option_map f o) last ≡ option_map_or (λ t. marked (g.type_of t) at last) o last
      go None e = refl
      go (Some t) e = ap (λ x. marked x at last) (m.end_types s t i e)
  map_marks (b ∷ rest) ok s i at last = rw (m.edges s b (first_byte b rest ok) i) (go (g.next s b) refl (map_marks rest (other_bytes b rest ok)))
    where
      go : (o : Option S) → g.next s b ≡ o →
          ((s : S) → IsIn s → (at : ℕ) (last : Option (ℕ × ℕ)) → last_mark h (f s) rest at last ≡ last_mark g s rest at last) →
          option_map_or (λ t. last_mark h t rest (at + 1) (marked (h.type_of t) at last)) (option_map f o) last
          ≡ option_map_or (λ t. last_mark g t rest (at + 1) (marked (g.type_of t) at last)) o last
      go None e ih = refl
      go (Some t) e ih = let j = m.inside s t b (first_byte b rest ok) i e in rw (m.types t j) (ih t j (at + 1) (marked (g.type_of t) at last))

  pub map_followed : (rest : List ℕ) → IsBytes rest → (s : S) → IsIn s → followed h (f s) rest ≡ followed g s rest
  map_followed [] ok s i = refl
  map_followed (b ∷ rest) ok s i = rw (m.edges s b (first_byte b rest ok) i) (go (g.next s b) refl (map_followed rest (other_bytes b rest ok)))
    where
      go : (o : Option S) → g.next s b ≡ o → ((s : S) → IsIn s → followed h (f s) rest ≡ followed g s rest) →
          option_map_or (λ t. followed h t rest + 1) (option_map f o) 0 ≡ option_map_or (λ t. followed g t rest + 1) o 0
      go None e ih = refl
      go (Some t) e ih = ap (λ n. n + 1) (ih t (m.inside s t b (first_byte b rest ok) i e))

  -- a state that leads to a mark leads to its image
  pub map_leads : (s : S) → IsIn s → Leads g s → Leads h (f s)
  map_leads s i (to_mark {t = t} b ok e k) = to_mark b ok (m.edges s b ok i ∙ ap (option_map f) e) (rw (m.types t (m.inside s t b ok i e)) k)
  map_leads s i (onward {t = t} b ok e l) = onward b ok (m.edges s b ok i ∙ ap (option_map f) e) (map_leads t (m.inside s t b ok i e) l)
  map_leads s i (to_end {t = t} e k) = to_end (m.ends s i ∙ ap (option_map f) e) (rw (m.end_types s t i e) k)
