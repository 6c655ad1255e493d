-- Small facts on walks.
use Rattle.std.proofs.Common.{◌≡◌, ℕ, ◌+◌, ◌<◌, ◌⊎◌, inl, inr, List, [], ◌∷◌, Option, Some, None, IsSome, refl}
use Rattle.std.proofs.lemmas.List.Elements.{All-head, All-tail}
use Rattle.std.specs.Option.{option_map_or}
use Rattle.logos_hir.specs.Text.{IsBytes}
use Rattle.logos_reduce.specs.Edges.{StateType, IsMarked, Edges}
use Rattle.logos_graph.specs.inside.Walk.{marked, last_mark}

pub first_byte : (b : ℕ) (rest : List ℕ) → IsBytes (b ∷ rest) → b < 256
first_byte b rest ok = All-head (λ b. b < 256) b rest ok

pub other_bytes : (b : ℕ) (rest : List ℕ) → IsBytes (b ∷ rest) → IsBytes rest
other_bytes b rest ok = All-tail (λ b. b < 256) b rest ok

-- a step by an option, and the equation of its cases
pub cases_of : {S : Type 0} (o : Option S) → (o ≡ None) ⊎ ((t : S) × (o ≡ Some t))
cases_of None = inl refl
cases_of (Some t) = inr (t, refl)

abbrev Is : Option (ℕ × ℕ) → Type 0
Is o = (p : ℕ × ℕ) × (o ≡ Some p)

pub marked_stays : (type : StateType) (at : ℕ) (p : ℕ × ℕ) → Is (marked type at (Some p))
marked_stays type at p = go type.early type.accept
  where
    go : (e a : Option ℕ) → Is (marked (record { accept = a; early = e }) at (Some p))
    go (Some l) a = ((l, at + 1), refl)
    go None (Some l) = ((l, at), refl)
    go None None = (p, refl)

module _ {S : Type 0} (g : Edges S) where
  -- a mark is never lost
  pub mark_stays : (rest : List ℕ) (s : S) (at : ℕ) (p : ℕ × ℕ) → Is (last_mark g s rest at (Some p))
  mark_stays [] s at p = go (g.at_end s)
    where
      go : (o : Option S) → Is (option_map_or (λ t. marked (g.type_of t) at (Some p)) o (Some p))
      go None = (p, refl)
      go (Some t) = marked_stays (g.type_of t) at p
  mark_stays (b ∷ rest) s at p = go (g.next s b) (mark_stays rest)
    where
      go : (o : Option S) → ((s : S) (at : ℕ) (p : ℕ × ℕ) → Is (last_mark g s rest at (Some p))) →
          Is (option_map_or (λ t. last_mark g t rest (at + 1) (marked (g.type_of t) at (Some p))) o (Some p))
      go None ih = (p, refl)
      go (Some t) ih = let m = marked_stays (g.type_of t) at p in rw m.1 (ih t (at + 1) m.0)

  -- so if no mark is found, none was found before
  pub none_before : (rest : List ℕ) (s : S) (at : ℕ) (last : Option (ℕ × ℕ)) → last_mark g s rest at last ≡ None → last ≡ None
  none_before rest s at None e = refl
  none_before rest s at (Some p) e = let m = mark_stays rest s at p in absurd (cc (m.1))

-- where no mark is found the state has none
pub no_mark : (type : StateType) (at : ℕ) → marked type at None ≡ None → (type.early ≡ None) × (type.accept ≡ None)
no_mark type at e = go type.early type.accept e
  where
    go : (e a : Option ℕ) → marked (record { accept = a; early = e }) at None ≡ None → (e ≡ None) × (a ≡ None)
    go (Some l) a h = absurd (cc)
    go None (Some l) h = absurd (cc)
    go None None h = (refl, refl)

not_some : (o : Option ℕ) → o ≡ None → IsSome o → ⊥
not_some None e m = cc
not_some (Some x) e m = cc

pub unmarked : (type : StateType) → type.early ≡ None → type.accept ≡ None → IsMarked type → ⊥
unmarked type e a (inl m) = not_some type.early e m
unmarked type e a (inr m) = not_some type.accept a m

-- a state that has no mark leaves the one before
pub skipped : (type : StateType) (at : ℕ) (last : Option (ℕ × ℕ)) → (IsMarked type → ⊥) → marked type at last ≡ last
skipped type at last no_mark = go type.early type.accept (λ m. no_mark m)
  where
    go : (e a : Option ℕ) → (IsSome e ⊎ IsSome a → ⊥) → marked (record { accept = a; early = e }) at last ≡ last
    go (Some l) a h = absurd (h (inl refl))
    go None (Some l) h = absurd (h (inr refl))
    go None None h = refl
