-- Each fault of the rules is reported.
use Rattle.std.proofs.Common.{◌≡◌, ℕ, zero, suc, Bool, true, false, List, [], ◌∷◌, ◌++◌, map, flat_map, Some, slice_get, IsSomeAnd, MatchBool, option_map, refl, ◌∙◌, ap, arith}
use Rattle.std.proofs.lemmas.Option.{slice_get-map}
use Rattle.logos_lexeme.specs.declared.lexeme.Span.{Span}
use Rattle.logos_token.specs.Faults.{Fault as SourceFault}
use Rattle.logos_automaton.specs.Munch.{Rule}
use Rattle.logos_automaton.specs.Ambiguity.{IsAmbiguous}
use Rattle.logos_automaton.specs.Faults.{Fault, no_universal_start, empty_match, disambiguation, some_leads, some_passable, ArePassable, AreAmbiguous, AreFaults}
use Rattle.logos_codegen.specs.Texts.{NamedLeaf, reported_as}
use Rattle.logos_codegen.specs.Rules.{NamedRule, rules_in, names_in}

-- a leaf with a rule is there
there : (ds : List NamedRule) (n : ℕ) (P : Rule → Type 0) → IsSomeAnd (slice_get (rules_in ds) n) P →
    (d : NamedRule) × (slice_get ds n ≡ Some d)
there [] n P h = absurd h
there (d ∷ ds) zero P h = (d, refl)
there (d ∷ ds) (suc n) P h = there ds n P h

abbrev name_of : NamedRule → NamedLeaf
name_of leaf = leaf.named

named : (ds : List NamedRule) (n : ℕ) (P : Rule → Type 0) → IsSomeAnd (slice_get (rules_in ds) n) P →
    (leaf : NamedLeaf) × (slice_get (names_in ds) n ≡ Some leaf)
named ds n P h = let found = there ds n P h in (name_of found.0, slice_get-map name_of ds n ∙ ap (option_map name_of) found.1)

module _ (leaves : List NamedRule) (item : Span) where
  abbrev reported : Fault → List SourceFault
  reported = reported_as (names_in leaves) item

  -- for a passable rule one fault is reported
  reports_passable : (leaf : ℕ) (P : Rule → Type 0) → IsSomeAnd (slice_get (rules_in leaves) leaf) P → (zs : List SourceFault) → reported (empty_match leaf) ++ zs ≡ [] → ⊥
  reports_passable leaf P h zs e =
      let found = named leaves leaf P h in
      let e' = rw found.1 at e in
      absurd (cc)

  -- for an ambiguous set some fault is reported
  reports_set : (set : List ℕ) → IsAmbiguous (rules_in leaves) set → (zs : List SourceFault) → reported (disambiguation set) ++ zs ≡ [] → ⊥
  reports_set [] a zs e = let h = a.several in omega (arith, h)
  reports_set (n ∷ set) a zs e =
      let highest = (a.exactly n).0 (0, omega arith, refl) in
      let found = named leaves n _ highest.matches in
      let e' = rw found.1 at e in
      absurd (cc)

  pub reports_some : (graph : List Fault) → AreFaults (rules_in leaves) graph → flat_map reported graph ≡ [] → graph ≡ []
  reports_some [] h e = refl
  reports_some (fault ∷ rest) h e = absurd (go (some_leads (rules_in leaves)) (some_passable (rules_in leaves)) h)
    where
      passes : (xs : List ℕ) → ArePassable (rules_in leaves) xs → fault ∷ rest ≡ map empty_match xs → ⊥
      passes [] p q = absurd (cc)
      passes (x ∷ xs) p q =
          let same : fault ≡ empty_match x = cc in
          reports_passable x _ ((p.exactly x).0 (0, omega arith, refl)) (flat_map reported rest) (rw same at e)

      ambiguous : (xs : List (List ℕ)) → AreAmbiguous (rules_in leaves) xs → fault ∷ rest ≡ map disambiguation xs → ⊥
      ambiguous [] p q = absurd (cc)
      ambiguous (x ∷ xs) p q =
          let same : fault ≡ disambiguation x = cc in
          reports_set x ((p.exactly x).0 (0, omega arith, refl)) (flat_map reported rest) (rw same at e)

      go : (a b : Bool) →
          MatchBool a (fault ∷ rest ≡ no_universal_start ∷ [])
          (MatchBool b ((xs : List ℕ) × ArePassable (rules_in leaves) xs × (fault ∷ rest ≡ map empty_match xs))
          ((xs : List (List ℕ)) × AreAmbiguous (rules_in leaves) xs × (fault ∷ rest ≡ map disambiguation xs))) → ⊥
      go true b q =
          let same : fault ≡ no_universal_start = cc in
          let e' = rw same at e in
          absurd (cc)
      go false true q = passes q.0 q.1 q.2
      go false false q = ambiguous q.0 q.1 q.2
