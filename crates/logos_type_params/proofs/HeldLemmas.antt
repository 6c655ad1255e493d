-- Declared names that are tested one by one for whether their types contain them.
use Rattle.std.proofs.Common.{◌≡◌, ℕ, ◌+◌, ◌⊎◌, inl, inr, ⊎_elim, List, [], ◌∷◌, map, drop, length, get_or, ◌<◌, Bor, subst, sym, ap, ◌∙◌}
use Rattle.std.proofs.lemmas.List.{at_drop_more}
use Rattle.logos_type_params.specs.declared.substitution.TypeParam.{TypeParam}
use Rattle.logos_type_params.specs.Substitution.{ParamValue, param_value}
use Rattle.logos_type_params.specs.SelfReference.{Leads, one, on, Has}
use Rattle.logos_type_params.specs.WrittenTypes.{given_names, IsNeeded, is_held, is_free, AreHeld}
use Rattle.logos_type_params.proofs.ChainLemmas.{declares}

abbrev Text : Type 0
Text = List ℕ

-- the names so far are held, and those that are held are among them or remain
pub record Needing (params : List ParamValue) (rest held : List Text) : Type 0 where
  pub lead_back : (text : Text) → Has held text → Leads params text text
  pub all : (text : Text) → Has (given_names params) text → Leads params text text → Has held text ⊎ Has rest text

module _ (params : List ParamValue) where
  pub needing_begun : Needing params (given_names params) []
  needing_begun = record { lead_back = λ text h. absurd h; all = λ text h l. inr h }

  pub needed_on : (text : Text) (all rest held held' : List Text) → Needing params all held → all ≡ text ∷ rest → IsNeeded params text held held' → Needing params rest held'
  needed_on text all rest held held' a e (is_held l cases kept put) = record {
    lead_back = λ other h. ⊎_elim (λ k. a.lead_back other k) (λ (q : text ≡ other). subst (λ (x : Text). Leads params x x) q l) (cases other h);
    all = λ other h k. ⊎_elim (λ p. inl (kept other p)) (λ r. ⊎_elim (λ (q : text ≡ other). inl (subst (λ (x : Text). Has held' x) q put)) (λ s. inr s) (now other r)) (a.all other h k);
  }
    where
      now : (other : Text) → Has all other → (text ≡ other) ⊎ Has rest other
      now other h = rw e at h
  needed_on text all rest held held' a e (is_free f same) = rw same (record {
    lead_back = a.lead_back;
    all = λ other h k. ⊎_elim (λ p. inl p) (λ r. ⊎_elim (λ (q : text ≡ other). absurd (f (subst (λ (x : Text). Leads params x x) (sym q) k))) (λ s. inr s) (now other r)) (a.all other h k);
  })
    where
      now : (other : Text) → Has all other → (text ≡ other) ⊎ Has rest other
      now other h = rw e at h

  has_type : (from to : Text) → Leads params from to → Has (given_names params) from
  has_type from to (one h) = declares params from to h
  has_type from to (on {over = over} h l) = declares params from over h

  pub needed_all : (rest held : List Text) → Needing params rest held → rest ≡ [] → AreHeld params held
  needed_all rest held a e = record {
    have_types = λ text h. has_type text text (a.lead_back text h);
    lead_back = a.lead_back;
    all = λ text h l. ⊎_elim (λ p. p) (λ r. none_left text r) (a.all text h l);
  }
    where
      none_left : (text : Text) → Has rest text → Has held text
      none_left text r = absurd (let n : ⊥ = rw e at r in n)

-- the first of the names that are left
pub names_front : (entries : List (Bor Text × TypeParam)) (k : ℕ) (e : Bor Text × TypeParam) → k < length entries → e ≡ get_or entries k e →
    given_names (map param_value (drop k entries)) ≡ e.0.now ∷ given_names (map param_value (drop (k + 1) entries))
names_front entries k e lt at =
    at_drop_more (λ es. given_names (map param_value es)) entries k e lt
    ∙ ap (λ (d : Bor Text × TypeParam). d.0.now ∷ given_names (map param_value (drop (k + 1) entries))) (sym at)
