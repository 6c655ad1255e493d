-- Marks, one after another.
use Rattle.std.proofs.Common.{◌≡◌, ◌<◌, ◌+◌, ◌⊎◌, ◌↔◌, ⊎_elim, ℕ, List, [], ◌∷◌, ◌++◌, length, get_or, Bool, false, IsTrue, sym, ◌∙◌, arith}
use lib.ListN.{get_or-append}
use Rattle.std.proofs.lemmas.List.{get_or_push}
use Rattle.std.proofs.lemmas.Option.{slice_get-get_or}
use Rattle.logos_type_params.specs.declared.cycles.evidence.Membership.{Membership}
use Rattle.logos_type_params.specs.cycles.Cycles.{targets_of, Leads}
use Rattle.logos_type_params.specs.cycles.inside.Memberships.{IsEvidence, HasInner}
use Rattle.logos_type_params.proofs.cycles.SlotLemmas.{inner_leads, leads_inner}

-- the first of these are marked where they lead to themselves
abbrev pub AreMarked : List (List ℕ) → List Bool → ℕ → Type 0
AreMarked g marks n = (node : ℕ) → node < n → IsTrue (get_or marks node false) ↔ Leads g node node

pub before_or_at : (i at : ℕ) → i < at + 1 → (i < at) ⊎ (i ≡ at)
before_or_at i at h = grind (arith, h)

pub marked_more : (g : List (List ℕ)) (marks marks' : List Bool) (b : Bool) (n : ℕ) → length marks ≡ n → marks' ≡ marks ++ b ∷ [] → AreMarked g marks n → (IsTrue b ↔ Leads g n n) → AreMarked g marks' (n + 1)
marked_more g marks marks' b n len e old here node lt = rw e (⊎_elim
    (λ (l : node < n). let s = get_or-append marks (b ∷ []) false node (omega arith) in rw s (old node l))
    (λ (s : node ≡ n). let p : get_or (marks ++ b ∷ []) node false ≡ b = get_or_push marks b false node (len ∙ sym s) in rw p (rw s here))
    (before_or_at node n lt))

pub mark_is : (g : List (List ℕ)) (ps : List Membership) → IsEvidence g ps → (node : ℕ) (d : Membership) → node < length ps → (ts : List ℕ) → ts ≡ targets_of g node → (b : Bool) →
    (IsTrue b ↔ HasInner ps (get_or ps node d).root ts) → IsTrue b ↔ Leads g node node
mark_is g ps ev node d lt ts e b h =
    let is = slice_get-get_or ps node d lt in (
      λ t. inner_leads g ps ev node (get_or ps node d) is (rw (sym e) (h.0 t)),
      λ l. h.1 (rw e (leads_inner g ps ev node (get_or ps node d) is l)),
    )
