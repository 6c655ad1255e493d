-- A machine with the required rest of a character moves like both.
use Rattle.std.proofs.Common.{◌≡◌, ℕ, ◌<◌, Bool, true, false, ◌&&◌, ◌==◌, List, [], ◌∷◌, Option, Some, None, All, IsTrue, refl, sym, ap, ◌∙◌, arith, option_map, option_and_then, eq-eqb}
use Rattle.std.proofs.lemmas.Bool.{and_parts}
use Rattle.std.proofs.lemmas.Bool.Decides.{nat_tests}
use Rattle.std.proofs.lemmas.Option.{same_Some}
use Rattle.logos_evidence.specs.search.Machines.{after, Leads}
use Rattle.logos_evidence.specs.search.Rests.{more, rest_by, rest_over}
use Rattle.logos_evidence.specs.search.inside.PendingPoints.{pending_at, pending_next, pending_goal}
use Rattle.logos_evidence.specs.declared.search.point.Point.{Point}
use Rattle.logos_evidence.specs.declared.search.utf8.Rest.{Rest}
use Rattle.logos_evidence.specs.declared.search.visits.PendingPoint.{PendingPoint}
use Rattle.logos_evidence.proofs.search.RestLemmas.{utf8_is_done, done_is_utf8, bytes_are_done}

abbrev pub joined : Option Point → Option Rest → Option PendingPoint
joined point rest = option_and_then (λ p. option_map (pending_at p) rest) point

no_rest : (point : Option Point) → joined point None ≡ None
no_rest None = refl
no_rest (Some p) = refl

pub joined_is : (point : Option Point) (rest : Option Rest) (s : PendingPoint) → joined point rest ≡ Some s → (point ≡ Some s.point) × (rest ≡ Some s.rest)
joined_is None rest s e = cc
joined_is (Some p) None s e = cc
joined_is (Some p) (Some r) s e =
    let same : pending_at p r ≡ s = same_Some _ _ e in
    (ap (λ (t : PendingPoint). Some t.point) same, ap (λ (t : PendingPoint). Some t.rest) same)

module _ (next : Point → ℕ → Option Point) (utf8 : Bool) where
  pub both_go : (p : Point) (r : Rest) (bytes : List ℕ) → after (pending_next next utf8) (pending_at p r) bytes ≡ joined (after next p bytes) (rest_over utf8 r bytes)
  both_go p r [] = refl
  both_go p r (b ∷ bytes) = go (λ o q. both_go o q bytes) (next p b) (rest_by utf8 r b)
    where
      go : ((o : Point) (q : Rest) → after (pending_next next utf8) (pending_at o q) bytes ≡ joined (after next o bytes) (rest_over utf8 q bytes)) →
          (o : Option Point) (q : Option Rest) →
          option_and_then (λ s. after (pending_next next utf8) s bytes) (joined o q) ≡
          joined (option_and_then (λ t. after next t bytes) o) (option_and_then (λ t. rest_over utf8 t bytes) q)
      go ih None q = refl
      go ih (Some o) None = sym (no_rest (after next o bytes))
      go ih (Some o) (Some q) = ih o q

pub both_true : (a b : Bool) → a ≡ true → b ≡ true → (a && b) ≡ true
both_true true b p q = q
both_true false b p q = p

module _ (next : Point → ℕ → Option Point) (is_goal : Point → Bool) (utf8 : Bool) (start : Point) where
  pub rests : (m : Bool) (bytes : List ℕ) → (IsTrue m → (rest : Rest) × (rest_over true (more 0) bytes ≡ Some rest) × (rest.count ≡ 0)) →
      (rest : Rest) × (rest_over m (more 0) bytes ≡ Some rest) × (rest.count ≡ 0)
  rests true bytes h = h refl
  rests false bytes h = (more 0, bytes_are_done (more 0) bytes, refl)

  -- an input leads to a goal exactly if the pending points do
  pub occurs_lead : (bytes : List ℕ) → Leads next is_goal utf8 start bytes →
      (s : PendingPoint) × (after (pending_next next utf8) (pending_at start (more 0)) bytes ≡ Some s) × (pending_goal is_goal s ≡ true)
  occurs_lead bytes leads =
      let r = rests utf8 bytes (λ t. utf8_is_done bytes (leads.input.1 t)) in
      let at : joined (after next start bytes) (rest_over utf8 (more 0) bytes) ≡ Some (pending_at leads.end r.0) =
      ap (λ (o : Option Point). joined o (rest_over utf8 (more 0) bytes)) leads.way ∙ ap (λ (o : Option Rest). joined (Some leads.end) o) r.1 in
      (pending_at leads.end r.0, both_go next utf8 start (more 0) bytes ∙ at, both_true _ _ leads.goal (eq-eqb _ _ r.2))

  pub is_zero : (n : ℕ) → (n == 0) ≡ true → n ≡ 0
  is_zero n e = grind (arith, nat_tests)

  pub texts : (m : Bool) (bytes : List ℕ) (rest : Rest) → rest_over m (more 0) bytes ≡ Some rest → IsTrue m → rest_over true (more 0) bytes ≡ Some rest
  texts true bytes rest e t = e
  texts false bytes rest e t = cc

  pub leads_to : (bytes : List ℕ) (s : PendingPoint) → All (λ b. b < 256) bytes → after (pending_next next utf8) (pending_at start (more 0)) bytes ≡ Some s →
      pending_goal is_goal s ≡ true → Leads next is_goal utf8 start bytes
  leads_to bytes s are way goal =
      let parts = joined_is _ _ s (sym (both_go next utf8 start (more 0) bytes) ∙ way) in
      let goals = and_parts _ _ goal in
      record {
        input = (are, λ t. done_is_utf8 bytes s.rest (texts utf8 bytes s.rest parts.1 t) (is_zero s.rest.count goals.1));
        end = s.point;
        way = parts.0;
        goal = goals.0;
      }
