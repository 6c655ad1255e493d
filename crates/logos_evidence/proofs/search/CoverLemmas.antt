-- Inputs that take the steps from all pending points.
use Rattle.std.proofs.Common.{◌≡◌, ◌⊎◌, ℕ, ◌<◌, ◌==◌, Bool, true, false, ◌&&◌, List, [], ◌∷◌, ◌++◌, All, Option, Some, None, IsSomeAnd, IsTrue, option_and_then, slice_get, refl, sym, ap, ◌∙◌, subst, inl, inr, ⊎_elim, eq-eqb}
use Rattle.std.specs.Prelude.{Contains}
use Rattle.std.proofs.lemmas.List.Elements.{All-append, All-cons, All-head, All-tail, Contains-append_left, Contains-push, Contains-push_cases}
use Rattle.std.proofs.lemmas.Option.{same_Some, slice_get_within}
use Rattle.logos_evidence.specs.search.Covering.{Takes, OneTakes, AreCovering, step_to, end_at}
use Rattle.logos_evidence.specs.search.Machines.{IsInput, after}
use Rattle.logos_evidence.specs.search.Rests.{more, rest_by, rest_over, completion}
use Rattle.logos_evidence.specs.search.inside.Covers.{IsExplored, IsWayBy, Adds, IsCover, AreCoveredAt}
use Rattle.logos_evidence.specs.search.inside.PendingPoints.{pending_at, pending_next, pending_goal}
use Rattle.logos_evidence.specs.search.inside.Visits.{IsWayTo}
use Rattle.logos_evidence.specs.declared.search.point.Point.{Point}
use Rattle.logos_evidence.specs.declared.search.utf8.Rest.{Rest}
use Rattle.logos_evidence.specs.declared.search.steps.InputStep.{InputStep}
use Rattle.logos_evidence.specs.declared.search.visits.PendingPoint.{PendingPoint}
use Rattle.logos_evidence.specs.declared.search.visits.Visit.{Visit}
use Rattle.logos_evidence.proofs.search.CompletionLemmas.{over_append, over_open, first_open, completes, completion_is_bytes}
use Rattle.logos_evidence.proofs.search.RestLemmas.{utf8_is_done, done_is_utf8}
use Rattle.logos_evidence.proofs.search.PendingLemmas.{joined, joined_is, both_go, both_true, rests, texts, is_zero}
use Rattle.logos_evidence.proofs.search.StepLemmas.{takes_here, takes_after, takes_end}

module _ (next : Point → ℕ → Option Point) (is_goal : Point → Bool) (utf8 : Bool) (start : Point) where
  -- bytes after which nothing has to follow are an input
  done_is_input : (bytes : List ℕ) (rest : Rest) → All (λ b. b < 256) bytes → rest_over utf8 (more 0) bytes ≡ Some rest → rest.count ≡ 0 → IsInput utf8 bytes
  done_is_input bytes rest are e z = (are, λ t. done_is_utf8 bytes rest (texts next is_goal utf8 start utf8 bytes rest e t) z)

  module _ (ks : List PendingPoint) (ws : List Visit) (explored : IsExplored next utf8 start ks ws) where
    -- ---- An input for a step

    leads_there : (number : ℕ) (at : PendingPoint) (front : List ℕ) → IsWayTo (pending_next next utf8) ks ws number at front →
        (after next start front ≡ Some at.point) × (rest_over utf8 (more 0) front ≡ Some at.rest)
    leads_there number at front way = joined_is _ _ at (sym (both_go next utf8 start (more 0) front) ∙ way.way (pending_at start (more 0)) explored.first)

    pub input_by : (number b : ℕ) (at to : PendingPoint) (bytes : List ℕ) → slice_get ks number ≡ Some at → pending_next next utf8 at b ≡ Some to → b < 256 →
        IsWayBy ks ws number b to.rest bytes → IsInput utf8 bytes × Takes next start bytes (step_to at.point to.point)
    input_by number b at to bytes there step is_byte by =
        let way = by.way (pending_next next utf8) at explored.tree there in
        let front = leads_there number at by.front way in
        let on = joined_is (next at.point b) (rest_by utf8 at.rest b) to step in
        let one : rest_over utf8 at.rest (b ∷ []) ≡ Some to.rest = ap (option_and_then (λ (r : Rest). Some r)) on.1 in
        let may = over_open utf8 (b ∷ []) at.rest to.rest (over_open utf8 by.front (more 0) at.rest (first_open utf8) front.1) one in
        let done = completes utf8 to.rest may in
        let tail : rest_over utf8 at.rest (b ∷ completion to.rest) ≡ Some done.0 =
        ap (option_and_then (λ (r : Rest). rest_over utf8 r (completion to.rest))) on.1 ∙ done.1 in
        let whole : rest_over utf8 (more 0) (by.front ++ b ∷ completion to.rest) ≡ Some done.0 =
        over_append utf8 by.front (b ∷ completion to.rest) (more 0) ∙ ap (option_and_then (λ (r : Rest). rest_over utf8 r (b ∷ completion to.rest))) front.1 ∙ tail in
        let are : All (λ x. x < 256) (by.front ++ b ∷ completion to.rest) =
        All-append (λ x. x < 256) by.front (b ∷ completion to.rest) way.are_bytes
        (All-cons (λ x. x < 256) b (completion to.rest) is_byte (completion_is_bytes utf8 to.rest may)) in
        let takes = takes_after next by.front start at.point (b ∷ completion to.rest) (step_to at.point to.point) front.0
        (takes_here next at.point to.point b (completion to.rest) on.0) in (
          subst (IsInput utf8) (sym by.parts) (done_is_input (by.front ++ b ∷ completion to.rest) done.0 are whole done.2),
          subst (λ (bs : List ℕ). Takes next start bs (step_to at.point to.point)) (sym by.parts) takes,
        )

    pub input_to : (number : ℕ) (at : PendingPoint) (bytes : List ℕ) → IsWayTo (pending_next next utf8) ks ws number at bytes → pending_goal is_goal at ≡ true →
        IsInput utf8 bytes × Takes next start bytes (end_at at.point)
    input_to number at bytes way goal =
        let there = leads_there number at bytes way in
        (done_is_input bytes at.rest way.are_bytes there.1 (zero_of at goal), takes_end next bytes start at.point there.0)
      where
        last : (a b : Bool) → (a && b) ≡ true → b ≡ true
        last true b e = e
        last false b e = cc

        zero_of : (s : PendingPoint) → pending_goal is_goal s ≡ true → s.rest.count ≡ 0
        zero_of s e = is_zero next is_goal utf8 start s.rest.count (last (is_goal s.point) (s.rest.count == 0) e)

    -- ---- All steps

    abbrev Wanted : InputStep → Type 0
    Wanted step = IsTrue step.ends → is_goal step.from ≡ true

    abbrev Done : Rest → List ℕ → Type 0
    Done rest bytes = (r : Rest) × (rest_over utf8 rest bytes ≡ Some r) × (r.count ≡ 0)

    module _ (steps : List InputStep) (covered : (i : ℕ) (at : PendingPoint) → slice_get ks i ≡ Some at → AreCoveredAt next is_goal utf8 steps at) where
      abbrev AllOn : List ℕ → Type 0
      AllOn bytes = (step : InputStep) (i : ℕ) (at : PendingPoint) → All (λ b. b < 256) bytes → slice_get ks i ≡ Some at → Done at.rest bytes → Takes next at.point bytes step →
          Wanted step → Contains steps step

      one_more : (b : ℕ) (bytes : List ℕ) → AllOn bytes → AllOn (b ∷ bytes)
      one_more b bytes ih step i at are there done takes wanted = go (next at.point b) refl (rest_by utf8 at.rest b) refl takes done.1
        where
          byte : b < 256
          byte = All-head (λ x. x < 256) b bytes are

          leads : (to : Point) (r : Rest) → next at.point b ≡ Some to → rest_by utf8 at.rest b ≡ Some r → pending_next next utf8 at b ≡ Some (pending_at to r)
          leads to r e f = ap (λ (o : Option Point). joined o (rest_by utf8 at.rest b)) e ∙ ap (joined (Some to)) f

          go : (o : Option Point) → next at.point b ≡ o → (q : Option Rest) → rest_by utf8 at.rest b ≡ q →
              IsSomeAnd o (λ t. (step ≡ step_to at.point t) ⊎ Takes next t bytes step) → option_and_then (λ r. rest_over utf8 r bytes) q ≡ Some done.0 → Contains steps step
          go None e q f t d = absurd t
          go (Some to) e None f t d = cc
          go (Some to) e (Some r) f (inl s) d = subst (Contains steps) (sym s) ((covered i at there).bytes b byte (pending_at to r) (leads to r e f))
          go (Some to) e (Some r) f (inr t) d =
              let met = explored.closed i b at (slice_get_within ks i at there) there byte (pending_at to r) (leads to r e f) in
              ih step met.number (pending_at to r) (All-tail (λ x. x < 256) b bytes are) met.occurs_there (done.0, d, done.2) t wanted

      at_end : AllOn []
      at_end step i at are there done takes wanted =
          let goal : is_goal at.point ≡ true = subst Wanted takes wanted refl in
          let rest : at.rest.count ≡ 0 = ap (λ (r : Rest). r.count) (same_Some _ _ done.1) ∙ done.2 in
          subst (Contains steps) (sym takes) ((covered i at there).end (both_true _ _ goal (eq-eqb _ _ rest)))

      all_on : (bytes : List ℕ) → AllOn bytes
      all_on [] = at_end
      all_on (b ∷ bytes) = one_more b bytes (all_on bytes)

      pub covers_all : (inputs : List (List ℕ)) → IsCover next utf8 start steps inputs → AreCovering next is_goal utf8 start inputs
      covers_all inputs cover = record {
        are_inputs = cover.are_inputs;
        all = λ bytes step input takes wanted.
            cover.taken step (all_on bytes step 0 (pending_at start (more 0)) input.0 explored.first
            (rests next is_goal utf8 start utf8 bytes (λ t. utf8_is_done bytes (input.1 t))) takes wanted);
      }

-- ---- One more input

pub cover_more : (next : Point → ℕ → Option Point) (utf8 : Bool) (start : Point) (old mid new : List InputStep) (inputs longer : List (List ℕ)) (input : List ℕ) (step : InputStep) →
    IsCover next utf8 start old inputs → ((other : InputStep) → Contains mid other → Contains old other ⊎ (other ≡ step)) → Adds next start mid input new →
    longer ≡ inputs ++ input ∷ [] → IsInput utf8 input × Takes next start input step → IsCover next utf8 start new longer
cover_more next utf8 start old mid new inputs longer input step cover only adds e is =
    subst (IsCover next utf8 start new) (sym e) (record {
      are_inputs = λ other h. ⊎_elim (λ k. cover.are_inputs other k) (λ s. subst (IsInput utf8) s is.0) (Contains-push_cases inputs input other h);
      taken = λ other h. ⊎_elim (λ m. ⊎_elim (λ o. before other o) (λ s. (input, Contains-push inputs input, subst (Takes next start input) (sym s) is.1)) (only other m))
          (λ t. (input, Contains-push inputs input, t)) (adds.only other h);
    })
  where
    before : (other : InputStep) → Contains old other → OneTakes next start (inputs ++ input ∷ []) other
    before other h =
        let one = cover.taken other h in
        (one.0, Contains-append_left inputs (input ∷ []) one.0 one.1, one.2)
