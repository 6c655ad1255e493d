-- A set that has a pending point or a step already stays as it is.
use Rattle.std.proofs.Common.{◌≡◌, ℕ, Bool, true, false, not, ◌&&◌, if◌then◌else◌, List, refl, sym, ◌∙◌, arith}
use Rattle.std.proofs.lemmas.Bool.{and_parts}
use Rattle.std.proofs.lemmas.Bool.Decides.{nat_tests}
use mathlib.Core.Bool.{beq}
use lib.Dec.{eqb}
use Rattle.logos_evidence.specs.declared.search.point.Point.{Point}
use Rattle.logos_evidence.specs.declared.search.steps.InputStep.{InputStep}
use Rattle.logos_evidence.specs.declared.search.visits.PendingPoint.{PendingPoint}

equal : (m n : ℕ) → eqb m n ≡ true → n ≡ m
equal m n e = grind (arith, nat_tests)

alike : (a b : Bool) → beq a b ≡ true → b ≡ a
alike true true e = refl
alike true false e = cc
alike false true e = cc
alike false false e = refl

pub same_point : (a b : Point) →
    (eqb a.here b.here && (eqb a.there b.there && (beq a.begun b.begun && (beq a.met b.met && beq a.last b.last)))) ≡ true → b ≡ a
same_point a b e =
    let p = and_parts _ _ e in
    let q = and_parts _ _ p.1 in
    let r = and_parts _ _ q.1 in
    let s = and_parts _ _ r.1 in
    let here = equal a.here b.here p.0 in
    let there = equal a.there b.there q.0 in
    let begun = alike a.begun b.begun r.0 in
    let met = alike a.met b.met s.0 in
    let last = alike a.last b.last s.1 in
    λ i. record { here = here i; there = there i; begun = begun i; met = met i; last = last i }

pub same_pending : (a b : PendingPoint) →
    ((eqb a.point.here b.point.here && (eqb a.point.there b.point.there && (beq a.point.begun b.point.begun && (beq a.point.met b.point.met && beq a.point.last b.point.last))))
    && (eqb a.rest.low b.rest.low && (eqb a.rest.high b.rest.high && eqb a.rest.count b.rest.count))) ≡ true → b ≡ a
same_pending a b e =
    let both = and_parts _ _ e in
    let t = and_parts _ _ both.1 in
    let u = and_parts _ _ t.1 in
    let point = same_point a.point b.point both.0 in
    let low = equal a.rest.low b.rest.low t.0 in
    let high = equal a.rest.high b.rest.high u.0 in
    let count = equal a.rest.count b.rest.count u.1 in
    λ i. record { point = point i; rest = record { low = low i; high = high i; count = count i } }

pub same_step : (a b : InputStep) →
    ((eqb a.from.here b.from.here && (eqb a.from.there b.from.there && (beq a.from.begun b.from.begun && (beq a.from.met b.from.met && beq a.from.last b.from.last))))
    && ((eqb a.to.here b.to.here && (eqb a.to.there b.to.there && (beq a.to.begun b.to.begun && (beq a.to.met b.to.met && beq a.to.last b.to.last))))
    && beq a.ends b.ends)) ≡ true → b ≡ a
same_step a b e =
    let both = and_parts _ _ e in
    let t = and_parts _ _ both.1 in
    let from = same_point a.from b.from both.0 in
    let to = same_point a.to b.to t.0 in
    let ends = alike a.ends b.ends t.1 in
    λ i. record { from = from i; to = to i; ends = ends i }

pub stays : {A : Type 0} (found : Bool) (ks ms more : List A) (is_new : Bool) → is_new ≡ not found → is_new ≡ false → ms ≡ (if found then ks else more) → ms ≡ ks
stays true ks ms more is_new e f m = m
stays false ks ms more is_new e f m = let clash : true ≡ false = sym e ∙ f in cc
