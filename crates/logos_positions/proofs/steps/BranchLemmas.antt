-- Steps on branches of which one has all positions of the set.
use Rattle.std.proofs.Common.{◌≡◌, ℕ, ◌+◌, ◌-◌, ◌<◌, ◌≤◌, ◌↔◌, ◌⊎◌, ◌||◌, IsTrue, Bool, true, false, List, slice_index, refl, ⊎_elim, arith}
use Rattle.logos_positions.specs.Core.{Core, Exits, alt, width}
use Rattle.logos_positions.specs.Marks.{Has, IsFirstFrom, IsRising, IsSet}
use Rattle.logos_positions.specs.inside.Stepped.{Stepped}
use Rattle.logos_hir.specs.declared.hir.Look.{Look}
use Rattle.logos_positions.proofs.steps.JumpLemmas.{exits_nothing}
use Rattle.logos_positions.proofs.steps.StepLemmas.{exits_alt}
use Rattle.logos_positions.proofs.steps.SteppedLemmas.{stepped_alt, stepped_nothing}

lt_or_ge : (a b : ℕ) → (a < b) ⊎ (b ≤ a)
lt_or_ge a b = grind arith

or_false : (a : Bool) → a || false ≡ a
or_false true = refl
or_false false = refl

-- no position between two that begin at the same index
pub none_between : (xs : List ℕ) (base w from to : ℕ) → IsFirstFrom xs base from → IsFirstFrom xs (base + w) to → to ≤ from →
    (q : ℕ) → q < w → Has xs (base + q) → ⊥
none_between xs base w from to first last le q lt has =
    let is = has.is in
    ⊎_elim
    (λ low. let under = first.below has.at low in omega (arith, under, is))
    (λ ge. let over = last.above has.at (omega (arith, ge, le)) has.within in omega (arith, over, is, lt))
    (lt_or_ge has.at from)

-- a position between two of which each begins at its index
pub some_between : (xs : List ℕ) (base w from to : ℕ) → IsFirstFrom xs base from → IsFirstFrom xs (base + w) to →
    (q : ℕ) → q < w → Has xs (base + q) → from < to
some_between xs base w from to first last q lt has =
    ⊎_elim (λ low. low)
    (λ le. absurd (none_between xs base w from to first last le q lt has))
    (lt_or_ge from to)

-- all positions of a tree are below `middle`
pub ends_before : (xs : List ℕ) (high middle from to : ℕ) → IsRising xs → IsFirstFrom xs high to → from < to → middle ≤ high →
    slice_index xs (to - 1) < middle → IsFirstFrom xs middle to
ends_before xs high middle from to rising last some le under = record {
  within = last.within;
  below = λ k lt.
      ⊎_elim
      (λ low. let up = rising.rise k (to - 1) low (omega (arith, some, last.within)) in omega (arith, up, under))
      (λ ge. let same : k ≡ to - 1 = omega (arith, ge, lt) in rw same under)
      (lt_or_ge k (to - 1));
  above = λ k ge lt. let over = last.above k ge lt in omega (arith, over, le);
}

-- all positions of a tree are from `middle` on
pub begins_after : (xs : List ℕ) (low middle from : ℕ) → IsRising xs → IsFirstFrom xs low from → low ≤ middle →
    middle ≤ slice_index xs from → IsFirstFrom xs middle from
begins_after xs low middle from rising first le over = record {
  within = first.within;
  below = λ k lt. let under = first.below k lt in omega (arith, under, le);
  above = λ k ge lt.
      ⊎_elim
      (λ after. let up = rising.rise from k after lt in omega (arith, up, over))
      (λ same. let e : k ≡ from = omega (arith, ge, same) in rw e over)
      (lt_or_ge from k);
}

-- a position from `middle` on is not before the first one there
pub back_some : (xs : List ℕ) (middle from to at : ℕ) → IsFirstFrom xs middle at → from < to → middle ≤ slice_index xs (to - 1) → at < to
back_some xs middle from to at first some over =
    ⊎_elim (λ low. low)
    (λ ge. let under = first.below (to - 1) (omega (arith, ge, some)) in absurd (omega (arith, over, under)))
    (lt_or_ge at to)

module _ (test : Look → Bool) (x : ℕ) (marks : List ℕ) (a b : Core) (old new : List ℕ) (base w : ℕ) (is : w ≡ width a) where
  -- the second branch has no position
  pub stepped_first : (to : ℕ) (left : Bool) → IsFirstFrom marks (base + w) to → IsFirstFrom marks (base + (width a + width b)) to →
      Stepped a test x marks old new base false left → Stepped (alt a b) test x marks old new base false left
  stepped_first to left first last s =
      let end : base + (width a + width b) ≡ base + w + width b = omega (arith, is) in
      let set : IsSet new (base + w) = rw is s.set in
      rw (← or_false left)
      (stepped_alt test x marks a b old new new base w false left false is s
      (stepped_nothing test x marks b new (base + w) set (none_between marks (base + w) (width b) to to first (rw end at last) (omega arith))))

  -- the first branch has no position
  pub stepped_second : (from : ℕ) (left : Bool) → IsSet old base → IsFirstFrom marks base from → IsFirstFrom marks (base + w) from →
      Stepped b test x marks old new (base + w) false left → Stepped (alt a b) test x marks old new base false left
  stepped_second from left set first last s =
      stepped_alt test x marks a b old old new base w false false left is
      (stepped_nothing test x marks a old base set (none_between marks base (width a) from from first (rw is at last) (omega arith))) s

module _ (test : Look → Bool) (marks : List ℕ) (a b : Core) (base w : ℕ) (is : w ≡ width a) where
  pub exits_first : (to : ℕ) (left : Bool) → IsFirstFrom marks (base + w) to → IsFirstFrom marks (base + (width a + width b)) to →
      IsTrue left ↔ Exits a test (λ q. Has marks (base + q)) (IsTrue false) → IsTrue left ↔ Exits (alt a b) test (λ q. Has marks (base + q)) (IsTrue false)
  exits_first to left first last f =
      let end : base + (width a + width b) ≡ base + w + width b = omega (arith, is) in
      rw (← or_false left)
      (exits_alt test marks a b base w (IsTrue false) left false is f
      (exits_nothing b test _ (none_between marks (base + w) (width b) to to first (rw end at last) (omega arith))))

  pub exits_second : (from : ℕ) (left : Bool) → IsFirstFrom marks base from → IsFirstFrom marks (base + w) from →
      IsTrue left ↔ Exits b test (λ q. Has marks (base + w + q)) (IsTrue false) → IsTrue left ↔ Exits (alt a b) test (λ q. Has marks (base + q)) (IsTrue false)
  exits_second from left first last f =
      exits_alt test marks a b base w (IsTrue false) false left is
      (exits_nothing a test _ (none_between marks base (width a) from from first (rw is at last) (omega arith))) f
