-- Steps on copies and on literals, with the steps that have not been made.
use Rattle.std.proofs.Common.{◌≡◌, ℕ, zero, suc, ◌+◌, ◌-◌, ◌*◌, ◌<◌, ◌≤◌, ◌||◌, ◌==◌, Bool, true, false, IsTrue, List, length, drop, get_or, drop-cons, add-one, refl, sym, ap, ◌∙◌, subst, arith}
use Rattle.std.proofs.Math.Nat.{mul-le-mul_left}
use Rattle.logos_positions.specs.Core.{Core, byte_in, cat, width}
use Rattle.logos_positions.specs.Marks.{Has}
use Rattle.logos_positions.specs.Repeat.{in_front, up_to, spelled}
use Rattle.logos_positions.specs.inside.Stepped.{Stepped, Owes}
use Rattle.logos_hir.specs.declared.hir.Look.{Look}
use Rattle.logos_positions.proofs.steps.SteppedLemmas.{stepped_nothing, owes_cat, owes_skip, owes_optional}

or_false : (t : Bool) → (t || false) ≡ t
or_false true = refl
or_false false = refl

module _ (test : Look → Bool) (x : ℕ) (marks : List ℕ) (whole : Core) (old : List ℕ) (base : ℕ) (entered : Bool) where
  module _ (a : Core) (w : ℕ) (is : w ≡ width a) where
    -- one copy is done
    pub owes_front_step : (b : Core) (done count : ℕ) (mid new : List ℕ) (left next any : Bool) → done < count →
        Owes whole (in_front (count - done) a b) test x marks old mid base (base + w * done) entered left any →
        Stepped a test x marks mid new (base + w * done) left next →
        Owes whole (in_front (count - (done + 1)) a b) test x marks old new base (base + w * (done + 1)) entered next any
    owes_front_step b done count mid new left next any lt h s =
        let e : count - done ≡ suc (count - (done + 1)) = omega arith in
        let k : base + w * (done + 1) ≡ base + w * done + w = omega arith in
        rw k (owes_cat test x marks whole old base entered a (in_front (count - (done + 1)) a b) mid new (base + w * done) w left next any is (rw e at h) s)

    -- copies that are neither entered nor marked are passed
    pub owes_front_skip : (b : Core) (done next count : ℕ) (new : List ℕ) (left any : Bool) → done ≤ next → next ≤ count → (IsTrue left → next ≡ done) →
        ((q : ℕ) → w * done ≤ q → q < w * next → Has marks (base + q) → ⊥) →
        Owes whole (in_front (count - done) a b) test x marks old new base (base + w * done) entered left any →
        Owes whole (in_front (count - next) a b) test x marks old new base (base + w * next) entered left any
    owes_front_skip b done next count new left any le fits stays none h =
        let e : count - next ≡ count - done - (next - done) = omega arith in
        let f : next ≡ done + (next - done) = omega arith in
        let k : base + w * next ≡ base + w * done + width a * (next - done) =
        ap (λ n. base + w * n) f ∙ split w done (next - done) base ∙ ap (λ n. base + w * done + n * (next - done)) is in
        rw (e, k) (owes_skip test x marks whole old base entered a b new any (next - done) (count - done) (base + w * done) left (omega arith)
        (λ t. let s = stays t in omega arith)
        (λ q lt has. none (w * done + q) (omega arith) (bound q lt) (subst (Has marks) (omega arith) has)) h)
      where
        split : (w d j base : ℕ) → base + w * (d + j) ≡ base + w * d + w * j
        split w d j base = omega arith

        bound : (q : ℕ) → q < width a * (next - done) → w * done + q < w * next
        bound q lt =
            let lt' : q < w * (next - done) = subst (λ n. q < n * (next - done)) (sym is) lt in
            let f : next ≡ done + (next - done) = omega arith in
            let g : w * next ≡ w * done + w * (next - done) = ap (λ n. w * n) f ∙ omega arith in
            omega (arith, g, lt')

    -- a repetition of at most this number of copies
    pub owes_up_to_step : (done count : ℕ) (mid new : List ℕ) (left next any : Bool) → done < count →
        Owes whole (up_to (count - done) a) test x marks old mid base (base + w * done) entered left any →
        Stepped a test x marks mid new (base + w * done) left next →
        Owes whole (up_to (count - (done + 1)) a) test x marks old new base (base + w * (done + 1)) entered next (any || left)
    owes_up_to_step done count mid new left next any lt h s =
        let e : count - done ≡ suc (count - (done + 1)) = omega arith in
        let k : base + w * (done + 1) ≡ base + w * done + w = omega arith in
        rw k (owes_cat test x marks whole old base entered a (up_to (count - (done + 1)) a) mid new (base + w * done) w left next (any || left) is
        (owes_optional test x marks whole old base entered (cat a (up_to (count - (done + 1)) a)) mid (base + w * done) left any (rw e at h)) s)

    owes_up_to_pass : (j done count : ℕ) (new : List ℕ) (any : Bool) → done + j ≤ count →
        ((q : ℕ) → w * done ≤ q → q < w * (done + j) → Has marks (base + q) → ⊥) →
        Owes whole (up_to (count - done) a) test x marks old new base (base + w * done) entered false any →
        Owes whole (up_to (count - (done + j)) a) test x marks old new base (base + w * (done + j)) entered false any
    owes_up_to_pass zero done count new any le none h = let e : done + 0 ≡ done = omega arith in rw e h
    owes_up_to_pass (suc j) done count new any le none h =
        let e : done + suc j ≡ done + 1 + j = omega arith in
        let few : w * (done + 1) ≤ w * (done + suc j) = mul-le-mul_left w (omega arith) in
        let s = stepped_nothing test x marks a new (base + w * done) h.set
        (λ q lt has. none (w * done + q) (omega arith) (omega (arith, few, is)) (subst (Has marks) (omega arith) has)) in
        let one = subst (λ t. Owes whole (up_to (count - (done + 1)) a) test x marks old new base (base + w * (done + 1)) entered false t) (or_false any)
        (owes_up_to_step done count new new false false any (omega arith) h s) in
        rw e (owes_up_to_pass j (done + 1) count new any (omega arith) (λ q lo hi has. none q (omega (arith, lo)) (rw (← e) at hi) has) one)

    pub owes_up_to_skip : (done next count : ℕ) (new : List ℕ) (left any : Bool) → done ≤ next → next ≤ count → (IsTrue left → next ≡ done) →
        ((q : ℕ) → w * done ≤ q → q < w * next → Has marks (base + q) → ⊥) →
        Owes whole (up_to (count - done) a) test x marks old new base (base + w * done) entered left any →
        Owes whole (up_to (count - next) a) test x marks old new base (base + w * next) entered left any
    owes_up_to_skip done next count new true any le fits stays none h = let e : next ≡ done = stays refl in rw e h
    owes_up_to_skip done next count new false any le fits stays none h =
        let e : next ≡ done + (next - done) = omega arith in
        rw e (owes_up_to_pass (next - done) done count new any (omega arith) (rw e at none) h)

  -- one byte of a literal is done
  pub owes_spelled_step : (text : List ℕ) (done : ℕ) (mid new : List ℕ) (left next any : Bool) → done < length text →
      Owes whole (spelled (drop done text)) test x marks old mid base (base + done) entered left any →
      Stepped (byte_in (λ y. y == get_or text done 0)) test x marks mid new (base + done) left next →
      Owes whole (spelled (drop (done + 1) text)) test x marks old new base (base + (done + 1)) entered next any
  owes_spelled_step text done mid new left next any lt h s =
      let e = drop-cons text done 0 lt in
      let k : base + (done + 1) ≡ base + done + 1 = omega arith in
      rw (k, add-one) (owes_cat test x marks whole old base entered (byte_in (λ y. y == get_or text done 0)) (spelled (drop (suc done) text)) mid new
      (base + done) 1 left next any refl (rw e at h) s)

  owes_spelled_pass : (text : List ℕ) (j done : ℕ) (new : List ℕ) (any : Bool) → done + j ≤ length text →
      ((q : ℕ) → done ≤ q → q < done + j → Has marks (base + q) → ⊥) →
      Owes whole (spelled (drop done text)) test x marks old new base (base + done) entered false any →
      Owes whole (spelled (drop (done + j) text)) test x marks old new base (base + (done + j)) entered false any
  owes_spelled_pass text zero done new any le none h = let e : done + 0 ≡ done = omega arith in rw e h
  owes_spelled_pass text (suc j) done new any le none h =
      let e : done + suc j ≡ done + 1 + j = omega arith in
      let s = stepped_nothing test x marks (byte_in (λ y. y == get_or text done 0)) new (base + done) h.set
      (λ q lt has. none (done + q) (omega arith) (omega arith) (subst (Has marks) (omega arith) has)) in
      rw e (owes_spelled_pass text j (done + 1) new any (omega arith) (λ q lo hi has. none q (omega (arith, lo)) (omega (arith, hi)) has)
      (owes_spelled_step text done new new false false any (omega arith) h s))

  pub owes_spelled_skip : (text : List ℕ) (done next : ℕ) (new : List ℕ) (left any : Bool) → done ≤ next → next ≤ length text → (IsTrue left → next ≡ done) →
      ((q : ℕ) → 1 * done ≤ q → q < 1 * next → Has marks (base + q) → ⊥) →
      Owes whole (spelled (drop done text)) test x marks old new base (base + done) entered left any →
      Owes whole (spelled (drop next text)) test x marks old new base (base + next) entered left any
  owes_spelled_skip text done next new true any le fits stays none h = let e : next ≡ done = stays refl in rw e h
  owes_spelled_skip text done next new false any le fits stays none h =
      let e : next ≡ done + (next - done) = omega arith in
      rw e (owes_spelled_pass text (next - done) done new any (omega arith) (λ q lo hi has. none q (omega arith) (omega (arith, hi)) has) h)
