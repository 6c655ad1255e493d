-- Lists whose numbers ascend.
use Rattle.std.proofs.Common.{◌≡◌, ℕ, ◌+◌, ◌<◌, ◌++◌, Vec, Global, slice_set, List, [], ◌∷◌, length, arith, sym, subst, get_or}
use Rattle.std.proofs.lemmas.List.Elements.{All-append, All-set}
use Rattle.logos_reduce.specs.Lists.{Rises, AreRising}

-- one more number is allowed
pub rising-more : (n : ℕ) (lists : List (Vec ℕ Global)) → AreRising n lists → AreRising (n + 1) lists
rising-more n lists r = record { each = λ b d l. let one = r.each b d l in record { ascending = one.ascending; below = λ k e j. let x = one.below k e j in omega (arith, x) } }

-- one list of them is another one now
pub rising-set : (n b : ℕ) (lists : List (Vec ℕ Global)) (u v : Vec ℕ Global) → b < length lists → u ≡ get_or lists b u →
    (Rises n u.items → Rises n v.items) → AreRising n lists → AreRising n (slice_set lists b v)
rising-set n b lists u v l e keep r = record {
  each = All-set (λ (w : Vec ℕ Global). Rises n w.items) lists b v (keep (subst (λ (w : Vec ℕ Global). Rises n w.items) (sym e) (r.each b u l))) r.each;
}

-- an empty list more
pub rising-push_empty : (lists : List (Vec ℕ Global)) (v : Vec ℕ Global) → v.items ≡ [] → AreRising 0 lists → AreRising 0 (lists ++ v ∷ [])
rising-push_empty lists v e r = record { each = All-append (λ (w : Vec ℕ Global). Rises 0 w.items) lists (v ∷ []) r.each one }
  where
    nothing : Rises 0 []
    nothing = record { ascending = λ k l. absurd (omega arith); below = λ k d l. absurd (omega arith) }

    one : (k : ℕ) (d : Vec ℕ Global) → k < 1 → Rises 0 (get_or (v ∷ []) k d).items
    one k d l = let z : k ≡ 0 = omega arith in rw z (rw e nothing)

-- no list
pub rising-none : AreRising 0 []
rising-none = record { each = λ k d l. absurd (omega arith) }
