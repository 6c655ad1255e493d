-- States are added, and rows of targets are filled.
use Rattle.std.proofs.Common.{◌≡◌, ℕ, zero, suc, ◌+◌, ◌<◌, ◌⊎◌, Bool, true, false, IsTrue, Some, List, [], ◌∷◌, length, slice_index, set, refl, sym, ap, ◌∙◌, subst, ⊎_elim, arith}
use Rattle.std.proofs.lemmas.List.{get_or-set_other}
use Rattle.std.proofs.lemmas.Grind.{get_or-set_at}
use Rattle.logos_automaton.specs.inside.Alike.{AreReadAlike}
use Rattle.logos_positions.specs.Core.{Core}
use Rattle.logos_automaton.specs.Keys.{State, Grows, Extends, LeadsTo, EndsIn, IsAt, IsLast, IsNext, IsRow, ended_state, next_kind, is_start, state_of}
use Rattle.logos_automaton.specs.Rules.{AreFree}
use Rattle.logos_positions.specs.Kinds.{kind_of_byte, test_at}
use Rattle.logos_positions.specs.Several.{ReadBy, LeftBy}
use Rattle.logos_positions.specs.Marks.{Has}
use Rattle.logos_automaton.specs.declared.key.Key.{Key}
use Rattle.logos_positions.proofs.steps.LookLemmas.{test_after}
use Rattle.logos_positions.proofs.steps.StepLemmas.{iff_trans}
use Rattle.logos_automaton.proofs.runs.RunLemmas.{StepsIn-free, ExitsIn-free}

module _ (ts : List Core) (looks : Bool) where
  pub extends_none : (ks : List Key) (n : ℕ) → Extends ts looks ks ks n
  extends_none ks n = record {
    grows = record { keeps = λ i s h. h };
    rising = λ h. h;
    distinct = λ h. h;
    reached = λ h. h;
    longer = omega arith;
    few = omega arith;
  }

  pub extends_both : (a b c : List Key) (m n : ℕ) → Extends ts looks a b m → Extends ts looks b c n → Extends ts looks a c (m + n)
  extends_both a b c m n f g = record {
    grows = record { keeps = λ i s h. g.grows.keeps i s (f.grows.keeps i s h) };
    rising = λ h. g.rising (f.rising h);
    distinct = λ h. g.distinct (f.distinct h);
    reached = λ h. g.reached (f.reached h);
    longer = omega (arith, f.longer, g.longer);
    few = omega (arith, f.few, g.few);
  }

  pub leads_grown : (a b : List Key) (i x j : ℕ) → Grows a b → LeadsTo ts looks a i x j → LeadsTo ts looks b i x j
  leads_grown a b i x j g h = record { from = h.from; to = h.to; from_is = g.keeps i h.from h.from_is; to_is = g.keeps j h.to h.to_is; next = h.next }

  pub ends_grown : (a b : List Key) (i j : ℕ) → Grows a b → EndsIn ts a i j → EndsIn ts b i j
  ends_grown a b i j g h = record { from = h.from; to = h.to; from_is = g.keeps i h.from h.from_is; to_is = g.keeps j h.to h.to_is; last = h.last }

  below_or_same : (a b : ℕ) → a < b + 1 → (a < b) ⊎ (a ≡ b)
  below_or_same a b lt = grind arith

  -- one more target
  pub row_more : (a b : List Key) (i : ℕ) (row : List ℕ) (n target : ℕ) → Grows a b → n < length row → IsRow ts looks a i row n → LeadsTo ts looks b i n target →
      IsRow ts looks b i (set row n target) (n + 1)
  row_more a b i row n target g lt all new x below =
      ⊎_elim
      (λ (l : x < n).
      let other : slice_index (set row n target) x ≡ slice_index row x = get_or-set_other row n x target 0 (λ e. omega (arith, e, l)) in
      rw other (leads_grown a b i x (slice_index row x) g (all x l)))
      (λ (e : x ≡ n).
      let put : slice_index (set row n target) x ≡ target = get_or-set_at row n x target 0 e lt in
      rw put (subst (λ k. LeadsTo ts looks b i k target) (sym e) new))
      (below_or_same x n below)

  same_kind : (positions : List ℕ) (x y : ℕ) → (IsTrue looks → kind_of_byte x ≡ kind_of_byte y) → next_kind looks positions x ≡ next_kind looks positions y
  same_kind positions x y e = go looks e positions
    where
      go : (b : Bool) → (IsTrue b → kind_of_byte x ≡ kind_of_byte y) → (positions : List ℕ) → next_kind b positions x ≡ next_kind b positions y
      go b f [] = refl
      go false f (p ∷ positions) = refl
      go true f (p ∷ positions) = f refl

  module _ (free : looks ≡ false → AreFree ts) where
    -- the assertions that hold matter if there are assertions
    tested_alike : (s next : State) (x y : ℕ) (b : Bool) → looks ≡ b → (IsTrue looks → kind_of_byte x ≡ kind_of_byte y) → IsNext ts looks s x next →
        ReadBy ts (test_at (record { before = s.kind; after = Some y })) x (Has s.positions) (IsTrue (is_start s.kind)) next.positions
        × LeftBy ts (test_at (record { before = s.kind; after = Some y })) (Has s.positions) (IsTrue (is_start s.kind)) next.matches
    tested_alike s next x y true is kinds h = let test = test_after x y (kinds is) s.kind in (rw test at h.positions, rw test at h.matches)
    tested_alike s next x y false is kinds h =
        let f = free is in
        let before = test_at (record { before = s.kind; after = Some x }) in
        let after = test_at (record { before = s.kind; after = Some y }) in
        let entered = IsTrue (is_start s.kind) in (
          record {
            set = h.positions.set;
            has = λ q. (
              λ u. StepsIn-free ts f before after x (Has s.positions) entered q ((h.positions.has q).0 u),
              λ u. (h.positions.has q).1 (StepsIn-free ts f after before x (Has s.positions) entered q u),
            );
          },
          record {
            set = h.matches.set;
            has = λ k. (
              λ u. ExitsIn-free ts k f before after (Has s.positions) entered ((h.matches.has k).0 u),
              λ u. (h.matches.has k).1 (ExitsIn-free ts k f after before (Has s.positions) entered u),
            );
          },
        )

    -- a byte that is not distinguished from another leads to the same state
    next_alike : (s next : State) (x y : ℕ) → AreReadAlike ts (Has s.positions) (IsTrue (is_start s.kind)) x y → (IsTrue looks → kind_of_byte x ≡ kind_of_byte y) → IsNext ts looks s x next → IsNext ts looks s y next
    next_alike s next x y alike e h =
        let tested = tested_alike s next x y looks refl e h in
        record {
          positions = record {
            set = h.positions.set;
            has = λ q. iff_trans (tested.0.has q) (alike _ q);
          };
          matches = tested.1;
          kind = h.kind ∙ same_kind next.positions x y e;
        }

  same_state : (ks : List Key) (i : ℕ) (s r : State) → IsAt ks i s → IsAt ks i r → s ≡ r
  same_state ks i s r a b = sym a.same ∙ ap state_of (some_same (sym a.is ∙ b.is)) ∙ b.same
    where
      some_same : {j k : Key} → Some j ≡ Some k → j ≡ k
      some_same e = cc

  pub leads_alike : (looks ≡ false → AreFree ts) → (ks : List Key) (i x y j : ℕ) (s : State) → IsAt ks i s → AreReadAlike ts (Has s.positions) (IsTrue (is_start s.kind)) x y →
      (IsTrue looks → kind_of_byte x ≡ kind_of_byte y) → LeadsTo ts looks ks i x j → LeadsTo ts looks ks i y j
  leads_alike free ks i x y j s at alike e h =
      let same = same_state ks i s h.from at h.from_is in
      record {
        from = h.from;
        to = h.to;
        from_is = h.from_is;
        to_is = h.to_is;
        next = next_alike free h.from h.to x y (subst (λ (r : State). AreReadAlike ts (Has r.positions) (IsTrue (is_start r.kind)) x y) same alike) e h.next;
      }

-- a number represents one state
pub same_state_at : (ks : List Key) (i : ℕ) (s r : State) → IsAt ks i s → IsAt ks i r → s ≡ r
same_state_at ks i s r a b = sym a.same ∙ ap state_of (some_same (sym a.is ∙ b.is)) ∙ b.same
  where
    some_same : {j k : Key} → Some j ≡ Some k → j ≡ k
    some_same e = cc

-- the first target, by the state that byte 0 leads to
pub at_first : (ks : List Key) (row : List ℕ) (after : ℕ → State) (target : ℕ) → slice_index row 0 ≡ target → IsAt ks target (after 0) → (x : ℕ) → x < 1 → IsAt ks (slice_index row x) (after x)
at_first ks row after target is new zero lt = subst (λ t. IsAt ks t (after 0)) (sym is) new
at_first ks row after target is new (suc x) lt = absurd (omega (arith, lt))

-- one more target, by the state that each byte leads to
pub at_more : (a b : List Key) (row : List ℕ) (after : ℕ → State) (n target : ℕ) → Grows a b → n < length row → ((x : ℕ) → x < n → IsAt a (slice_index row x) (after x)) → IsAt b target (after n) →
    (x : ℕ) → x < n + 1 → IsAt b (slice_index (set row n target) x) (after x)
at_more a b row after n target g lt all new x below =
    ⊎_elim
    (λ (l : x < n).
    let other : slice_index (set row n target) x ≡ slice_index row x = get_or-set_other row n x target 0 (λ e. omega (arith, e, l)) in
    rw other (g.keeps (slice_index row x) (after x) (all x l)))
    (λ (e : x ≡ n).
    let put : slice_index (set row n target) x ≡ target = get_or-set_at row n x target 0 e lt in
    rw put (subst (λ k. IsAt b target (after k)) (sym e) new))
    (below_or_same_at x n below)
  where
    below_or_same_at : (a b : ℕ) → a < b + 1 → (a < b) ⊎ (a ≡ b)
    below_or_same_at a b lt = grind arith

-- without looks, the patterns that match before a byte match before the end
pub last_as_next : (ts : List Core) (looks : Bool) → AreFree ts → (s next made : State) (x : ℕ) → IsNext ts looks s x next → made ≡ ended_state next.matches → IsLast ts s made
last_as_next ts looks free s next made x n e = rw e (record {
  positions = refl;
  matches = record { set = n.matches.set; has = λ k. iff_trans (n.matches.has k) (ExitsIn-free ts k free _ _ _ _, ExitsIn-free ts k free _ _ _ _) };
  kind = refl;
})
