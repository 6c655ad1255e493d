-- The joining of the steps of the parts of a pattern.
use Rattle.std.proofs.Common.{◌≡◌, ℕ, zero, suc, ◌+◌, ◌-◌, ◌*◌, ◌<◌, ◌≤◌, ◌↔◌, ◌⊎◌, ◌||◌, Bool, true, false, IsTrue, List, [], ◌∷◌, ◌++◌, refl, sym, ap, ◌∙◌, subst, inl, inr, ⊎_elim, true≢false, arith}
use Rattle.std.proofs.lemmas.Bool.{or_cases, or_left, or_right}
use Rattle.logos_positions.specs.Core.{Core, void, character, empty, byte_in, look, cat, alt, plus, width, Exits, Steps}
use Rattle.logos_positions.specs.Marks.{Has, IsSet}
use Rattle.logos_positions.specs.Repeat.{in_front, at_least}
use Rattle.logos_positions.specs.inside.Stepped.{Stepped, Owes}
use Rattle.logos_hir.specs.declared.hir.Look.{Look}
use Rattle.logos_positions.proofs.steps.PositionLemmas.{Exits-map, Steps-map}
use Rattle.logos_positions.proofs.steps.MarkLemmas.{Has-push, IsSet-push, IsSet-more}
use Rattle.logos_positions.proofs.steps.StepLemmas.{iff_trans, iff_refl, Exits-past, exits_alt}

pub Steps-below : (t : Core) (test : Look → Bool) (x : ℕ) (M : ℕ → Type 0) (d : Type 0) (p : ℕ) → Steps t test x M d p → p < width t
Steps-below void test x M d p h = absurd h
Steps-below empty test x M d p h = absurd h
Steps-below (byte_in c) test x M d p h = omega arith
Steps-below (character l) test x M d p h = omega (arith, h.0)
Steps-below (look l) test x M d p h = absurd h
Steps-below (cat a b) test x M d p h =
    ⊎_elim (λ u. omega (arith, u.0)) (λ u. omega (arith, u.0, Steps-below b test x _ _ (p - width a) u.1)) h
Steps-below (alt a b) test x M d p h =
    ⊎_elim (λ u. omega (arith, u.0)) (λ u. omega (arith, u.0, Steps-below b test x _ _ (p - width a) u.1)) h
Steps-below (plus a) test x M d p h = Steps-below a test x M _ p h

pub Exits-void : (t : Core) (test : Look → Bool) → Exits t test (λ q. ⊥) ⊥ → ⊥
Exits-void void test h = h
Exits-void empty test h = h
Exits-void (byte_in c) test h = h
Exits-void (character l) test h = h
Exits-void (look l) test h = h.0
Exits-void (cat a b) test h = Exits-void b test (Exits-map b test _ _ _ ⊥ (λ q lt u. u) (Exits-void a test) h)
Exits-void (alt a b) test h = ⊎_elim (Exits-void a test) (Exits-void b test) h
Exits-void (plus a) test h = Exits-void a test h

pub Steps-void : (t : Core) (test : Look → Bool) (x p : ℕ) → Steps t test x (λ q. ⊥) ⊥ p → ⊥
Steps-void void test x p h = h
Steps-void empty test x p h = h
Steps-void (byte_in c) test x p h = h.1
Steps-void (character l) test x p h = ⊎_elim (λ u. u.0) (λ u. u.2) h.1
Steps-void (look l) test x p h = h
Steps-void (cat a b) test x p h =
    ⊎_elim (λ u. Steps-void a test x p u.1)
    (λ u. Steps-void b test x (p - width a) (Steps-map b test x _ _ _ ⊥ (p - width a) (λ q lt v. v) (Exits-void a test) u.1)) h
Steps-void (alt a b) test x p h =
    ⊎_elim (λ u. Steps-void a test x p u.1) (λ u. Steps-void b test x (p - width a) u.1) h
Steps-void (plus a) test x p h =
    Steps-void a test x p (Steps-map a test x _ _ _ ⊥ p (λ q lt v. v) (⊎_elim (λ u. u) (Exits-void a test)) h)

pub Steps-iff : (t : Core) (test : Look → Bool) (x : ℕ) (M N : ℕ → Type 0) (d e : Type 0) (p r : ℕ) → p ≡ r →
    ((q : ℕ) → q < width t → M q ↔ N q) → d ↔ e → Steps t test x M d p ↔ Steps t test x N e r
Steps-iff t test x M N d e p r same f g = (
  λ h. subst (Steps t test x N e) same (Steps-map t test x M N d e p (λ q lt. (f q lt).0) g.0 h),
  λ h. Steps-map t test x N M e d p (λ q lt. (f q lt).1) g.1 (subst (Steps t test x N e) (sym same) h),
)

-- a choice of nothing adds no position
Steps-optional : (t : Core) (test : Look → Bool) (x : ℕ) (M : ℕ → Type 0) (d : Type 0) (p : ℕ) →
    Steps (alt t empty) test x M d p ↔ Steps t test x M d p
Steps-optional t test x M d p =
    (λ h. ⊎_elim (λ u. u.1) (λ u. absurd u.1) h, λ h. inl (Steps-below t test x M d p h, h))

or_iff_right : {A B C : Type 0} → B ↔ C → (A ⊎ B) ↔ (A ⊎ C)
or_iff_right f = (λ h. ⊎_elim inl (λ b. inr (f.0 b)) h, λ h. ⊎_elim inl (λ c. inr (f.1 c)) h)

module _ (test : Look → Bool) (x : ℕ) (marks : List ℕ) where
  moved : (i j : ℕ) → i ≡ j → Has marks i ↔ Has marks j
  moved i j e = (subst (Has marks) e, subst (Has marks) (sym e))

  pub stepped_empty : (xs : List ℕ) (base : ℕ) (entered : Bool) → IsSet xs base → Stepped empty test x marks xs xs base entered entered
  stepped_empty xs base entered set = record {
    set = IsSet-more xs base _ (omega arith) set;
    has = λ q. (λ h. inl h, λ h. ⊎_elim (λ u. u) (λ u. absurd u.1) h);
    leaves = iff_refl (IsTrue entered);
  }

  pub stepped_look : (l : Look) (xs : List ℕ) (base : ℕ) (entered left : Bool) → IsSet xs base →
      IsTrue left ↔ (IsTrue entered × (test l ≡ true)) → Stepped (look l) test x marks xs xs base entered left
  stepped_look l xs base entered left set f = record {
    set = IsSet-more xs base _ (omega arith) set;
    has = λ q. (λ h. inl h, λ h. ⊎_elim (λ u. u) (λ u. absurd u.1) h);
    leaves = f;
  }

  -- the byte is read
  pub stepped_byte : (c : ℕ → Bool) (xs : List ℕ) (base : ℕ) (entered left : Bool) → IsSet xs base →
      IsTrue entered → c x ≡ true → IsTrue left ↔ Has marks base → Stepped (byte_in c) test x marks xs (xs ++ base ∷ []) base entered left
  stepped_byte c xs base entered left set enters fits f = record {
    set = IsSet-push xs base set;
    has = λ q. iff_trans (Has-push xs base q) (or_iff_right
        (λ e. (omega arith, (omega arith, enters, fits)), λ u. omega (arith, u.0, u.1.0)));
    leaves = iff_trans f (moved _ _ (omega arith));
  }

  -- the byte is not read
  pub stepped_no_byte : (c : ℕ → Bool) (xs : List ℕ) (base : ℕ) (entered left : Bool) → IsSet xs base →
      (IsTrue entered → c x ≡ true → ⊥) → IsTrue left ↔ Has marks base → Stepped (byte_in c) test x marks xs xs base entered left
  stepped_no_byte c xs base entered left set not f = record {
    set = IsSet-more xs base _ (omega arith) set;
    has = λ q. (λ h. inl h, λ h. ⊎_elim (λ u. u) (λ u. absurd (not u.1.1 u.1.2)) h);
    leaves = iff_trans f (moved _ _ (omega arith));
  }

  -- nothing is marked or entered
  pub stepped_nothing : (t : Core) (xs : List ℕ) (base : ℕ) → IsSet xs base →
      ((q : ℕ) → q < width t → Has marks (base + q) → ⊥) → Stepped t test x marks xs xs base false false
  stepped_nothing t xs base set none =
      let out : IsTrue false → ⊥ = λ e. true≢false (sym e) in
      record {
        set = IsSet-more xs base _ (omega arith) set;
        has = λ q. (
          λ h. inl h,
          λ h. ⊎_elim (λ u. u)
              (λ u. absurd (Steps-void t test x (q - base) (Steps-map t test x _ _ _ ⊥ (q - base) none out u.1))) h,
        );
        leaves = (λ e. absurd (out e), λ h. absurd (Exits-void t test (Exits-map t test _ _ _ ⊥ none out h)));
      }

  module _ (whole : Core) (old : List ℕ) (base : ℕ) (entered : Bool) where
    pub owes_all : IsSet old base → Owes whole whole test x marks old old base base entered entered false
    owes_all set = record {
      placed = refl;
      set = set;
      has = λ q. iff_refl _;
      leaves = (λ h. ⊎_elim (λ e. absurd (true≢false (sym e))) (λ u. u) h, inr);
    }

    -- the first of two parts of the rest is done
    pub owes_cat : (a rest : Core) (mid new : List ℕ) (start w : ℕ) (left next any : Bool) → w ≡ width a →
        Owes whole (cat a rest) test x marks old mid base start entered left any →
        Stepped a test x marks mid new start left next →
        Owes whole rest test x marks old new base (start + w) entered next any
    owes_cat a rest mid new start w left next any is h s =
        let e : start + w ≡ start + width a = ap (λ k. start + k) is in
        record {
          placed = omega (arith, h.placed);
          set = rw e s.set;
          has = λ q. iff_trans
              ((
                λ u. ⊎_elim (λ v. ⊎_elim inl (λ k. inr (k.0, inl (Steps-below a test x _ _ (q - start) k.1, k.1))) ((s.has q).0 v))
                    (λ v. inr (
                      omega (arith, v.0),
                      inr (
                        omega (arith, v.0),
                        (Steps-iff rest test x _ _ _ _ (q - (start + w)) (q - start - width a) (omega (arith, v.0))
                            (λ p lt. moved _ _ (omega arith)) s.leaves).0 v.1,
                      ),
                    )) u,
                λ u. ⊎_elim (λ v. inl ((s.has q).1 (inl v)))
                    (λ v. ⊎_elim (λ k. inl ((s.has q).1 (inr (v.0, k.1))))
                    (λ k. inr (
                      omega (arith, v.0, k.0),
                      (Steps-iff rest test x _ _ _ _ (q - (start + w)) (q - start - width a) (omega (arith, v.0, k.0))
                          (λ p lt. moved _ _ (omega arith)) s.leaves).1 k.1,
                    )) v.1) u,
              ))
              (h.has q);
          leaves = iff_trans (or_iff_right (Exits-past test marks a rest start w (IsTrue left) next is s.leaves)) h.leaves;
        }

    -- the rest may be left out
    pub owes_optional : (rest : Core) (new : List ℕ) (start : ℕ) (left any : Bool) →
        Owes whole (alt rest empty) test x marks old new base start entered left any →
        Owes whole rest test x marks old new base start entered left (any || left)
    owes_optional rest new start left any h = record {
      placed = omega (arith, h.placed);
      set = h.set;
      has = λ q. iff_trans
          (or_iff_right (λ u. (u.0, (Steps-optional rest test x _ _ (q - start)).1 u.1), λ u. (u.0, (Steps-optional rest test x _ _ (q - start)).0 u.1)))
          (h.has q);
      leaves = iff_trans (
        λ u. ⊎_elim (λ v. ⊎_elim inl (λ k. inr (inr k)) (or_cases any left v)) (λ v. inr (inl v)) u,
        λ u. ⊎_elim (λ v. inl (or_left any left v)) (λ v. ⊎_elim inr (λ k. inl (or_right any left k)) v) u,
      )
          h.leaves;
    }

    -- the rest is done
    pub owes_done : (rest : Core) (mid new : List ℕ) (start : ℕ) (left next any : Bool) →
        Owes whole rest test x marks old mid base start entered left any →
        Stepped rest test x marks mid new start left next →
        Stepped whole test x marks old new base entered (any || next)
    owes_done rest mid new start left next any h s = record {
      set = rw (← h.placed) s.set;
      has = λ q. iff_trans (s.has q) (h.has q);
      leaves = iff_trans (
        λ u. ⊎_elim inl (λ v. inr (s.leaves.0 v)) (or_cases any next u),
        λ u. ⊎_elim (or_left any next) (λ v. or_right any next (s.leaves.1 v)) u,
      )
          h.leaves;
    }

  module _ (whole : Core) (old : List ℕ) (base : ℕ) (entered : Bool) (a b : Core) (new : List ℕ) (any : Bool) where
    -- copies that are neither entered nor marked are passed
    owes_pass : (j n start : ℕ) (left : Bool) → (IsTrue left → ⊥) → ((q : ℕ) → q < width a * j → Has marks (start + q) → ⊥) →
        Owes whole (in_front (j + n) a b) test x marks old new base start entered left any →
        Owes whole (in_front n a b) test x marks old new base (start + width a * j) entered left any
    owes_pass zero n start left out none h =
        let e : 0 + n ≡ n = omega arith in
        let f : start + width a * 0 ≡ start = omega arith in
        rw f (rw e at h)
    owes_pass (suc j) n start true out none h = absurd (out refl)
    owes_pass (suc j) n start false out none h =
        let e : suc j + n ≡ suc (j + n) = omega arith in
        let k = rw e at h in
        let g : start + width a * suc j ≡ start + width a + width a * j = omega arith in
        rw g
        (owes_pass j n (start + width a) false out (λ q lt has. none (width a + q) (omega arith) ((moved _ _ (omega arith)).0 has))
        (owes_cat whole old base entered a (in_front (j + n) a b) new new start (width a) false false any refl k
        (stepped_nothing a new start k.set (λ q lt has. none q (omega arith) has))))

    pub owes_skip : (j count start : ℕ) (left : Bool) → j ≤ count → (IsTrue left → j ≡ 0) →
        ((q : ℕ) → q < width a * j → Has marks (start + q) → ⊥) →
        Owes whole (in_front count a b) test x marks old new base start entered left any →
        Owes whole (in_front (count - j) a b) test x marks old new base (start + width a * j) entered left any
    owes_skip j count start true le stays none h =
        let e : j ≡ 0 = stays refl in
        let f : count - j ≡ count = omega arith in
        let g : start + width a * j ≡ start = ap (λ k. start + width a * k) e ∙ zero_on start in
        rw (f, g) h
      where
        zero_on : (s : ℕ) → s + width a * 0 ≡ s
        zero_on s = omega arith
    owes_skip j count start false le stays none h =
        let f : count ≡ j + (count - j) = omega arith in
        owes_pass j (count - j) start false (λ e. true≢false (sym e)) none (rw f at h)

  pub stepped_cat : (a b : Core) (old mid new : List ℕ) (base w : ℕ) (entered left next : Bool) → w ≡ width a → IsSet old base →
      Stepped a test x marks old mid base entered left → Stepped b test x marks mid new (base + w) left next →
      Stepped (cat a b) test x marks old new base entered next
  stepped_cat a b old mid new base w entered left next is set s r =
      owes_done (cat a b) old base entered b mid new (base + w) left next false
      (owes_cat (cat a b) old base entered a b old mid base w entered left false is (owes_all (cat a b) old base entered set) s) r

  pub stepped_alt : (a b : Core) (old mid new : List ℕ) (base w : ℕ) (entered first second : Bool) → w ≡ width a →
      Stepped a test x marks old mid base entered first → Stepped b test x marks mid new (base + w) entered second →
      Stepped (alt a b) test x marks old new base entered (first || second)
  stepped_alt a b old mid new base w entered first second is s r = record {
    set = IsSet-more new _ _ (omega arith) r.set;
    has = λ q. iff_trans (r.has q)
        ((
          λ u. ⊎_elim
              (λ v. ⊎_elim inl (λ k. inr (k.0, inl (Steps-below a test x _ _ (q - base) k.1, k.1))) ((s.has q).0 v))
              (λ v. inr (
                omega (arith, v.0),
                inr (
                  omega (arith, v.0),
                  (Steps-iff b test x _ _ _ _ (q - (base + w)) (q - base - width a) (omega (arith, v.0))
                      (λ p lt. moved _ _ (omega arith)) (iff_refl _)).0 v.1,
                ),
              )) u,
          λ u. ⊎_elim (λ v. inl ((s.has q).1 (inl v)))
              (λ v. ⊎_elim (λ k. inl ((s.has q).1 (inr (v.0, k.1))))
              (λ k. inr (
                omega (arith, v.0, k.0),
                (Steps-iff b test x _ _ _ _ (q - (base + w)) (q - base - width a) (omega (arith, v.0, k.0))
                    (λ p lt. moved _ _ (omega arith)) (iff_refl _)).1 k.1,
              )) v.1) u,
        ));
    leaves = exits_alt test marks a b base w (IsTrue entered) first second is s.leaves r.leaves;
  }

  -- the body of a loop, entered from outside or from its own end
  pub stepped_plus : (a : Core) (old new : List ℕ) (base : ℕ) (entered again left inner : Bool) →
      IsTrue again ↔ (IsTrue entered ⊎ Exits a test (λ p. Has marks (base + p)) ⊥) →
      Stepped a test x marks old new base again inner →
      IsTrue left ↔ Exits a test (λ p. Has marks (base + p)) (IsTrue entered) →
      Stepped (plus a) test x marks old new base entered left
  stepped_plus a old new base entered again left inner f s g = record {
    set = s.set;
    has = λ q. iff_trans (s.has q) (or_iff_right (
      λ u. (u.0, (Steps-iff a test x _ _ _ _ (q - base) (q - base) refl (λ p lt. iff_refl _) f).0 u.1),
      λ u. (u.0, (Steps-iff a test x _ _ _ _ (q - base) (q - base) refl (λ p lt. iff_refl _) f).1 u.1),
    ));
    leaves = g;
  }

pub at_least-some : (min : ℕ) (a : Core) → (min ≡ 0 → ⊥) → at_least min a ≡ in_front (min - 1) a (plus a)
at_least-some zero a some = absurd (some refl)
at_least-some (suc n) a some = let back : n ≡ suc n - 1 = omega arith in ap (λ k. in_front k a (plus a)) back
