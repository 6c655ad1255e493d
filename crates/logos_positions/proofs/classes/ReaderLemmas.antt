-- The reader of a class reads its characters.
use Rattle.std.proofs.Common.{◌≡◌, ℕ, zero, suc, ◌+◌, ◌-◌, ◌*◌, ◌<◌, ◌≤◌, ◌↔◌, ◌⊎◌, Bool, true≢false, List, [], ◌∷◌, ◌++◌, Option, Some, None, refl, sym, ap, ◌∙◌, subst, inl, inr, ⊎_elim, arith, slice_get}
use Rattle.std.proofs.lemmas.Bool.{cases_lt}
use Rattle.std.proofs.lemmas.Option.{same_Some, none-some, MatchOption-at_some, MatchOption-at_none}
use Rattle.std.specs.Char.{encode_utf8}
use Rattle.logos_positions.specs.inside.Characters.{size, Lead, lead, after_lead, after_byte, After, Reads, IsOpen, IsWhole, IsBegun, IsOfScalars}
use Rattle.logos_positions.specs.Core.{Reader, Occurs}
use Rattle.logos_positions.specs.inside.Reader.{Spells, IsCharAt, IsBegunAt, Same, IsRest, IsShut, IsReaderOf}
use Rattle.logos_positions.proofs.classes.CharacterLemmas.{part_bound, left_bound, lead_middle, Picks-of_After, IsOpenWith, open_of_whole, left_known, Reads-map, chars_are_read, beginnings_are_read}

option_cases : {A : Type 0} (o : Option A) → (o ≡ None) ⊎ ((x : A) × (o ≡ Some x))
option_cases None = inl refl
option_cases (Some x) = inr (x, refl)

-- one more byte, of a character that is begun
abbrev Next : (ℕ → (ℕ → Bool) → Type 0) → ℕ → ℕ → (ℕ → Bool) → Type 0
Next P b zero f = ⊥
Next P b (suc n) f = (0x80 ≤ b) × (b < 0xC0) × P n (after_byte n f b)

After-snoc : (P : ℕ → (ℕ → Bool) → Type 0) (b left : ℕ) (has : ℕ → Bool) (bs : List ℕ) →
    After (Next P b) left has bs → After P left has (bs ++ b ∷ [])
After-snoc P b zero has [] h = h
After-snoc P b (suc n) has [] h = h
After-snoc P b zero has (x ∷ bs) h = h
After-snoc P b (suc n) has (x ∷ bs) h = (h.0, h.1, After-snoc P b n (after_byte n has x) bs h.2)

Reads-snoc : (P : ℕ → (ℕ → Bool) → Type 0) (b : ℕ) (c : ℕ → Bool) (bs : List ℕ) → Reads (Next P b) c bs → Reads P c (bs ++ b ∷ [])
Reads-snoc P b c [] h = absurd h
Reads-snoc P b c (x ∷ bs) h = (h.0, h.1, After-snoc P b h.0.left (after_lead c h.0) bs h.2)

Spells-snoc : (bytes bs : List ℕ) (x i m : ℕ) → Spells bytes bs i m → slice_get bytes m ≡ Some x → Spells bytes (bs ++ x ∷ []) i (suc m)
Spells-snoc bytes [] x i m h is = (subst (λ k. slice_get bytes k ≡ Some x) h is, ap suc h)
Spells-snoc bytes (b ∷ bs) x i m h is = (h.0, Spells-snoc bytes bs x (suc i) m h.1 is)

not_shut : (n : ℕ) (f : ℕ → Bool) → IsShut n f → IsOpen n f → ⊥
not_shut n f s o = true≢false (sym o.2 ∙ s o.0 o.1)

Same-after : (n : ℕ) (f g : ℕ → Bool) (b : ℕ) → n < 3 → b < 0xC0 → 0x80 ≤ b → Same (suc n) f g → Same n (after_byte n f b) (after_byte n g b)
Same-after n f g b small lt ge s = λ o below. s ((b - 0x80) * size n + o) (part_bound n (b - 0x80) o small (omega arith) below)

Open-same : (n : ℕ) (f g : ℕ → Bool) → Same n f g → IsOpen n f → IsOpen n g
Open-same n f g s h = (h.0, h.1, sym (s h.0 h.1) ∙ h.2)

-- a position that leads on is open
open_before : (k n : ℕ) (f : ℕ → Bool) (bs : List ℕ) → n ≤ 3 → After (IsOpenWith k) n f bs → IsOpen n f
open_before k n f bs le h = let p = Picks-of_After k n f bs le h in (p.at, p.below, p.is)

module _ (c : ℕ → Bool) (l : Reader) (is : IsReaderOf c l) (bytes : List ℕ) where
  -- the position represents the remainder
  abbrev For : ℕ → ℕ → (ℕ → Bool) → Type 0
  For p n f = (p ≤ l.others) × IsRest (is.rest p) n f

  first_for : (x p : ℕ) (o : Option Lead) → lead x ≡ o → l.first x ≡ Some p → Reads (For p) c (x ∷ [])
  first_for x p None e f = absurd (none-some p (sym (is.no_first x e) ∙ f))
  first_for x p (Some by) e f = (by, e, MatchOption-at_some _ (λ q. (q ≤ l.others) × IsRest (is.rest q) by.left (after_lead c by)) p f (is.first x by e))

  follow_for : (q x p : ℕ) → l.follow q x ≡ Some p → (n : ℕ) (f : ℕ → Bool) → For q n f → Next (For p) x n f
  follow_for q x p e zero f h = absurd (none-some p (sym (is.past q x h.0 h.1.left) ∙ e))
  follow_for q x p e (suc n) f h =
      ⊎_elim (λ low. absurd (none-some p (sym (is.no_follow q x h.0 (inl low)) ∙ e)))
      (λ ge. ⊎_elim (λ lt.
      let small : n < 3 = omega (arith, is.small q h.0, h.1.left) in
      let to = MatchOption-at_some _ (λ r. (r ≤ l.others) × IsRest (is.rest r) n (after_byte n (is.rest q).has x)) p e
      (is.follow q n x h.0 h.1.left ge lt) in
      let same : Same n (after_byte n (is.rest q).has x) (after_byte n f x) = Same-after n (is.rest q).has f x small lt ge h.1.same in (
        ge,
        lt,
        (
          to.0,
          record {
            left = to.1.left;
            same = λ o below. to.1.same o below ∙ same o below;
            some = Open-same n _ _ same to.1.some;
          },
        ),
      ))
      (λ high. absurd (none-some p (sym (is.no_follow q x h.0 (inr high)) ∙ e)))
      (cases_lt x 0xC0)) (cases_lt x 0x80)

  -- the bytes that were read leave the remainder of the position
  pub Reads-of_Occurs : (i m p : ℕ) → Occurs l bytes i m p → (bs : List ℕ) × Spells bytes bs i m × Reads (For p) c bs
  Reads-of_Occurs i zero p h = absurd h
  Reads-of_Occurs i (suc m) p h =
      ⊎_elim
      (λ u. (h.0 ∷ [], (subst (λ k. slice_get bytes k ≡ Some h.0) (sym u.0) h.1, ap suc (sym u.0)), first_for h.0 p (lead h.0) refl u.1))
      (λ u. let r = Reads-of_Occurs i m u.0 u.2 in (
        r.0 ++ h.0 ∷ [],
        Spells-snoc bytes r.0 h.0 i m r.1 h.1,
        Reads-snoc (For p) h.0 c r.0 (Reads-map (For u.0) (Next (For p) h.0) (follow_for u.0 h.0 p u.3) c r.0 r.2),
      ))
      h.3

  -- the reader is at a position with `k` bytes left
  abbrev OccursWith : ℕ → ℕ → ℕ → Type 0
  OccursWith k i j = (p : ℕ) × (p ≤ l.others) × ((is.rest p).left ≡ k) × Occurs l bytes i j p

  walk : (k i j m q n : ℕ) (f : ℕ → Bool) (bs : List ℕ) → For q n f → Occurs l bytes i m q → Spells bytes bs m j →
      After (IsOpenWith k) n f bs → OccursWith k i j
  walk k i j m q n f [] for at spells h = (q, for.0, for.1.left ∙ h.0, subst (λ e. Occurs l bytes i e q) (sym spells) at)
  walk k i j m q zero f (b ∷ bs) for at spells h = absurd h
  walk k i j m q (suc n) f (b ∷ bs) for at spells h =
      let small : n < 3 = omega (arith, is.small q for.0, for.1.left) in
      let same : Same n (after_byte n (is.rest q).has b) (after_byte n f b) = Same-after n (is.rest q).has f b small h.1 h.0 for.1.same in
      let to = is.follow q n b for.0 for.1.left h.0 h.1 in
      let some = open_before k n (after_byte n f b) bs (omega arith) h.2 in
      ⊎_elim
      (λ e. absurd (not_shut n _ (MatchOption-at_none (IsShut n (after_byte n (is.rest q).has b)) _ e to)
      (Open-same n _ _ (λ o below. sym (same o below)) some)))
      (λ u. let p = u.0 in
      let r = MatchOption-at_some _ (λ r. (r ≤ l.others) × IsRest (is.rest r) n (after_byte n (is.rest q).has b)) p u.1 to in
      walk k i j (suc m) p n (after_byte n f b) bs
      (r.0, record { left = r.1.left; same = λ o below. r.1.same o below ∙ same o below; some = some })
      (b, spells.0, r.0, inr (q, for.0, at, u.1)) spells.1 h.2)
      (option_cases (l.follow q b))

  pub Occurs-of_Reads : (k i j : ℕ) (bs : List ℕ) → Spells bytes bs i j → Reads (IsOpenWith k) c bs → OccursWith k i j
  Occurs-of_Reads k i j [] spells h = absurd h
  Occurs-of_Reads k i j (b ∷ bs) spells h =
      let by = h.0 in
      let to = is.first b by h.1 in
      let some = open_before k by.left (after_lead c by) bs (left_bound b by h.1) h.2 in
      ⊎_elim
      (λ e. absurd (not_shut by.left _ (MatchOption-at_none (IsShut by.left (after_lead c by)) _ e to) some))
      (λ u. let r = MatchOption-at_some _ (λ r. (r ≤ l.others) × IsRest (is.rest r) by.left (after_lead c by)) u.0 u.1 to in
      walk k i j (suc i) u.0 by.left (after_lead c by) bs r (b, spells.0, r.0, inl (refl, u.1)) spells.1 h.2)
      (option_cases (l.first b))

  -- the reader matches the characters of its class
  pub leaf_matches : IsOfScalars c → (i j : ℕ) → Occurs l bytes i j 0 ↔ IsCharAt c bytes i j
  leaf_matches proper i j = (
    λ h. let r = Reads-of_Occurs i j 0 h in
        let w = (chars_are_read c proper r.0).1
        (Reads-map (For 0) IsWhole (λ n f u. whole n f u.1) c r.0 r.2) in
        record { char = w.char; scalar = w.scalar; within = w.within; spelled = subst (λ bs. Spells bytes bs i j) (sym w.spelled) r.1 },
    λ h. let s = Occurs-of_Reads 0 i j (encode_utf8 h.char) h.spelled
        (Reads-map IsWhole (IsOpenWith 0) open_of_whole c (encode_utf8 h.char)
        ((chars_are_read c proper (encode_utf8 h.char)).0 (record { char = h.char; scalar = h.scalar; within = h.within; spelled = refl }))) in
        subst (Occurs l bytes i j) (is.whole s.0 s.1 s.2) s.3,
  )
    where
      whole : (n : ℕ) (f : ℕ → Bool) → IsRest (is.rest 0) n f → IsWhole n f
      whole zero f u = let e : u.some.0 ≡ 0 = omega (arith, u.some.1) in (refl, ap f (sym e) ∙ u.some.2)
      whole (suc n) f u = absurd (omega (arith, u.left, is.end))

  -- the reader is at another position after a prefix of a character of its class
  pub leaf_begins : IsOfScalars c → (i j : ℕ) → ((p : ℕ) × (0 < p) × (p ≤ l.others) × Occurs l bytes i j p) ↔ IsBegunAt c bytes i j
  leaf_begins proper i j = (
    λ h. let r = Reads-of_Occurs i j h.0 h.3 in
        record {
          read = r.0;
          beginning = (beginnings_are_read c proper r.0).1 (Reads-map (For h.0) IsBegun (λ n f u. (begun h.0 n f h.1 h.2 u.1, u.1.some)) c r.0 r.2);
          spelled = r.1;
        },
    λ h. let k = known h.read ((beginnings_are_read c proper h.read).0 h.beginning) in
        let s = Occurs-of_Reads k.0 i j h.read h.spelled k.2 in
        (s.0, other s.0 k.0 s.2 k.1, s.1, s.3),
  )
    where
      begun : (p n : ℕ) (f : ℕ → Bool) → 0 < p → p ≤ l.others → IsRest (is.rest p) n f → 0 < n
      begun p zero f some le u = let e : p ≡ 0 = is.whole p le u.left in omega arith
      begun p (suc n) f some le u = omega arith

      other : (p k : ℕ) → (is.rest p).left ≡ k → 0 < k → 0 < p
      other zero k e some = absurd (omega (arith, e, is.end))
      other (suc p) k e some = omega arith

      known : (bs : List ℕ) → Reads IsBegun c bs → (k : ℕ) × (0 < k) × Reads (IsOpenWith k) c bs
      known [] h = absurd h
      known (b ∷ bs) h = let r = left_known h.0.left (after_lead c h.0) bs h.2 in (r.0, r.1, (h.0, h.1, r.2))

-- no byte both begins a character and continues with one
module _ (c : ℕ → Bool) (l : Reader) (is : IsReaderOf c l) where
  apart : (q x p r : ℕ) → q ≤ l.others → l.follow q x ≡ Some p → l.first x ≡ Some r → ⊥
  apart q x p r le f g =
      ⊎_elim (λ low. none-some p (sym (is.no_follow q x le (inl low)) ∙ f))
      (λ ge. ⊎_elim (λ lt. none-some r (sym (is.no_first x (lead_middle x ge lt)) ∙ g))
      (λ high. none-some p (sym (is.no_follow q x le (inr high)) ∙ f))
      (cases_lt x 0xC0)) (cases_lt x 0x80)

  -- at a point the reader is at one position, and was entered at one
  pub alone : (bytes : List ℕ) (m i j p q : ℕ) → Occurs l bytes i m p → Occurs l bytes j m q → (i ≡ j) × (p ≡ q)
  alone bytes zero i j p q h k = absurd h
  alone bytes (suc m) i j p q h k =
      let x : h.0 ≡ k.0 = same_Some _ _ (sym h.1 ∙ k.1) in
      ⊎_elim
      (λ u. ⊎_elim (λ v. (u.0 ∙ sym v.0, same_Some _ _ (sym u.1 ∙ ap l.first x ∙ v.1)))
      (λ v. absurd (apart v.0 k.0 q p v.1 v.3 (ap l.first (sym x) ∙ u.1))) k.3)
      (λ u. ⊎_elim (λ v. absurd (apart u.0 h.0 p q u.1 u.3 (ap l.first x ∙ v.1)))
      (λ v. let r = alone bytes m i j u.0 v.0 u.2 v.2 in
      (r.0, same_Some _ _ (sym u.3 ∙ ap (λ a. l.follow a h.0) r.1 ∙ ap (l.follow v.0) x ∙ v.3))) k.3)
      h.3
