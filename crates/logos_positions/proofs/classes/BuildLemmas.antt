-- The table's leaf is the one for the class.
use Rattle.std.proofs.Common.{◌≡◌, ℕ, suc, ◌+◌, ◌-◌, ◌*◌, ◌/◌, ◌%◌, slice_index_or, ◌<◌, ◌≤◌, ◌⊎◌, Bool, true, false, ◌&&◌, if◌then◌else◌, List, Option, Some, None, length, refl, sym, ap, ◌∙◌, subst, inl, inr, ⊎_elim, nat_le, nat_lt, le-leb, lt-ltb, le-ltb, arith}
use Rattle.std.proofs.lemmas.Bool.{and_from, and_left, and_right, cases_lt}
use Rattle.std.proofs.lemmas.Bool.Decides.{nat_tests}
use Rattle.std.proofs.lemmas.List.{get_or_past}
use Rattle.std.proofs.lemmas.Option.{slice_get_within}
use Rattle.logos_positions.specs.inside.Characters.{Lead, lead, after_lead, after_byte}
use Rattle.logos_positions.specs.inside.Reader.{Remainder, LeadsTo, IsReaderOf}
use Rattle.logos_positions.specs.inside.Ranges.{in_ranges}
use Rattle.logos_positions.specs.Table.{Row, row_of, IsAt, AreRests, Finds, FindsFirst, FindsNext, IsCell, rest_at, rest_of, reader_from}
use Rattle.logos_positions.specs.declared.characters.builder.CharacterRest.{CharacterRest}
use Rattle.logos_positions.proofs.classes.CharacterLemmas.{at_leads}
use Rattle.logos_positions.proofs.classes.TableLemmas.{got_at}

lead_bound : (b : ℕ) (l : Lead) → lead b ≡ Some l → b < 256
lead_bound = at_leads (λ b l. b < 256) (λ b h. omega arith) (λ b g h. omega arith) (λ b g h. omega arith) (λ b g h. omega arith)

continues : (b : ℕ) → 0x80 ≤ b → b < 0xC0 → (nat_le 0x80 b && nat_lt b 0xC0) ≡ true
continues b ge lt = and_from _ _ (le-leb 0x80 b ge) (lt-ltb b 0xC0 lt)

stops : (b : ℕ) → (b < 0x80) ⊎ (0xC0 ≤ b) → (nat_le 0x80 b && nat_lt b 0xC0) ≡ false
stops b (inl h) = and_left _ _ (below b h)
  where
    below : (b : ℕ) → b < 0x80 → nat_le 0x80 b ≡ false
    below b h = grind (arith, nat_tests)
stops b (inr h) = and_right _ _ (le-ltb b 0xC0 h)

cond_at : (t : Bool) (x y : Option ℕ) → t ≡ true → (if t then x else y) ≡ x
cond_at true x y e = refl
cond_at false x y e = cc

cond_off : (t : Bool) (x y : Option ℕ) → t ≡ false → (if t then x else y) ≡ y
cond_off true x y e = cc
cond_off false x y e = refl

module _ (ks : List CharacterRest) where
  rest_is : (q : ℕ) (r : Row) → IsAt ks q r → rest_of ks q ≡ record { left = r.left; has = in_ranges r.offsets }
  rest_is q r at = ap rest_at at.is ∙ ap (λ (s : Row). record { left = s.left; has = in_ranges s.offsets }) at.same

  leads : (n : ℕ) (f : ℕ → Bool) (to : Option ℕ) → Finds ks n f to → LeadsTo (rest_of ks) (length ks - 1) n f to
  leads n f None h = h
  leads n f (Some i) h =
      let lt : i < length ks = slice_get_within ks i h.at.key h.at.is in
      let e = rest_is i h.row h.at in (
        omega arith,
        record {
          left = ap (λ r. r.left) e ∙ h.left;
          same = λ o below. ap (λ r. r.has o) e ∙ h.same o below;
          some = h.some;
        },
      )

  module _ (c : ℕ → Bool) (first follow : List (Option ℕ)) (rests : AreRests ks) (long : length first ≡ 256)
      (firsts : (b : ℕ) → b < 256 → FindsFirst ks c (lead b) (slice_index_or first b None))
      (cells : (j : ℕ) → j < 64 * length ks → IsCell ks follow j) where
    some_rows : 0 < length ks
    some_rows = let at = rests.end.1 in let lt : 0 < length ks = slice_get_within ks 0 at.key at.is in lt

    row_at : (q : ℕ) → q ≤ length ks - 1 → (r : Row) × IsAt ks q r
    row_at q le = let s = some_rows in let k = got_at ks q (omega arith) in (row_of k.0, record { key = k.0; is = k.1; same = refl })

    cell_at : (q b : ℕ) → q ≤ length ks - 1 → 0x80 ≤ b → b < 0xC0 → (r : Row) × IsAt ks q r × FindsNext ks r r.left b (slice_index_or follow (q * 64 + (b - 0x80)) None)
    cell_at q b le ge lt =
        let s = some_rows in
        let k = cells (q * 64 + (b - 0x80)) (omega arith) in
        let d : (q * 64 + (b - 0x80)) / 64 ≡ q = omega arith in
        let m : 0x80 + (q * 64 + (b - 0x80)) % 64 ≡ b = omega arith in (
          k.row,
          subst (λ x. IsAt ks x k.row) d k.at,
          subst (λ x. FindsNext ks k.row k.row.left x (slice_index_or follow (q * 64 + (b - 0x80)) None)) m k.next,
        )

    pub is_reader : IsReaderOf c (reader_from (length ks) first follow)
    is_reader = record {
      rest = rest_of ks;
      small = λ q le. let r = row_at q le in
          subst (λ n. n ≤ 3) (sym (ap (λ x. x.left) (rest_is q r.0 r.1))) (rests.small q r.0 r.1);
      whole = λ q le e. let r = row_at q le in rests.whole q r.0 r.1 (sym (ap (λ x. x.left) (rest_is q r.0 r.1)) ∙ e);
      end = ap (λ x. x.left) (rest_is 0 rests.end.0 rests.end.1) ∙ rests.end.2;
      first = λ b by e. leads by.left (after_lead c by) (slice_index_or first b None)
          (subst (λ l. FindsFirst ks c l (slice_index_or first b None)) e (firsts b (lead_bound b by e)));
      no_first = λ b e. ⊎_elim
          (λ lt. subst (λ l. FindsFirst ks c l (slice_index_or first b None)) e (firsts b lt))
          (λ ge. get_or_past first b None (omega (arith, long)))
          (cases_lt b 256);
      follow = λ q n b le e ge lt.
          let k = cell_at q b le ge lt in
          let r = rest_is q k.0 k.1 in
          let left : k.0.left ≡ suc n = sym (ap (λ x. x.left) r) ∙ e in
          let found = subst (λ m. FindsNext ks k.0 m b (slice_index_or follow (q * 64 + (b - 0x80)) None)) left k.2 in
          subst (LeadsTo (rest_of ks) (length ks - 1) n (after_byte n (rest_of ks q).has b))
          (sym (cond_at _ _ None (continues b ge lt)))
          (subst (λ (x : Remainder). LeadsTo (rest_of ks) (length ks - 1) n (after_byte n x.has b) (slice_index_or follow (q * 64 + (b - 0x80)) None)) (sym r)
          (leads n (after_byte n (in_ranges k.0.offsets) b) (slice_index_or follow (q * 64 + (b - 0x80)) None) found));
      no_follow = λ q b le h. cond_off _ _ None (stops b h);
      past = λ q b le e. ⊎_elim (λ low. cond_off _ _ None (stops b (inl low)))
          (λ ge. ⊎_elim (λ lt.
          let k = cell_at q b le ge lt in
          let left : k.0.left ≡ 0 = sym (ap (λ x. x.left) (rest_is q k.0 k.1)) ∙ e in
          cond_at _ _ None (continues b ge lt) ∙ subst (λ m. FindsNext ks k.0 m b (slice_index_or follow (q * 64 + (b - 0x80)) None)) left k.2)
          (λ high. cond_off _ _ None (stops b (inr high)))
          (cases_lt b 0xC0)) (cases_lt b 0x80);
    }
