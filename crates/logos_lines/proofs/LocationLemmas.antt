-- Positions in the order of their offsets.
use Rattle.std.proofs.Common.{◌≡◌, ◌≢◌, ◌⊎◌, ℕ, zero, suc, ◌+◌, ◌-◌, ◌<◌, ◌≤◌, ◌==◌, if◌then◌else◌, List, [], ◌∷◌, length, get_or, take, Bool, true, false, IsCharBoundary, refl, sym, ap, ◌∙◌, arith, nat_le, nat_lt, ◌&&◌, subst, not, ◌||◌, inl, inr, IsUtf8, ◌++◌, Some}
use Rattle.std.proofs.lemmas.Bool.{cond-true, cond-false, eqb-true, eq-eqb, leb-true, ltb-true, le-leb, ltb-false}
use Rattle.std.proofs.lemmas.List.{get_or_append_left, length-append}
use Rattle.std.proofs.Math.Seq.{get_or-append_seam}
use Rattle.std.proofs.lemmas.Str.{IsCharBoundary-start, IsCharBoundary-after_ascii}
use Rattle.logos_lines.specs.declared.location.Location.{Location}
use Rattle.logos_lines.specs.Locations.{continues, after_byte, after_bytes, location_at}
use Rattle.logos_lines.specs.Starts.{IsStart, IsNoLine, AreStartsTo}
use Rattle.logos_lines.specs.inside.Search.{ends_search, next_column}

abbrev first_location : Location
first_location = record { line = 1; column = 1 }

pub ends : (p : Location) (b : ℕ) → (b == 10) ≡ true → after_byte p b ≡ record { line = p.line + 1; column = 1 }
ends p b e = cond-true _ _ _ e

pub stays : (p : Location) (b : ℕ) → (b == 10) ≡ false → continues b ≡ true → after_byte p b ≡ p
stays p b e c = cond-false _ _ _ e ∙ cond-true _ _ _ c

pub moves : (p : Location) (b : ℕ) → (b == 10) ≡ false → continues b ≡ false → after_byte p b ≡ record { line = p.line; column = p.column + 1 }
moves p b e c = cond-false _ _ _ e ∙ cond-false _ _ _ c

-- a position is not after another one
pub record NotAfter (p q : Location) : Type 0 where
  pub lines : p.line ≤ q.line
  pub columns : p.line ≡ q.line → p.column ≤ q.column

pub NotAfter-trans : (p q r : Location) → NotAfter p q → NotAfter q r → NotAfter p r
NotAfter-trans p q r a b = record {
  lines = omega (arith, a.lines, b.lines);
  columns = λ e. omega (arith, a.columns (omega (arith, a.lines, b.lines, e)), b.columns (omega (arith, a.lines, b.lines, e)));
}

NotAfter-refl : (p : Location) → NotAfter p p
NotAfter-refl p = record { lines = omega arith; columns = λ e. omega arith }

byte_later : (p : Location) (b : ℕ) → NotAfter p (after_byte p b)
byte_later p b = go (b == 10) refl (continues b) refl
  where
    go : (t : Bool) → (b == 10) ≡ t → (s : Bool) → continues b ≡ s → NotAfter p (after_byte p b)
    go true e s f = rw (ends p b e) (record { lines = omega arith; columns = λ k. absurd (omega (arith, k)) })
    go false e true f = rw (stays p b e f) (NotAfter-refl p)
    go false e false f = rw (moves p b e f) (record { lines = omega arith; columns = λ k. omega arith })

-- the bounds of a position
pub record IsBounded (p : Location) (i : ℕ) : Type 0 where
  pub line : p.line ≤ i + 1
  pub column : p.column ≤ i + 1
  pub begins : 1 ≤ p.column
  pub counts : 1 ≤ p.line

byte_bounds : (p : Location) (b n : ℕ) → IsBounded p n → IsBounded (after_byte p b) (n + 1)
byte_bounds p b n h = go (b == 10) refl (continues b) refl
  where
    go : (t : Bool) → (b == 10) ≡ t → (s : Bool) → continues b ≡ s → IsBounded (after_byte p b) (n + 1)
    go true e s f = rw (ends p b e) (record { line = omega (arith, h.line); column = omega arith; begins = omega arith; counts = omega arith })
    go false e true f = rw (stays p b e f) (record { line = omega (arith, h.line); column = omega (arith, h.column); begins = h.begins; counts = h.counts })
    go false e false f = rw (moves p b e f) (record { line = omega (arith, h.line); column = omega (arith, h.column); begins = omega arith; counts = h.counts })

after_next : (p : Location) (text : List ℕ) (i : ℕ) → i < length text → after_bytes p (take (suc i) text) ≡ after_byte (after_bytes p (take i text)) (get_or text i 0)
after_next p [] i l = absurd (omega arith)
after_next p (b ∷ text) zero l = refl
after_next p (b ∷ text) (suc i) l = after_next (after_byte p b) text i (omega arith)

pub location_next : (text : List ℕ) (i : ℕ) → i < length text → location_at text (i + 1) ≡ after_byte (location_at text i) (get_or text i 0)
location_next text i l =
    let e : suc i ≡ i + 1 = omega arith in
    subst (λ k. after_bytes first_location (take k text) ≡ after_byte (after_bytes first_location (take i text)) (get_or text i 0)) e (after_next first_location text i l)

pub bounds : (text : List ℕ) (i : ℕ) → i ≤ length text → IsBounded (location_at text i) i
bounds text zero l = record { line = omega arith; column = omega arith; begins = omega arith; counts = omega arith }
bounds text (suc i) l =
    let e : suc i ≡ i + 1 = omega arith in
    rw (e, location_next text i (omega arith)) (byte_bounds (location_at text i) (get_or text i 0) i (bounds text i (omega arith)))

later_by : (text : List ℕ) (i n : ℕ) → i + n ≤ length text → NotAfter (location_at text i) (location_at text (i + n))
later_by text i zero l = let e : i + 0 ≡ i = omega arith in rw e (NotAfter-refl (location_at text i))
later_by text i (suc n) l =
    let e : i + suc n ≡ i + n + 1 = omega arith in
    rw (e, location_next text (i + n) (omega arith)) (NotAfter-trans _ _ _ (later_by text i n (omega arith)) (byte_later (location_at text (i + n)) (get_or text (i + n) 0)))

pub later : (text : List ℕ) (i j : ℕ) → i ≤ j → j ≤ length text → NotAfter (location_at text i) (location_at text j)
later text i j l h =
    let e : i + (j - i) ≡ j = omega arith in
    subst (λ k. NotAfter (location_at text i) (location_at text k)) e (later_by text i (j - i) (omega arith))

not_continues : (b : ℕ) → (128 ≤ b → 192 ≤ b) → continues b ≡ false
not_continues b h = go (nat_le 128 b) (nat_lt b 192) refl refl
  where
    go : (s t : Bool) → nat_le 128 b ≡ s → nat_lt b 192 ≡ t → continues b ≡ false
    go false t e f = rw e refl
    go true false e f = rw (e, f) refl
    go true true e f = absurd (omega (arith, h (leb-true 128 b e), ltb-true b 192 f))

-- a character begins at a boundary
pub begins_here : (text : List ℕ) (i : ℕ) → IsCharBoundary text i → i < length text → continues (get_or text i 0) ≡ false
begins_here text i b l = not_continues (get_or text i 0) (b.1 l)

-- no later boundary has the position of a boundary
pub never_again : (text : List ℕ) (i j : ℕ) → IsCharBoundary text i → i < j → j ≤ length text → NotAfter (location_at text j) (location_at text i) → ⊥
never_again text i j b l h back = go (get_or text i 0 == 10) refl
  where
    on : NotAfter (after_byte (location_at text i) (get_or text i 0)) (location_at text i)
    on = subst (λ p. NotAfter p (location_at text i)) (location_next text i (omega arith)) (NotAfter-trans _ _ _ (later text (i + 1) j (omega arith) h) back)

    go : (t : Bool) → (get_or text i 0 == 10) ≡ t → ⊥
    go true e = let o = rw (ends (location_at text i) (get_or text i 0) e) at on in omega (arith, o.lines)
    go false e =
        let o = rw (moves (location_at text i) (get_or text i 0) e (begins_here text i b (omega arith))) at on in
        omega (arith, o.columns refl)

same_not_after : (p q : Location) → p ≡ q → NotAfter q p
same_not_after p q e = rw e (NotAfter-refl q)

pub one_location : (text : List ℕ) (i j : ℕ) → IsCharBoundary text i → IsCharBoundary text j → location_at text i ≡ location_at text j → i ≡ j
one_location text i j a b e = go (grind arith)
  where
    go : ((i < j) ⊎ ((j < i) ⊎ (i ≡ j))) → i ≡ j
    go (inl l) = absurd (never_again text i j a l b.0 (same_not_after _ _ e))
    go (inr (inl l)) = absurd (never_again text j i b l a.0 (same_not_after _ _ (sym e)))
    go (inr (inr k)) = k

-- no boundary of a line is in front of its start
pub start_least : (text : List ℕ) (line start o column : ℕ) → IsStart text line start → IsCharBoundary text o → location_at text o ≡ record { line = line; column = column } → start ≤ o
start_least text line start o column s b e = go (grind arith)
  where
    back : NotAfter (location_at text start) (location_at text o)
    back =
        let begins = rw e at (bounds text o b.0) in
        rw (s.location, e) (record { lines = omega arith; columns = λ _. begins.begins })

    go : ((o < start) ⊎ (start ≤ o)) → start ≤ o
    go (inl l) = absurd (never_again text o start b l s.boundary.0 back)
    go (inr l) = l

-- a boundary of a line is not after the LF that ends it
pub line_ends : (text : List ℕ) (at o line reached column : ℕ) → at < length text → (get_or text at 0 == 10) ≡ true → location_at text at ≡ record { line = line; column = reached } →
    o ≤ length text → at < o → location_at text o ≡ record { line = line; column = column } → ⊥
line_ends text at o line reached column l e p h after q =
    let on : NotAfter (location_at text (at + 1)) (location_at text o) = later text (at + 1) o (omega arith) h in
    let next : location_at text (at + 1) ≡ record { line = line + 1; column = 1 } = location_next text at l ∙ ends _ _ e ∙ ap (λ x. record { line = x.line + 1; column = 1 }) p in
    let on = rw (next, q) at on in
    omega (arith, on.lines)

-- a byte that ends no line moves the column alone
pub column_next : (text : List ℕ) (at line reached : ℕ) → at < length text → location_at text at ≡ record { line = line; column = reached } → (get_or text at 0 == 10) ≡ false →
    location_at text (at + 1) ≡ record { line = line; column = next_column (get_or text at 0) reached }
column_next text at line reached l p e = location_next text at l ∙ ap (λ x. after_byte x (get_or text at 0)) p ∙ go (continues (get_or text at 0)) refl
  where
    go : (t : Bool) → continues (get_or text at 0) ≡ t → after_byte (record { line = line; column = reached }) (get_or text at 0) ≡ record { line = line; column = next_column (get_or text at 0) reached }
    go true f = stays _ _ e f ∙ ap (λ n. record { line = line; column = n }) (sym (cond-true _ _ _ f))
    go false f = moves _ _ e f ∙ ap (λ n. record { line = line; column = n }) (sym (cond-false _ _ _ f))

not_lf : (b : ℕ) → continues b ≡ true → (b == 10) ≡ false
not_lf b h = go (b == 10) refl
  where
    go : (t : Bool) → (b == 10) ≡ t → (b == 10) ≡ false
    go false e = e
    go true e = let k = rw (eqb-true b 10 e) at h in absurd cc

bool_true : (x y z : Bool) → (not x && (y || z)) ≡ true → (x ≡ false) × ((y ≡ true) ⊎ (z ≡ true))
bool_true true y z h = absurd cc
bool_true false true z h = (refl, inl refl)
bool_true false false true h = (refl, inr refl)
bool_true false false false h = absurd cc

bool_false : (x y z : Bool) → (not x && (y || z)) ≡ false → x ≡ false → (y ≡ false) × (z ≡ false)
bool_false true y z h e = absurd cc
bool_false false true z h e = absurd cc
bool_false false false true h e = absurd cc
bool_false false false false h e = (refl, refl)

-- the meaning of the end of the search for a column
pub search_ended : (b r c : ℕ) → ends_search b r c ≡ true → (continues b ≡ false) × (((r == c) ≡ true) ⊎ ((b == 10) ≡ true))
search_ended b r c h = bool_true (continues b) (r == c) (b == 10) h

pub not_ended : (b r c : ℕ) → ends_search b r c ≡ false → (b == 10) ≡ false
not_ended b r c h = go (continues b) refl
  where
    go : (t : Bool) → continues b ≡ t → (b == 10) ≡ false
    go true e = not_lf b e
    go false e = (bool_false (continues b) (r == c) (b == 10) h e).1

continues_bounds : (b : ℕ) → continues b ≡ false → 128 ≤ b → 192 ≤ b
continues_bounds b h l = go (nat_lt b 192) refl
  where
    go : (t : Bool) → nat_lt b 192 ≡ t → 192 ≤ b
    go true e = let k = rw (le-leb 128 b l, e) at h in absurd cc
    go false e = ltb-false b 192 e

pub boundary_here : (text : List ℕ) (at r c : ℕ) → at < length text → ends_search (get_or text at 0) r c ≡ true → IsCharBoundary text at
boundary_here text at r c l h = (omega arith, λ _. continues_bounds (get_or text at 0) (search_ended (get_or text at 0) r c h).0)

pub not_here : (text : List ℕ) (at line reached column : ℕ) → at < length text → ends_search (get_or text at 0) reached column ≡ false → IsCharBoundary text at →
    location_at text at ≡ record { line = line; column = reached } → location_at text at ≡ record { line = line; column = column } → ⊥
not_here text at line reached column l h b p q =
    let same : reached ≡ column = ap (λ (x : Location). x.column) (sym p ∙ q) in
    let apart = (bool_false (continues (get_or text at 0)) (reached == column) (get_or text at 0 == 10) h (begins_here text at b l)).0 in
    let test = eq-eqb reached column same in
    absurd cc

-- no text has a position in a line that it has not
pub no_line : (text : List ℕ) (line o column : ℕ) → IsNoLine text line → IsCharBoundary text o → location_at text o ≡ record { line = line; column = column } → ⊥
no_line text line o column (inl e) b p = let k = rw p at (bounds text o b.0) in omega (arith, k.counts, e)
no_line text line o column (inr l) b p = let k = rw p at (later text o (length text) b.0 (omega arith)) in omega (arith, k.lines, l)

pub starts_begin : (text : List ℕ) → IsUtf8 text → AreStartsTo text (0 ∷ []) 0
starts_begin text u = record {
  some = omega arith;
  first = refl;
  every = refl;
  each = λ k l. let e : k ≡ 0 = omega arith in rw e (record { boundary = IsCharBoundary-start text u; location = refl });
}

same_line : (p : Location) (b : ℕ) → (b == 10) ≡ false → (after_byte p b).line ≡ p.line
same_line p b e = go (continues b) refl
  where
    go : (t : Bool) → continues b ≡ t → (after_byte p b).line ≡ p.line
    go true f = ap (λ (x : Location). x.line) (stays p b e f)
    go false f = ap (λ (x : Location). x.line) (moves p b e f)

pub starts_more : (text : List ℕ) → IsUtf8 text → (starts new : List ℕ) (at : ℕ) → at < length text → AreStartsTo text starts at →
    new ≡ (if get_or text at 0 == 10 then starts ++ (at + 1) ∷ [] else starts) → AreStartsTo text new (at + 1)
starts_more text u starts new at l s e = go (get_or text at 0 == 10) refl
  where
    last : get_or text at 0 ≡ 10 → location_at text (at + 1) ≡ record { line = (location_at text at).line + 1; column = 1 }
    last k = location_next text at l ∙ ends _ _ (eq-eqb _ 10 k)

    each : get_or text at 0 ≡ 10 → (k : ℕ) → k < length starts + 1 → IsStart text (k + 1) (get_or (starts ++ (at + 1) ∷ []) k 0)
    each b k h = pick (grind arith)
      where
        pick : ((k < length starts) ⊎ (k ≡ length starts)) → IsStart text (k + 1) (get_or (starts ++ (at + 1) ∷ []) k 0)
        pick (inl i) = rw (get_or_append_left starts ((at + 1) ∷ []) 0 k i) (s.each k i)
        pick (inr i) =
            rw (i, get_or-append_seam starts (at + 1) [] 0)
            (record { boundary = IsCharBoundary-after_ascii text at u l (omega arith); location = last b ∙ ap (λ n. record { line = n + 1; column = 1 }) (sym s.every) })

    go : (t : Bool) → (get_or text at 0 == 10) ≡ t → AreStartsTo text new (at + 1)
    go true t =
        let k = eqb-true _ 10 t in
        let n : new ≡ starts ++ (at + 1) ∷ [] = e ∙ cond-true _ _ _ t in
        let len = length-append starts ((at + 1) ∷ []) in
        rw n (record {
          some = omega (arith, len, s.some);
          first = get_or_append_left starts ((at + 1) ∷ []) 0 0 s.some ∙ s.first;
          every = len ∙ ap (λ m. m + 1) s.every ∙ sym (ap (λ (x : Location). x.line) (last k));
          each = λ i h. each k i (omega (arith, h, len));
        })
    go false t =
        let n : new ≡ starts = e ∙ cond-false _ _ _ t in
        rw n (record {
          some = s.some;
          first = s.first;
          every = s.every ∙ sym (ap (λ (x : Location). x.line) (location_next text at l) ∙ same_line _ _ t);
          each = s.each;
        })

-- a boundary of the column is after an offset at which the search continues
pub further : (text : List ℕ) (at line reached column o : ℕ) → at < length text → ends_search (get_or text at 0) reached column ≡ false →
    location_at text at ≡ record { line = line; column = reached } → at ≤ o → IsCharBoundary text o → location_at text o ≡ record { line = line; column = column } → at + 1 ≤ o
further text at line reached column o l h p le b q = go (grind arith)
  where
    go : ((at < o) ⊎ (at ≡ o)) → at + 1 ≤ o
    go (inl i) = omega arith
    go (inr i) = absurd (not_here text at line reached column l h (rw i b) p (rw i q))

-- where the search ended in its column, the offset is the only one
pub found_once : (text : List ℕ) (at line column o : ℕ) → IsCharBoundary text at → location_at text at ≡ record { line = line; column = column } → IsCharBoundary text o →
    location_at text o ≡ record { line = line; column = column } → Some at ≡ Some o
found_once text at line column o a p b q = ap (λ n. Some n) (one_location text at o a b (p ∙ sym q))

-- where it ended elsewhere, there is none
pub found_never : (text : List ℕ) (at line reached column o : ℕ) → ((at < length text) × (ends_search (get_or text at 0) reached column ≡ true)) ⊎ (length text ≤ at) → reached ≢ column →
    location_at text at ≡ record { line = line; column = reached } → at ≤ o → IsCharBoundary text o → location_at text o ≡ record { line = line; column = column } → ⊥
found_never text at line reached column o way apart p le b q = go way (grind arith)
  where
    same : at ≡ o → ⊥
    same e = apart (ap (λ (x : Location). x.column) (sym p ∙ ap (location_at text) e ∙ q))

    go : ((at < length text) × (ends_search (get_or text at 0) reached column ≡ true)) ⊎ (length text ≤ at) → ((at < o) ⊎ (at ≡ o)) → ⊥
    go way (inr e) = same e
    go (inr l) (inl i) = omega (arith, l, i, b.0)
    go (inl (l, h)) (inl i) = ended (search_ended (get_or text at 0) reached column h).1
      where
        ended : (((reached == column) ≡ true) ⊎ ((get_or text at 0 == 10) ≡ true)) → ⊥
        ended (inl e) = apart (eqb-true reached column e)
        ended (inr e) = line_ends text at o line reached column l e p b.0 i q
