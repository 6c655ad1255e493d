-- The core patterns of parts and of branches.
use Rattle.std.proofs.Common.{◌≡◌, ℕ, suc, ◌+◌, ◌-◌, ◌<◌, ◌≤◌, Bool, true, false, ◌||◌, List, Option, Some, None, option_map, nat_lt, if◌then◌else◌, ◌⊎◌, inl, inr, ⊎_elim, lt-ltb, le-ltb, refl, sym, ap, ◌∙◌, subst, arith}
use Rattle.std.proofs.lemmas.Option.{same_Some}
use Rattle.logos_hir.specs.Tree as tree
use Rattle.logos_hir.specs.Tree.{Tree, Trees, none, also}
use Rattle.logos_hir.specs.Matches.{Matches, MatchesInOrder, SomeMatches}
use Rattle.logos_positions.specs.Core as core
use Rattle.logos_positions.specs.Core.{Core, At, Leaves, width}
use Rattle.logos_positions.specs.Positions.{Position, byte_of, member, within, ReadsInOrder, SomeReads, has_look, some_has_look}
use Rattle.logos_positions.specs.Size.{sizes}
use Rattle.logos_positions.specs.IsCore.{IsCoreOf, IsCoreOfParts, IsCoreOfBranches}
use Rattle.logos_positions.proofs.trees.ReadLemmas.{Reads-start, Reads-from, Reads-below}
use Rattle.logos_positions.proofs.trees.TreesLemmas.{join_trees, count_trees}

-- a position of a part, without the part's number
abbrev inner_number : (Position → Option ℕ) → Position → Option ℕ
inner_number f (byte_of n) = None
inner_number f (member bytes) = None
inner_number f (within n position) = f position

-- the positions below the k-th by the one function, the others by the other one, w higher
abbrev join_number : ℕ → ℕ → (Position → Option ℕ) → (Position → Option ℕ) → Position → Option ℕ
join_number k w f g (byte_of n) = None
join_number k w f g (member bytes) = None
join_number k w f g (within j position) = if nat_lt j k then f (within j position) else option_map (λ q. w + q) (g (within j position))

-- the position lies in the part with this number
record LiesIn (low high : ℕ) (position : Position) : Type 0 where
  pub part : ℕ
  pub inner : Position
  pub is : position ≡ within part inner
  pub above : low ≤ part
  pub below : part < high

left_number : (k w : ℕ) (f g : Position → Option ℕ) (low : ℕ) (position : Position) → LiesIn low k position → join_number k w f g position ≡ f position
left_number k w f g low position l = ap (join_number k w f g) l.is ∙ rw (lt-ltb l.part k l.below) (ap f (sym l.is))

right_number : (k w : ℕ) (f g : Position → Option ℕ) (high : ℕ) (position : Position) → LiesIn k high position →
    join_number k w f g position ≡ option_map (λ q. w + q) (g position)
right_number k w f g high position l =
    ap (join_number k w f g) l.is ∙ rw (le-ltb l.part k l.above) (ap (λ x. option_map (λ q. w + q) (g x)) (sym l.is))

option_cases : (o : Option ℕ) → (o ≡ None) ⊎ ((x : ℕ) × (o ≡ Some x))
option_cases None = inl refl
option_cases (Some x) = inr (x, refl)

-- the number that a sum was made of
shifted : (w p : ℕ) (o : Option ℕ) → option_map (λ q. w + q) o ≡ Some p → (w ≤ p) × (o ≡ Some (p - w))
shifted w p None e = absurd (cc)
shifted w p (Some q) e =
    let f : w + q ≡ p = same_Some (w + q) p e in
    (omega arith, ap Some (omega arith))

parts_lie : (ts : Trees) (n : ℕ) (bytes : List ℕ) (i at : ℕ) (position : Position) → ReadsInOrder ts n bytes i position at → LiesIn n (n + count_trees ts) position
parts_lie none n bytes i at position h = absurd h
parts_lie (also t ts) n bytes i at position (inl h) =
    record { part = n; inner = h.0; is = h.2; above = omega arith; below = omega arith }
parts_lie (also t ts) n bytes i at position (inr h) =
    let l = parts_lie ts (n + 1) bytes h.0 at position h.2 in
    record { part = l.part; inner = l.inner; is = l.is; above = omega (arith, l.above); below = omega (arith, l.below) }

branches_lie : (ts : Trees) (n : ℕ) (bytes : List ℕ) (i at : ℕ) (position : Position) → SomeReads ts n bytes i position at → LiesIn n (n + count_trees ts) position
branches_lie none n bytes i at position h = absurd h
branches_lie (also t ts) n bytes i at position (inl h) =
    record { part = n; inner = h.0; is = h.2; above = omega arith; below = omega arith }
branches_lie (also t ts) n bytes i at position (inr h) =
    let l = branches_lie ts (n + 1) bytes i at position h in
    record { part = l.part; inner = l.inner; is = l.is; above = omega (arith, l.above); below = omega (arith, l.below) }

or_parts : (a b : Bool) → (a || b) ≡ false → (a ≡ false) × (b ≡ false)
or_parts true b e = absurd (cc)
or_parts false b e = (refl, e)

looks_joined : (ts us : Trees) → some_has_look (join_trees ts us) ≡ (some_has_look ts || some_has_look us)
looks_joined none us = refl
looks_joined (also t ts) us = ap (λ b. has_look t || b) (looks_joined ts us) ∙ or_assoc (has_look t) (some_has_look ts) (some_has_look us)
  where
    or_assoc : (a b c : Bool) → (a || (b || c)) ≡ ((a || b) || c)
    or_assoc true b c = refl
    or_assoc false b c = refl

sizes_joined : (ts us : Trees) → sizes (join_trees ts us) ≡ sizes ts + sizes us
sizes_joined none us = omega arith
sizes_joined (also t ts) us = omega (arith, sizes_joined ts us)

-- no part
pub parts_none : (n : ℕ) → IsCoreOfParts none n core.empty
parts_none n = record {
  matches = λ bytes i j. (λ e. sym e, λ e. sym e);
  number = λ position. None;
  reads = λ bytes i at p. (λ h. absurd h, λ h. absurd h.1);
  free = λ e. tt;
  small = omega arith;
}

-- no branch
pub branches_none : (n : ℕ) → IsCoreOfBranches none n core.void
branches_none n = record {
  matches = λ bytes i j. (λ h. h, λ h. h);
  number = λ position. None;
  reads = λ bytes i at p. (λ h. absurd h, λ h. absurd h.1);
  free = λ e. tt;
  small = omega arith;
}

-- one part
pub parts_one : (t : Tree) (c : Core) (n : ℕ) → IsCoreOf t c → IsCoreOfParts (also t none) n c
parts_one t c n h = record {
  matches = λ bytes i j. (
    λ m. (j, (h.matches bytes i j).0 m, refl),
    λ m. (h.matches bytes i j).1 (subst (λ k. Matches t bytes i k) m.2 m.1),
  );
  number = inner_number h.number;
  reads = λ bytes i at p. (
    λ r. let u = (h.reads bytes i at p).0 r in (within n u.0, inl (u.0, u.1, refl), u.2),
    λ u. ⊎_elim (λ v. (h.reads bytes i at p).1 (v.0, v.1, ap (inner_number h.number) (sym v.2) ∙ u.2)) (λ v. absurd v.2) u.1,
  );
  free = λ e. h.free (or_parts _ _ e).0;
  small = let s = h.small in omega arith;
}

-- one branch
pub branches_one : (t : Tree) (c : Core) (n : ℕ) → IsCoreOf t c → IsCoreOfBranches (also t none) n c
branches_one t c n h = record {
  matches = λ bytes i j. (λ m. inl ((h.matches bytes i j).0 m), λ m. ⊎_elim (λ v. (h.matches bytes i j).1 v) (λ v. absurd v) m);
  number = inner_number h.number;
  reads = λ bytes i at p. (
    λ r. let u = (h.reads bytes i at p).0 r in (within n u.0, inl (u.0, u.1, refl), u.2),
    λ u. ⊎_elim (λ v. (h.reads bytes i at p).1 (v.0, v.1, ap (inner_number h.number) (sym v.2) ∙ u.2)) (λ v. absurd v) u.1,
  );
  free = λ e. h.free (or_parts _ _ e).0;
  small = let s = h.small in omega arith;
}

-- matches and reads of parts in two groups
module _ (us : Trees) (bytes : List ℕ) where
  matches_split : (ts : Trees) (i j : ℕ) → MatchesInOrder (join_trees ts us) bytes i j → (cut : ℕ) × MatchesInOrder ts bytes i cut × MatchesInOrder us bytes cut j
  matches_split none i j h = (i, refl, h)
  matches_split (also t ts) i j h = let u = matches_split ts h.0 j h.2 in (u.0, (h.0, h.1, u.1), u.2)

  matches_join : (ts : Trees) (i cut j : ℕ) → MatchesInOrder ts bytes i cut → MatchesInOrder us bytes cut j → MatchesInOrder (join_trees ts us) bytes i j
  matches_join none i cut j e h = subst (λ k. MatchesInOrder us bytes k j) (sym e) h
  matches_join (also t ts) i cut j m h = (m.0, m.1, matches_join ts m.0 cut j m.2 h)

  reads_split : (ts : Trees) (n k i at : ℕ) (position : Position) → k ≡ n + count_trees ts → ReadsInOrder (join_trees ts us) n bytes i position at →
      ReadsInOrder ts n bytes i position at ⊎ ((cut : ℕ) × MatchesInOrder ts bytes i cut × ReadsInOrder us k bytes cut position at)
  reads_split none n k i at position e h = let f : n ≡ k = omega (arith, e) in inr (i, refl, subst (λ x. ReadsInOrder us x bytes i position at) f h)
  reads_split (also t ts) n k i at position e (inl h) = inl (inl h)
  reads_split (also t ts) n k i at position e (inr h) =
      ⊎_elim (λ u. inl (inr (h.0, h.1, u))) (λ u. inr (u.0, (h.0, h.1, u.1), u.2))
      (reads_split ts (n + 1) k h.0 at position (omega (arith, e)) h.2)

  reads_left : (ts : Trees) (n i at : ℕ) (position : Position) → ReadsInOrder ts n bytes i position at → ReadsInOrder (join_trees ts us) n bytes i position at
  reads_left none n i at position h = absurd h
  reads_left (also t ts) n i at position (inl h) = inl h
  reads_left (also t ts) n i at position (inr h) = inr (h.0, h.1, reads_left ts (n + 1) h.0 at position h.2)

  reads_right : (ts : Trees) (n k i cut at : ℕ) (position : Position) → k ≡ n + count_trees ts → MatchesInOrder ts bytes i cut →
      ReadsInOrder us k bytes cut position at → ReadsInOrder (join_trees ts us) n bytes i position at
  reads_right none n k i cut at position e m h =
      let f : k ≡ n = omega (arith, e) in
      subst (λ x. ReadsInOrder us x bytes i position at) f (subst (λ x. ReadsInOrder us k bytes x position at) (sym m) h)
  reads_right (also t ts) n k i cut at position e m h = inr (m.0, m.1, reads_right ts (n + 1) k m.0 cut at position (omega (arith, e)) m.2 h)

  some_split : (ts : Trees) (i j : ℕ) → SomeMatches (join_trees ts us) bytes i j → SomeMatches ts bytes i j ⊎ SomeMatches us bytes i j
  some_split none i j h = inr h
  some_split (also t ts) i j (inl h) = inl (inl h)
  some_split (also t ts) i j (inr h) = ⊎_elim (λ u. inl (inr u)) inr (some_split ts i j h)

  some_left : (ts : Trees) (i j : ℕ) → SomeMatches ts bytes i j → SomeMatches (join_trees ts us) bytes i j
  some_left none i j h = absurd h
  some_left (also t ts) i j (inl h) = inl h
  some_left (also t ts) i j (inr h) = inr (some_left ts i j h)

  some_right : (ts : Trees) (i j : ℕ) → SomeMatches us bytes i j → SomeMatches (join_trees ts us) bytes i j
  some_right none i j h = h
  some_right (also t ts) i j h = inr (some_right ts i j h)

  some_reads_split : (ts : Trees) (n k i at : ℕ) (position : Position) → k ≡ n + count_trees ts → SomeReads (join_trees ts us) n bytes i position at →
      SomeReads ts n bytes i position at ⊎ SomeReads us k bytes i position at
  some_reads_split none n k i at position e h = let f : n ≡ k = omega (arith, e) in inr (subst (λ x. SomeReads us x bytes i position at) f h)
  some_reads_split (also t ts) n k i at position e (inl h) = inl (inl h)
  some_reads_split (also t ts) n k i at position e (inr h) =
      ⊎_elim (λ u. inl (inr u)) inr (some_reads_split ts (n + 1) k i at position (omega (arith, e)) h)

  some_reads_left : (ts : Trees) (n i at : ℕ) (position : Position) → SomeReads ts n bytes i position at → SomeReads (join_trees ts us) n bytes i position at
  some_reads_left none n i at position h = absurd h
  some_reads_left (also t ts) n i at position (inl h) = inl h
  some_reads_left (also t ts) n i at position (inr h) = inr (some_reads_left ts (n + 1) i at position h)

  some_reads_right : (ts : Trees) (n k i at : ℕ) (position : Position) → k ≡ n + count_trees ts →
      SomeReads us k bytes i position at → SomeReads (join_trees ts us) n bytes i position at
  some_reads_right none n k i at position e h = let f : k ≡ n = omega (arith, e) in subst (λ x. SomeReads us x bytes i position at) f h
  some_reads_right (also t ts) n k i at position e h = inr (some_reads_right ts (n + 1) k i at position (omega (arith, e)) h)

-- parts in two groups
pub parts_join : (ts us : Trees) (n k : ℕ) (a b : Core) → k ≡ n + count_trees ts → IsCoreOfParts ts n a → IsCoreOfParts us k b →
    IsCoreOfParts (join_trees ts us) n (core.cat a b)
parts_join ts us n k a b e f g = record {
  matches = λ bytes i j. (
    λ m. matches_join us bytes ts i m.0 j ((f.matches bytes i m.0).0 m.1) ((g.matches bytes m.0 j).0 m.2),
    λ m. let u = matches_split us bytes ts i j m in (u.0, (f.matches bytes i u.0).1 u.1, (g.matches bytes u.0 j).1 u.2),
  );
  number = join_number k (width a) f.number g.number;
  reads = λ bytes i at p. (
    λ r. ⊎_elim
        (λ u. let v = (f.reads bytes i at p).0 u.1 in
        let l = subst (λ x. LiesIn n x v.0) (sym e) (parts_lie ts n bytes i at v.0 v.1) in
        (v.0, reads_left us bytes ts n i at v.0 v.1, left_number k (width a) f.number g.number n v.0 l ∙ v.2))
        (λ u. let s = Reads-start bytes b (Leaves bytes a (At i)) (p - width a) (suc at) u.1 in
        let v = (g.reads bytes s.0 at (p - width a)).0 s.2 in
        let l = parts_lie us k bytes s.0 at v.0 v.1 in
        let m = (f.matches bytes i s.0).0 (subst (λ x. core.Matches bytes a x s.0) s.1.1 s.1.2) in
        let same : width a + (p - width a) ≡ p = omega (arith, u.0) in (
          v.0,
          reads_right us bytes ts n k i s.0 at v.0 e m v.1,
          right_number k (width a) f.number g.number (k + count_trees us) v.0 l ∙ ap (option_map (λ q. width a + q)) v.2 ∙ ap Some same,
        ))
        r,
    λ v. ⊎_elim
        (λ u. let l = subst (λ x. LiesIn n x v.0) (sym e) (parts_lie ts n bytes i at v.0 u) in
        let r = (f.reads bytes i at p).1 (v.0, u, sym (left_number k (width a) f.number g.number n v.0 l) ∙ v.2) in
        inl (Reads-below bytes a (At i) p (suc at) r, r))
        (λ u. let l = parts_lie us k bytes u.0 at v.0 u.2 in
        let s = shifted (width a) p (g.number v.0) (sym (right_number k (width a) f.number g.number (k + count_trees us) v.0 l) ∙ v.2) in
        inr (
          s.0,
          Reads-from bytes b (Leaves bytes a (At i)) u.0 (p - width a) (suc at) (i, refl, (f.matches bytes i u.0).1 u.1)
              ((g.reads bytes u.0 at (p - width a)).1 (v.0, u.2, s.1)),
        ))
        (reads_split us bytes ts n k i at v.0 e v.1),
  );
  free = λ h. let p = or_parts _ _ (sym (looks_joined ts us) ∙ h) in (f.free p.0, g.free p.1);
  small = let x = f.small in let y = g.small in let z = sizes_joined ts us in rw z (omega arith);
}

-- branches in two groups
pub branches_join : (ts us : Trees) (n k : ℕ) (a b : Core) → k ≡ n + count_trees ts → IsCoreOfBranches ts n a → IsCoreOfBranches us k b →
    IsCoreOfBranches (join_trees ts us) n (core.alt a b)
branches_join ts us n k a b e f g = record {
  matches = λ bytes i j. (
    λ m. ⊎_elim (λ u. some_left us bytes ts i j ((f.matches bytes i j).0 u)) (λ u. some_right us bytes ts i j ((g.matches bytes i j).0 u)) m,
    λ m. ⊎_elim (λ u. inl ((f.matches bytes i j).1 u)) (λ u. inr ((g.matches bytes i j).1 u)) (some_split us bytes ts i j m),
  );
  number = join_number k (width a) f.number g.number;
  reads = λ bytes i at p. (
    λ r. ⊎_elim
        (λ u. let v = (f.reads bytes i at p).0 u.1 in
        let l = subst (λ x. LiesIn n x v.0) (sym e) (branches_lie ts n bytes i at v.0 v.1) in
        (v.0, some_reads_left us bytes ts n i at v.0 v.1, left_number k (width a) f.number g.number n v.0 l ∙ v.2))
        (λ u. let v = (g.reads bytes i at (p - width a)).0 u.1 in
        let l = branches_lie us k bytes i at v.0 v.1 in
        let same : width a + (p - width a) ≡ p = omega (arith, u.0) in (
          v.0,
          some_reads_right us bytes ts n k i at v.0 e v.1,
          right_number k (width a) f.number g.number (k + count_trees us) v.0 l ∙ ap (option_map (λ q. width a + q)) v.2 ∙ ap Some same,
        ))
        r,
    λ v. ⊎_elim
        (λ u. let l = subst (λ x. LiesIn n x v.0) (sym e) (branches_lie ts n bytes i at v.0 u) in
        let r = (f.reads bytes i at p).1 (v.0, u, sym (left_number k (width a) f.number g.number n v.0 l) ∙ v.2) in
        inl (Reads-below bytes a (At i) p (suc at) r, r))
        (λ u. let l = branches_lie us k bytes i at v.0 u in
        let s = shifted (width a) p (g.number v.0) (sym (right_number k (width a) f.number g.number (k + count_trees us) v.0 l) ∙ v.2) in
        inr (s.0, (g.reads bytes i at (p - width a)).1 (v.0, u, s.1)))
        (some_reads_split us bytes ts n k i at v.0 e v.1),
  );
  free = λ h. let p = or_parts _ _ (sym (looks_joined ts us) ∙ h) in (f.free p.0, g.free p.1);
  small = let x = f.small in let y = g.small in let z = sizes_joined ts us in rw z (omega arith);
}

-- all parts, and all branches
pub core_concat : (ts : Trees) (c : Core) → IsCoreOfParts ts 0 c → IsCoreOf (tree.concat ts) c
core_concat ts c h = record { matches = h.matches; number = h.number; reads = h.reads; free = h.free; small = h.small }

pub core_alternation : (ts : Trees) (c : Core) → IsCoreOfBranches ts 0 c → IsCoreOf (tree.alternation ts) c
core_alternation ts c h = record { matches = h.matches; number = h.number; reads = h.reads; free = h.free; small = h.small }
