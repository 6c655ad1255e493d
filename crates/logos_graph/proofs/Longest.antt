-- The finished graph has the results of maximal munch.
use Rattle.std.proofs.Common.{◌≡◌, ◌↔◌, ℕ, zero, suc, ◌+◌, ◌<◌, ◌≤◌, ◌⊎◌, inl, inr, Bool, true, false, ◌||◌, option_and_then, List, [], ◌∷◌, length, take, drop, Option, Some, None, IsTrue, IsFalse, refl, sym, ◌∙◌, subst, arith, take-append-drop, length-take-le}
use Rattle.std.proofs.lemmas.List.Elements.{All-cons, All-nil, All-drop}
use Rattle.std.proofs.lemmas.Bool.{cases_lt}
use Rattle.logos_hir.specs.Text.{IsBytes}
use Rattle.logos_automaton.specs.Munch.{Rule, RuleMatches, IsBest, NoMatch, Grows, MayStop, Found, ended, matched, failed, Finds}
use Rattle.logos_hir.proofs.tree.Laws.{passes}
use Rattle.logos_hir.proofs.tree.Order.{InOrder, matches_order}
use Rattle.logos_automaton.proofs.munch.Unique.{rule_within, finds_one}
use Rattle.logos_automaton.specs.Faults.{some_passable, AllStart}
use Rattle.logos_graph.specs.inside.Walk.{last_mark, followed, MarksOneByteLate, MayEnd, IsUnmarked, WalkFinds}
use Rattle.logos_graph.proofs.Raw.{BestBelow, FirstOrNone, raw_marks, raw_covers, GrowsUpTo}
use Rattle.logos_graph.proofs.Settled.{AreSettled, Agree, settled_marks, settled_covers}
use Rattle.logos_graph.proofs.Pruned.{IsPruned, pruned_marks, pruned_covers}
use Rattle.logos_graph.proofs.Maps.{IsMap, map_marks, map_followed}
use Rattle.logos_reduce.specs.Edges.{StateType, Edges}

either_false : (a b : Bool) → IsTrue a → (a || b) ≡ false → ⊥
either_false true b t e = cc
either_false false b t e = cc

rest_false : (a b : Bool) → (a || b) ≡ false → b ≡ false
rest_false true b e = absurd (cc)
rest_false false b e = e

-- no rule matches an empty span
pub no_empty_match : (rules : List Rule) (leaf : ℕ) (bytes : List ℕ) (at : ℕ) → at ≤ length bytes → IsFalse (some_passable rules) → RuleMatches rules leaf bytes at at → ⊥
no_empty_match [] leaf bytes at l f m = m
no_empty_match (rule ∷ rules) zero bytes at l f m = either_false _ _ (passes rule.tree bytes at l m) f
no_empty_match (rule ∷ rules) (suc leaf) bytes at l f m = no_empty_match rules leaf bytes at l (rest_false _ _ f) m

rule_order : (rules : List Rule) (leaf : ℕ) (bytes : List ℕ) (from to : ℕ) → RuleMatches rules leaf bytes from to → InOrder (length bytes) from to
rule_order [] leaf bytes from to m = absurd m
rule_order (rule ∷ rules) zero bytes from to m = matches_order rule.tree bytes from to m
rule_order (rule ∷ rules) (suc leaf) bytes from to m = rule_order rules leaf bytes from to m

-- the meaning of the last mark for maximal munch
abbrev Describes : List Rule → List ℕ → ℕ → Option (ℕ × ℕ) → Type 0
Describes rules bytes from None = NoMatch rules bytes from
Describes rules bytes from (Some m) = IsBest rules bytes from m.1 m.0

module _ (rules : List Rule) (start : AllStart rules) (bytes : List ℕ) (from : ℕ) (inside : from ≤ length bytes) where
  describes : (last : Option (ℕ × ℕ)) → BestBelow rules bytes from (length bytes + 1) last → Describes rules bytes from last
  describes None none = λ leaf to l m. let w = rule_within rules leaf bytes from to m inside in none leaf to (omega arith) (omega arith) m
  describes (Some p) best = record {
    nonempty = not_empty (cases_lt from p.1);
    longest = λ other end m. long other end m (cases_lt end from);
    chosen = best.first;
  }
    where
      not_empty : (from < p.1) ⊎ (p.1 ≤ from) → from < p.1
      not_empty (inl l) = l
      not_empty (inr l) =
          let o = best.order in
          let e : p.1 ≡ from = omega arith in
          absurd (no_empty_match rules p.0 bytes from inside start.1 (subst (λ (x : ℕ). RuleMatches rules p.0 bytes from x) e best.first.matches))

      long : (other end : ℕ) → RuleMatches rules other bytes from end → (end < from) ⊎ (from ≤ end) → end ≤ p.1
      long other end m (inl l) = let o = best.order in omega arith
      long other end m (inr l) = let w = rule_within rules other bytes from end m inside in best.longest other end l (omega arith) m

  stated_best : (last : Option (ℕ × ℕ)) → Describes rules bytes from last → (leaf to : ℕ) → (last ≡ Some (leaf, to)) ↔ IsBest rules bytes from to leaf
  stated_best None none leaf to = (λ e. absurd (cc), λ b. absurd (none leaf to b.nonempty b.matches))
  stated_best (Some p) best leaf to = (there, back)
    where
      there : Some p ≡ Some (leaf, to) → IsBest rules bytes from to leaf
      there e =
          let q : p ≡ (leaf, to) = cc in
          subst (λ (x : ℕ × ℕ). IsBest rules bytes from x.1 x.0) q best

      back : IsBest rules bytes from to leaf → Some p ≡ Some (leaf, to)
      back b =
          let e = finds_one rules false bytes from inside (matched p.0 p.1) (matched leaf to) best b in
          let x : p.0 ≡ leaf = cc (e) in
          let y : p.1 ≡ to = cc (e) in
          rw (← x, ← y) refl

  stated_none : (last : Option (ℕ × ℕ)) → Describes rules bytes from last → (last ≡ None) ↔ NoMatch rules bytes from
  stated_none None none = (λ e. none, λ n. refl)
  stated_none (Some p) best = (λ e. absurd (cc), λ n. absurd (n p.0 p.1 best.nonempty best.matches))

module _ (rules : List Rule) (start : AllStart rules) {S : Type 0} (g : Edges S) (root : S) (reads : MarksOneByteLate rules g root) where
  -- the last mark of the automaton is the longest match
  pub raw_describes : (bytes : List ℕ) (from : ℕ) → from ≤ length bytes → IsBytes bytes → Describes rules bytes from (last_mark g root (drop from bytes) from None)
  raw_describes bytes from inside ok =
      let len : length (take from bytes) ≡ from = length-take-le from bytes inside in
      let none : BestBelow rules bytes (length (take from bytes)) from None = λ leaf to o l m. omega arith in
      let zero_more : from ≡ length (take from bytes) + length {A = ℕ} [] = omega arith in
      let b = raw_marks rules start.0 g root reads bytes (take from bytes) (drop from bytes) [] root from None (sym (take-append-drop from bytes)) zero_more (All-nil (λ b. b < 256)) (All-drop (λ b. b < 256) from bytes ok) refl none in
      describes rules start bytes from inside _ (subst (λ (x : ℕ). BestBelow rules bytes x (length bytes + 1) (last_mark g root (drop from bytes) from None)) len b)

  -- the root is not early
  pub late_root : (new : S → StateType) → AreSettled g.next g.at_end g.type_of new → (new root).early ≡ None
  late_root new h = go (new root).early refl
    where
      byte : IsBytes (0 ∷ [])
      byte = All-cons (λ b. b < 256) 0 [] (omega arith) (All-nil (λ b. b < 256))

      go : (e : Option ℕ) → (new root).early ≡ e → e ≡ None
      go None q = refl
      go (Some leaf) q =
          let c = (h.early root leaf q).by_byte 0 (omega arith) in
          let r = reads.by_byte [] 0 byte in
          absurd (finish c.0 c.1 c.2 r.0 r.1 r.2.first)
        where
          finish : (t : S) → g.next root 0 ≡ Some t → (g.type_of t).accept ≡ Some leaf → (u : S) → option_and_then (λ t. Some t) (g.next root 0) ≡ Some u →
              FirstOrNone rules (g.type_of u).accept (0 ∷ []) 0 0 → ⊥
          finish t e a u w first =
              let same : u ≡ t = cc in
              let f : FirstOrNone rules (Some leaf) (0 ∷ []) 0 0 = rw a at (rw same at first) in
              no_empty_match rules leaf (0 ∷ []) 0 (omega arith) start.1 f.matches

module _ (rules : List Rule) (start : AllStart rules) {S T : Type 0}
    (g : Edges S) (root : S) (reads : MarksOneByteLate rules g root)
    (new : S → StateType) (settled : AreSettled g.next g.at_end g.type_of new) (ends : (s t : S) → g.at_end s ≡ Some t → (new t).early ≡ None)
    (h : Edges S) (pruned : IsPruned (record { type_of = new; next = g.next; at_end = g.at_end }) h)
    (IsIn : S → Type 0) (f : S → T) (k : Edges T) (map : IsMap IsIn f h k) (root_in : IsIn root) where
  abbrev early_too : Edges S
  early_too = record { type_of = new; next = g.next; at_end = g.at_end }

  same_marks : (rest : List ℕ) → IsBytes rest → (at : ℕ) → last_mark k (f root) rest at None ≡ last_mark g root rest at None
  same_marks rest ok at =
      map_marks IsIn f h k map rest ok root root_in at None
      ∙ pruned_marks early_too h pruned rest ok root at None
      ∙ sym (settled_marks g.next g.at_end g.type_of new settled ends rest ok root at None None (agree (new root).early (late_root rules start g root reads new settled)))
    where
      agree : (e : Option ℕ) → e ≡ None → Agree e at None None
      agree None q = refl
      agree (Some l) q = absurd (cc)

  same_stop : (rest : List ℕ) → IsBytes rest → (at to : ℕ) → at ≤ to → last_mark k (f root) rest at None ≡ None →
      (at + followed k (f root) rest ≤ to) ↔ GrowsUpTo rules start.0 g root reads [] rest at to
  same_stop rest ok at to l none =
      let marks_h = map_marks IsIn f h k map rest ok root root_in at None in
      let marks_p = pruned_marks early_too h pruned rest ok root at None in
      let none_p : last_mark early_too root rest at None ≡ None = sym marks_p ∙ sym marks_h ∙ none in
      let a = map_followed IsIn f h k map rest ok root root_in in
      let b = pruned_covers early_too h pruned rest ok root at to l none_p in
      let c = settled_covers g.next g.at_end g.type_of new settled ends rest ok root at to none_p in
      let d = raw_covers rules start.0 g root reads rest [] root at to (All-nil (λ b. b < 256)) ok refl in
      (λ x. d.0 (c.1 (b.1 (rw a at x))), λ x. rw a (b.0 (c.0 (d.1 x))))

  module _ (utf8 : Bool) (bytes : List ℕ) (from : ℕ) (ok : IsBytes bytes) where
    rest_ok : IsBytes (drop from bytes)
    rest_ok = All-drop (λ b. b < 256) from bytes ok

    may : (to : ℕ) → last_mark k (f root) (drop from bytes) from None ≡ None → MayEnd k (f root) utf8 bytes from to ↔ MayStop rules utf8 bytes from to
    may to none = (there, back)
      where
        there : MayEnd k (f root) utf8 bytes from to → MayStop rules utf8 bytes from to
        there m =
            let up = (same_stop (drop from bytes) rest_ok from to (let n = m.nonempty in omega arith) none).0 m.covers in
            record { nonempty = m.nonempty; covers = λ n l g. cover n l g up; boundary = m.boundary }
          where
            cover : (n : ℕ) → n ≤ length (drop from bytes) → Grows rules (take n (drop from bytes)) → GrowsUpTo rules start.0 g root reads [] (drop from bytes) from to → from + n ≤ to
            cover zero l g up = let n = m.nonempty in omega arith
            cover (suc n) l g up = up (suc n) (omega arith) l g

        back : MayStop rules utf8 bytes from to → MayEnd k (f root) utf8 bytes from to
        back m = record {
          nonempty = m.nonempty;
          covers = (same_stop (drop from bytes) rest_ok from to (let n = m.nonempty in omega arith) none).1 (λ n some l g. m.covers n l g);
          boundary = m.boundary;
        }

    describes_here : from < length bytes → Describes rules bytes from (last_mark k (f root) (drop from bytes) from None)
    describes_here l = rw (same_marks (drop from bytes) rest_ok from) (raw_describes rules start g root reads bytes from (omega arith) ok)

    pub finds_the_longest : (found : Found) → WalkFinds k (f root) utf8 bytes from found ↔ Finds rules utf8 bytes from found
    finds_the_longest ended = (λ x. x, λ x. x)
    finds_the_longest (matched leaf to) = (there, back)
      where
        there : WalkFinds k (f root) utf8 bytes from (matched leaf to) → IsBest rules bytes from to leaf
        there x = (stated_best rules start bytes from (let l = x.0 in omega arith) _ (describes_here x.0) leaf to).0 x.1

        back : IsBest rules bytes from to leaf → WalkFinds k (f root) utf8 bytes from (matched leaf to)
        back x = go (cases_lt from (length bytes))
          where
            go : (from < length bytes) ⊎ (length bytes ≤ from) → WalkFinds k (f root) utf8 bytes from (matched leaf to)
            go (inl l) = (l, (stated_best rules start bytes from (omega arith) _ (describes_here l) leaf to).1 x)
            go (inr l) = let o = (rule_order rules leaf bytes from to x.matches).1 in let n = x.nonempty in absurd (omega arith)
    finds_the_longest (failed to) = (there, back)
      where
        there : IsUnmarked k (f root) utf8 bytes from to → Finds rules utf8 bytes from (failed to)
        there x = (
          x.starts,
          (stated_none rules start bytes from (let l = x.starts in omega arith) _ (describes_here x.starts)).0 x.unmarked,
          record { may_stop = (may to x.unmarked).0 x.may_end; least = λ other m. x.least other ((may other x.unmarked).1 m) },
        )

        back : Finds rules utf8 bytes from (failed to) → IsUnmarked k (f root) utf8 bytes from to
        back x =
            let none = (stated_none rules start bytes from (let l = x.0 in omega arith) _ (describes_here x.0)).1 x.1 in
            record { starts = x.0; unmarked = none; may_end = (may to none).1 x.2.may_stop; least = λ other m. x.2.least other ((may other none).0 m) }
