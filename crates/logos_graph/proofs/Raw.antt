-- An automaton that marks one byte late, without reductions: its last mark is the longest match,
-- and its states lead on exactly where the bytes read can still grow.
use Rattle.std.proofs.Common.{◌≡◌, ◌↔◌, ℕ, zero, suc, ◌+◌, ◌<◌, ◌≤◌, ◌⊎◌, inl, inr, List, [], ◌∷◌, ◌++◌, length, take, Option, Some, None, IsSome, IsFalse, MatchOption, refl, sym, ◌∙◌, ap, subst, option_and_then, arith, length-append, append_assoc, append-nil}
use Rattle.std.proofs.lemmas.List.Elements.{All-append, All-cons, All-nil, All-take}
use Rattle.std.proofs.lemmas.Bool.{cases_lt}
use Rattle.logos_hir.specs.Text.{IsBytes}
use Rattle.logos_automaton.specs.Munch.{Rule, RuleMatches, IsFirst, Grows}
use Rattle.logos_automaton.proofs.munch.Window.{rule_within_text}
use Rattle.logos_automaton.specs.Faults.{some_leads}
use Rattle.logos_graph.specs.inside.Walk.{marked, last_mark, Covers, NoneMatches, IsLateMark, MarksOneByteLate}
use Rattle.logos_graph.proofs.Steps.{first_byte, other_bytes}
use Rattle.logos_reduce.specs.Edges.{StateType, IsMarked, Edges, reach, Leads, to_mark, onward, to_end}

abbrev pub FirstOrNone : List Rule → Option ℕ → List ℕ → ℕ → ℕ → Type 0
FirstOrNone rules x bytes from to = MatchOption x (NoneMatches rules bytes from to) (IsFirst rules bytes from to)

-- the longest match from the offset that ends below the limit, if there is one
pub record IsBestBelow (rules : List Rule) (bytes : List ℕ) (from limit leaf to : ℕ) : Type 0 where
  pub order : from ≤ to
  pub below : to < limit
  pub first : IsFirst rules bytes from to leaf
  pub longest : (other end : ℕ) → from ≤ end → end < limit → RuleMatches rules other bytes from end → end ≤ to

abbrev pub BestBelow : List Rule → List ℕ → ℕ → ℕ → Option (ℕ × ℕ) → Type 0
BestBelow rules bytes from limit None = (leaf to : ℕ) → from ≤ to → to < limit → RuleMatches rules leaf bytes from to → ⊥
BestBelow rules bytes from limit (Some m) = IsBestBelow rules bytes from limit m.0 m.1

module _ (rules : List Rule) (bytes : List ℕ) (from at : ℕ) (order : from ≤ at) where
  abbrev MatchesHere : ℕ → ℕ → Type 0
  MatchesHere leaf to = RuleMatches rules leaf bytes from to

  last_slot : (to : ℕ) → to < at + 1 → (to < at) ⊎ (to ≡ at)
  last_slot to l = go (cases_lt to at)
    where
      go : (to < at) ⊎ (at ≤ to) → (to < at) ⊎ (to ≡ at)
      go (inl x) = inl x
      go (inr x) = inr (omega arith)

  best_grows : (x : Option ℕ) (last : Option (ℕ × ℕ)) → FirstOrNone rules x bytes from at → BestBelow rules bytes from at last →
      BestBelow rules bytes from (at + 1) (marked (record { accept = x; early = None }) at last)
  best_grows (Some leaf) last first best = record { order = order; below = omega arith; first = first; longest = λ other end o l m. omega arith }
  best_grows None None none best = λ leaf to o l m. go leaf to o m (last_slot to l)
    where
      go : (leaf to : ℕ) → from ≤ to → MatchesHere leaf to → (to < at) ⊎ (to ≡ at) → ⊥
      go leaf to o m (inl x) = best leaf to o x m
      go leaf to o m (inr x) = none leaf (subst (MatchesHere leaf) x m)
  best_grows None (Some p) none best = record {
    order = best.order;
    below = let b = best.below in omega arith;
    first = best.first;
    longest = λ other end o l m. go other end o m (last_slot end l);
  }
    where
      go : (other end : ℕ) → from ≤ end → MatchesHere other end → (end < at) ⊎ (end ≡ at) → end ≤ p.1
      go other end o m (inl x) = best.longest other end o x m
      go other end o m (inr x) = absurd (none other (subst (MatchesHere other) x m))

-- the matches of a rule do not depend on the bytes around them
first_around : (rules : List Rule) → IsFalse (some_leads rules) → (pre w post : List ℕ) (k : ℕ) → (k < length w) ⊎ ((k ≡ length w) × (post ≡ [])) →
    (x : Option ℕ) → FirstOrNone rules x w 0 k → FirstOrNone rules x (pre ++ (w ++ post)) (length pre) (length pre + k)
first_around rules free pre w post k l None none = λ leaf m. none leaf ((rule_within_text rules leaf pre w post k free l).0 m)
first_around rules free pre w post k l (Some leaf) first = record {
  matches = (rule_within_text rules leaf pre w post k free l).1 first.matches;
  first = λ other d m. first.first other d ((rule_within_text rules other pre w post k free l).0 m);
}

module _ {S : Type 0} (g : Edges S) where
  pub reach-append : (u v : List ℕ) (r : S) → reach g r (u ++ v) ≡ option_and_then (λ s. reach g s v) (reach g r u)
  reach-append [] v r = refl
  reach-append (b ∷ u) v r = go (g.next r b) (reach-append u v)
    where
      go : (o : Option S) → ((r : S) → reach g r (u ++ v) ≡ option_and_then (λ s. reach g s v) (reach g r u)) →
          option_and_then (λ t. reach g t (u ++ v)) o ≡ option_and_then (λ s. reach g s v) (option_and_then (λ t. reach g t u) o)
      go None ih = refl
      go (Some t) ih = ih t

  -- one byte more
  pub reach_next : (u : List ℕ) (b : ℕ) (r s t : S) → reach g r u ≡ Some s → reach g r (u ++ b ∷ []) ≡ Some t → g.next s b ≡ Some t
  reach_next u b r s t e q = go (g.next s b) (rw e at (sym (reach-append u (b ∷ []) r) ∙ q))
    where
      go : (o : Option S) → option_and_then (λ t. Some t) o ≡ Some t → o ≡ Some t
      go None x = absurd (cc)
      go (Some t') x = x

  pub reach_on : (u v : List ℕ) (r s t : S) → reach g r u ≡ Some s → reach g r (u ++ v) ≡ Some t → reach g s v ≡ Some t
  reach_on u v r s t e q = rw e at (sym (reach-append u v r) ∙ q)

module _ (rules : List Rule) (free : IsFalse (some_leads rules)) {S : Type 0} (g : Edges S) (root : S) (reads : MarksOneByteLate rules g root) where
  -- a mark of a type without early mark
  late_mark : (type : StateType) (bytes : List ℕ) (from at : ℕ) (last : Option (ℕ × ℕ)) → from ≤ at → type.early ≡ None → FirstOrNone rules type.accept bytes from at →
      BestBelow rules bytes from at last → BestBelow rules bytes from (at + 1) (marked type at last)
  late_mark type bytes from at last order late first best =
      let e : record { accept = type.accept; early = None } ≡ type = ap (λ x. record { accept = type.accept; early = x }) (sym late) in
      subst (λ (y : StateType). BestBelow rules bytes from (at + 1) (marked y at last)) e (best_grows rules bytes from at order type.accept last first best)

  -- from a state to which bytes lead
  pub raw_marks : (bytes pre v u : List ℕ) (s : S) (at : ℕ) (last : Option (ℕ × ℕ)) → bytes ≡ pre ++ (u ++ v) → at ≡ length pre + length u → IsBytes u → IsBytes v →
      reach g root u ≡ Some s → BestBelow rules bytes (length pre) at last → BestBelow rules bytes (length pre) (length bytes + 1) (last_mark g s v at last)
  raw_marks bytes pre [] u s at last e p ok ok' r best =
      let q = reads.at_end u ok in
      let same : q.0 ≡ s = cc (q.2) in
      let end : g.at_end s ≡ Some q.1 = ap g.at_end (sym same) ∙ q.3 in
      let len : at ≡ length bytes = p ∙ sym (length-append pre u) ∙ ap (λ x. length (pre ++ x)) (sym (append-nil u)) ∙ ap length (sym e) in
      let first : FirstOrNone rules (g.type_of q.1).accept (pre ++ (u ++ [])) (length pre) (length pre + length u) =
      first_around rules free pre u [] (length u) (inr (refl, refl)) (g.type_of q.1).accept q.4.first in
      let first' : FirstOrNone rules (g.type_of q.1).accept bytes (length pre) at = rw (e, p) first in
      rw (end, ← len) (late_mark (g.type_of q.1) bytes (length pre) at last (omega arith) q.4.late first' best)
  raw_marks bytes pre (b ∷ v) u s at last e p ok ok' r best =
      let q = reads.by_byte u b (All-append (λ b. b < 256) u (b ∷ []) ok (All-cons (λ b. b < 256) b [] (first_byte b v ok') (All-nil (λ b. b < 256)))) in
      let next : g.next s b ≡ Some q.0 = reach_next g u b root s q.0 r q.1 in
      let n = length-append u (b ∷ []) in
      let one : length (b ∷ []) ≡ 1 = omega arith in
      let first : FirstOrNone rules (g.type_of q.0).accept (pre ++ ((u ++ b ∷ []) ++ v)) (length pre) (length pre + length u) =
      first_around rules free pre (u ++ b ∷ []) v (length u) (inl (omega arith)) (g.type_of q.0).accept q.2.first in
      let e' : bytes ≡ pre ++ ((u ++ b ∷ []) ++ v) = e ∙ ap (λ x. pre ++ x) (sym (append_assoc u (b ∷ []) v)) in
      let first' : FirstOrNone rules (g.type_of q.0).accept bytes (length pre) at = rw (e', p) first in
      rw next (raw_marks bytes pre v (u ++ b ∷ []) q.0 (at + 1) _ e' (omega arith)
      (All-append (λ b. b < 256) u (b ∷ []) ok (All-cons (λ b. b < 256) b [] (first_byte b v ok') (All-nil (λ b. b < 256)))) (other_bytes b v ok') q.1
      (late_mark (g.type_of q.0) bytes (length pre) at last (omega arith) q.2.late first' best))

module _ {S : Type 0} (g : Edges S) where
  -- a walk to a mark
  leads_by : (v : List ℕ) (b : ℕ) (s t : S) → IsBytes (v ++ b ∷ []) → reach g s (v ++ b ∷ []) ≡ Some t → IsMarked (g.type_of t) → Leads g s
  leads_by [] b s t ok e m = go (g.next s b) refl e
    where
      go : (o : Option S) → g.next s b ≡ o → option_and_then (λ t. Some t) o ≡ Some t → Leads g s
      go None q x = absurd (cc)
      go (Some u) q x = to_mark b (first_byte b [] ok) (q ∙ x) m
  leads_by (c ∷ v) b s t ok e m = go (g.next s c) refl e (λ u. leads_by v b u t (other_bytes c (v ++ b ∷ []) ok))
    where
      go : (o : Option S) → g.next s c ≡ o → option_and_then (λ u. reach g u (v ++ b ∷ [])) o ≡ Some t →
          ((u : S) → reach g u (v ++ b ∷ []) ≡ Some t → IsMarked (g.type_of t) → Leads g u) → Leads g s
      go None q x ih = absurd (cc)
      go (Some u) q x ih = onward c (first_byte c (v ++ b ∷ []) ok) q (ih u x m)

  leads_end : (v : List ℕ) (s q t : S) → IsBytes v → reach g s v ≡ Some q → g.at_end q ≡ Some t → IsMarked (g.type_of t) → Leads g s
  leads_end [] s q t ok e x m = let same : q ≡ s = cc in to_end (ap g.at_end (sym same) ∙ x) m
  leads_end (c ∷ v) s q t ok e x m = go (g.next s c) refl e (λ u. leads_end v u q t (other_bytes c v ok))
    where
      go : (o : Option S) → g.next s c ≡ o → option_and_then (λ u. reach g u v) o ≡ Some q →
          ((u : S) → reach g u v ≡ Some q → g.at_end q ≡ Some t → IsMarked (g.type_of t) → Leads g u) → Leads g s
      go None y z ih = absurd (cc)
      go (Some u) y z ih = onward c (first_byte c v ok) y (ih u z x m)

-- a prefix of bytes that can still grow can still grow
grows_front : (rules : List Rule) (u v : List ℕ) → IsBytes v → Grows rules (u ++ v) → Grows rules u
grows_front rules u v ok h = record {
  more = v ++ h.more;
  after = h.after;
  are_bytes = rw append_assoc (All-append (λ b. b < 256) v (h.more ++ h.after) ok h.are_bytes);
  leaf = h.leaf;
  matches = let e : u ++ (v ++ h.more) ≡ (u ++ v) ++ h.more = sym (append_assoc u v h.more) in
      rw e h.matches;
}

module _ (rules : List Rule) (free : IsFalse (some_leads rules)) {S : Type 0} (g : Edges S) (root : S) (reads : MarksOneByteLate rules g root) where
  first_is_marked : (type : StateType) (bytes : List ℕ) (from to leaf : ℕ) → FirstOrNone rules type.accept bytes from to → RuleMatches rules leaf bytes from to → IsMarked type
  first_is_marked type bytes from to leaf f m = go type.accept f
    where
      go : (x : Option ℕ) → FirstOrNone rules x bytes from to → IsMarked (record { accept = x; early = type.early })
      go None none = absurd (none leaf m)
      go (Some l) first = inr refl

  mark_is_first : (type : StateType) (bytes : List ℕ) (from to : ℕ) → IsLateMark rules type bytes from to → IsMarked type → (leaf : ℕ) × RuleMatches rules leaf bytes from to
  mark_is_first type bytes from to late m = go type.early type.accept late.late late.first m
    where
      go : (e x : Option ℕ) → e ≡ None → FirstOrNone rules x bytes from to → IsSome e ⊎ IsSome x → (leaf : ℕ) × RuleMatches rules leaf bytes from to
      go e (Some l) q first m = (l, first.matches)
      go None None q none (inl m) = absurd (cc)
      go (Some l) None q none (inl m) = absurd (cc)
      go e None q none (inr m) = absurd (cc)

  -- bytes that can still grow lead on
  grows_leads : (u : List ℕ) (s : S) → IsBytes u → reach g root u ≡ Some s → Grows rules u → Leads g s
  grows_leads u s ok r h = go h.after h.are_bytes h.matches
    where
      w : List ℕ
      w = u ++ h.more

      go : (after : List ℕ) → IsBytes (h.more ++ after) → RuleMatches rules h.leaf (u ++ h.more ++ after) 0 (length (u ++ h.more)) → Leads g s
      go [] bytes m =
          let more_ok : IsBytes h.more = rw (append-nil h.more) at bytes in
          let q = reads.at_end (u ++ h.more) (All-append (λ b. b < 256) u h.more ok more_ok) in
          let m' : RuleMatches rules h.leaf (u ++ h.more) 0 (length (u ++ h.more)) = rw (append-nil (u ++ h.more)) at m in
          leads_end g h.more s q.0 q.1 more_ok (reach_on g u h.more root s q.0 r q.2) q.3 (first_is_marked (g.type_of q.1) (u ++ h.more) 0 (length (u ++ h.more)) h.leaf q.4.first m')
      go (b ∷ after) bytes m =
          let assoc : (h.more ++ b ∷ []) ++ after ≡ h.more ++ b ∷ after = append_assoc h.more (b ∷ []) after in
          let all : IsBytes ((h.more ++ b ∷ []) ++ after) = rw assoc bytes in
          let on_ok : IsBytes (h.more ++ b ∷ []) = All-front (h.more ++ b ∷ []) after all in
          let e : (u ++ h.more) ++ b ∷ [] ≡ u ++ (h.more ++ b ∷ []) = append_assoc u h.more (b ∷ []) in
          let read_ok : IsBytes ((u ++ h.more) ++ b ∷ []) = rw e (All-append (λ b. b < 256) u (h.more ++ b ∷ []) ok on_ok) in
          let q = reads.by_byte (u ++ h.more) b read_ok in
          let n = length-append (u ++ h.more) (b ∷ []) in
          let one : length (b ∷ []) ≡ 1 = omega arith in
          let m' : RuleMatches rules h.leaf (((u ++ h.more) ++ b ∷ []) ++ after) 0 (length (u ++ h.more)) = rw (append_assoc (u ++ h.more) (b ∷ []) after) m in
          let z : 0 + length (u ++ h.more) ≡ length (u ++ h.more) = omega arith in
          let here : RuleMatches rules h.leaf ((u ++ h.more) ++ b ∷ []) 0 (length (u ++ h.more)) =
          (rule_within_text rules h.leaf [] ((u ++ h.more) ++ b ∷ []) after (length (u ++ h.more)) free (inl (omega arith))).0 (rw z m') in
          let way : reach g root (u ++ (h.more ++ b ∷ [])) ≡ Some q.0 = ap (reach g root) (sym e) ∙ q.1 in
          leads_by g h.more b s q.0 on_ok (reach_on g u (h.more ++ b ∷ []) root s q.0 r way) (first_is_marked (g.type_of q.0) _ 0 (length (u ++ h.more)) h.leaf q.2.first here)
        where
          All-front : (xs ys : List ℕ) → IsBytes (xs ++ ys) → IsBytes xs
          All-front [] ys h = All-nil (λ b. b < 256)
          All-front (x ∷ xs) ys h = All-cons (λ b. b < 256) x xs (first_byte x (xs ++ ys) h) (All-front xs ys (other_bytes x (xs ++ ys) h))

  one_byte : (b : ℕ) → b < 256 → IsBytes (b ∷ [])
  one_byte b l = All-cons (λ b. b < 256) b [] l (All-nil (λ b. b < 256))

  -- bytes after which there is a way to a mark can still grow
  leads_grows : (u : List ℕ) (s : S) → IsBytes u → reach g root u ≡ Some s → Leads g s → Grows rules u
  leads_grows u s ok r (to_mark {t = t} b l e m) =
      let q = reads.by_byte u b (All-append (λ b. b < 256) u (b ∷ []) ok (one_byte b l)) in
      let same : g.next s b ≡ Some q.0 = reach_next g u b root s q.0 r q.1 in
      let here : t ≡ q.0 = cc in
      let f = mark_is_first (g.type_of q.0) (u ++ b ∷ []) 0 (length u) q.2 (subst (λ x. IsMarked (g.type_of x)) here m) in
      record { more = []; after = b ∷ []; are_bytes = one_byte b l; leaf = f.0; matches = rw (append-nil u) f.1 }
  leads_grows u s ok r (onward {t = t} b l e h) =
      let way : reach g root (u ++ b ∷ []) ≡ Some t = reach-append g u (b ∷ []) root ∙ ap (λ o. option_and_then (λ s. option_and_then (λ t. Some t) (g.next s b)) o) r ∙ ap (λ o. option_and_then (λ t. Some t) o) e in
      grows_front rules u (b ∷ []) (one_byte b l) (leads_grows (u ++ b ∷ []) t (All-append (λ b. b < 256) u (b ∷ []) ok (one_byte b l)) way h)
  leads_grows u s ok r (to_end {t = t} e m) =
      let q = reads.at_end u ok in
      let same : q.0 ≡ s = cc (q.2) in
      let end : g.at_end s ≡ Some q.1 = ap g.at_end (sym same) ∙ q.3 in
      let here : t ≡ q.1 = cc in
      let f = mark_is_first (g.type_of q.1) u 0 (length u) q.4 (subst (λ x. IsMarked (g.type_of x)) here m) in
      record { more = []; after = []; are_bytes = All-nil (λ b. b < 256); leaf = f.0; matches = rw (append-nil u, append-nil u) f.1 }

  -- no beginning of the rest that can still grow goes beyond the offset
  abbrev pub GrowsUpTo : List ℕ → List ℕ → ℕ → ℕ → Type 0
  GrowsUpTo u v at to = (n : ℕ) → 0 < n → n ≤ length v → Grows rules (u ++ take n v) → at + n ≤ to

  pub raw_covers : (v u : List ℕ) (s : S) (at to : ℕ) → IsBytes u → IsBytes v → reach g root u ≡ Some s → Covers g s v at to ↔ GrowsUpTo u v at to
  raw_covers [] u s at to ok ok' r = (λ c n some l h. let z : length {A = ℕ} [] ≡ 0 = refl in absurd (omega arith), λ c. tt)
  raw_covers (b ∷ v) u s at to ok ok' r =
      (λ c. there c (λ t way. raw_covers v (u ++ b ∷ []) t (at + 1) to ok_on (other_bytes b v ok') way), λ c t e l. back c t e l (raw_covers v (u ++ b ∷ []) t (at + 1) to ok_on (other_bytes b v ok') (way_on t e)))
    where
      ok_on : IsBytes (u ++ b ∷ [])
      ok_on = All-append (λ b. b < 256) u (b ∷ []) ok (one_byte b (first_byte b v ok'))

      way_on : (t : S) → g.next s b ≡ Some t → reach g root (u ++ b ∷ []) ≡ Some t
      way_on t e = reach-append g u (b ∷ []) root ∙ ap (λ o. option_and_then (λ s. option_and_then (λ t. Some t) (g.next s b)) o) r ∙ ap (λ o. option_and_then (λ t. Some t) o) e

      regroup : (w : List ℕ) → (u ++ b ∷ []) ++ w ≡ u ++ b ∷ w
      regroup w = append_assoc u (b ∷ []) w

      there : Covers g s (b ∷ v) at to →
          ((t : S) → reach g root (u ++ b ∷ []) ≡ Some t → Covers g t v (at + 1) to ↔ GrowsUpTo (u ++ b ∷ []) v (at + 1) to) → GrowsUpTo u (b ∷ v) at to
      there c ih zero some l h = absurd (omega arith)
      there c ih (suc n) some l h =
          let q = reads.by_byte u b ok_on in
          let e : g.next s b ≡ Some q.0 = reach_next g u b root s q.0 r q.1 in
          let h' : Grows rules ((u ++ b ∷ []) ++ take n v) = rw (regroup (take n v)) h in
          let on : Leads g q.0 = grows_leads (u ++ b ∷ []) q.0 ok_on q.1 (grows_front rules (u ++ b ∷ []) (take n v) (All-take (λ b. b < 256) n v (other_bytes b v ok')) h') in
          let d = c q.0 e on in
          more_there n (omega arith) d.0 (((ih q.0 q.1).0 d.1) n) h'
        where
          more_there : (n : ℕ) → n ≤ length v → at + 1 ≤ to → (0 < n → n ≤ length v → Grows rules ((u ++ b ∷ []) ++ take n v) → at + 1 + n ≤ to) →
              Grows rules ((u ++ b ∷ []) ++ take n v) → at + suc n ≤ to
          more_there zero l d f h = omega arith
          more_there (suc n) l d f h = let x = f (omega arith) l h in omega arith

      back : GrowsUpTo u (b ∷ v) at to → (t : S) → g.next s b ≡ Some t → Leads g t →
          Covers g t v (at + 1) to ↔ GrowsUpTo (u ++ b ∷ []) v (at + 1) to → (at + 1 ≤ to) × Covers g t v (at + 1) to
      back c t e l ih =
          let one : at + 1 ≤ to = c (suc zero) (omega arith) (omega arith) (leads_grows (u ++ b ∷ []) t ok_on (way_on t e) l) in
          (one, ih.1 (λ n some m h. let x : at + suc n ≤ to = c (suc n) (omega arith) (omega arith) (rw (← regroup (take n v)) h) in omega arith))
