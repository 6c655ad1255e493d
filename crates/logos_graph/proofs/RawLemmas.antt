-- The table of an automaton.
use Rattle.std.proofs.Common.{◌≡◌, ℕ, ◌+◌, ◌<◌, ◌≤◌, ◌⊎◌, inl, inr, Bool, true, false, nat_lt, List, [], ◌∷◌, ◌++◌, length, Option, Some, None, IsSome, IfSome, IsSomeAnd, slice_index, if◌then◌else◌, slice_get, option_and_then, refl, sym, ◌∙◌, ap, subst, arith}
use Rattle.std.proofs.lemmas.Bool.{cases_lt}
use Rattle.std.proofs.lemmas.Bool.Decides.{nat_tests}
use Rattle.std.proofs.lemmas.List.{length-map}
use Rattle.std.proofs.lemmas.List.Elements.{All-contains_itself, All-head, All-tail}
use Rattle.std.proofs.lemmas.Option.{slice_get_within, same_Some, get_or_from_slice_get}
use Rattle.std.specs.List.{All}
use Rattle.std.specs.Option.{MatchOption}
use Rattle.logos_hir.specs.Matches.{Matches}
use Rattle.logos_hir.specs.Text.{IsBytes}
use Rattle.logos_pattern.specs.declared.leaf.Leaf.{Leaf}
use Rattle.logos_automaton.specs.Ambiguity.{IsAmbiguous}
use Rattle.logos_graph.specs.inside.First.{first_of, higher}
use Rattle.logos_automaton.specs.Munch.{Rule, RuleMatches, IsFirst, priority_of}
use Rattle.logos_graph.specs.inside.RawTable.{best_with, IsMarkOf, AreRawRows}
use Rattle.logos_automaton.specs.Automaton.{Automaton, dfa_next, dfa_after, dfa_at_end, Lists, IsTotal, ReadsOneByteLate}
use Rattle.logos_graph.specs.View.{rule_of, rules_of}
use Rattle.logos_graph.specs.inside.Walk.{NoneMatches, IsLateMark, MarksOneByteLate}
use Rattle.logos_graph.proofs.Automaton.{late_mark_of}
use Rattle.logos_graph.proofs.Steps.{first_byte, other_bytes}
use Rattle.logos_reduce.specs.Table.{size, to, mark, type_of, edges}
use Rattle.logos_reduce.specs.Raw.{IsRaw, IsReached}
use Rattle.logos_reduce.specs.Edges.{IsMarked, Edges, reach, Leads, to_mark, onward, to_end}
use Rattle.logos_reduce.specs.Rows.{target_by, target_in, AreWide, IsClosed}
use Rattle.logos_reduce.specs.RowsView.{rows_of}
use Rattle.logos_reduce.specs.declared.table.StateMarks.{StateMarks}
use Rattle.logos_reduce.specs.declared.table.Table.{Table}
use Rattle.logos_reduce.proofs.tables.PushLemmas.{pushed, length_pushed}
use Rattle.logos_reduce.proofs.tables.RowLemmas.{symbol_below, source_below}

module _ (rules : List Rule) where
  -- the best leaf in front, with the one after it
  abbrev pub joined : Option ℕ → Option ℕ → Option ℕ
  joined None o = o
  joined (Some best) o = Some (higher rules best o)

  pub joined_none : (o : Option ℕ) → joined o None ≡ o
  joined_none None = refl
  joined_none (Some best) = refl

  tested : (a b : ℕ) → ((nat_lt a b ≡ true) × (a < b)) ⊎ ((nat_lt a b ≡ false) × (b ≤ a))
  tested a b = go (cases_lt a b)
    where
      go : (a < b) ⊎ (b ≤ a) → ((nat_lt a b ≡ true) × (a < b)) ⊎ ((nat_lt a b ≡ false) × (b ≤ a))
      go (inl l) = inl (grind (arith, nat_tests), l)
      go (inr l) = inr (grind (arith, nat_tests), l)

  higher_joins : (b x : ℕ) (r : Option ℕ) → higher rules (higher rules b (Some x)) r ≡ higher rules b (Some (higher rules x r))
  higher_joins b x None = refl
  higher_joins b x (Some c) = go (tested (priority_of rules b) (priority_of rules x)) (tested (priority_of rules x) (priority_of rules c)) (tested (priority_of rules b) (priority_of rules c))
    where
      Tested : ℕ → ℕ → Type 0
      Tested m n = ((nat_lt (priority_of rules m) (priority_of rules n) ≡ true) × (priority_of rules m < priority_of rules n))
          ⊎ ((nat_lt (priority_of rules m) (priority_of rules n) ≡ false) × (priority_of rules n ≤ priority_of rules m))

      go : Tested b x → Tested x c → Tested b c → higher rules (higher rules b (Some x)) (Some c) ≡ higher rules b (Some (higher rules x (Some c)))
      go (inl p) (inl q) (inl r) = rw (p.0, q.0, r.0) refl
      go (inl p) (inl q) (inr r) = absurd (omega (arith, p.1, q.1, r.1))
      go (inl p) (inr q) r = rw (p.0, q.0, p.0) refl
      go (inr p) (inl q) (inl r) = rw (p.0, q.0, r.0) refl
      go (inr p) (inl q) (inr r) = rw (p.0, q.0, r.0) refl
      go (inr p) (inr q) (inl r) = absurd (omega (arith, p.1, q.1, r.1))
      go (inr p) (inr q) (inr r) = rw (p.0, q.0, r.0, p.0) refl

  pub joins : (leaves : ℕ) (best : Option ℕ) (x : ℕ) (r : Option ℕ) → joined (Some (best_with rules leaves best x)) r ≡ joined best (Some (higher rules x r))
  joins leaves None x r = refl
  joins leaves (Some b) x r = ap Some (higher_joins b x r)

-- a property of all listed holds of the first by priority
pub first_too : (rules : List Rule) (P : ℕ → Type 0) (leaves : List ℕ) → All P leaves → IfSome (first_of rules leaves) P
first_too rules P [] all = tt
first_too rules P (x ∷ leaves) all = go (first_of rules leaves) (All-head P x leaves all) (first_too rules P leaves (All-tail P x leaves all))
  where
    pick : (best : ℕ) (b : Bool) → P x → P best → P (if b then best else x)
    pick best true here there = there
    pick best false here there = here

    go : (o : Option ℕ) → P x → IfSome o P → P (higher rules x o)
    go None here rest = here
    go (Some best) here rest = pick best (nat_lt (priority_of rules x) (priority_of rules best)) here rest

-- a first leaf that is not among this number of leaves
pub not_among : (rules : List Rule) (leaves leaf : ℕ) (listed : List ℕ) → first_of rules listed ≡ Some leaf → leaves ≤ leaf → All (λ leaf. leaf < leaves) listed → ⊥
not_among rules leaves leaf listed e l all = let w = rw e at (first_too rules (λ leaf. leaf < leaves) listed all) in omega (arith, w, l)

-- the rows of the automaton
module _ (dfa : Automaton) (total : IsTotal dfa) where
  pub row_target : (s k : ℕ) (row : List ℕ) → s < length dfa.matches → slice_get dfa.by_byte s ≡ Some row → k < 256 → (slice_index row k < length dfa.matches) × (dfa_next dfa (Some s) k ≡ Some (slice_index row k))
  row_target s k row l at m =
      let n = total.next s k l m in
      let e : dfa_next dfa (Some s) k ≡ slice_get row k = ap (option_and_then (λ row. slice_get row k)) at in
      let q : slice_index row k ≡ n.0 = get_or_from_slice_get row k n.0 0 (sym e ∙ n.1) in
      (omega (arith, q, n.2), n.1 ∙ ap Some (sym q))

  pub end_target : (s last : ℕ) → s < length dfa.matches → slice_get dfa.at_end s ≡ Some last → last < length dfa.matches
  end_target s last l at = let n = total.at_end s l in let q : last ≡ n.0 = same_Some last n.0 (sym at ∙ n.1) in omega (arith, q, n.2)

  -- the row of one more state
  pub rows_more : (rows new : List (List ℕ)) (n : ℕ) (row made : List ℕ) (last : ℕ) → n < length dfa.matches → slice_get dfa.by_byte n ≡ Some row → slice_get dfa.at_end n ≡ Some last →
      ((k : ℕ) → k < 256 → target_by made k ≡ Some (slice_index row k)) → target_by made 256 ≡ Some last → new ≡ rows ++ made ∷ [] → AreRawRows dfa rows n → AreRawRows dfa new (n + 1)
  rows_more rows new n row made last l at ends by_byte by_end is r = record {
    len = length_pushed rows new made n is r.len;
    next = λ s b m. pushed (λ s row. (b : ℕ) → b < 256 → target_by row b ≡ dfa_next dfa (Some s) b) rows new made [] n is r.len (λ i m b w. r.next i b m w)
        (λ b w. by_byte b w ∙ sym (row_target n b row l at w).1) s m b;
    ends = pushed (λ s row. target_by row 256 ≡ slice_get dfa.at_end s) rows new made [] n is r.len r.ends (by_end ∙ sym ends);
  }

-- no edge leaves the states
module _ (dfa : Automaton) (total : IsTotal dfa) (rows : List (List ℕ)) (r : AreRawRows dfa rows (length dfa.matches)) where
  pub raw_closed : AreWide rows → IsClosed (length dfa.matches) rows
  raw_closed wide = λ s k t l e. go s k t l e (cases_lt k 256) (symbol_below rows wide s k t e)
    where
      go : (s k t : ℕ) → s < length dfa.matches → target_in rows s k ≡ Some t → (k < 256) ⊎ (256 ≤ k) → k < 257 → t < length dfa.matches
      go s k t l e (inl m) w =
          let n = total.next s k l m in
          let q : t ≡ n.0 = same_Some t n.0 (sym e ∙ r.next s k l m ∙ n.1) in
          omega (arith, n.2, q)
      go s k t l e (inr m) w =
          let n = total.at_end s l in
          let z : k ≡ 256 = omega (arith, m, w) in
          let q : t ≡ n.0 = same_Some t n.0 (sym e ∙ ap (target_in rows s) z ∙ r.ends s l ∙ n.1) in
          omega (arith, n.2, q)

known_rule : (rules : List Rule) (leaf : ℕ) (bytes : List ℕ) (from to : ℕ) → RuleMatches rules leaf bytes from to → leaf < length rules
known_rule rules leaf bytes from to m = go (slice_get rules leaf) refl m
  where
    P : Rule → Type 0
    P rule = Matches rule.tree bytes from to

    go : (o : Option Rule) → slice_get rules leaf ≡ o → IsSomeAnd o P → leaf < length rules
    go None e m = absurd m
    go (Some rule) e m = slice_get_within rules leaf rule e

module _ (leaves : List Leaf) (dfa : Automaton) (total : IsTotal dfa) (starts : dfa.start ≡ 0) (table : Table) (states : size table ≡ length dfa.matches)
    (r : AreRawRows dfa (rows_of table.rows) (length dfa.matches))
    (marks : (s : ℕ) → s < length dfa.matches → IsMarkOf (rules_of leaves) (length leaves) dfa s (mark table s))
    (afterward : (s : ℕ) → size table ≤ s → mark table s ≡ record { accept = None; early = None }) where
  abbrev g : Edges ℕ
  g = edges table

  no_early : (s : ℕ) → (mark table s).early ≡ None
  no_early s = go (cases_lt s (size table))
    where
      go : (s < size table) ⊎ (size table ≤ s) → (mark table s).early ≡ None
      go (inl l) = (marks s (omega (arith, l, states))).2.early
      go (inr l) = ap (λ (m : StateMarks). m.early) (afterward s l)

  -- a state that lists nothing has no mark
  none_listed : (s : ℕ) → slice_get dfa.matches s ≡ Some [] → (mark table s).accept ≡ None
  none_listed s e =
      let m = marks s (slice_get_within dfa.matches s [] e) in
      let q : m.0 ≡ [] = same_Some m.0 [] (sym m.1 ∙ e) in
      m.2.first (rw q (λ k d l. absurd (omega (arith, l)))) ∙ ap (first_of (rules_of leaves)) q

  no_leaf : (o : Option ℕ) → o ≡ None → IsSome o → ⊥
  no_leaf None e h = absurd (cc)
  no_leaf (Some leaf) e h = absurd (cc)

  not_marked : (s : ℕ) → slice_get dfa.matches s ≡ Some [] → IsMarked (type_of (mark table s)) → ⊥
  not_marked s e (inl m) = no_leaf (mark table s).early (no_early s) m
  not_marked s e (inr m) = no_leaf (mark table s).accept (none_listed s e) m

  dead_inside : total.dead < length dfa.matches
  dead_inside = slice_get_within dfa.matches total.dead [] total.dead_lists

  dead_target : (t : ℕ) → t ≡ total.dead → IsMarked (type_of (mark table t)) → ⊥
  dead_target t e m = not_marked total.dead total.dead_lists (subst (λ (t : ℕ). IsMarked (type_of (mark table t))) e m)

  from_dead : (s t b : ℕ) → s ≡ total.dead → b < 256 → to table s b ≡ Some t → t ≡ total.dead
  from_dead s t b d l e = same_Some t total.dead (sym e ∙ ap (λ (s : ℕ). to table s b) d ∙ r.next total.dead b dead_inside l ∙ total.dead_next b l)

  dead_leads : {s : ℕ} → Leads g s → s ≡ total.dead → ⊥
  dead_leads (to_mark {s} {t} b l e m) d = dead_target t (from_dead s t b d l e) m
  dead_leads (onward {s} {t} b l e h) d = dead_leads h (from_dead s t b d l e)
  dead_leads (to_end {s} {t} e m) d =
      let q : t ≡ total.dead = same_Some t total.dead (sym e ∙ ap (λ (s : ℕ). to table s 256) d ∙ r.ends total.dead dead_inside ∙ total.dead_end) in
      dead_target t q m

  -- after the end there is only the dead state
  quiet : {s : ℕ} → ((b t : ℕ) → b < 256 → to table s b ≡ Some t → t ≡ total.dead) → ((t : ℕ) → to table s 256 ≡ Some t → t ≡ total.dead) → Leads g s → ⊥
  quiet next last (to_mark {s} {t} b l e m) = dead_target t (next b t l e) m
  quiet next last (onward {s} {t} b l e h) = dead_leads h (next b t l e)
  quiet next last (to_end {s} {t} e m) = dead_target t (last t e) m

  source : (s k t : ℕ) → to table s k ≡ Some t → s < length dfa.matches
  source s k t e = let l = source_below (rows_of table.rows) s k t e in omega (arith, l, r.len)

  ends_quiet : (s t : ℕ) → to table s 256 ≡ Some t → Leads g t → ⊥
  ends_quiet s t e h =
      let ls = source s 256 t e in
      let at : slice_get dfa.at_end s ≡ Some t = sym (r.ends s ls) ∙ e in
      let n = total.at_end s ls in
      let q : t ≡ n.0 = same_Some t n.0 (sym at ∙ n.1) in
      let lt : t < length dfa.matches = omega (arith, q, n.2) in
      quiet
      (λ b u l f. same_Some u total.dead (sym f ∙ r.next t b lt l ∙ total.after_end s t b at l))
      (λ u f. same_Some u total.dead (sym f ∙ r.ends t lt ∙ total.end_after_end s t at))
      h

  reach_same : (bytes : List ℕ) → IsBytes bytes → (s : ℕ) → s < length dfa.matches → reach g s bytes ≡ dfa_after dfa (Some s) bytes
  reach_same [] ok s l = refl
  reach_same (b ∷ bytes) ok s l =
      let m = first_byte b bytes ok in
      let n = total.next s b l m in
      let e : to table s b ≡ Some n.0 = r.next s b l m ∙ n.1 in
      ap (option_and_then (λ t. reach g t bytes)) e ∙ reach_same bytes (other_bytes b bytes ok) n.0 n.2 ∙ ap (λ o. dfa_after dfa o bytes) (sym n.1)

  start_inside : 0 < length dfa.matches
  start_inside = let l = slice_get_within dfa.matches dfa.start [] total.start_lists in omega (arith, l, starts)

  from_start : (bytes : List ℕ) → IsBytes bytes → reach g 0 bytes ≡ dfa_after dfa (Some dfa.start) bytes
  from_start bytes ok = reach_same bytes ok 0 start_inside ∙ ap (λ (s : ℕ). dfa_after dfa (Some s) bytes) (sym starts)

  by_the_end : (bytes : List ℕ) (s : ℕ) → IsBytes bytes → dfa_at_end dfa bytes ≡ Some s → (t : ℕ) × (reach g 0 bytes ≡ Some t) × (to table t 256 ≡ Some s)
  by_the_end bytes s ok e = go (dfa_after dfa (Some dfa.start) bytes) refl e
    where
      go : (o : Option ℕ) → dfa_after dfa (Some dfa.start) bytes ≡ o → option_and_then (slice_get dfa.at_end) o ≡ Some s → (t : ℕ) × (reach g 0 bytes ≡ Some t) × (to table t 256 ≡ Some s)
      go None q e = absurd (cc)
      go (Some t) q e = (t, from_start bytes ok ∙ q, r.ends t (let l = slice_get_within dfa.at_end t s e in omega (arith, l, total.ends)) ∙ e)

  all_reached : (s : ℕ) → s < size table → IsReached table 0 s
  all_reached s l = go (total.reached s (omega (arith, l, states)))
    where
      go : (bytes : List ℕ) × IsBytes bytes × ((dfa_after dfa (Some dfa.start) bytes ≡ Some s) ⊎ (dfa_at_end dfa bytes ≡ Some s)) → IsReached table 0 s
      go (bytes, ok, inl e) = (bytes, ok, inl (from_start bytes ok ∙ e))
      go (bytes, ok, inr e) = (bytes, ok, inr (by_the_end bytes s ok e))

  pub is_raw : IsRaw table 0
  is_raw = record {
    root_in = omega (arith, start_inside, states);
    late_only = no_early;
    root_mark = none_listed 0 (ap (slice_get dfa.matches) (sym starts) ∙ total.start_lists);
    ends = ends_quiet;
    reached = all_reached;
  }

  module _ (reads : ReadsOneByteLate (rules_of leaves) dfa) (clear : (set : List ℕ) → IsAmbiguous (rules_of leaves) set → ⊥) where
    late_mark : (bytes : List ℕ) → IsBytes bytes → (from to t : ℕ) → Lists dfa (Some t) (λ leaf. RuleMatches (rules_of leaves) leaf bytes from to) → IsLateMark (rules_of leaves) (type_of (mark table t)) bytes from to
    late_mark bytes ok from to t l =
        let m = marks t (slice_get_within dfa.matches t l.leaves l.listed) in
        let q : m.0 ≡ l.leaves = same_Some m.0 l.leaves (sym m.1 ∙ l.listed) in
        let n : length (rules_of leaves) ≡ length leaves = length-map leaves rule_of in
        let all : All (λ leaf. leaf < length leaves) l.leaves =
        λ k d inside. let w = known_rule (rules_of leaves) _ bytes from to ((l.exactly _).0 (All-contains_itself l.leaves k d inside)) in omega (arith, w, n) in
        let first : (mark table t).accept ≡ option_and_then (first_of (rules_of leaves)) (slice_get dfa.matches t) =
        m.2.first (rw q all) ∙ ap (first_of (rules_of leaves)) q ∙ ap (option_and_then (first_of (rules_of leaves))) (sym l.listed) in
        record {
          late = no_early t;
          first = subst (λ (o : Option ℕ). MatchOption o (NoneMatches (rules_of leaves) bytes from to) (IsFirst (rules_of leaves) bytes from to)) (sym first)
              (late_mark_of (rules_of leaves) dfa clear bytes ok from to t l).first;
        }

    pub raw_late : MarksOneByteLate (rules_of leaves) g 0
    raw_late = record {
      by_byte = λ bytes b ok. at_byte bytes b ok (dfa_after dfa (Some dfa.start) (bytes ++ b ∷ [])) refl (reads.by_byte bytes b ok);
      at_end = λ bytes ok. at_last bytes ok (dfa_at_end dfa bytes) refl (reads.at_end bytes ok);
    }
      where
        at_byte : (bytes : List ℕ) (b : ℕ) → IsBytes (bytes ++ b ∷ []) → (o : Option ℕ) → dfa_after dfa (Some dfa.start) (bytes ++ b ∷ []) ≡ o →
            Lists dfa o (λ leaf. RuleMatches (rules_of leaves) leaf (bytes ++ b ∷ []) 0 (length bytes)) →
            (t : ℕ) × (reach g 0 (bytes ++ b ∷ []) ≡ Some t) × IsLateMark (rules_of leaves) (g.type_of t) (bytes ++ b ∷ []) 0 (length bytes)
        at_byte bytes b ok None e l = absurd (cc (l.listed))
        at_byte bytes b ok (Some t) e l = (t, from_start (bytes ++ b ∷ []) ok ∙ e, late_mark (bytes ++ b ∷ []) ok 0 (length bytes) t l)

        at_last : (bytes : List ℕ) → IsBytes bytes → (o : Option ℕ) → dfa_at_end dfa bytes ≡ o → Lists dfa o (λ leaf. RuleMatches (rules_of leaves) leaf bytes 0 (length bytes)) →
            (s t : ℕ) × (reach g 0 bytes ≡ Some s) × (g.at_end s ≡ Some t) × IsLateMark (rules_of leaves) (g.type_of t) bytes 0 (length bytes)
        at_last bytes ok None e l = absurd (cc (l.listed))
        at_last bytes ok (Some t) e l = let s = by_the_end bytes t ok e in (s.0, t, s.1, s.2, late_mark bytes ok 0 (length bytes) t l)
