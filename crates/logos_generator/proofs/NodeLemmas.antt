-- The nodes that are made from a state, with the tests and the jump tables that are added later.
use Rattle.std.proofs.Common.{◌≡◌, ◌≢◌, ℕ, zero, suc, ◌+◌, ◌*◌, ◌<◌, ◌≤◌, ◌↔◌, Bool, true, false, not, ◌&&◌, ◌==◌, cond, if◌then◌else◌, MatchBool, MatchOption, IsSomeAnd, IfSome, List, [], ◌∷◌, ◌++◌, length, find, All, Option, Some, None, option_map, slice_get, slice_index_or, get_or, refl, sym, ap, ◌∙◌, subst, arith, ⊎_elim, inl, inr, ◌⊎◌}
use Rattle.std.specs.Option.{option_map_or}
use Rattle.std.proofs.lemmas.Option.{slice_get-get_or, get_or_from_slice_get, slice_get_within}
use Rattle.std.proofs.Math.ListN.{get_or-eq_default}
use Rattle.std.proofs.lemmas.Bool.Decides.{eqb_tells}
use Rattle.logos_graph.specs.Graph.{GraphState}
use Rattle.logos_hir.specs.ByteRanges.{is_in}
use Rattle.logos_code.specs.Bytes.{passes_test}
use Rattle.logos_code.specs.Code.{CodeValue, Condition, by_comparisons, by_test, Fork, by_conditions, by_table}
use Rattle.logos_code.specs.Runs.{passes, target}
use Rattle.logos_code.specs.Headline.{NamesTest, NamesCondition, NamesState, NamesFork}
use Rattle.logos_code.specs.CodeView.{fork_of, state_of, jumps_of}
use Rattle.logos_code.specs.declared.code.Fork.{Fork as TheFork}
use Rattle.logos_code.specs.declared.code.Fork.TheVariants.{Conditions, Table}
use Rattle.logos_code.specs.declared.code.CodeState.{CodeState as TheState}
use Rattle.logos_graph.specs.FinishedGraph.{Edge, edge_leads}
use Rattle.logos_generator.specs.Nodes.{is_other, leads_beside, Extends, IsSetOf, tests_byte, IsTest, IsConditionOf, IsBranchOf, AreBranchesOf, IsForkOf, IsLoopOf, IsStateOf}
use Rattle.logos_generator.proofs.ForkLemmas.{IsTest-later, IsConditionOf-later, slice_get-Extends}

module _ (tests later : List (List Bool)) (grows : Extends tests later) where
  AreBranchesOf-later : (s : ℕ) (edges : List Edge) (branches : List (Condition × ℕ)) → AreBranchesOf tests s edges branches → AreBranchesOf later s edges branches
  AreBranchesOf-later s [] branches are = are
  AreBranchesOf-later s (edge ∷ edges) branches are = go (edge.1 == s) (AreBranchesOf-later s edges) are
    where
      go : (b : Bool) → ((branches : List (Condition × ℕ)) → AreBranchesOf tests s edges branches → AreBranchesOf later s edges branches) →
          MatchBool b (AreBranchesOf tests s edges branches) ((branch : Condition × ℕ) × (rest : List (Condition × ℕ)) × (branches ≡ branch ∷ rest) × IsBranchOf tests edge branch × AreBranchesOf tests s edges rest) →
          MatchBool b (AreBranchesOf later s edges branches) ((branch : Condition × ℕ) × (rest : List (Condition × ℕ)) × (branches ≡ branch ∷ rest) × IsBranchOf later edge branch × AreBranchesOf later s edges rest)
      go true below are = below branches are
      go false below are = (
        are.0,
        are.1,
        are.2,
        record { condition = IsConditionOf-later tests later edge.0 are.0.0 grows are.3.condition; target = are.3.target },
        below are.1 are.4,
      )

  pub IsLoopOf-later : (s : ℕ) (edges : List Edge) (loop : Option ℕ) → IsLoopOf tests s edges loop → IsLoopOf later s edges loop
  IsLoopOf-later s edges loop is = go (find (λ e. e.1 == s) edges) is
    where
      at : (edge : Edge) (o : Option ℕ) → IsSomeAnd o (IsTest tests edge.0) → IsSomeAnd o (IsTest later edge.0)
      at edge None t = t
      at edge (Some k) t = IsTest-later tests later edge.0 k grows t

      go : (o : Option Edge) → MatchOption o (loop ≡ None) (λ edge. IsSomeAnd loop (IsTest tests edge.0)) → MatchOption o (loop ≡ None) (λ edge. IsSomeAnd loop (IsTest later edge.0))
      go None t = t
      go (Some edge) t = at edge loop t

  module _ (jumps after : List (List ℕ)) (jumps_grow : Extends jumps after) where
    -- a table that is there stays there
    same_table : (k : ℕ) → length (jumps_of (get_or jumps k [])) ≡ 256 → get_or after k [] ≡ get_or jumps k []
    same_table k long = ⊎_elim there gone (either k (length jumps))
      where
        either : (a b : ℕ) → (a < b) ⊎ (b ≤ a)
        either a b = grind arith

        there : k < length jumps → get_or after k [] ≡ get_or jumps k []
        there h = get_or_from_slice_get after k (get_or jumps k []) [] (slice_get-Extends jumps after k (get_or jumps k []) jumps_grow (slice_get-get_or jumps k [] h))

        gone : length jumps ≤ k → get_or after k [] ≡ get_or jumps k []
        gone h = absurd (omega (arith, rw (get_or-eq_default jumps [] h) at long))

    IsForkOf-later : (s : ℕ) (edges : List Edge) (fork : TheFork) → IsForkOf tests s edges (fork_of jumps fork) → IsForkOf later s edges (fork_of after fork)
    IsForkOf-later s edges (Conditions branches) f = (f.0, AreBranchesOf-later s edges _ f.1)
    IsForkOf-later s edges (Table k) f = rw (same_table k f.1) f

    pub IsStateOf-later : (s : ℕ) (state : GraphState) (made : TheState) → IsStateOf tests s state (state_of jumps made) → IsStateOf later s state (state_of after made)
    IsStateOf-later s state made is = record {
      fast_loop = IsLoopOf-later s state.normal made.fast_loop is.fast_loop;
      mark = is.mark;
      fork = IsForkOf-later s state.normal made.fork is.fork;
      at_end = is.at_end;
    }

-- without the edges to s, the other bytes lead where they did
beside_same : (s : ℕ) (edges : List Edge) (b : ℕ) → edge_leads edges b ≢ Some s → leads_beside s edges b ≡ edge_leads edges b
beside_same s [] b other = refl
beside_same s (e ∷ edges) b other = go (beside_same s edges b) (is_in e.0 b) refl (eqb_tells e.1 s)
  where
    go : (edge_leads edges b ≢ Some s → leads_beside s edges b ≡ edge_leads edges b) → (x : Bool) → is_in e.0 b ≡ x → (((e.1 == s) ≡ true) × (e.1 ≡ s)) ⊎ (((e.1 == s) ≡ false) × (e.1 ≢ s)) → leads_beside s (e ∷ edges) b ≡ edge_leads (e ∷ edges) b
    go later true f (inl h) = absurd (other (rw f (ap Some h.1)))
    go later true f (inr h) = rw (f, h.0) refl
    go later false f (inl h) = rw (f, h.0) (later (rw f at other))
    go later false f (inr h) = rw (f, h.0) (later (rw f at other))

-- the loop's test and the rest are the whole
pub fork_whole : (s : ℕ) (edges : List Edge) (b : ℕ) (stay : Bool) → (stay ≡ true ↔ edge_leads edges b ≡ Some s) →
    (if stay then Some s else leads_beside s edges b) ≡ edge_leads edges b
fork_whole s edges b true iff = sym (iff.0 refl)
fork_whole s edges b false iff = beside_same s edges b (λ e. differs (iff.1 e))
  where
    differs : false ≡ true → ⊥
    differs e = cc

some_none : {A : Type 0} {a : A} → None ≡ Some a → ⊥
some_none h = cc

-- the edge that is found, and where it leads
pub found_edge : (p : Edge → Bool) (edges : List Edge) (t : ℕ) → option_map (λ e. e.1) (find p edges) ≡ Some t →
    (i : ℕ) × (edge : Edge) × (slice_get edges i ≡ Some edge) × (p edge ≡ true) × (edge.1 ≡ t)
found_edge p [] t e = absurd (cc)
found_edge p (x ∷ edges) t e = go (p x) refl (found_edge p edges t) e
  where
    go : (b : Bool) → p x ≡ b → (option_map (λ e. e.1) (find p edges) ≡ Some t → (i : ℕ) × (edge : Edge) × (slice_get edges i ≡ Some edge) × (p edge ≡ true) × (edge.1 ≡ t)) →
        option_map (λ (e : Edge). e.1) (cond b (Some x) (find p edges)) ≡ Some t → (i : ℕ) × (edge : Edge) × (slice_get (x ∷ edges) i ≡ Some edge) × (p edge ≡ true) × (edge.1 ≡ t)
    go true f later e = (0, x, refl, f, cc)
    go false f later e = let l = later e in (suc l.0, l.1, l.2, l.3, l.4)

-- a property of the target of each edge holds of where a byte leads
pub lead_among : (P : ℕ → Type 0) (p : Edge → Bool) (edges : List Edge) (t : ℕ) → All (λ edge. P edge.1) edges → option_map (λ e. e.1) (find p edges) ≡ Some t → P t
lead_among P p edges t all e =
    let f = found_edge p edges t e in
    subst P f.4 (rw (get_or_from_slice_get edges f.0 f.1 f.1 f.2) at (all f.0 f.1 (slice_get_within edges f.0 f.1 f.2)))

All-none : {A : Type 0} (P : A → Type 0) → All P []
All-none P i d h = absurd (omega (arith, h))

All-more : {A : Type 0} (P : A → Type 0) (x : A) (xs : List A) → P x → All P xs → All P (x ∷ xs)
All-more P x xs p all zero d h = p
All-more P x xs p all (suc i) d h = all i d (omega (arith, h))

All-head : {A : Type 0} (P : A → Type 0) (x : A) (xs : List A) → All P (x ∷ xs) → P x
All-head P x xs all = all 0 x (omega arith)

All-tail : {A : Type 0} (P : A → Type 0) (x : A) (xs : List A) → All P (x ∷ xs) → All P xs
All-tail P x xs all i d h = all (suc i) d (omega (arith, h))

-- A code whose tables hold the tests.
module _ (code : CodeValue) (tests : List (List Bool)) (realised : (k b : ℕ) → b < 256 → passes_test code.bit_tables k b ≡ tests_byte tests k b) (fits : length tests ≤ 8 * length code.bit_tables) where
  pub test_at : (ranges : List (ℕ × ℕ)) (k b : ℕ) → b < 256 → IsTest tests ranges k → passes_test code.bit_tables k b ≡ is_in ranges b
  test_at ranges k b h t = realised k b h ∙ go (slice_get tests k) t
    where
      go : (o : Option (List Bool)) → IsSomeAnd o (IsSetOf ranges) → option_map_or (λ set. slice_index_or set b false) o false ≡ is_in ranges b
      go None t = absurd t
      go (Some set) t = t.members b h

  test_named : (ranges : List (ℕ × ℕ)) (k : ℕ) → IsTest tests ranges k → NamesTest code k
  test_named ranges k t = go (slice_get tests k) refl t
    where
      go : (o : Option (List Bool)) → slice_get tests k ≡ o → IsSomeAnd o (IsSetOf ranges) → NamesTest code k
      go None e t = absurd t
      go (Some set) e t = omega (arith, slice_get_within tests k set e, fits)

  condition_at : (ranges : List (ℕ × ℕ)) (condition : Condition) (b : ℕ) → b < 256 → IsConditionOf tests ranges condition → passes code condition b ≡ is_in ranges b
  condition_at ranges (by_comparisons all) b h c = c.2 b h
  condition_at ranges (by_test k) b h c = test_at ranges k b h c.1

  condition_named : (ranges : List (ℕ × ℕ)) (condition : Condition) → IsConditionOf tests ranges condition → NamesCondition code condition
  condition_named ranges (by_comparisons all) c = tt
  condition_named ranges (by_test k) c = test_named ranges k c.1

  first_lead : (x : Bool) (branch : Condition × ℕ) (edge : Edge) (more : Option (Condition × ℕ)) (others : Option Edge) → branch.1 ≡ edge.1 → option_map (λ e. e.1) more ≡ option_map (λ e. e.1) others →
      option_map (λ (r : Condition × ℕ). r.1) (cond x (Some branch) more) ≡ option_map (λ (r : Edge). r.1) (cond x (Some edge) others)
  first_lead true branch edge more others same later = ap Some same
  first_lead false branch edge more others same later = later

  branches_at : (s : ℕ) (edges : List Edge) (branches : List (Condition × ℕ)) (b : ℕ) → b < 256 → AreBranchesOf tests s edges branches → target code (by_conditions branches) b ≡ leads_beside s edges b
  branches_at s [] branches b h are = rw are refl
  branches_at s (edge ∷ edges) branches b h are = go (edge.1 == s) (λ bs. branches_at s edges bs b h) are
    where
      go : (o : Bool) → ((branches : List (Condition × ℕ)) → AreBranchesOf tests s edges branches → target code (by_conditions branches) b ≡ leads_beside s edges b) →
          MatchBool o (AreBranchesOf tests s edges branches) ((branch : Condition × ℕ) × (rest : List (Condition × ℕ)) × (branches ≡ branch ∷ rest) × IsBranchOf tests edge branch × AreBranchesOf tests s edges rest) →
          target code (by_conditions branches) b ≡ option_map (λ (e : Edge). e.1) (cond (not o && is_in edge.0 b) (Some edge) (find (is_other s b) edges))
      go true below are = below branches are
      go false below are =
          rw (are.2, condition_at edge.0 are.0.0 b h are.3.condition)
          (first_lead (is_in edge.0 b) are.0 edge (find (λ e. passes code e.0 b) are.1) (find (is_other s b) edges) are.3.target (below are.1 are.4))

  pub fork_at : (s : ℕ) (edges : List Edge) (fork : Fork) (b : ℕ) → b < 256 → IsForkOf tests s edges fork → target code fork b ≡ leads_beside s edges b
  fork_at s edges (by_conditions branches) b h f = branches_at s edges branches b h f.1
  fork_at s edges (by_table entries) b h f = f.2 b h

  -- a property of each edge's target holds of each branch's
  branches_among : (P : ℕ → Type 0) (s : ℕ) (edges : List Edge) (branches : List (Condition × ℕ)) → AreBranchesOf tests s edges branches → All (λ edge. P edge.1) edges →
      All (λ branch. NamesCondition code branch.0 × P branch.1) branches
  branches_among P s [] branches are all = rw are (All-none (λ (branch : Condition × ℕ). NamesCondition code branch.0 × P branch.1))
  branches_among P s (edge ∷ edges) branches are all =
      go (edge.1 == s) (λ bs a. branches_among P s edges bs a (All-tail (λ (edge : Edge). P edge.1) edge edges all)) are
    where
      go : (o : Bool) → ((branches : List (Condition × ℕ)) → AreBranchesOf tests s edges branches → All (λ branch. NamesCondition code branch.0 × P branch.1) branches) →
          MatchBool o (AreBranchesOf tests s edges branches) ((branch : Condition × ℕ) × (rest : List (Condition × ℕ)) × (branches ≡ branch ∷ rest) × IsBranchOf tests edge branch × AreBranchesOf tests s edges rest) →
          All (λ (branch : Condition × ℕ). NamesCondition code branch.0 × P branch.1) branches
      go true below are = below branches are
      go false below are = rw are.2 (All-more (λ (branch : Condition × ℕ). NamesCondition code branch.0 × P branch.1) are.0 are.1
          (condition_named edge.0 are.0.0 are.3.condition, subst P (sym are.3.target) (All-head (λ (edge : Edge). P edge.1) edge edges all))
          (below are.1 are.4))

  entry_among : (P : ℕ → Type 0) (s : ℕ) (edges : List Edge) (entries : List (Option ℕ)) → IsForkOf tests s edges (by_table entries) → All (λ edge. P edge.1) edges →
      (b t : ℕ) → slice_index_or entries b None ≡ Some t → P t
  entry_among P s edges entries f all b t e = ⊎_elim inside outside (either b 256)
    where
      either : (a b : ℕ) → (a < b) ⊎ (b ≤ a)
      either a b = grind arith

      inside : b < 256 → P t
      inside h = lead_among P (is_other s b) edges t all (sym (f.2 b h) ∙ e)

      outside : 256 ≤ b → P t
      outside h = absurd (some_none (sym (get_or-eq_default entries None (omega (arith, h, f.1))) ∙ e))

  pub fork_among : (P : ℕ → Type 0) (s : ℕ) (edges : List Edge) (fork : Fork) → IsForkOf tests s edges fork → All (λ edge. P edge.1) edges → (b t : ℕ) → target code fork b ≡ Some t → P t
  fork_among P s edges (by_conditions branches) f all b t e = go branches (branches_among P s edges branches f.1 all) e
    where
      go : (branches : List (Condition × ℕ)) → All (λ branch. NamesCondition code branch.0 × P branch.1) branches → target code (by_conditions branches) b ≡ Some t → P t
      go [] among e = absurd (cc)
      go (x ∷ branches) among e = by_first (passes code x.0 b) (go branches (All-tail (λ (branch : Condition × ℕ). NamesCondition code branch.0 × P branch.1) x branches among)) e
        where
          by_first : (o : Bool) → (target code (by_conditions branches) b ≡ Some t → P t) →
              option_map (λ (edge : Condition × ℕ). edge.1) (cond o (Some x) (find (λ edge. passes code edge.0 b) branches)) ≡ Some t → P t
          by_first true later e = let same : x.1 ≡ t = cc in subst P same (All-head (λ (branch : Condition × ℕ). NamesCondition code branch.0 × P branch.1) x branches among).1
          by_first false later e = later e
  fork_among P s edges (by_table entries) f all b t e = entry_among P s edges entries f all b t e

  pub fork_named : (s : ℕ) (edges : List Edge) (fork : Fork) → IsForkOf tests s edges fork → All (λ edge. edge.1 < length code.states) edges → NamesFork code fork
  fork_named s edges (by_conditions branches) f all = branches_among (NamesState code) s edges branches f.1 all
  fork_named s edges (by_table entries) f all = (f.1, λ i d h. go (get_or entries i d) (λ t e. entry_among (NamesState code) s edges entries f all i t (same i d h ∙ e)))
    where
      same : (i : ℕ) (d : Option ℕ) → i < length entries → slice_index_or entries i None ≡ get_or entries i d
      same i d h = get_or_from_slice_get entries i (get_or entries i d) None (slice_get-get_or entries i d h)

      go : (o : Option ℕ) → ((t : ℕ) → o ≡ Some t → NamesState code t) → IfSome o (NamesState code)
      go None f = tt
      go (Some t) f = f t refl

  pub loop_named : (s : ℕ) (edges : List Edge) (loop : Option ℕ) → IsLoopOf tests s edges loop → IfSome loop (NamesTest code)
  loop_named s edges loop is = go (find (λ e. e.1 == s) edges) is
    where
      at : (edge : Edge) (o : Option ℕ) → IsSomeAnd o (IsTest tests edge.0) → IfSome o (NamesTest code)
      at edge None t = absurd t
      at edge (Some k) t = test_named edge.0 k t

      go : (o : Option Edge) → MatchOption o (loop ≡ None) (λ edge. IsSomeAnd loop (IsTest tests edge.0)) → IfSome loop (NamesTest code)
      go None t = rw t tt
      go (Some edge) t = at edge loop t

slice_get-last : {A : Type 0} (xs : List A) (x : A) → slice_get (xs ++ x ∷ []) (length xs) ≡ Some x
slice_get-last [] x = refl
slice_get-last (y ∷ xs) x = slice_get-last xs x

-- one state more
pub states_turn : (tests later : List (List Bool)) (jumps after : List (List ℕ)) → Extends tests later → Extends jumps after →
    (graph : List GraphState) (made new : List TheState) (s : ℕ) (at : GraphState) (x : TheState) → length made ≡ s → new ≡ made ++ x ∷ [] →
    slice_get graph s ≡ Some at → IsStateOf later s at (state_of after x) →
    ((k : ℕ) (state : GraphState) → k < s → slice_get graph k ≡ Some state → IsSomeAnd (slice_get made k) (λ m. IsStateOf tests k state (state_of jumps m))) →
    (k : ℕ) (state : GraphState) → k < s + 1 → slice_get graph k ≡ Some state → IsSomeAnd (slice_get new k) (λ m. IsStateOf later k state (state_of after m))
states_turn tests later jumps after grows jumps_grow graph made new s at x long is here made_here below k state h e = ⊎_elim old last (either k s h)
  where
    either : (a b : ℕ) → a < b + 1 → (a < b) ⊎ (b ≡ a)
    either a b h = grind arith

    old : k < s → IsSomeAnd (slice_get new k) (λ m. IsStateOf later k state (state_of after m))
    old l = go (slice_get made k) refl (below k state l e)
      where
        go : (o : Option TheState) → slice_get made k ≡ o → IsSomeAnd o (λ m. IsStateOf tests k state (state_of jumps m)) → IsSomeAnd (slice_get new k) (λ m. IsStateOf later k state (state_of after m))
        go None f m = absurd m
        go (Some y) f m =
            let kept : slice_get new k ≡ Some y = slice_get-Extends made new k y (x ∷ [], is) f in
            rw kept (IsStateOf-later tests later grows jumps after jumps_grow k state y m)

    last : s ≡ k → IsSomeAnd (slice_get new k) (λ m. IsStateOf later k state (state_of after m))
    last same =
        let f : slice_get new k ≡ Some x = rw is (subst (λ n. slice_get (made ++ x ∷ []) n ≡ Some x) (long ∙ same) (slice_get-last made x)) in
        let g : slice_get graph s ≡ Some state = subst (λ n. slice_get graph n ≡ Some state) (sym same) e in
        let equal : Path GraphState at state = cc in
        rw f (subst (λ n. IsStateOf later n state (state_of after x)) same (subst (λ g. IsStateOf later s g (state_of after x)) equal made_here))
