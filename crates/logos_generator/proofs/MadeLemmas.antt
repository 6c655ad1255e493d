-- A code whose states are made of a graph's states is sound, and made from the graph.
use Rattle.std.proofs.Common.{◌≡◌, ◌≢◌, ℕ, zero, suc, ◌*◌, ◌<◌, ◌≤◌, ◌↔◌, Bool, true, false, ◌==◌, cond, if◌then◌else◌, MatchOption, IsSomeAnd, IsSome, IfSome, IsTrue, List, [], ◌∷◌, length, find, All, Option, Some, None, option_map, slice_get, get_or, refl, sym, ap, ◌∙◌, subst, arith, ⊎_elim, ◌⊎◌}
use Rattle.std.specs.List.{AllPairs, IsDistinct}
use Rattle.std.specs.Str.{bytes_eq}
use Rattle.std.proofs.lemmas.Slice.Eq.{bytes_eq-Decides}
use Rattle.std.proofs.lemmas.Map.Made.{AllPairs-from_IsDistinct}
use Rattle.std.proofs.lemmas.List.{length-map}
use Rattle.std.proofs.lemmas.Option.{slice_get-get_or, get_or_from_slice_get, slice_get_within, slice_get_cases, slice_get-map}
use Rattle.logos_code.proofs.TargetLemmas.{All-slice_get}
use Rattle.std.proofs.lemmas.Bool.Decides.{eqb_tells}
use Rattle.logos_reduce.specs.Edges.{StateType}
use Rattle.logos_graph.specs.Graph.{GraphState}
use Rattle.logos_hir.specs.ByteRanges.{is_in}
use Rattle.logos_code.specs.Bytes.{passes_test}
use Rattle.logos_code.specs.Code.{CodeValue, CodeState}
use Rattle.logos_code.specs.Runs.{target, stays}
use Rattle.logos_code.specs.Headline.{IsSound, IsRoot, IsEnd, IsLate, NamesExisting, NamesState}
use Rattle.logos_generator.specs.Makes.{mark_by, mark_made, Makes, IsLast, IsMade}
use Rattle.logos_graph.specs.FinishedGraph.{Edge, edge_leads, NamesLeaves, IsUnmarked, IsFinishedState, IsFirstState, IsFinished, IsLate as IsLateType}
use Rattle.logos_generator.specs.Numbering.{HasNodesOf, bit_tables_of, jump_tables_of, tests_of}
use Rattle.logos_generator.specs.Nodes.{leads_beside, tests_byte, IsTest, IsLoopOf, IsStateOf}
use Rattle.logos_code.specs.CodeView.{code_of, state_of, use_of, AreDifferent}
use Rattle.logos_generator.specs.StateView.{AreStatesOf}
use Rattle.logos_code.specs.declared.code.CodeState.{CodeState as TheState}
use Rattle.logos_code.specs.declared.code.CodeParts.{CodeParts}
use Rattle.logos_generator.proofs.SoundLemmas.{pairs_differ}
use Rattle.logos_generator.proofs.NodeLemmas.{fork_whole, found_edge, lead_among, test_at, fork_at, fork_among, fork_named, loop_named}

some_none : {A : Type 0} {a : A} → None ≡ Some a → ⊥
some_none h = cc

true_false : true ≡ false → ⊥
true_false h = cc

-- the result of `find`
found_at : {A : Type 0} (p : A → Bool) (xs : List A) (x : A) → find p xs ≡ Some x → (i : ℕ) × (slice_get xs i ≡ Some x) × (p x ≡ true)
found_at p [] x e = absurd (some_none e)
found_at {A = A} p (y ∷ xs) x e = go (p y) refl (found_at p xs x) e
  where
    go : (b : Bool) → p y ≡ b → (find p xs ≡ Some x → (i : ℕ) × (slice_get xs i ≡ Some x) × (p x ≡ true)) → cond b (Some y) (find p xs) ≡ Some x →
        (i : ℕ) × (slice_get (y ∷ xs) i ≡ Some x) × (p x ≡ true)
    go true f later e = let same : Path A y x = cc in (0, e, subst (λ z. p z ≡ true) same f)
    go false f later e = let l = later e in (suc l.0, l.1, l.2)

not_found : {A : Type 0} (p : A → Bool) (xs : List A) (i : ℕ) (x : A) → find p xs ≡ None → slice_get xs i ≡ Some x → p x ≡ true → ⊥
not_found p [] i x e is h = some_none is
not_found {A = A} p (y ∷ xs) zero x e is h = let same : Path A y x = cc in go (p y) (subst (λ z. p z ≡ true) (sym same) h) e
  where
    go : (b : Bool) → b ≡ true → cond b (Some y) (find p xs) ≡ None → ⊥
    go true f e = some_none (sym e)
    go false f e = true_false (sym f)
not_found {A = A} p (y ∷ xs) (suc i) x e is h = go (p y) (λ f. not_found p xs i x f is h) e
  where
    go : (b : Bool) → (find p xs ≡ None → ⊥) → cond b (Some y) (find p xs) ≡ None → ⊥
    go true later e = some_none (sym e)
    go false later e = later e

-- two edges with the same target have the same index
same_row_start : (edges : List Edge) → AllPairs (λ edge other. edge.1 ≢ other.1) edges → (i j : ℕ) (edge other : Edge) → slice_get edges i ≡ Some edge → slice_get edges j ≡ Some other → edge.1 ≡ other.1 → edge ≡ other
same_row_start edges apart i j edge other a b same = ⊎_elim (λ h. absurd (clash i j edge other a b h same)) (λ o. ⊎_elim (λ h. absurd (clash j i other edge b a h (sym same))) equal o) (order i j)
  where
    order : (a b : ℕ) → (a < b) ⊎ ((b < a) ⊎ (a ≡ b))
    order a b = grind arith

    clash : (i j : ℕ) (edge other : Edge) → slice_get edges i ≡ Some edge → slice_get edges j ≡ Some other → i < j → edge.1 ≡ other.1 → ⊥
    clash i j edge other a b h same =
        let f = apart i j edge h (slice_get_within edges j other b) in
        f (rw (get_or_from_slice_get edges i edge edge a, get_or_from_slice_get edges j other edge b) same)

    equal : i ≡ j → edge ≡ other
    equal e =
        let f : slice_get edges j ≡ Some edge = subst (λ k. slice_get edges k ≡ Some edge) e a in
        cc

is_equal : (a b : ℕ) → (a == b) ≡ true → a ≡ b
is_equal a b e = ⊎_elim (λ h. h.1) (λ h. absurd (true_false (sym e ∙ h.0))) (eqb_tells a b)

equal_is : (a b : ℕ) → a ≡ b → (a == b) ≡ true
equal_is a b e = ⊎_elim (λ h. h.0) (λ h. absurd (h.1 e)) (eqb_tells a b)

-- the mark that is made names a leaf
mark_named : (leaves : ℕ) (type : StateType) → NamesLeaves leaves type → IfSome (mark_made type) (λ mark. mark.leaf < leaves)
mark_named leaves type names = go type.early type.accept names.1 names.0
  where
    go : (early accept : Option ℕ) → IfSome early (λ leaf. leaf < leaves) → IfSome accept (λ leaf. leaf < leaves) → IfSome (mark_by early accept) (λ mark. mark.leaf < leaves)
    go (Some leaf) accept e a = e
    go None (Some leaf) e a = a
    go None None e a = tt

-- no mark is made of none
not_marked : (type : StateType) → IsUnmarked type → mark_made type ≡ None
not_marked type none = rw (none.0, none.1) refl

-- the mark that is made is late exactly where the state has a late mark alone
late_made : (type : StateType) → IsSomeAnd (mark_made type) (λ mark. IsTrue mark.late) → IsLateType type
late_made type late = go type.early type.accept late
  where
    go : (early accept : Option ℕ) → IsSomeAnd (mark_by early accept) (λ mark. IsTrue mark.late) → (early ≡ None) × IsSome accept
    go (Some leaf) accept h = absurd (true_false (sym h))
    go None (Some leaf) h = (refl, refl)
    go None None h = absurd h

-- the end leads to the last state
last_is : (graph : List GraphState) (t : ℕ) → IsSomeAnd (slice_get graph t) (λ last. IsLateType last.state_type × (last.eoi ≡ None)) → IsLast graph t
last_is graph t last = go (slice_get graph t) refl last
  where
    by_accept : (state : GraphState) (accept : Option ℕ) → slice_get graph t ≡ Some state → state.state_type.accept ≡ accept → state.state_type.early ≡ None → IsSome accept → state.eoi ≡ None → IsLast graph t
    by_accept state None e is early h no_end = absurd (true_false (sym h))
    by_accept state (Some leaf) e is early h no_end = record { state = state; is = e; leaf = leaf; late = rw (early, is) refl; no_end = no_end }

    go : (o : Option GraphState) → slice_get graph t ≡ o → IsSomeAnd o (λ last. IsLateType last.state_type × (last.eoi ≡ None)) → IsLast graph t
    go None e h = absurd h
    go (Some state) e h = by_accept state state.state_type.accept e refl h.0.0 h.0.1 h.1

module _ (code : CodeValue) (tests : List (List Bool)) (realised : (k b : ℕ) → b < 256 → passes_test code.bit_tables k b ≡ tests_byte tests k b) (fits : length tests ≤ 8 * length code.bit_tables) where
  -- the fast loop takes exactly the bytes that lead back
  stays_at : (s : ℕ) (edges : List Edge) (loop : Option ℕ) (b : ℕ) → b < 256 → IsLoopOf tests s edges loop →
      All (λ edge. (b : ℕ) → b < 256 → is_in edge.0 b ≡ true → edge_leads edges b ≡ Some edge.1) edges → AllPairs (λ edge other. edge.1 ≢ other.1) edges →
      stays code loop b ≡ true ↔ edge_leads edges b ≡ Some s
  stays_at s edges loop b h is lead apart = go (find (λ e. e.1 == s) edges) refl is
    where
      edge_at : (i : ℕ) (edge : Edge) → slice_get edges i ≡ Some edge → (b : ℕ) → b < 256 → is_in edge.0 b ≡ true → edge_leads edges b ≡ Some edge.1
      edge_at i edge e = rw (get_or_from_slice_get edges i edge edge e) at (lead i edge (slice_get_within edges i edge e))

      by_test : (edge : Edge) → find (λ e. e.1 == s) edges ≡ Some edge → (o : Option ℕ) → IsSomeAnd o (IsTest tests edge.0) → stays code o b ≡ true ↔ edge_leads edges b ≡ Some s
      by_test edge found None t = absurd t
      by_test edge found (Some k) t =
          let f = found_at (λ (e : Edge). e.1 == s) edges edge found in
          let back : edge.1 ≡ s = is_equal edge.1 s f.2 in
          let test : passes_test code.bit_tables k b ≡ is_in edge.0 b = test_at code tests realised fits edge.0 k b h t in (
            λ p. edge_at f.0 edge f.1 b h (sym test ∙ p) ∙ ap Some back,
            λ e.
                let g = found_edge (λ (e : Edge). is_in e.0 b) edges s e in
                let same = same_row_start edges apart f.0 g.0 edge g.1 f.1 g.2 (back ∙ sym g.4) in
                test ∙ ap (λ (x : Edge). is_in x.0 b) same ∙ g.3,
          )

      go : (o : Option Edge) → find (λ e. e.1 == s) edges ≡ o → MatchOption o (loop ≡ None) (λ edge. IsSomeAnd loop (IsTest tests edge.0)) → stays code loop b ≡ true ↔ edge_leads edges b ≡ Some s
      go None found none = rw none (
        λ p. absurd (true_false (sym p)),
        λ e. let g = found_edge (λ (e : Edge). is_in e.0 b) edges s e in
            absurd (not_found (λ (e : Edge). e.1 == s) edges g.0 g.1 found g.2 (equal_is g.1.1 s g.4)),
      )
      go (Some edge) found t = by_test edge found loop t

  pub makes : (graph : List GraphState) (leaves s : ℕ) (state : GraphState) (made : CodeState) → IsStateOf tests s state made → IsFinishedState graph leaves state → Makes code s state made
  makes graph leaves s state made is finished = record {
    mark = is.mark;
    bytes = λ b h.
        let stay = stays_at s state.normal made.fast_loop b h is.fast_loop finished.neat.leads finished.neat.apart in
        let f : target code made.fork b ≡ leads_beside s state.normal b = fork_at code tests realised fits s state.normal made.fork b h is.fork in
        ap (λ o. if stays code made.fast_loop b then Some s else o) f ∙ fork_whole s state.normal b (stays code made.fast_loop b) stay;
    end = is.at_end;
  }

  -- A code that has one state for each of the graph's.
  module _ (graph : List GraphState) (utf8 : Bool) (root : code.root ≡ 0) (mode : code.utf8 ≡ utf8) (count : length code.states ≡ length graph)
      (states : (s : ℕ) (state : GraphState) → slice_get graph s ≡ Some state → IsSomeAnd (slice_get code.states s) (IsStateOf tests s state)) (finished : IsFinished graph (length code.leaves)) where
    made_at : (s : ℕ) (state : GraphState) → slice_get graph s ≡ Some state → (made : CodeState) × (slice_get code.states s ≡ Some made) × IsStateOf tests s state made
    made_at s state is = go (slice_get code.states s) refl (states s state is)
      where
        go : (o : Option CodeState) → slice_get code.states s ≡ o → IsSomeAnd o (IsStateOf tests s state) → (made : CodeState) × (slice_get code.states s ≡ Some made) × IsStateOf tests s state made
        go None e h = absurd h
        go (Some made) e h = (made, e, h)

    graph_at : (s : ℕ) (made : CodeState) → slice_get code.states s ≡ Some made → (state : GraphState) × (slice_get graph s ≡ Some state) × IsStateOf tests s state made
    graph_at s made e = ⊎_elim
        (λ g.
        let m = made_at s g.0 g.2 in
        let same : m.0 ≡ made = cc in
        (g.0, g.2, subst (IsStateOf tests s g.0) same m.2))
        (λ g. absurd (omega (arith, g.0, slice_get_within code.states s made e, count)))
        (slice_get_cases graph s).1

    finished_at : (s : ℕ) (state : GraphState) → slice_get graph s ≡ Some state → IsFinishedState graph (length code.leaves) state
    finished_at s state is = All-slice_get (IsFinishedState graph (length code.leaves)) graph s state finished.states is

    -- the late states are equal
    late_in : (t : ℕ) → IsLate code t → IsSomeAnd (slice_get graph t) (λ state. IsLateType state.state_type)
    late_in t late = go (slice_get code.states t) refl late
      where
        go : (o : Option CodeState) → slice_get code.states t ≡ o → IsSomeAnd o (λ state. IsSomeAnd state.mark (λ mark. IsTrue mark.late)) → IsSomeAnd (slice_get graph t) (λ state. IsLateType state.state_type)
        go None e h = absurd h
        go (Some made) e h = let g = graph_at t made e in rw g.1 (late_made g.0.state_type (rw g.2.mark at h))

    last_late : (t : ℕ) → IsLast graph t → IsLate code t × IsSomeAnd (slice_get code.states t) (λ next. next.at_end ≡ None)
    last_late t last =
        let m = made_at t last.state last.is in
        let mark : m.0.mark ≡ Some (record { leaf = last.leaf; late = true }) = m.2.mark ∙ last.late in
        (rw (m.1, mark) refl, rw m.1 (m.2.at_end ∙ last.no_end))

    targets_at : (s : ℕ) (state : GraphState) → slice_get graph s ≡ Some state → All (λ edge. edge.1 < length code.states) state.normal
    targets_at s state is i d h = let f = (finished_at s state is).targets i d h in omega (arith, f, count)

    first_state : (first : GraphState) × (slice_get graph 0 ≡ Some first) × IsFirstState graph (length code.leaves) first
    first_state = go (slice_get graph 0) refl finished.first
      where
        go : (o : Option GraphState) → slice_get graph 0 ≡ o → IsSomeAnd o (IsFirstState graph (length code.leaves)) → (first : GraphState) × (slice_get graph 0 ≡ Some first) × IsFirstState graph (length code.leaves) first
        go None e h = absurd h
        go (Some first) e h = (first, e, h)

    pub is_made : IsMade graph utf8 code
    is_made = record {
      root = root;
      mode = mode;
      states = λ s state is.
          let m = made_at s state is in
          (m.0, m.1, makes graph (length code.leaves) s state m.0 m.2 (finished_at s state is));
      closed = λ s state is. record {
        bytes = λ b t h e.
            let f = lead_among (λ t. t < length graph) (λ (e : Edge). is_in e.0 b) state.normal t (finished_at s state is).targets e in
            (get_or graph t state, slice_get-get_or graph t state f);
        end = λ t e. last_is graph t ((finished_at s state is).ends t e);
      };
      first = first_state.0;
      has_first = first_state.1;
      unmarked = not_marked first_state.0.state_type first_state.2.unmarked;
    }

    state_named : (s : ℕ) (made : CodeState) → slice_get code.states s ≡ Some made → NamesExisting code made
    state_named s made e =
        let g = graph_at s made e in
        let f = finished_at s g.0 g.1 in
        record {
          fast_loop = loop_named code tests realised fits s g.0.normal made.fast_loop g.2.fast_loop;
          mark = rw g.2.mark (mark_named (length code.leaves) g.0.state_type f.marks);
          fork = fork_named code tests realised fits s g.0.normal made.fork g.2.fork (targets_at s g.0 g.1);
          at_end = rw g.2.at_end (end_named g.0.eoi (λ t e. last_is graph t (f.ends t e)));
        }
      where
        end_named : (o : Option ℕ) → ((t : ℕ) → o ≡ Some t → IsLast graph t) → IfSome o (NamesState code)
        end_named None f = tt
        end_named (Some t) f = let l = f t refl in omega (arith, slice_get_within graph t l.state l.is, count)

    root_sound : IsSomeAnd (slice_get code.states 0) (IsRoot code)
    root_sound =
        let m = made_at 0 first_state.0 first_state.1 in
        rw m.1 record {
          mark = m.2.mark ∙ not_marked first_state.0.state_type first_state.2.unmarked;
          fork = fork_among code tests realised fits (λ t. ¬ IsLate code t) 0 first_state.0.normal m.0.fork m.2.fork (λ i d h late. first_state.2.early i d h (late_in _ late));
          at_end = λ t e. absurd (some_none (sym first_state.2.no_end ∙ sym m.2.at_end ∙ e));
        }

    end_sound : (s : ℕ) (made : CodeState) → slice_get code.states s ≡ Some made → IsEnd code made.at_end
    end_sound s made e =
        let g = graph_at s made e in
        rw g.2.at_end (go g.0.eoi (λ t f. last_is graph t ((finished_at s g.0 g.1).ends t f)))
      where
        go : (o : Option ℕ) → ((t : ℕ) → o ≡ Some t → IsLast graph t) → IsEnd code o
        go None f = tt
        go (Some t) f = last_late t (f t refl)

    pub is_sound : IsSound code
    is_sound = record {
      states = λ i d h. state_named i (get_or code.states i d) (slice_get-get_or code.states i d h);
      root = subst (λ r. IsSomeAnd (slice_get code.states r) (IsRoot code)) (sym root) root_sound;
      ends = λ i d h. end_sound i (get_or code.states i d) (slice_get-get_or code.states i d h);
    }

-- The parts of a code, made of a graph.
module _ (tests : List (List Bool)) (graph : List GraphState) (parts : CodeParts) (root : parts.root ≡ 0) (are : AreStatesOf tests parts.jump_tables.items graph parts.states.items)
    (realised : (k b : ℕ) → b < 256 → passes_test parts.bit_tables.items k b ≡ tests_byte tests k b) (fits : length tests ≤ 8 * length parts.bit_tables.items)
    (finished : IsFinished graph (length parts.leaves.items)) where
  count : length (code_of parts).states ≡ length graph
  count = length-map parts.states.items (state_of parts.jump_tables.items) ∙ are.count

  states : (s : ℕ) (state : GraphState) → slice_get graph s ≡ Some state → IsSomeAnd (slice_get (code_of parts).states s) (IsStateOf tests s state)
  states s state is = rw (slice_get-map (state_of parts.jump_tables.items) parts.states.items s) (go (slice_get parts.states.items s) (are.each s state is))
    where
      go : (o : Option TheState) → IsSomeAnd o (λ m. IsStateOf tests s state (state_of parts.jump_tables.items m)) → IsSomeAnd (option_map (state_of parts.jump_tables.items) o) (IsStateOf tests s state)
      go None h = absurd h
      go (Some m) h = h

  all_finished : IsFinished graph (length (code_of parts).leaves)
  all_finished = subst (IsFinished graph) (sym (length-map parts.leaves.items use_of)) finished

  pub parts_made : IsMade graph parts.utf8 (code_of parts)
  parts_made = is_made (code_of parts) tests realised fits graph parts.utf8 root refl count states all_finished

  pub parts_sound : IsSound (code_of parts)
  parts_sound = is_sound (code_of parts) tests realised fits graph parts.utf8 root refl count states all_finished

  pub parts_nodes : tests ≡ tests_of graph → parts.bit_tables.items ≡ bit_tables_of (tests_of graph) → parts.jump_tables.items ≡ jump_tables_of graph → HasNodesOf graph (code_of parts)
  parts_nodes all tables jumps = record {
    root = root;
    count = count;
    states = λ s state is. subst (λ t. IsSomeAnd (slice_get (code_of parts).states s) (IsStateOf t s state)) all (states s state is);
    tables = tables;
    jumps = jumps;
  }

-- the keys of a set are different
pub keys_differ : (keys : List (List ℕ)) → IsDistinct bytes_eq keys → AreDifferent keys
keys_differ keys distinct = pairs_differ keys (λ i j h k e.
    let a = slice_get-get_or keys i [] h in
    let b = slice_get-get_or keys j [] (omega (arith, h, k)) in
    let same : get_or keys j [] ≡ get_or keys i [] = cc in
    AllPairs-from_IsDistinct bytes_eq-Decides keys distinct j i [] k h same)
