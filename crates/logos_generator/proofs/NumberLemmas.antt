-- Tests by their numbers.
use Rattle.std.proofs.Common.{◌≡◌, ◌∙◌, ℕ, suc, ◌+◌, ◌-◌, ◌*◌, ◌<◌, ◌≤◌, Bool, true, false, if◌then◌else◌, List, [], ◌∷◌, ◌++◌, length, map, drop, get_or, slice_get, Some, slice_index, slice_index_or, append-nil, refl, sym, ap, subst, arith, ◌==◌, ⊎_elim}
use Rattle.std.specs.Bool.{beq}
use Rattle.std.specs.Cmp.Lexicographic.{pointwise}
use Rattle.std.specs.List.{flat_map, list_any, range_with_len}
use Rattle.std.proofs.lemmas.List.{drop_all, drop_more, same_lists, get_or_default}
use Rattle.std.proofs.lemmas.List.FromFn.{get_or-map-range_with_len, length-map-range_with_len, map-range_with_len_more}
use Rattle.std.proofs.lemmas.Option.{get_or_from_slice_get, slice_get_within}
use Rattle.std.proofs.lemmas.List.Sums.{fold-append}
use Rattle.std.proofs.lemmas.Bool.Decides.{eqb_tells}
use Rattle.indexmap.specs.IndexSet.{insert_key}
use Rattle.logos_code.specs.CodeView.{entry_of}
use Rattle.logos_graph.specs.Graph.{GraphState}
use Rattle.logos_hir.specs.ByteRanges.{is_in}
use Rattle.logos_graph.specs.FinishedGraph.{Edge}
use Rattle.logos_graph.specs.GraphView.{edge_of}
use Rattle.logos_byte_class.specs.declared.byte_class.ByteClass.{ByteClass}
use Rattle.logos_graph.specs.declared.graph.State.{State}
use Rattle.logos_generator.specs.Nodes.{leads_beside, tests_byte, Extends}
use Rattle.logos_generator.specs.Numbering.{set_of, with_use, numbered, state_uses, uses_from, jump_entry, jump_table, fork_tables, with_tables, tables_from, bits_from, bit_table}

-- a list given by its elements, as a function of their numbers
pub listed : {A : Type 0} (xs : List A) (f : ℕ → A) (n : ℕ) → length xs ≡ n → ((k : ℕ) (d : A) → k < n → get_or xs k d ≡ f k) → xs ≡ map f (range_with_len 0 n)
listed xs f n long each =
    same_lists xs (map f (range_with_len 0 n)) (long ∙ sym (length-map-range_with_len f 0 n)) (λ k d h. let l : k < n = omega (arith, h, long) in
    each k d l ∙ sym (get_or-map-range_with_len f 0 n k k d l (omega arith)))

-- the table of a class is its set
pub set_is : (table : List Bool) (ranges : List (ℕ × ℕ)) → length table ≡ 256 → ((b : ℕ) → b < 256 → slice_index_or table b false ≡ is_in ranges b) → table ≡ set_of ranges
set_is table ranges long each = listed table (is_in ranges) 256 long (λ k d h. get_or_default table k d false (omega (arith, h, long)) ∙ each k h)

-- one use after others
pub numbered_both : (tests : List (List Bool)) (a b : List (List (ℕ × ℕ))) → numbered tests (a ++ b) ≡ numbered (numbered tests a) b
numbered_both tests a b = fold-append with_use tests a b

-- a loop that numbers the uses of each edge
pub edges_numbered : (f : Edge → List (List (ℕ × ℕ))) (xs : List (ByteClass × State)) (i : ℕ) (d : ByteClass × State) (old new whole : List (List Bool)) → i < length xs →
    new ≡ numbered old (f (edge_of (get_or xs i d))) → numbered old (flat_map f (map edge_of (drop i xs))) ≡ whole → numbered new (flat_map f (map edge_of (drop (i + 1) xs))) ≡ whole
edges_numbered f xs i d old new whole l e all =
    ap (λ tests. numbered tests (flat_map f (map edge_of (drop (i + 1) xs)))) e
    ∙ sym (numbered_both old (f (edge_of (get_or xs i d))) (flat_map f (map edge_of (drop (i + 1) xs))))
    ∙ ap (λ rest. numbered old (flat_map f (map edge_of rest))) (sym (drop_more xs i d l)) ∙ all

-- the uses of a state after those of the states before it
pub states_numbered : (graph : List GraphState) (s : ℕ) (state : GraphState) (old new whole : List (List Bool)) → slice_get graph s ≡ Some state →
    new ≡ numbered old (state_uses s state.normal) → numbered old (uses_from s (drop s graph)) ≡ whole → numbered new (uses_from (s + 1) (drop (s + 1) graph)) ≡ whole
states_numbered graph s state old new whole is e all =
    let at : get_or graph s state ≡ state = get_or_from_slice_get graph s state state is in
    let front : drop s graph ≡ state ∷ drop (s + 1) graph = drop_more graph s state (slice_get_within graph s state is) ∙ ap (λ x. x ∷ drop (s + 1) graph) at in
    ap (λ tests. numbered tests (uses_from (s + 1) (drop (s + 1) graph))) e
    ∙ sym (numbered_both old (state_uses s state.normal) (uses_from (s + 1) (drop (s + 1) graph)))
    ∙ ap (λ rest. numbered old (uses_from s rest)) (sym front) ∙ all

-- no state is left
pub states_whole : (graph : List GraphState) (s : ℕ) (tests whole : List (List Bool)) → length graph ≤ s → numbered tests (uses_from s (drop s graph)) ≡ whole → tests ≡ whole
states_whole graph s tests whole l all = rw (drop_all s graph l) at all

-- an entry of a jump table is the entry of its state
entry_back : (x : ℕ) → jump_entry (entry_of x) ≡ x
entry_back x = ⊎_elim (λ h. rw h.0 (sym h.1)) (λ h. rw h.0 refl) (eqb_tells x 4294967295)

-- the jump table of a state's edges, by the targets of its entries
pub jump_table_is : (table : List ℕ) (s : ℕ) (edges : List Edge) → length table ≡ 256 → ((b : ℕ) → b < 256 → entry_of (slice_index table b) ≡ leads_beside s edges b) →
    table ≡ jump_table s edges
jump_table_is table s edges long each = listed table (λ b. jump_entry (leads_beside s edges b)) 256 long (λ k d h.
    get_or_default table k d 0 (omega (arith, h, long)) ∙ sym (entry_back (slice_index table k)) ∙ ap jump_entry (each k h))

-- the jump tables of a state after those of the states before it
pub states_tabled : (graph : List GraphState) (s : ℕ) (state : GraphState) (old new whole : List (List ℕ)) → slice_get graph s ≡ Some state →
    new ≡ with_tables old (fork_tables s state.normal) → with_tables old (tables_from s (drop s graph)) ≡ whole → with_tables new (tables_from (s + 1) (drop (s + 1) graph)) ≡ whole
states_tabled graph s state old new whole is e all =
    let at : get_or graph s state ≡ state = get_or_from_slice_get graph s state state is in
    let front : drop s graph ≡ state ∷ drop (s + 1) graph = drop_more graph s state (slice_get_within graph s state is) ∙ ap (λ x. x ∷ drop (s + 1) graph) at in
    ap (λ tables. with_tables tables (tables_from (s + 1) (drop (s + 1) graph))) e
    ∙ sym (fold-append (insert_key (pointwise ◌==◌)) old (fork_tables s state.normal) (tables_from (s + 1) (drop (s + 1) graph)))
    ∙ ap (λ rest. with_tables old (tables_from s rest)) (sym front) ∙ all

-- no state is left
pub states_all_tabled : (graph : List GraphState) (s : ℕ) (tables whole : List (List ℕ)) → length graph ≤ s → with_tables tables (tables_from s (drop s graph)) ≡ whole → tables ≡ whole
states_all_tabled graph s tables whole l all = rw (drop_all s graph l) at all

-- one bit more in front of the others
pub bits_more : (tests : List (List Bool)) (b j i v x : ℕ) → i < 8 → v ≡ bits_from tests b (8 * j + 8 - i) i → x ≡ (if tests_byte tests (8 * j + 7 - i) b then 1 else 0) →
    v * 2 + x ≡ bits_from tests b (8 * j + 8 - (i + 1)) (i + 1)
bits_more tests b j i v x l e f =
    let first : 8 * j + 8 - (i + 1) ≡ 8 * j + 7 - i = omega (arith, l) in
    let next : 8 * j + 7 - i + 1 ≡ 8 * j + 8 - i = omega (arith, l) in
    let count : i + 1 ≡ suc i = omega arith in
    rw (first, count, next, e, f) refl

pub bits_whole : (tests : List (List Bool)) (b j i v : ℕ) → i ≡ 8 → v ≡ bits_from tests b (8 * j + 8 - i) i → v ≡ bits_from tests b (8 * j) 8
bits_whole tests b j i v e is =
    let first : 8 * j + 8 - 8 ≡ 8 * j = omega arith in
    subst (λ k. v ≡ bits_from tests b k 8) first (rw e at is)

-- one table more
pub tables_more : (tests : List (List Bool)) (j : ℕ) (table : List ℕ) (old new : List (List ℕ)) → old ≡ map (bit_table tests) (range_with_len 0 j) → table ≡ bit_table tests j →
    new ≡ old ++ table ∷ [] → new ≡ map (bit_table tests) (range_with_len 0 (j + 1))
tables_more tests j table old new are is e = rw (e, are, is) (sym (map-range_with_len_more (bit_table tests) 0 j j (omega arith)))

-- the list ends where the count does
pub tables_whole : (tests : List (List Bool)) (j n : ℕ) (tables : List (List ℕ)) → j ≡ n → tables ≡ map (bit_table tests) (range_with_len 0 j) → tables ≡ map (bit_table tests) (range_with_len 0 n)
tables_whole tests j n tables e are = rw e at are

-- a set that is inserted goes last, if it goes anywhere
pub insert_grows : (tests : List (List Bool)) (set : List Bool) → Extends tests (insert_key (pointwise beq) tests set)
insert_grows tests set = go (list_any (pointwise beq set) tests)
  where
    go : (b : Bool) → Extends tests (if b then tests else tests ++ set ∷ [])
    go true = ([], sym (append-nil tests))
    go false = (set ∷ [], refl)

-- and so is a table
pub tables_grow : (tables : List (List ℕ)) (table : List ℕ) → Extends tables (insert_key (pointwise ◌==◌) tables table)
tables_grow tables table = go (list_any (pointwise ◌==◌ table) tables)
  where
    go : (b : Bool) → Extends tables (if b then tables else tables ++ table ∷ [])
    go true = ([], sym (append-nil tables))
    go false = (table ∷ [], refl)
