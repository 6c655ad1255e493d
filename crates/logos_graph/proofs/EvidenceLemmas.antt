-- Bytes that distinguish two states of a table distinguish the states of the graph that represents
-- it.
use Rattle.std.proofs.Common.{◌≡◌, ◌≢◌, ◌↔◌, ℕ, ◌<◌, Bool, true, false, List, [], ◌∷◌, Option, Some, None, option_map, option_and_then, refl, sym, ◌∙◌, ap, arith}
use Rattle.logos_hir.specs.Text.{IsBytes}
use Rattle.logos_reduce.specs.Table.{size, to, mark, type_of}
use Rattle.logos_reduce.specs.Evidence as of_table
use Rattle.logos_reduce.specs.Evidence.{mark_with_end, mark_after}
use Rattle.logos_reduce.specs.SymbolWords.{state_after}
use Rattle.logos_reduce.specs.declared.table.StateMarks.{StateMarks}
use Rattle.logos_reduce.specs.declared.table.Table.{Table}
use Rattle.logos_graph.specs.Graph.{GraphState, type_after, Distinguishes}
use Rattle.logos_graph.specs.Least.{IsEvidence}
use Rattle.logos_graph.specs.ReduceShown.{Shows}
use Rattle.logos_reduce.proofs.tables.EdgeLemmas.{edge_within}
use Rattle.logos_graph.proofs.LeastLemmas.{same_mark, type_here, type_step, type_stuck, type_end, type_no_end}
use Rattle.logos_graph.proofs.Steps.{first_byte, other_bytes}

-- marks after bytes, in a table and in the graph that shows it
module _ (table : Table) (graph : List GraphState) (shows : Shows table graph) where
  no_bytes : (s : ℕ) (ends : Bool) → s < size table → type_after graph s [] ends ≡ option_map type_of (mark_with_end table s ends)
  no_bytes s false l = type_here table graph shows s l
  no_bytes s true l = go (to table s 256) refl
    where
      go : (o : Option ℕ) → to table s 256 ≡ o → type_after graph s [] true ≡ option_map type_of (option_map (mark table) o)
      go None e = type_no_end table graph shows s l e
      go (Some t) e = type_end table graph shows s t l e

  pub shown_after : (bytes : List ℕ) (s : ℕ) (ends : Bool) → IsBytes bytes → s < size table → type_after graph s bytes ends ≡ option_map type_of (mark_after table s bytes ends)
  shown_after [] s ends ok l = no_bytes s ends l
  shown_after (b ∷ bytes) s ends ok l = go (to table s b) refl (shown_after bytes)
    where
      go : (o : Option ℕ) → to table s b ≡ o → ((s : ℕ) (ends : Bool) → IsBytes bytes → s < size table → type_after graph s bytes ends ≡ option_map type_of (mark_after table s bytes ends)) →
          type_after graph s (b ∷ bytes) ends ≡ option_map type_of (option_and_then (λ t. mark_with_end table t ends) (state_after table o bytes))
      go None e ih = type_stuck table graph shows s b bytes ends l (first_byte b bytes ok) e
      go (Some t) e ih = type_step table graph shows s b t bytes ends l (first_byte b bytes ok) e ∙ ih t ends (other_bytes b bytes ok) (edge_within table s b t e).1

  same_marks : (a b : Option StateMarks) → option_map type_of a ≡ option_map type_of b → a ≡ b
  same_marks None None e = refl
  same_marks None (Some b) e = absurd (cc)
  same_marks (Some a) None e = absurd (cc)
  same_marks (Some a) (Some b) e = ap Some (same_mark a b (cc))

  pub distinguishes_shown : (s t : ℕ) (bytes : List ℕ) (ends : Bool) → IsBytes bytes → s < size table → t < size table →
      (mark_after table s bytes ends ≢ mark_after table t bytes ends) ↔ Distinguishes graph s t bytes ends
  distinguishes_shown s t bytes ends ok ls lt = (
    λ d e. d (same_marks (mark_after table s bytes ends) (mark_after table t bytes ends) (sym (shown_after bytes s ends ok ls) ∙ e ∙ shown_after bytes t ends ok lt)),
    λ d e. d (shown_after bytes s ends ok ls ∙ ap (option_map type_of) e ∙ sym (shown_after bytes t ends ok lt)),
  )

  pub evidence_shown : (s t : ℕ) (bytes : List ℕ) (ends : Bool) → s < size table → t < size table → of_table.IsEvidence table s t bytes ends → IsEvidence graph s t bytes ends
  evidence_shown s t bytes ends ls lt x = record {
    distinguishes = (distinguishes_shown s t bytes ends x.are_bytes ls lt).0 x.distinguishes;
    short = let n = shows.states in let m = x.short in omega arith;
  }
