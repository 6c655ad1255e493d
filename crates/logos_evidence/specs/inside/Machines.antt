-- The machines of the searches.
use Rattle.std.specs.Prelude.{ℕ, Bool, false, true, not, ◌&&◌, ◌||◌, List, Option, None, Some, is_some, if◌then◌else◌, ◌==◌, nat_lt, nat_le, slice_get, option_map, bytes_eq}
use Rattle.std.specs.List.{list_any}
use Rattle.logos_graph.specs.Graph.{GraphState, next_by, next_at_end}
use Rattle.logos_automaton.specs.Automaton.{Automaton}
use Rattle.logos_automaton.specs.Munch.{Rule}
use Rattle.logos_automaton.specs.inside.TopSets.{top_of}
use Rattle.logos_evidence.specs.declared.search.point.Point.{Point}
use Rattle.logos_evidence.specs.inside.Steps.{step_by, listed_at_end}
use Rattle.logos_evidence.specs.inside.Lasts.{mark_by, mark_at_end, step_to}

-- Whether the last match is a match of the leaf: the match of the new mark, or without one an
-- earlier match, for which `before` is the answer.
abbrev pub is_last : ℕ → Option ℕ → Bool → Bool
is_last leaf None before = before
is_last leaf (Some mark) before = mark == leaf

-- The point before the first byte, at a state.
abbrev pub point_from : ℕ → Point
point_from s = record { here = s; there = 0; begun = false; met = false; last = false }

abbrev pub first_point : Point
first_point = point_from 0

-- The machine of examples. At a goal the last match is a match of `leaf`.
module _ (graph : List GraphState) (leaf : ℕ) where
  abbrev pub example_next : Point → ℕ → Option Point
  example_next at b = Some (record {
    here = step_to graph at.here b;
    there = 0;
    begun = false;
    met = false;
    last = is_last leaf (mark_by graph at.here b) at.last;
  })

  abbrev pub example_goal : Point → Bool
  example_goal at = is_last leaf (mark_at_end graph at.here) at.last

-- Whether neither leaf has a name, or both have the same name.
abbrev pub same_option : Option ℕ → Option ℕ → Bool
same_option None None = true
same_option None (Some n) = false
same_option (Some m) None = false
same_option (Some m) (Some n) = m == n

-- Whether two marks are leaves of the same name.
abbrev pub same_mark : List ℕ → Option ℕ → List ℕ → Option ℕ → Bool
same_mark names None others None = true
same_mark names None others (Some k) = false
same_mark names (Some m) others None = false
same_mark names (Some m) others (Some k) = same_option (slice_get names m) (slice_get others k)

-- Whether a byte can begin a character, or inputs are any bytes.
abbrev pub is_cut : Bool → ℕ → Bool
is_cut utf8 b = not utf8 || (nat_lt b 0x80 || nat_le 0xc0 b)

-- Whether exactly one of two steps leads to a state.
abbrev pub one_leads : Option ℕ → Option ℕ → Bool
one_leads next twin = (is_some next && not (is_some twin)) || (not (is_some next) && is_some twin)

-- Whether the last matches differ after one more step with these marks. `parts` is whether errors
-- may end at different offsets.
abbrev pub differs_after : List ℕ → List ℕ → Bool → Bool → Option ℕ → Option ℕ → Bool → Bool
differs_after names others met last None None parts = if met then last else last || parts
differs_after names others met last None (Some k) parts = true
differs_after names others met last (Some m) None parts = true
differs_after names others met last (Some m) (Some k) parts = not (same_mark names (Some m) others (Some k))

-- The machine of comparisons. At a goal the last matches of two graphs differ, or there are none,
-- and their errors end at different offsets.
module _ (one other : List GraphState) (names others : List ℕ) (utf8 : Bool) where
  abbrev pub parts_at : Point → ℕ → Bool
  parts_at at b = at.begun && (is_cut utf8 b && one_leads (next_by one at.here b) (next_by other at.there b))

  abbrev pub pair_next : Point → ℕ → Option Point
  pair_next at b = Some (record {
    here = step_to one at.here b;
    there = step_to other at.there b;
    begun = true;
    met = at.met || (is_some (mark_by one at.here b) || is_some (mark_by other at.there b));
    last = differs_after names others at.met at.last (mark_by one at.here b) (mark_by other at.there b) (parts_at at b);
  })

  abbrev pub pair_goal : Point → Bool
  pair_goal at = differs_after names others at.met at.last (mark_at_end one at.here) (mark_at_end other at.there) false

-- The machine of covering inputs, which follows the edges of a graph.
module _ (graph : List GraphState) where
  abbrev pub edge_next : Point → ℕ → Option Point
  edge_next at b = option_map point_from (next_by graph at.here b)

  -- Whether there is an edge for the end of the input.
  abbrev pub edge_goal : Point → Bool
  edge_goal at = is_some (next_at_end graph at.here)

-- ---- Leaves that an automaton lists

-- Whether the leaf is among the listed ones.
abbrev pub lists : ℕ → Option (List ℕ) → Bool
lists leaf None = false
lists leaf (Some leaves) = list_any (λ other. other == leaf) leaves

-- Whether the listed leaves of highest priority are this set.
abbrev pub tops_are : List Rule → List ℕ → Option (List ℕ) → Bool
tops_are rules set None = false
tops_are rules set (Some leaves) = bytes_eq (top_of rules leaves) set

-- The machine of losses. At a goal `leaf` has matched, and the last match is a match of another
-- leaf.
module _ (dfa : Automaton) (graph : List GraphState) (leaf : ℕ) where
  abbrev pub loss_at : Point → ℕ → ℕ → Point
  loss_at at b next = record {
    here = next;
    there = step_to graph at.there b;
    begun = false;
    met = at.met || lists leaf (slice_get dfa.matches next);
    last = is_last leaf (mark_by graph at.there b) at.last;
  }

  abbrev pub loss_next : Point → ℕ → Option Point
  loss_next at b = option_map (loss_at at b) (step_by dfa at.here b)

  abbrev pub loss_goal : Point → Bool
  loss_goal at = (at.met || lists leaf (listed_at_end dfa at.here)) && not (is_last leaf (mark_at_end graph at.there) at.last)

-- After the span the point only tracks whether a character has ended.
abbrev pub meeting_at : ℕ → Bool → Point
meeting_at next met = record { here = if met then 0 else next; there = 0; begun = false; met = met; last = false }

-- The machine of meetings. At a goal exactly the leaves of a set are those of highest priority for
-- some span.
module _ (dfa : Automaton) (rules : List Rule) (set : List ℕ) where
  abbrev pub meeting_on : ℕ → Point
  meeting_on next = meeting_at next (tops_are rules set (slice_get dfa.matches next))

  abbrev pub meeting_next : Point → ℕ → Option Point
  meeting_next at b = if at.met then Some (meeting_at 0 true) else option_map meeting_on (step_by dfa at.here b)

  abbrev pub meeting_goal : Point → Bool
  meeting_goal at = at.met || tops_are rules set (listed_at_end dfa at.here)
