-- The state diagram of a graph, in Mermaid's language.
use Rattle.std.specs.Prelude.{ℕ, ◌+◌, ◌==◌, Option, Some, None, List, [], ◌∷◌, ◌++◌, codes, if◌then◌else◌}
use Rattle.std.specs.Fmt.{decimal}
use Rattle.std.specs.List.{flat_map, join_by}
use Rattle.logos_byte_class.specs.ClassText.{range_text}
use Rattle.logos_reduce.specs.Edges.{StateType}
use Rattle.logos_graph.specs.Graph.{GraphState}

-- A character in a label.
abbrev pub label_character : ℕ → List ℕ
label_character c = if c == 34 then codes "&quot" else (if c == 92 then codes "\\\\" else (if c == 10 then codes "<br>" else c ∷ []))

-- A text in a label.
abbrev pub label_text : List ℕ → List ℕ
label_text text = flat_map label_character text

-- A range of bytes in a label, as printed.
abbrev pub range_label : ℕ × ℕ → List ℕ
range_label range = label_text (range_text range)

-- A range of bytes in a label, on a new line.
abbrev pub next_label : ℕ × ℕ → List ℕ
next_label range = label_character 10 ++ range_label range

-- The ranges of an edge, each on its own line.
abbrev pub class_label : List (ℕ × ℕ) → List ℕ
class_label ranges = join_by range_label (label_character 10) ranges

-- The mark of a state, on its own line. An early mark comes first.
abbrev pub mark_label : Option ℕ → Option ℕ → List ℕ
mark_label (Some leaf) accept = codes "<br>early(" ++ decimal leaf ++ codes ")"
mark_label None (Some leaf) = codes "<br>late(" ++ decimal leaf ++ codes ")"
mark_label None None = []

-- The label of the node of a state.
abbrev pub state_label : ℕ → StateType → List ℕ
state_label s type = codes "State " ++ decimal s ++ mark_label type.early type.accept

-- The colour of states without a mark and of edges.
abbrev pub black : List ℕ
black = codes "#000000"

-- The colour of states with a mark.
abbrev pub green : List ℕ
green = codes "#00C853"

-- A state with a mark is green.
abbrev pub mark_colour : Option ℕ → Option ℕ → List ℕ
mark_colour (Some leaf) accept = green
mark_colour None (Some leaf) = green
mark_colour None None = black

-- The colour of a state.
abbrev pub state_colour : StateType → List ℕ
state_colour type = mark_colour type.early type.accept

-- The name of the node of a state.
abbrev pub node_name : ℕ → List ℕ
node_name s = codes "n" ++ decimal s

-- The name of the node of an edge between two nodes.
abbrev pub edge_name : List ℕ → List ℕ → List ℕ
edge_name from to = codes "e" ++ from ++ to

-- The line with the colour of a node.
abbrev pub style_line : List ℕ → List ℕ → List ℕ
style_line name colour = codes "style " ++ name ++ codes " stroke:" ++ colour ++ 10 ∷ []

-- The line of a link between two nodes.
abbrev pub link_line : List ℕ → List ℕ → List ℕ
link_line from to = from ++ codes "-->" ++ to ++ 10 ∷ []

-- The lines of a state: its node and its style.
abbrev pub node_lines : List ℕ → List ℕ → List ℕ → List ℕ
node_lines name label colour = name ++ codes "[\"" ++ label ++ codes "\"]" ++ 10 ∷ [] ++ style_line name colour

-- The lines of an edge: its node, its style and two links.
abbrev pub edge_lines : List ℕ → List ℕ → List ℕ → List ℕ
edge_lines from to label =
    edge_name from to ++ codes "{\"" ++ label ++ codes "\"}" ++ 10 ∷ [] ++ style_line (edge_name from to) black ++ link_line from (edge_name from to) ++ link_line (edge_name from to) to

-- The lines of an edge on bytes.
abbrev pub byte_edge_lines : List ℕ → List (ℕ × ℕ) × ℕ → List ℕ
byte_edge_lines from edge = edge_lines from (node_name edge.1) (class_label edge.0)

-- The lines of the edge on the end.
abbrev pub end_edge_lines : List ℕ → Option ℕ → List ℕ
end_edge_lines from None = []
end_edge_lines from (Some t) = edge_lines from (node_name t) (codes "EOI")

-- The lines of a state and of its edges.
abbrev pub state_lines : ℕ → GraphState → List ℕ
state_lines s state =
    node_lines (node_name s) (state_label s state.state_type) (state_colour state.state_type)
    ++ flat_map (byte_edge_lines (node_name s)) state.normal ++ end_edge_lines (node_name s) state.eoi

-- The lines of the states from the number `s` on.
abbrev pub lines_from : ℕ → List GraphState → List ℕ
lines_from s [] = []
lines_from s (state ∷ states) = state_lines s state ++ lines_from (s + 1) states

-- The whole diagram, state by state.
abbrev pub mermaid_of : List GraphState → List ℕ
mermaid_of states = codes "flowchart TB" ++ 10 ∷ [] ++ lines_from 0 states
