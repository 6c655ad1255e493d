-- The marked text of an input in its page.
use Rattle.std.specs.Prelude.{◌≡◌, ℕ, List, ◌++◌, map}
use Rattle.std.specs.List.{All}
use Rattle.logos_automaton.specs.Faults.{AllStart}
use Rattle.logos_code.specs.Code.{CodeValue}
use Rattle.logos_graph.specs.GraphOf.{IsGraphOf}
use Rattle.logos_graph.specs.View.{GraphValue, rules_of}
use Rattle.logos_hir.specs.Text.{IsBytes}
use Rattle.logos_html.specs.Descriptions.{DescribedItem, IsDescribed}
use Rattle.logos_html.specs.Finds.{Begins, emits}
use Rattle.logos_html.specs.Spans.{items_text}

-- The maximum number of bytes of an input that are shown.
abbrev pub shown : ℕ
shown = 65536

module _ (code : CodeValue) (graph : GraphValue) (bytes : List ℕ) where
  -- The items have descriptions of their starts, or none.
  abbrev pub AreDescribed : List DescribedItem → Type 0
  AreDescribed items = IsGraphOf graph.leaves graph.utf8 graph → AllStart (rules_of graph.leaves) → IsBytes bytes → All (IsDescribed graph.leaves code bytes) items

  -- `text` is a front of an input, in which the first items of its lexer are marked.
  pub record IsMarked (text : List ℕ) : Type 0 where
    pub items : List DescribedItem
    pub first : Begins code emits bytes 0 shown (map (λ (it : DescribedItem). it.item) items)
    pub described : AreDescribed items
    pub end : ℕ
    pub is : text ≡ items_text graph.leaves bytes end 0 0 items

  -- A page contains the marked front of an input.
  pub record HasMarked (page : List ℕ) : Type 0 where
    pub text : List ℕ
    pub marked : IsMarked text
    pub front : List ℕ
    pub rest : List ℕ
    pub is : page ≡ front ++ (text ++ rest)
