-- A shortest input that leads to a goal.
use Rattle.std.specs.Prelude.{ℕ, ◌≤◌, Bool, List, length, Option}
use Rattle.logos_evidence.specs.search.Machines.{Leads}
use Rattle.logos_evidence.specs.declared.search.point.Point.{Point}

module _ (next : Point → ℕ → Option Point) (is_goal : Point → Bool) (utf8 : Bool) (start : Point) where
  -- No input leads to a goal.
  abbrev pub NoneLeads : Type 0
  NoneLeads = (bytes : List ℕ) → ¬ Leads next is_goal utf8 start bytes

  -- The input leads to a goal, and no other one that does is shorter.
  pub record IsShortest (bytes : List ℕ) : Type 0 where
    pub leads : Leads next is_goal utf8 start bytes
    pub least : (other : List ℕ) → Leads next is_goal utf8 start other → length bytes ≤ length other
