-- Points with the rest of the character that the last bytes begin.
use Rattle.std.specs.Prelude.{ℕ, Bool, ◌&&◌, Option, ◌==◌, option_map, option_and_then}
use Rattle.logos_evidence.specs.search.Rests.{rest_by}
use Rattle.logos_evidence.specs.declared.search.point.Point.{Point}
use Rattle.logos_evidence.specs.declared.search.utf8.Rest.{Rest}
use Rattle.logos_evidence.specs.declared.search.visits.PendingPoint.{PendingPoint}

abbrev pub pending_at : Point → Rest → PendingPoint
pending_at point rest = record { point = point; rest = rest }

-- The pending point after one more byte, if the byte is valid.
abbrev pub pending_next : (Point → ℕ → Option Point) → Bool → PendingPoint → ℕ → Option PendingPoint
pending_next next utf8 pending b =
    option_and_then (λ point. option_map (pending_at point) (rest_by utf8 pending.rest b)) (next pending.point b)

-- An input can end at the pending point, and its point is a goal.
abbrev pub pending_goal : (Point → Bool) → PendingPoint → Bool
pending_goal is_goal pending = is_goal pending.point && pending.rest.count == 0
