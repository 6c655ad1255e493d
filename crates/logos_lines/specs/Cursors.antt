-- A cursor as a value.
use Rattle.std.specs.Prelude.{ℕ, List}

-- A text and an offset in it.
pub record CursorValue : Type 0 where
  pub text : List ℕ
  pub at : ℕ
