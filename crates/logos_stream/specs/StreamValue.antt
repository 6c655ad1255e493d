-- The view of a stream.
use Rattle.std.specs.Prelude.{◌≡◌, ℕ}
use Rattle.logos_code.specs.Code.{CodeValue}
use Rattle.logos_stream.specs.WindowValue.{WindowValue, nothing_read}

-- A code and a callback, and the bytes of the stream that are in memory.
pub record StreamValue (R C : Type 0) : Type 0 where
  pub code : CodeValue
  pub callback : C
  pub window : WindowValue R

-- A stream of which nothing was read.
abbrev pub at_start : {R C : Type 0} → CodeValue → R → ℕ → C → StreamValue R C
at_start code reader bound callback = record { code = code; callback = callback; window = nothing_read code.utf8 reader bound }

-- The code and the callback stay unchanged.
pub record KeepsCode {R C : Type 0} (old new : StreamValue R C) : Type 0 where
  pub code : new.code ≡ old.code
  pub callback : new.callback ≡ old.callback
