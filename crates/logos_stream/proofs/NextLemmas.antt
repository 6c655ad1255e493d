-- The next event of a stream, from the first event in the lexable bytes.
use Rattle.std.proofs.Common.{◌≡◌, ◌⊎◌, inl, inr, ℕ, ◌<◌, false, List, ◌++◌}
use Rattle.logos_code.specs.Code.{CodeValue}
use Rattle.logos_code.specs.Items.{Callback}
use Rattle.logos_machine.specs.Streams.{MayFollow, RunsOver, passes_none}
use Rattle.logos_stream.specs.Fronts.{IsFirst, IsOver, IsWaiting, end_of, item_in}
use Rattle.logos_stream.specs.Moves.{Finishes, Yields, Waits, WaitsAt}
use Rattle.logos_stream.specs.Nexts.{DoesNext, IsUndecided, WaitsNext}
use Rattle.logos_stream.specs.WindowValue.{WindowValue, unread_length}
use Rattle.logos_stream.specs.declared.item.StreamItem.{StreamItem}
use Rattle.logos_stream.specs.declared.item.Streamed.{Streamed}
use Rattle.logos_stream.specs.declared.item.Streamed.TheVariants.{Item as Given, More, TooLong, NotUtf8, End}

module _ {R : Type 0} (code : CodeValue) (callback : Callback) (old new : WindowValue R) where
  pub yields_next : (found : StreamItem) (r : Streamed) → IsFirst code callback old.lexed old.is_last found → Yields old new found r → DoesNext code callback old new r
  yields_next found (Given item) f g = record { found = found; first = f; shows = g }
  yields_next found NotUtf8 f g = inr (record { to = end_of found; why = inl (item_in found old.lexed, f.finds); stuck = g })
  yields_next found More f g = absurd g
  yields_next found TooLong f g = absurd g
  yields_next found End f g = absurd g

  module _ (to : ℕ) (waiting : old.is_last ≡ false) (over : (more : List ℕ) → MayFollow code more → RunsOver code callback (old.lexed ++ more) 0 to)
      (why : IsUndecided code old.lexed to ⊎ (unread_length old < old.wanted)) where
    waiting_next : WaitsAt old new to → WaitsNext code callback old new
    waiting_next w = record { passed = to; waits = w; unsettled = waiting; over = over; why = why }

    waits_for : (r : Streamed) → Waits old new to r → DoesNext code callback old new r
    waits_for More w = (waiting_next w.0, w.1)
    waits_for TooLong w = (waiting_next w.0, w.1)
    waits_for NotUtf8 w = inr (record { to = to; why = inr over; stuck = w })
    waits_for (Given item) w = absurd w
    waits_for End w = absurd w

  pub waits_next : (to : ℕ) (r : Streamed) → IsWaiting code callback old.lexed old.is_last to → Waits old new to r → DoesNext code callback old new r
  waits_next to r i w = waits_for to i.unsettled i.passed (inl (record { looks = i.looks; undecided = i.undecided })) r w

  pub waits_longer : (r : Streamed) → old.is_last ≡ false → unread_length old < old.wanted → Waits old new 0 r → DoesNext code callback old new r
  waits_longer r waiting few w = waits_for 0 waiting (λ more follows. passes_none 0) (inr few) r w

  pub finishes_next : (r : Streamed) → IsOver code callback old.lexed old.is_last → Finishes old new r → DoesNext code callback old new r
  finishes_next NotUtf8 o f = inl (record { last = o.last; over = o.over; past = f.0 }, f.1)
  finishes_next End o f = (record { last = o.last; over = o.over; past = f.0 }, f.1, f.2)
  finishes_next More o f = absurd f
  finishes_next TooLong o f = absurd f
  finishes_next (Given item) o f = absurd f
