-- The runs of a code value on an input.
use Rattle.std.specs.Prelude.{◌≡◌, ℕ, suc, ◌+◌, ◌-◌, ◌≤◌, max, Bool, ◌&&◌, List, length, drop, Option, Some, None, option_map, if◌then◌else◌, ◌==◌, slice_get, false, IsTrue, IsCharBoundary, find, slice_index_or}
use Rattle.std.specs.List.{take_while}
use Rattle.std.specs.Option.{option_map_or}
use Rattle.logos_byte_class.specs.Bytes.{some_compares}
use Rattle.logos_code.specs.Bytes.{passes_test}
use Rattle.logos_code.specs.Code.{CodeValue, CodeState, Mark, Condition, by_comparisons, by_test, Fork, by_conditions, by_table}
use Rattle.logos_automaton.specs.Munch.{Found, ended, matched, failed}
use Rattle.logos_code.specs.Items.{Callback, Item, Lexes, NextItem}

-- The status of an attempt as it enters a state.
pub record Status : Type 0 where
  pub state : ℕ
  pub offset : ℕ
  -- The last mark passed: its leaf, and the end of its match.
  pub context : Option (ℕ × ℕ)

-- An attempt continues in another state, or it ends.
pub data Turn : Type 0 where
  enters : Status → Turn
  acts : Option (ℕ × ℕ) → (offset : ℕ) → Turn
  returns : Turn

-- The context after a mark at the offset.
abbrev pub marked : Option Mark → ℕ → Option (ℕ × ℕ) → Option (ℕ × ℕ)
marked None offset context = context
marked (Some mark) offset context = Some (mark.leaf, if mark.late then offset - 1 else offset)

-- The attempt continues in the target, if there is one.
abbrev pub led : Option ℕ → ℕ → Option (ℕ × ℕ) → Turn
led target offset context = option_map_or (λ next. enters (record { state = next; offset = offset + 1; context = context })) target (acts context offset)

module _ (code : CodeValue) where
  abbrev pub passes : Condition → ℕ → Bool
  passes (by_comparisons all) b = some_compares all b
  passes (by_test k) b = passes_test code.bit_tables k b

  -- The state to which the byte leads.
  abbrev pub target : Fork → ℕ → Option ℕ
  target (by_conditions edges) b = option_map (λ edge. edge.1) (find (λ edge. passes edge.0 b) edges)
  target (by_table entries) b = slice_index_or entries b None

  -- The byte passes the test of the fast loop.
  abbrev pub stays : Option ℕ → ℕ → Bool
  stays None b = false
  stays (Some k) b = passes_test code.bit_tables k b

  -- The number of bytes at the front that pass the test of the fast loop.
  abbrev pub looped : Option ℕ → List ℕ → ℕ
  looped None rest = 0
  looped (Some k) rest = length (take_while (passes_test code.bit_tables k) rest)

  -- The turn of a fork at the next byte, if there is one, or at the end of the input.
  abbrev pub forked : CodeState → Option ℕ → Bool → ℕ → Option (ℕ × ℕ) → Turn
  forked state (Some b) fresh offset context = led (target state.fork b) offset context
  forked state None fresh offset context = if fresh then returns else led state.at_end offset context

  module _ (bytes : List ℕ) (start : ℕ) where
    -- The turn of a state: its fast loop, its mark, and its fork.
    abbrev pub turn : CodeState → Status → Turn
    turn state at =
        let offset = at.offset + looped state.fast_loop (drop at.offset bytes) in
        forked state (slice_get bytes offset) (at.state == code.root && offset == start) offset (marked state.mark offset at.context)

    -- This is the turn of the state that is entered.
    abbrev pub Does : Status → Turn → Type 0
    Does at what = (state : CodeState) × (slice_get code.states at.state ≡ Some state) × (turn state at ≡ what)

    -- The end of an error of an attempt that has reached the offset: after at least one byte, and
    -- in UTF-8 mode between characters.
    pub record EndsError (offset to : ℕ) : Type 0 where
      pub past : max offset (start + 1) ≤ to
      pub boundary : IsTrue code.utf8 → IsCharBoundary bytes to
      pub least : (other : ℕ) → max offset (start + 1) ≤ other → (IsTrue code.utf8 → IsCharBoundary bytes other) → to ≤ other

    -- The result of an attempt that ends with this context.
    abbrev pub Acts : Option (ℕ × ℕ) → ℕ → Found → Type 0
    Acts (Some context) offset found = found ≡ matched context.0 context.1
    Acts None offset ended = ⊥
    Acts None offset (matched leaf to) = ⊥
    Acts None offset (failed to) = EndsError offset to

    -- From this status on, the attempt has this result, and enters this number of states.
    pub data AttemptsFrom : Status → Found → ℕ → Type 0 where
      continues : (at next : Status) (found : Found) (n : ℕ) → Does at (enters next) → AttemptsFrom next found n → AttemptsFrom at found (suc n)
      is_over : (at : Status) → Does at returns → AttemptsFrom at ended 1
      acts_on : (at : Status) (context : Option (ℕ × ℕ)) (offset : ℕ) (found : Found) →
          Does at (acts context offset) → Acts context offset found → AttemptsFrom at found 1

    -- A match attempt from the start has this result, and enters this number of states.
    abbrev pub Attempts : Found → ℕ → Type 0
    Attempts = AttemptsFrom (record { state = code.root; offset = start; context = None })

-- The result of a code value at a point.
abbrev pub CodeFinds : CodeValue → List ℕ → ℕ → Found → Type 0
CodeFinds code bytes from found = (n : ℕ) × Attempts code bytes from found n

-- The items of a run of the code value, from a point on.
abbrev pub Runs : CodeValue → Callback → List ℕ → ℕ → List Item → Type 0
Runs code callback bytes = Lexes code.leaves callback bytes (CodeFinds code bytes)

-- The next item of a run of the code value from a point on, and the point after it.
abbrev pub RunsOn : CodeValue → Callback → List ℕ → ℕ → Item → ℕ → Type 0
RunsOn code callback bytes = NextItem code.leaves callback bytes (CodeFinds code bytes)
