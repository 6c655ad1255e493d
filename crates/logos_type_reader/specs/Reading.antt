-- The runs that begin with a type, and the first fault of each other run. `levels` is the number of
-- types that can be nested, where the outermost one counts.
use Rattle.std.specs.Prelude.{◌≡◌, ℕ, ◌-◌, ◌<◌, ◌||◌, List, [], ◌∷◌, ◌++◌, Bool, true, false, Some, None}
use Rattle.logos_token.specs.Tokens.{TokenList, rest_of, append, run_span}
use Rattle.logos_type.specs.Parts.{Sign, Tree, sign, name, whole, still, trees, none, also}
use Rattle.logos_type_reader.specs.StillRuns.{still_run}
use Rattle.logos_type_reader.specs.declared.table.stage.Stage.{Stage}
use Rattle.logos_type_reader.specs.Table.{Spot, outer, Move, ends, takes, bars, needs, keeps_type, keeps, nests, stops, starts, refused, Fault, unsupported, too_deep, next_at, begin, name_of}

-- The next step at a spot.
abbrev pub next_of : Spot → Move
next_of spot = next_at spot.stage spot.run spot.outside

-- The spot after a type or a path.
abbrev pub after_type : Spot → Stage → TokenList → Spot
after_type spot stage run = record { stage = stage; run = run; outside = spot.outside }

mutual
  -- The run begins with this type, and the rest follows. The type is a name, or a first token and
  -- the parts after it, none of which makes it unsupported. `+` joins bounds only if `plus` holds.
  pub data IsType : ℕ → Bool → TokenList → Tree → TokenList → Type 0 where
    name_alone : {levels : ℕ} {plus : Bool} {run : TokenList} {text : List ℕ} →
        0 < levels → name_of run ≡ Some text → IsType levels plus run (name text) (rest_of run)
    formed : {levels : ℕ} {plus : Bool} {run : TokenList} {s : Sign} {spot : Spot} {parts : List Tree} {rest : TokenList} →
        0 < levels → name_of run ≡ None → begin plus run ≡ starts false s spot → AreParts (levels - 1) false spot parts rest →
        IsType levels plus run (whole (trees (sign s ∷ parts))) rest

  -- The next parts at a spot, whether one of them makes the type unsupported, and the spot after
  -- them.
  pub data IsMove : ℕ → Bool → Spot → List Tree → Spot → Type 0 where
    a_token : {levels : ℕ} {spot : Spot} {s : Sign} {next : Spot} → next_of spot ≡ takes s next → IsMove levels false spot (sign s ∷ []) next
    a_bar : {levels : ℕ} {spot : Spot} {s : Sign} {next : Spot} → next_of spot ≡ bars s next → IsMove levels true spot (sign s ∷ []) next
    a_type : {levels : ℕ} {spot : Spot} {plus : Bool} {stage : Stage} {part : Tree} {rest : TokenList} →
        next_of spot ≡ needs plus stage → IsType levels plus spot.run part rest → IsMove levels false spot (part ∷ []) (after_type spot stage rest)
    a_still_type : {levels : ℕ} {spot : Spot} {stage : Stage} {part : Tree} {rest : TokenList} → next_of spot ≡ keeps_type stage →
        IsType levels true spot.run part rest → IsMove levels false spot (still (also part none) ∷ []) (after_type spot stage rest)
    still_tokens : {levels : ℕ} {spot : Spot} {run : TokenList} {next : Spot} → next_of spot ≡ keeps run next → IsMove levels false spot (still (trees (still_run run)) ∷ []) next
    a_nest : {levels : ℕ} {barred : Bool} {spot : Spot} {s : Sign} {inner : Spot} {stage : Stage} {parts : List Tree} {rest : TokenList} →
        next_of spot ≡ nests s inner stage → AreParts levels barred inner parts rest → IsMove levels barred spot (sign s ∷ parts) (after_type spot stage rest)

  -- The parts from a spot to the end of the construct that was begun there, whether one of them
  -- makes the type unsupported, and the rest.
  pub data AreParts : ℕ → Bool → Spot → List Tree → TokenList → Type 0 where
    ended : {levels : ℕ} {spot : Spot} → next_of spot ≡ ends → AreParts levels false spot [] (outer spot.run spot.outside)
    further : {levels : ℕ} {barred now onward : Bool} {spot next : Spot} {front parts : List Tree} {rest : TokenList} →
        IsMove levels now spot front next → AreParts levels onward next parts rest → barred ≡ (now || onward) → AreParts levels barred spot (front ++ parts) rest

mutual
  -- The run does not begin with a type of at most `levels`, and this is its first fault from the
  -- left.
  pub data NoType : ℕ → Bool → TokenList → Fault → Type 0 where
    deep_name : {levels : ℕ} {plus : Bool} {run : TokenList} {text : List ℕ} → levels ≡ 0 → name_of run ≡ Some text → NoType levels plus run too_deep
    deep : {levels : ℕ} {plus barred : Bool} {run : TokenList} {s : Sign} {spot : Spot} →
        levels ≡ 0 → name_of run ≡ None → begin plus run ≡ starts barred s spot → NoType levels plus run too_deep
    unbegun : {levels : ℕ} {plus : Bool} {run : TokenList} {fault : Fault} → name_of run ≡ None → begin plus run ≡ refused fault → NoType levels plus run fault
    unended : {levels : ℕ} {plus barred : Bool} {run : TokenList} {s : Sign} {spot : Spot} {fault : Fault} →
        0 < levels → name_of run ≡ None → begin plus run ≡ starts barred s spot → NoParts (levels - 1) spot fault → NoType levels plus run fault
    -- An unsupported type. The span of the fault is the whole type.
    left_out : {levels : ℕ} {plus first other : Bool} {run : TokenList} {s : Sign} {spot : Spot} {parts : List Tree} {rest : TokenList} (front : TokenList) →
        0 < levels → name_of run ≡ None → begin plus run ≡ starts first s spot → AreParts (levels - 1) other spot parts rest → (first || other) ≡ true →
        run ≡ append front rest → NoType levels plus run (unsupported (run_span front))

  -- No step fits at the spot.
  pub data NoMove : ℕ → Spot → Fault → Type 0 where
    no_token : {levels : ℕ} {spot : Spot} {fault : Fault} → next_of spot ≡ stops fault → NoMove levels spot fault
    no_type : {levels : ℕ} {spot : Spot} {plus : Bool} {stage : Stage} {fault : Fault} →
        next_of spot ≡ needs plus stage → NoType levels plus spot.run fault → NoMove levels spot fault
    no_still_type : {levels : ℕ} {spot : Spot} {stage : Stage} {fault : Fault} → next_of spot ≡ keeps_type stage → NoType levels true spot.run fault → NoMove levels spot fault
    no_nest : {levels : ℕ} {spot : Spot} {s : Sign} {inner : Spot} {stage : Stage} {fault : Fault} →
        next_of spot ≡ nests s inner stage → NoParts levels inner fault → NoMove levels spot fault

  -- No step fits after some parts.
  pub data NoParts : ℕ → Spot → Fault → Type 0 where
    here : {levels : ℕ} {spot : Spot} {fault : Fault} → NoMove levels spot fault → NoParts levels spot fault
    later : {levels : ℕ} {now : Bool} {spot next : Spot} {parts : List Tree} {fault : Fault} →
        IsMove levels now spot parts next → NoParts levels next fault → NoParts levels spot fault
