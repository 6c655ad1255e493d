-- An automaton while it is built, and the reasons why it is not built.
use Rattle.std.specs.Prelude.{◌≡◌, ℕ, ◌<◌, ◌≤◌, Bool, List, length}
use Rattle.logos_positions.specs.Core.{Core}
use Rattle.logos_automaton.specs.Keys.{start_state, IsAt, AreRising, AreDistinct, AreReached, AreRows}
use Rattle.logos_automaton.specs.Munch.{Rule}
use Rattle.logos_automaton.specs.ReadKeys.{HasMoreKeys}
use Rattle.logos_automaton.specs.declared.errors.BuildError.{BuildError}
use Rattle.logos_automaton.specs.declared.errors.BuildError.TheVariants.{LimitSize, LimitStates, Memory}
use Rattle.logos_automaton.specs.declared.key.Key.{Key}

-- The first states have their targets, and the number of states is within the limit.
pub record IsUnderway (ts : List Core) (looks : Bool) (ks : List Key) (rows : List (List ℕ)) (ends : List ℕ) : Type 0 where
  pub start_is : IsAt ks 0 start_state
  pub rising : AreRising ks
  pub distinct : AreDistinct ks
  pub reached : AreReached ts looks ks
  pub few : length ks ≤ 65536
  pub within : length rows ≤ length ks
  pub ends_count : length ends ≡ length rows
  pub rows_are : AreRows ts looks ks rows ends (length rows)

-- More states than the limit can be reached.
pub record HasMoreStates (ts : List Core) (looks : Bool) (limit : ℕ) : Type 0 where
  pub keys : List Key
  pub distinct : AreDistinct keys
  pub reached : AreReached ts looks keys
  pub many : limit < length keys

-- The condition under which no automaton of the patterns is built.
abbrev pub FailsOn : List Core → Bool → BuildError → Type 0
FailsOn ts looks LimitSize = ⊥
FailsOn ts looks LimitStates = HasMoreStates ts looks 65536
FailsOn ts looks Memory = Unit {0}

-- The condition under which no automaton of the rules is built: their byte strings have more keys
-- than the limit, or memory ran out.
abbrev pub FailsFor : List Rule → BuildError → Type 0
FailsFor rules LimitSize = ⊥
FailsFor rules LimitStates = HasMoreKeys rules 65536
FailsFor rules Memory = Unit {0}
