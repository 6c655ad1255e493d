-- The enums of a file, found in its tokens.
use Rattle.std.specs.Prelude.{◌≡◌, ℕ, List, [], ◌∷◌, ◌++◌}
use Rattle.logos_token.specs.Tokens.{Token, TokenList, also, append, run_span}
use Rattle.logos_token.specs.Spelling.{Spells}
use Rattle.logos_rust_file.specs.declared.finder.FoundEnum.{FoundEnum}
use Rattle.logos_rust_file.specs.Derives.{derives}
use Rattle.logos_rust_file.specs.Fronts.{kind_of, ends, is_enum, is_module, is_other, name_of}

-- `found` is the enum with these tokens.
pub record Describes (item : TokenList) (found : FoundEnum) : Type 0 where
  pub span : found.span ≡ run_span item
  pub name : found.name ≡ name_of item
  pub derives : found.derives ≡ derives item

-- `found` are the enums among the items of a run, in order, and inside its modules that have a
-- body. An enum includes the attributes and the visibility before its `enum`, and other tokens are
-- skipped, groups as a whole.
pub data Finds : TokenList → List FoundEnum → Type 0 where
  done : {run : TokenList} → kind_of run ≡ ends → Finds run []
  finds : {run : TokenList} {token : Token} {tail rest : TokenList} {found : FoundEnum} {more : List FoundEnum} →
      kind_of run ≡ is_enum rest → run ≡ append (also token tail) rest → Describes (also token tail) found → Finds rest more → Finds run (found ∷ more)
  enters : {run inside rest : TokenList} {within more : List FoundEnum} →
      kind_of run ≡ is_module inside rest → Finds inside within → Finds rest more → Finds run (within ++ more)
  passes : {run rest : TokenList} {more : List FoundEnum} → kind_of run ≡ is_other rest → Finds rest more → Finds run more

-- `found` are the enums of a text.
pub record AreEnumsOf (text : List ℕ) (found : List FoundEnum) : Type 0 where
  pub tokens : TokenList
  pub spelled : Spells text tokens
  pub finds : Finds tokens found
