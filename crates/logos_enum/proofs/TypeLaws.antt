-- A run begins with at most one type, or has one fault.
use Rattle.std.proofs.Common.{◌≡◌}
use Rattle.logos_token.specs.Tokens.{TokenList}
use Rattle.logos_type.specs.Parts.{Tree}
use Rattle.logos_type_reader.specs.Table.{Fault}
use Rattle.logos_type_reader.specs.TypeExprs.{IsTypeExpr, NoTypeExpr}
use Rattle.logos_type_reader.proofs.ReadingLaws as laws

pub one_type : (run rest other : TokenList) (type different : Tree) → IsTypeExpr run type rest → IsTypeExpr run different other → (type ≡ different) × (rest ≡ other)
one_type run rest other type different h k = laws.one_type h k

pub no_type : (run rest : TokenList) (type : Tree) (fault : Fault) → NoTypeExpr run fault → IsTypeExpr run type rest → ⊥
no_type run rest type fault h k = laws.not_less (laws.refused_type h k)

pub one_type_fault : (run : TokenList) (fault other : Fault) → NoTypeExpr run fault → NoTypeExpr run other → fault ≡ other
one_type_fault run fault other h k = laws.one_fault h k
