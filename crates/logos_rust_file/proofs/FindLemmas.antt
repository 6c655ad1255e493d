-- The enums that are added, item by item.
use Rattle.std.proofs.Common.{◌≡◌, ◌≤◌, List, [], ◌∷◌, ◌++◌, append_assoc, sym, ap, ◌∙◌, arith, subst}
use Rattle.std.proofs.lemmas.List.{append-nil}
use Rattle.logos_token.specs.Tokens.{TokenList, also, count_of}
use Rattle.logos_rust_file.specs.declared.finder.FoundEnum.{FoundEnum}
use Rattle.logos_rust_file.specs.Files.{Finds, Describes}
use Rattle.logos_rust_file.specs.Files.Finds.{finds, enters, passes}
use Rattle.logos_rust_file.specs.Fronts.{is_enum, is_module, is_other, kind_of}
use Rattle.logos_rust_file.specs.inside.Finding.{AddsRun, AddsFirst}
use Rattle.logos_rust_file.proofs.FrontLemmas.{enum_front, enum_count, other_count, module_count}

-- the enums up to an item were added, and with those of the rest they are those of the run
pub record SoFar (run rest : TokenList) (before now : List FoundEnum) : Type 0 where
  pub added : List FoundEnum
  pub are : now ≡ before ++ added
  pub completes : (more : List FoundEnum) → Finds rest more → Finds run (added ++ more)
  pub shorter : count_of rest ≤ count_of run

pub begun : (run : TokenList) (before : List FoundEnum) → SoFar run run before before
begun run before = record { added = []; are = sym (append-nil before); completes = λ more f. f; shorter = omega arith }

pub further : (run middle rest : TokenList) (before between now : List FoundEnum) → SoFar run middle before between → AddsFirst middle rest between now → SoFar run rest before now
further run middle rest before between now s a = record {
  added = s.added ++ a.added;
  are = a.are ∙ ap (λ list. list ++ a.added) s.are ∙ append_assoc before s.added a.added;
  completes = λ more f. subst (Finds run) (sym (append_assoc s.added a.added more)) (s.completes (a.added ++ more) (a.completes more f));
  shorter = omega (arith, s.shorter, a.shorter);
}

pub ended : (run rest : TokenList) (before now : List FoundEnum) → SoFar run rest before now → Finds rest [] → AddsRun run before now
ended run rest before now s f = record {
  added = s.added;
  finds = subst (Finds run) (append-nil s.added) (s.completes [] f);
  are = s.are;
}

pub added_enum : (run rest : TokenList) (before now : List FoundEnum) (one : FoundEnum) (e : is_enum rest ≡ kind_of run) → Describes (also (enum_front run rest e).token (enum_front run rest e).tail) one →
    now ≡ before ++ one ∷ [] → AddsFirst run rest before now
added_enum run rest before now one e d a = record {
  added = one ∷ [];
  are = a;
  completes = λ more f. finds (sym e) (enum_front run rest e).is d f;
  shorter = enum_count run rest (enum_front run rest e);
}

pub added_module : (run inside rest : TokenList) (before now : List FoundEnum) → is_module inside rest ≡ kind_of run → AddsRun inside before now → AddsFirst run rest before now
added_module run inside rest before now e a = record {
  added = a.added;
  are = a.are;
  completes = λ more f. enters (sym e) a.finds f;
  shorter = (module_count run inside rest e).1;
}

pub added_nothing : (run rest : TokenList) (before : List FoundEnum) → is_other rest ≡ kind_of run → AddsFirst run rest before before
added_nothing run rest before e = record {
  added = [];
  are = sym (append-nil before);
  completes = λ more f. passes (sym e) f;
  shorter = other_count run rest e;
}
