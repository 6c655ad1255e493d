-- The arguments of a command line, one after another.
use Rattle.std.proofs.Common.{◌≡◌, ◌<◌, ◌+◌, ℕ, suc, List, [], ◌∷◌, Some, None, length, get_or, drop, map, sym, ap, ◌∙◌, refl, arith}
use Rattle.std.proofs.Math.Seq.{drop-cons}
use Rattle.logos_options.specs.Arguments.{ArgumentsValue, with_word, with_arguments}
use Rattle.logos_options.specs.declared.program.Program.{Program}

module _ {A : Type 0} (f : A → List ℕ) (arguments : List A) (i : ℕ) (program : Program) (given : ArgumentsValue) where
  -- The meaning of the next argument.
  next_word : (item : A) → i < length arguments → item ≡ get_or arguments i item →
      with_arguments program (Some given) (map f (drop i arguments)) ≡ with_arguments program (with_word program given (f item)) (map f (drop (i + 1) arguments))
  next_word item l e =
      let k : suc i ≡ i + 1 = omega arith in
      ap (λ list. with_arguments program (Some given) (map f list)) (drop-cons arguments i item l)
      ∙ ap (λ x. with_arguments program (with_word program given (f x)) (map f (drop (suc i) arguments))) (sym e)
      ∙ ap (λ n. with_arguments program (with_word program given (f item)) (map f (drop n arguments))) k

  pub word_read : (item : A) (next : ArgumentsValue) → i < length arguments → item ≡ get_or arguments i item → with_word program given (f item) ≡ Some next →
      with_arguments program (Some given) (map f (drop i arguments)) ≡ with_arguments program (Some next) (map f (drop (i + 1) arguments))
  word_read item next l e r = next_word item l e ∙ ap (λ o. with_arguments program o (map f (drop (i + 1) arguments))) r

none_left : (program : Program) (arguments : List (List ℕ)) → with_arguments program None arguments ≡ None
none_left program [] = refl
none_left program (word ∷ rest) = refl

pub word_refused : {A : Type 0} (f : A → List ℕ) (arguments : List A) (i : ℕ) (program : Program) (given : ArgumentsValue) (item : A) → i < length arguments → item ≡ get_or arguments i item → with_word program given (f item) ≡ None →
    with_arguments program (Some given) (map f (drop i arguments)) ≡ None
word_refused f arguments i program given item l e r = next_word f arguments i program given item l e ∙ ap (λ o. with_arguments program o (map f (drop (i + 1) arguments))) r ∙ none_left program (map f (drop (i + 1) arguments))
