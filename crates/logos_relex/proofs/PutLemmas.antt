-- Lists in which some chunks replace others.
use Rattle.std.proofs.Common.{◌≡◌, ◌∙◌, ℕ, List, ◌++◌, length, take, drop, Result, Ok, Err, IfOk, OnOk, OnErr, sym, ap, subst}
use Rattle.std.proofs.Math.Seq.{drop-length}
use Rattle.std.proofs.lemmas.List.{append_assoc, append-nil}
use Rattle.std.specs.List.{splice}
use Rattle.logos_relex.specs.inside.Anews.{EndsWith, PutsAnew}
use Rattle.logos_relex.specs.declared.anew.After.{After}
use Rattle.logos_relex.specs.declared.anew.After.TheVariants.{Former, Last}
use Rattle.logos_relex.specs.declared.anew.Anew.{Anew}
use Rattle.logos_relex.specs.declared.lexed.Lexed.{Lexed}

-- a property that holds is preserved after an error
pub on_err : {T E : Type 0} (result : Result T E) (P : Type 0) → P → OnErr result P
on_err (Ok x) P p = tt
on_err (Err e) P p = p

-- the consequences of a value's clause hold for the value
pub from_ok : {T E : Type 0} (result : Result T E) (P Q : Type 0) → (P → Q) → OnOk result P → IfOk result (λ _. Q)
from_ok (Ok x) P Q f p = f p
from_ok (Err e) P Q f p = tt

pub spliced : {X : Type 0} (xs ys new made : List X) (from to : ℕ) → new ≡ splice xs from to made → made ≡ ys → new ≡ take from xs ++ ys ++ drop to xs
spliced xs ys new made from to e f = e ∙ ap (λ l. take from xs ++ (l ++ drop to xs)) f ∙ sym (append_assoc (take from xs) ys (drop to xs))

pub spliced_last : {X : Type 0} (xs ys new made : List X) (from to : ℕ) → new ≡ splice xs from to made → made ≡ ys → length xs ≡ to → new ≡ take from xs ++ ys
spliced_last xs ys new made from to e f all =
    e ∙ ap (λ l. take from xs ++ (l ++ drop to xs)) f ∙ ap (λ n. take from xs ++ (ys ++ drop n xs)) (sym all) ∙ ap (λ l. take from xs ++ (ys ++ l)) (drop-length xs) ∙ ap (λ l. take from xs ++ l) (append-nil ys)

-- former chunks from one on stay
pub puts_former : (old new : Lexed) (from to length_now : ℕ) (made : Anew) → made.after ≡ Former to → new.chunks.items ≡ take from old.chunks.items ++ made.chunks.items ++ drop to old.chunks.items → new.last ≡ old.last →
    new.length ≡ length_now → PutsAnew from made length_now old new
puts_former old new from to length_now made is chunks last same = record {
  ends = subst (λ (after : After). EndsWith old from after made.chunks.items new) (sym is) (chunks, last);
  length_is = same;
}

-- or all items after them are new
pub puts_last : (old new : Lexed) (from length_now : ℕ) (made : Anew) {items : _} → made.after ≡ Last items → new.chunks.items ≡ take from old.chunks.items ++ made.chunks.items → new.last ≡ items →
    new.length ≡ length_now → PutsAnew from made length_now old new
puts_last old new from length_now made is chunks last same = record {
  ends = subst (λ (after : After). EndsWith old from after made.chunks.items new) (sym is) (chunks, last);
  length_is = same;
}
