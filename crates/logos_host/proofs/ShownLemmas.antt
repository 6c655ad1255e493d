-- Characters that are written one after another.
use Rattle.std.proofs.Common.{◌≡◌, ℕ, ◌+◌, ◌<◌, ◌≤◌, List, [], ◌++◌, Option, Some, None, get_or, drop, length, sym, subst, ap, ◌∙◌, append-nil}
use Rattle.std.proofs.KnownBytes.{Appends-trans}
use Rattle.std.proofs.lemmas.List.{at_drop_more, at_drop_all}
use Rattle.std.specs.Io.KnownBytes.{Appends}
use Rattle.std.specs.List.{flat_map}

nothing_appended : (known : Option (List ℕ)) → Appends known known []
nothing_appended None = tt
nothing_appended (Some bytes) = sym (append-nil bytes)

-- One more character is written.
pub next_appended : (f : ℕ → List ℕ) (cs : List ℕ) (n c : ℕ) (old middle new : Option (List ℕ)) → n < length cs → c ≡ get_or cs n c → Appends old middle (f c) →
    Appends middle new (flat_map f (drop (n + 1) cs)) → Appends old new (flat_map f (drop n cs))
next_appended f cs n c old middle new h is one rest =
    subst (λ bytes. Appends old new bytes) (ap (λ x. f x ++ flat_map f (drop (n + 1) cs)) is ∙ sym (at_drop_more (flat_map f) cs n c h))
    (Appends-trans old middle new (f c) (flat_map f (drop (n + 1) cs)) one rest)

-- No character is left.
pub none_appended : (f : ℕ → List ℕ) (cs : List ℕ) (n : ℕ) (known : Option (List ℕ)) → length cs ≤ n → Appends known known (flat_map f (drop n cs))
none_appended f cs n known h = subst (λ bytes. Appends known known bytes) (sym (at_drop_all (flat_map f) cs n h)) (nothing_appended known)
