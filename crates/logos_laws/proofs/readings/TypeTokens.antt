-- The tokens of a written type: no attribute begins among them, and the last of them is no comma.
use Rattle.std.proofs.Common.{◌≡◌, ◌==◌, ℕ, Bool, true, false, List, refl}
use Rattle.logos_lexeme.specs.declared.lexeme.Span.{Span}
use Rattle.logos_lexeme.specs.declared.lexeme.Spacing.{Spacing}
use Rattle.logos_token.specs.Tokens.{Token, TokenList, identifier, punctuation, literal, doc, group, also}
use Rattle.logos_enum.specs.Marks.{hash}
use Rattle.logos_strip.specs.Helpers.{is_comma}
use Rattle.logos_type.specs.Parts.{Tree}
use Rattle.logos_type_reader.specs.Written.{Ending, Lifetimes, in_angles, LifetimeList, no_lifetime, last_lifetime, lifetimes, Written, a_name, a_form, Form, path, rooted, qualified, borrowed, borrowed_for, pointer_const, pointer_mut, slice, array, tuple, trait_object, bound_function, function, Referent, shared, mutable, Qualified, of_type, of_trait, AnyPath, from_name, from_root, Path, last, longer, Longer, member, angled, angled_member, called, giving, Angled, plain, turbofish, Arguments, finished, final, further, Argument, a_lifetime, a_literal, empty_braces, braces, a_type, a_binding, Bounds, one_bound, last_bound, plus_after, bounds, Bound, lifetime_bound, trait_bound, enclosed, Questioned, unquestioned, questioned, Trait, unbound, for_all, Function, not_safe, safe, Linked, linked, linked_as, unlinked, Taking, takes_only, takes_and_yields}

-- with this token no attribute begins
abbrev pub IsPlain : Token → Type 0
IsPlain (identifier text span) = Unit {0}
IsPlain (punctuation c spacing span) = (c == hash) ≡ false
IsPlain (literal text span) = Unit {0}
IsPlain (doc text span) = ⊥
IsPlain (group delimiter span inside) = Unit {0}

-- Such tokens from a run to its rest, with no comma directly after another one. The flags are
-- whether the token before is a comma.
pub data Goes : Bool → TokenList → Bool → TokenList → Type 0 where
  there : {b : Bool} {run : TokenList} → Goes b run b run
  over : {b c : Bool} {token : Token} {rest end : TokenList} → IsPlain token → (b ≡ true → is_comma token ≡ false) → Goes (is_comma token) rest c end → Goes b (also token rest) c end

join : {a b c : Bool} {run middle end : TokenList} → Goes a run b middle → Goes b middle c end → Goes a run c end
join there k = k
join (over p e h) k = over p e (join h k)

-- from a run to its rest, whatever the token before is
abbrev pub Passes : TokenList → TokenList → Type 0
Passes run rest = (b : Bool) → Goes b run false rest

and_then : {run middle rest : TokenList} → Passes run middle → Passes middle rest → Passes run rest
and_then f g b = join (f b) (g false)

-- a comma between the two
and_comma : {s : Span} {p : Spacing} {run middle rest : TokenList} → Passes run (also (punctuation 44 p s) middle) → Passes middle rest → Passes run rest
and_comma f g b = join (f b) (over refl (λ e. cc) (g true))

-- a token other than a comma, and then others
pub on : {token : Token} {rest end : TokenList} → IsPlain token → is_comma token ≡ false → Passes rest end → Passes (also token rest) end
on p e k b = over p (λ _. e) (k _)

-- a token other than a comma
pub one : {token : Token} {rest : TokenList} → IsPlain token → is_comma token ≡ false → Passes (also token rest) rest
one {token} {rest} p e b = over p (λ _. e) (rw e there)

pub lifetime_list : {run rest : TokenList} {ps : List Tree} → LifetimeList run ps rest → Passes run rest
lifetime_list no_lifetime = one refl refl
lifetime_list last_lifetime = on refl refl (on tt refl (one refl refl))
lifetime_list (lifetimes h) = on refl refl (and_comma (one tt refl) (lifetime_list h))

pub lifetimes_pass : {run rest : TokenList} {ps : List Tree} → Lifetimes run ps rest → Passes run rest
lifetimes_pass (in_angles h) = on refl refl (lifetime_list h)

mutual
  pub written : {n : ℕ} {plus : Bool} {run rest : TokenList} {t : Tree} {e : Ending} → Written n plus run t rest e → Passes run rest
  written (a_name h g) = one tt refl
  written (a_form h g) = form g

  form : {n : ℕ} {plus : Bool} {run rest : TokenList} {ps : List Tree} {e : Ending} → Form n plus run ps rest e → Passes run rest
  form (path h g) = on tt refl (longer_path g)
  form (rooted h) = on refl refl (on refl refl (a_path h))
  form (qualified h) = on refl refl (self_path h)
  form (borrowed h) = on refl refl (referent h)
  form (borrowed_for h) = on refl refl (on refl refl (on tt refl (referent h)))
  form (pointer_const h) = on refl refl (on tt refl (written h))
  form (pointer_mut h) = on refl refl (on tt refl (written h))
  form (slice h) = one tt refl
  form (array h) = one tt refl
  form (tuple h) = one tt refl
  form (trait_object h) = on tt refl (bounds_pass h)
  form (bound_function h g) = on tt refl (and_then (lifetimes_pass h) (a_function g))
  form (function h) = a_function h

  referent : {n : ℕ} {run rest : TokenList} {ps : List Tree} {e : Ending} → Referent n run ps rest e → Passes run rest
  referent (shared h g) = written g
  referent (mutable h) = on tt refl (written h)

  self_path : {n : ℕ} {run rest : TokenList} {ps : List Tree} {e : Ending} → Qualified n run ps rest e → Passes run rest
  self_path (of_type h g) = and_then (written h) (on refl refl (on refl refl (on refl refl (a_path g))))
  self_path (of_trait h f g k) = and_then (written h) (on tt refl (and_then (any_path g) (on refl refl (on refl refl (on refl refl (a_path k))))))

  any_path : {n : ℕ} {kind : _} {run rest : TokenList} {ps : List Tree} {e : Ending} → AnyPath n kind run ps rest e → Passes run rest
  any_path (from_name h) = a_path h
  any_path (from_root h) = on refl refl (on refl refl (a_path h))

  a_path : {n : ℕ} {kind : _} {run rest : TokenList} {ps : List Tree} {e : Ending} → Path n kind run ps rest e → Passes run rest
  a_path last = one tt refl
  a_path (longer h) = on tt refl (longer_path h)

  longer_path : {n : ℕ} {kind : _} {run rest : TokenList} {ps : List Tree} {e : Ending} → Longer n kind run ps rest e → Passes run rest
  longer_path (member h) = on refl refl (on refl refl (a_path h))
  longer_path (angled h) = in_brackets h
  longer_path (angled_member h g) = and_then (in_brackets h) (on refl refl (on refl refl (a_path g)))
  longer_path (called h) = one tt refl
  longer_path (giving h g) = on tt refl (on refl refl (on refl refl (written g)))

  in_brackets : {n : ℕ} {kind : _} {run rest : TokenList} {ps : List Tree} → Angled n kind run ps rest → Passes run rest
  in_brackets (plain h) = on refl refl (arguments h)
  in_brackets (turbofish h) = on refl refl (on refl refl (on refl refl (arguments h)))

  arguments : {n : ℕ} {kind : _} {run rest : TokenList} {ps : List Tree} → Arguments n kind run ps rest → Passes run rest
  arguments finished = one refl refl
  arguments (final h) = and_then (argument h) (one refl refl)
  arguments (further h g) = and_comma (argument h) (arguments g)

  argument : {n : ℕ} {kind : _} {run rest : TokenList} {ps : List Tree} → Argument n kind run ps rest → Passes run rest
  argument a_lifetime = on refl refl (one tt refl)
  argument a_literal = one tt refl
  argument empty_braces = one tt refl
  argument braces = one tt refl
  argument (a_type h g) = written g
  argument (a_binding h) = on tt refl (on refl refl (written h))

  bounds_pass : {n : ℕ} {plus : Bool} {run rest : TokenList} {ps : List Tree} {e : Ending} → Bounds n plus run ps rest e → Passes run rest
  bounds_pass (one_bound h) = bound h
  bounds_pass (last_bound h) = bound h
  bounds_pass (plus_after h g) = and_then (bound h) (one refl refl)
  bounds_pass (bounds h g k) = and_then (bound h) (on refl refl (bounds_pass k))

  bound : {n : ℕ} {run rest : TokenList} {ps : List Tree} {e : Ending} → Bound n run ps rest e → Passes run rest
  bound lifetime_bound = on refl refl (one tt refl)
  bound (trait_bound h) = question h
  bound (enclosed h) = one tt refl

  question : {n : ℕ} {run rest : TokenList} {ps : List Tree} {e : Ending} → Questioned n run ps rest e → Passes run rest
  question (unquestioned h) = a_trait h
  question (questioned h) = on refl refl (a_trait h)

  a_trait : {n : ℕ} {run rest : TokenList} {ps : List Tree} {e : Ending} → Trait n run ps rest e → Passes run rest
  a_trait (unbound h g) = any_path g
  a_trait (for_all h g) = on tt refl (and_then (lifetimes_pass h) (any_path g))

  a_function : {n : ℕ} {run rest : TokenList} {ps : List Tree} {e : Ending} → Function n run ps rest e → Passes run rest
  a_function (not_safe h) = on tt refl (linked_function h)
  a_function (safe h) = linked_function h

  linked_function : {n : ℕ} {run rest : TokenList} {ps : List Tree} {e : Ending} → Linked n run ps rest e → Passes run rest
  linked_function (linked h) = on tt refl (on tt refl (taking h))
  linked_function (linked_as h) = on tt refl (on tt refl (on tt refl (taking h)))
  linked_function (unlinked h) = on tt refl (taking h)

  taking : {n : ℕ} {run rest : TokenList} {ps : List Tree} {e : Ending} → Taking n run ps rest e → Passes run rest
  taking (takes_only h) = one tt refl
  taking (takes_and_yields h g) = on tt refl (on refl refl (on refl refl (written g)))
