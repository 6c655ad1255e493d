-- The written forms of a type: its tokens before a rest, its parts, and the tokens that would
-- lengthen it.
use Rattle.std.specs.Prelude.{◌≡◌, ℕ, ◌-◌, ◌<◌, not, ◌&&◌, ◌||◌, List, [], ◌∷◌, ◌++◌, Bool, true, false, Some, None, codes, bytes_eq}
use Rattle.logos_lexeme.specs.declared.lexeme.Span.{Span}
use Rattle.logos_lexeme.specs.declared.lexeme.Spacing.{Spacing}
use Rattle.logos_lexeme.specs.declared.lexeme.Spacing.TheVariants.{Joint}
use Rattle.logos_lexeme.specs.declared.lexeme.Delimiter.TheVariants.{Parenthesis, Bracket, Brace}
use Rattle.logos_token.specs.Tokens.{Token, TokenList, identifier, punctuation, literal, group, none, also}
use Rattle.logos_type_reader.specs.declared.table.stage.PathKind.{PathKind}
use Rattle.logos_type_reader.specs.declared.table.stage.PathKind.TheVariants.{Plain, OfType, OfBound}
use Rattle.logos_type.specs.Parts.{Tree, sign, name, whole, still, trees, none as no_part, also as and_part, word, mark, colons, arrow, value, opening, closing, reference, other_lifetime}
use Rattle.logos_type_reader.specs.StillRuns.{still_run}
use Rattle.logos_type_reader.specs.Table.{is_reserved, continues, begins_colons, begins_arrow, begins_mark, begins_bound, typing, argued, argument_lifetime}

-- The ways in which a type ends.
pub data Ending : Type 0 where
  -- No token lengthens it.
  closed : Ending
  -- With a name of a path: `<`, `::` or parentheses would lengthen it.
  named : Ending
  -- With a name where `!` would also lengthen it, to a macro.
  plain_named : Ending
  -- With the angle arguments of a path: `::` would lengthen it.
  applied : Ending
  -- With the parentheses of a path or of a function: `->` would lengthen it.
  taking : Ending
  -- With a bound that ends in this way: `+` would also lengthen it.
  bounded : Ending → Ending
  -- With a `+`: another bound would lengthen it.
  trailing : Ending

-- The run does not lengthen a type that ends in this way.
abbrev pub may_follow : Ending → TokenList → Bool
may_follow closed run = true
may_follow named run = not (continues run)
may_follow plain_named run = not (continues run || begins_mark 33 run)
may_follow applied run = not (begins_colons run)
may_follow taking run = not (begins_arrow run)
may_follow (bounded e) run = may_follow e run && not (begins_mark 43 run)
may_follow trailing run = not (begins_bound run)

-- The ending of a path of this kind whose last token is a name.
abbrev pub name_ending : PathKind → Ending
name_ending Plain = plain_named
name_ending OfType = named
name_ending OfBound = named

-- The run begins with the word `mut`.
abbrev pub begins_mut : TokenList → Bool
begins_mut (also (identifier text span) rest) = bytes_eq text (codes "mut")
begins_mut run = false

-- The run begins with a name and `=`, or with a name and `:`.
abbrev pub begins_named_argument : TokenList → Bool
begins_named_argument (also (identifier text span) rest) = begins_mark 61 rest || typing rest
begins_named_argument run = false

-- The run begins with a name and `:`, but not with a name and `::`.
abbrev pub begins_parameter : TokenList → Bool
begins_parameter (also (identifier text span) rest) = typing rest
begins_parameter run = false

-- The run begins with the word `for`.
abbrev pub begins_for : TokenList → Bool
begins_for (also (identifier text span) rest) = bytes_eq text (codes "for")
begins_for run = false

-- After `for`: the lifetimes in angle brackets.
mutual
  pub data Lifetimes : TokenList → List Tree → TokenList → Type 0 where
    -- `<'a, 'b>`
    in_angles : {s : Span} {p : Spacing} {run rest : TokenList} {parts : List Tree} → LifetimeList run parts rest → Lifetimes (also (punctuation 60 p s) run) (sign (mark 60) ∷ parts) rest

  pub data LifetimeList : TokenList → List Tree → TokenList → Type 0 where
    no_lifetime : {s : Span} {p : Spacing} {rest : TokenList} → LifetimeList (also (punctuation 62 p s) rest) (sign (mark 62) ∷ []) rest
    last_lifetime : {text : List ℕ} {s t u : Span} {p q : Spacing} {rest : TokenList} →
        LifetimeList (also (punctuation 39 p s) (also (identifier text t) (also (punctuation 62 q u) rest))) (sign (other_lifetime text) ∷ sign (mark 62) ∷ []) rest
    lifetimes : {text : List ℕ} {s t u : Span} {p q : Spacing} {run rest : TokenList} {parts : List Tree} → LifetimeList run parts rest →
        LifetimeList (also (punctuation 39 p s) (also (identifier text t) (also (punctuation 44 q u) run))) (sign (other_lifetime text) ∷ sign (mark 44) ∷ parts) rest

mutual
  -- The run begins with this type, followed by the rest, and the type has this ending. At most
  -- `levels` types are nested, where this one counts. If `plus` does not hold, `+` joins no bounds.
  pub data Written : ℕ → Bool → TokenList → Tree → TokenList → Ending → Type 0 where
    -- `Name`
    a_name : {levels : ℕ} {plus : Bool} {text : List ℕ} {s : Span} {rest : TokenList} → 0 < levels → is_reserved text ≡ false →
        Written levels plus (also (identifier text s) rest) (name text) rest plain_named
    -- Any other type is a tree of its parts.
    a_form : {levels : ℕ} {plus : Bool} {run rest : TokenList} {parts : List Tree} {e : Ending} → 0 < levels → Form (levels - 1) plus run parts rest e →
        Written levels plus run (whole (trees parts)) rest e

  -- A type that is more than a name.
  pub data Form : ℕ → Bool → TokenList → List Tree → TokenList → Ending → Type 0 where
    -- `Name::Name`, `Name<T>`, `Name(T) -> T`.
    path : {levels : ℕ} {plus : Bool} {text : List ℕ} {s : Span} {run rest : TokenList} {parts : List Tree} {e : Ending} →
        is_reserved text ≡ false → Longer levels Plain run parts rest e →
        Form levels plus (also (identifier text s) run) (sign (word text) ∷ parts) rest e
    -- `::Name::Name`
    rooted : {levels : ℕ} {plus : Bool} {s t : Span} {p : Spacing} {run rest : TokenList} {parts : List Tree} {e : Ending} → Path levels Plain run parts rest e →
        Form levels plus (also (punctuation 58 Joint s) (also (punctuation 58 p t) run)) (sign colons ∷ parts) rest e
    -- `<T as Name>::Name`, `<T>::Name`.
    qualified : {levels : ℕ} {plus : Bool} {s : Span} {p : Spacing} {run rest : TokenList} {parts : List Tree} {e : Ending} → Qualified levels run parts rest e →
        Form levels plus (also (punctuation 60 p s) run) (sign (mark 60) ∷ parts) rest e
    -- `&T`, `&mut T`.
    borrowed : {levels : ℕ} {plus : Bool} {s : Span} {p : Spacing} {run rest : TokenList} {parts : List Tree} {e : Ending} → Referent levels run parts rest e →
        Form levels plus (also (punctuation 38 p s) run) (sign (reference None) ∷ parts) rest e
    -- `&'a T`, `&'a mut T`.
    borrowed_for : {levels : ℕ} {plus : Bool} {text : List ℕ} {s t u : Span} {p q : Spacing} {run rest : TokenList} {parts : List Tree} {e : Ending} →
        Referent levels run parts rest e →
        Form levels plus (also (punctuation 38 p s) (also (punctuation 39 q t) (also (identifier text u) run))) (sign (reference (Some text)) ∷ parts) rest e
    -- `*const T`
    pointer_const : {levels : ℕ} {plus : Bool} {s t : Span} {p : Spacing} {run rest : TokenList} {target : Tree} {e : Ending} → Written levels false run target rest e →
        Form levels plus (also (punctuation 42 p s) (also (identifier (codes "const") t) run)) (sign (mark 42) ∷ sign (word (codes "const")) ∷ target ∷ []) rest e
    -- `*mut T`
    pointer_mut : {levels : ℕ} {plus : Bool} {s t : Span} {p : Spacing} {run rest : TokenList} {target : Tree} {e : Ending} → Written levels false run target rest e →
        Form levels plus (also (punctuation 42 p s) (also (identifier (codes "mut") t) run)) (sign (mark 42) ∷ sign (word (codes "mut")) ∷ target ∷ []) rest e
    -- `[T]`
    slice : {levels : ℕ} {plus : Bool} {s : Span} {inside rest : TokenList} {t : Tree} {e : Ending} → Written levels true inside t none e →
        Form levels plus (also (group Bracket s inside) rest) (sign (opening Bracket) ∷ t ∷ sign (closing Bracket) ∷ []) rest closed
    -- `[T; tokens]`
    array : {levels : ℕ} {plus : Bool} {s u : Span} {p : Spacing} {inside length rest : TokenList} {first : Token} {t : Tree} {e : Ending} →
        Written levels true inside t (also (punctuation 59 p u) (also first length)) e →
        Form levels plus (also (group Bracket s inside) rest)
        (sign (opening Bracket) ∷ t ∷ sign (mark 59) ∷ still (trees (still_run (also first length))) ∷ sign (closing Bracket) ∷ []) rest closed
    -- `()`, `(T)`, `(T,)`, `(T, T)`.
    tuple : {levels : ℕ} {plus : Bool} {s : Span} {inside rest : TokenList} {parts : List Tree} → Listed levels inside parts →
        Form levels plus (also (group Parenthesis s inside) rest) (sign (opening Parenthesis) ∷ (parts ++ (sign (closing Parenthesis) ∷ []))) rest closed
    -- `dyn Name + 'a`
    trait_object : {levels : ℕ} {plus : Bool} {s : Span} {run rest : TokenList} {parts : List Tree} {e : Ending} → Bounds levels plus run parts rest e →
        Form levels plus (also (identifier (codes "dyn") s) run) (sign (word (codes "dyn")) ∷ parts) rest e
    -- `for<'a> fn(&'a T)`
    bound_function : {levels : ℕ} {plus : Bool} {s : Span} {run middle rest : TokenList} {parts others : List Tree} {e : Ending} → Lifetimes run parts middle → Function levels middle others rest e →
        Form levels plus (also (identifier (codes "for") s) run) (sign (word (codes "for")) ∷ (parts ++ others)) rest e
    -- `fn(T, name: T) -> T`, `extern "C" fn(T)`, `unsafe fn(T)`.
    function : {levels : ℕ} {plus : Bool} {run rest : TokenList} {parts : List Tree} {e : Ending} → Function levels run parts rest e → Form levels plus run parts rest e

  -- The referent of a reference, after `&` and its lifetime: optionally `mut`, then a type.
  pub data Referent : ℕ → TokenList → List Tree → TokenList → Ending → Type 0 where
    shared : {levels : ℕ} {run rest : TokenList} {t : Tree} {e : Ending} → begins_mut run ≡ false → Written levels false run t rest e →
        Referent levels run (t ∷ []) rest e
    mutable : {levels : ℕ} {s : Span} {run rest : TokenList} {t : Tree} {e : Ending} → Written levels false run t rest e →
        Referent levels (also (identifier (codes "mut") s) run) (sign (word (codes "mut")) ∷ t ∷ []) rest e

  -- Types with commas between them, with an optional comma after the last.
  pub data Listed : ℕ → TokenList → List Tree → Type 0 where
    nothing : {levels : ℕ} → Listed levels none []
    single : {levels : ℕ} {run : TokenList} {t : Tree} {e : Ending} → Written levels true run t none e → Listed levels run (t ∷ [])
    several : {levels : ℕ} {run others : TokenList} {t : Tree} {parts : List Tree} {s : Span} {p : Spacing} {e : Ending} →
        Written levels true run t (also (punctuation 44 p s) others) e → Listed levels others parts →
        Listed levels run (t ∷ sign (mark 44) ∷ parts)

  -- After the `<` at the start of a type. The type that follows is not replaced.
  pub data Qualified : ℕ → TokenList → List Tree → TokenList → Ending → Type 0 where
    -- `T>::Name`
    of_type : {levels : ℕ} {s t u : Span} {p q : Spacing} {run further rest : TokenList} {self : Tree} {parts : List Tree} {e f : Ending} →
        Written levels true run self (also (punctuation 62 p s) (also (punctuation 58 Joint t) (also (punctuation 58 q u) further))) e → Path levels OfType further parts rest f →
        Qualified levels run (still (and_part self no_part) ∷ sign (mark 62) ∷ sign colons ∷ parts) rest f
    -- `T as Name>::Name`
    of_trait : {levels : ℕ} {s t u v : Span} {p q : Spacing} {run middle further rest : TokenList} {self : Tree} {trait parts : List Tree} {e f g : Ending} →
        Written levels true run self (also (identifier (codes "as") v) middle) e → may_follow e (also (identifier (codes "as") v) middle) ≡ true →
        AnyPath levels OfType middle trait (also (punctuation 62 p s) (also (punctuation 58 Joint t) (also (punctuation 58 q u) further))) f → Path levels OfType further parts rest g →
        Qualified levels run (still (and_part self no_part) ∷ sign (word (codes "as")) ∷ (trait ++ (sign (mark 62) ∷ sign colons ∷ parts))) rest g

  -- `Name::Name` or `::Name::Name`, where a path is required.
  pub data AnyPath : ℕ → PathKind → TokenList → List Tree → TokenList → Ending → Type 0 where
    from_name : {levels : ℕ} {kind : PathKind} {run rest : TokenList} {parts : List Tree} {e : Ending} → Path levels kind run parts rest e → AnyPath levels kind run parts rest e
    from_root : {levels : ℕ} {kind : PathKind} {s t : Span} {p : Spacing} {run rest : TokenList} {parts : List Tree} {e : Ending} → Path levels kind run parts rest e →
        AnyPath levels kind (also (punctuation 58 Joint s) (also (punctuation 58 p t) run)) (sign colons ∷ parts) rest e

  -- A path from a name on.
  pub data Path : ℕ → PathKind → TokenList → List Tree → TokenList → Ending → Type 0 where
    -- `Name`
    last : {levels : ℕ} {kind : PathKind} {text : List ℕ} {s : Span} {rest : TokenList} → Path levels kind (also (identifier text s) rest) (sign (word text) ∷ []) rest (name_ending kind)
    longer : {levels : ℕ} {kind : PathKind} {text : List ℕ} {s : Span} {run rest : TokenList} {parts : List Tree} {e : Ending} → Longer levels kind run parts rest e →
        Path levels kind (also (identifier text s) run) (sign (word text) ∷ parts) rest e

  -- After a name of a path, if the path does not end with that name.
  pub data Longer : ℕ → PathKind → TokenList → List Tree → TokenList → Ending → Type 0 where
    -- `::Name`
    member : {levels : ℕ} {kind : PathKind} {s t : Span} {p : Spacing} {run rest : TokenList} {parts : List Tree} {e : Ending} → Path levels kind run parts rest e →
        Longer levels kind (also (punctuation 58 Joint s) (also (punctuation 58 p t) run)) (sign colons ∷ parts) rest e
    -- `<T, T>`, `::<T, T>`.
    angled : {levels : ℕ} {kind : PathKind} {run rest : TokenList} {parts : List Tree} → Angled levels (argued kind) run parts rest → Longer levels kind run parts rest applied
    -- `<T, T>::Name`
    angled_member : {levels : ℕ} {kind : PathKind} {s t : Span} {p : Spacing} {run further rest : TokenList} {parts others : List Tree} {e : Ending} →
        Angled levels (argued kind) run parts (also (punctuation 58 Joint s) (also (punctuation 58 p t) further)) → Path levels (argued kind) further others rest e →
        Longer levels kind run (parts ++ (sign colons ∷ others)) rest e
    -- `(T, T)`
    called : {levels : ℕ} {kind : PathKind} {s : Span} {inside rest : TokenList} {parts : List Tree} → Listed levels inside parts →
        Longer levels kind (also (group Parenthesis s inside) rest) (sign (opening Parenthesis) ∷ (parts ++ (sign (closing Parenthesis) ∷ []))) rest taking
    -- `(T, T) -> T`
    giving : {levels : ℕ} {kind : PathKind} {s t u : Span} {p : Spacing} {inside run rest : TokenList} {parts : List Tree} {result : Tree} {e : Ending} →
        Listed levels inside parts → Written levels false run result rest e →
        Longer levels kind (also (group Parenthesis s inside) (also (punctuation 45 Joint t) (also (punctuation 62 p u) run)))
        (sign (opening Parenthesis) ∷ (parts ++ (sign (closing Parenthesis) ∷ sign arrow ∷ result ∷ []))) rest e

  -- The angle arguments of a path.
  pub data Angled : ℕ → PathKind → TokenList → List Tree → TokenList → Type 0 where
    plain : {levels : ℕ} {kind : PathKind} {s : Span} {p : Spacing} {run rest : TokenList} {parts : List Tree} → Arguments levels kind run parts rest →
        Angled levels kind (also (punctuation 60 p s) run) (sign (mark 60) ∷ parts) rest
    turbofish : {levels : ℕ} {kind : PathKind} {s t u : Span} {p q : Spacing} {run rest : TokenList} {parts : List Tree} → Arguments levels kind run parts rest →
        Angled levels kind (also (punctuation 58 Joint s) (also (punctuation 58 p t) (also (punctuation 60 q u) run))) (sign colons ∷ sign (mark 60) ∷ parts) rest

  -- Arguments with commas between them, with an optional comma after the last, up to `>`.
  pub data Arguments : ℕ → PathKind → TokenList → List Tree → TokenList → Type 0 where
    finished : {levels : ℕ} {kind : PathKind} {s : Span} {p : Spacing} {rest : TokenList} → Arguments levels kind (also (punctuation 62 p s) rest) (sign (mark 62) ∷ []) rest
    final : {levels : ℕ} {kind : PathKind} {s : Span} {p : Spacing} {run rest : TokenList} {parts : List Tree} → Argument levels kind run parts (also (punctuation 62 p s) rest) →
        Arguments levels kind run (parts ++ (sign (mark 62) ∷ [])) rest
    further : {levels : ℕ} {kind : PathKind} {s : Span} {p : Spacing} {run others rest : TokenList} {parts back : List Tree} →
        Argument levels kind run parts (also (punctuation 44 p s) others) → Arguments levels kind others back rest →
        Arguments levels kind run (parts ++ (sign (mark 44) ∷ back)) rest

  -- One angle argument.
  pub data Argument : ℕ → PathKind → TokenList → List Tree → TokenList → Type 0 where
    -- `'a`
    a_lifetime : {levels : ℕ} {kind : PathKind} {text : List ℕ} {s t : Span} {p : Spacing} {rest : TokenList} →
        Argument levels kind (also (punctuation 39 p s) (also (identifier text t) rest)) (sign (argument_lifetime kind text) ∷ []) rest
    a_literal : {levels : ℕ} {kind : PathKind} {text : List ℕ} {s : Span} {rest : TokenList} → Argument levels kind (also (literal text s) rest) (sign (value text) ∷ []) rest
    -- `{}`, `{ tokens }`.
    empty_braces : {levels : ℕ} {kind : PathKind} {s : Span} {rest : TokenList} →
        Argument levels kind (also (group Brace s none) rest) (sign (opening Brace) ∷ sign (closing Brace) ∷ []) rest
    braces : {levels : ℕ} {kind : PathKind} {s : Span} {first : Token} {inside rest : TokenList} →
        Argument levels kind (also (group Brace s (also first inside)) rest) (sign (opening Brace) ∷ still (trees (still_run (also first inside))) ∷ sign (closing Brace) ∷ []) rest
    a_type : {levels : ℕ} {kind : PathKind} {run rest : TokenList} {t : Tree} {e : Ending} → begins_named_argument run ≡ false → Written levels true run t rest e →
        Argument levels kind run (t ∷ []) rest
    -- `Name = T`
    a_binding : {levels : ℕ} {kind : PathKind} {text : List ℕ} {s u : Span} {p : Spacing} {run rest : TokenList} {t : Tree} {e : Ending} → Written levels true run t rest e →
        Argument levels kind (also (identifier text s) (also (punctuation 61 p u) run)) (sign (word text) ∷ sign (mark 61) ∷ t ∷ []) rest

  -- Bounds: one if `plus` does not hold, and otherwise some with `+` between them and an optional
  -- `+` after the last.
  pub data Bounds : ℕ → Bool → TokenList → List Tree → TokenList → Ending → Type 0 where
    one_bound : {levels : ℕ} {run rest : TokenList} {parts : List Tree} {e : Ending} → Bound levels run parts rest e → Bounds levels false run parts rest e
    last_bound : {levels : ℕ} {run rest : TokenList} {parts : List Tree} {e : Ending} → Bound levels run parts rest e → Bounds levels true run parts rest (bounded e)
    plus_after : {levels : ℕ} {s : Span} {p : Spacing} {run rest : TokenList} {parts : List Tree} {e : Ending} → Bound levels run parts (also (punctuation 43 p s) rest) e →
        may_follow e (also (punctuation 43 p s) rest) ≡ true → Bounds levels true run (parts ++ (sign (mark 43) ∷ [])) rest trailing
    bounds : {levels : ℕ} {s : Span} {p : Spacing} {run others rest : TokenList} {parts back : List Tree} {e f : Ending} → Bound levels run parts (also (punctuation 43 p s) others) e →
        may_follow e (also (punctuation 43 p s) others) ≡ true → Bounds levels true others back rest f → Bounds levels true run (parts ++ (sign (mark 43) ∷ back)) rest f

  -- One bound.
  pub data Bound : ℕ → TokenList → List Tree → TokenList → Ending → Type 0 where
    -- `'a`
    lifetime_bound : {levels : ℕ} {text : List ℕ} {s t : Span} {p : Spacing} {rest : TokenList} →
        Bound levels (also (punctuation 39 p s) (also (identifier text t) rest)) (sign (other_lifetime text) ∷ []) rest closed
    -- `Name`, `?Name`, `for<'a> Name`.
    trait_bound : {levels : ℕ} {run rest : TokenList} {parts : List Tree} {e : Ending} → Questioned levels run parts rest e → Bound levels run parts rest e
    -- `(Name)`
    enclosed : {levels : ℕ} {s : Span} {inside rest : TokenList} {parts : List Tree} {e : Ending} → Questioned levels inside parts none e →
        Bound levels (also (group Parenthesis s inside) rest) (sign (opening Parenthesis) ∷ (parts ++ (sign (closing Parenthesis) ∷ []))) rest closed

  -- The path of a bound, with an optional `?` before it.
  pub data Questioned : ℕ → TokenList → List Tree → TokenList → Ending → Type 0 where
    unquestioned : {levels : ℕ} {run rest : TokenList} {parts : List Tree} {e : Ending} → Trait levels run parts rest e → Questioned levels run parts rest e
    questioned : {levels : ℕ} {s : Span} {p : Spacing} {run rest : TokenList} {parts : List Tree} {e : Ending} → Trait levels run parts rest e →
        Questioned levels (also (punctuation 63 p s) run) (sign (mark 63) ∷ parts) rest e

  -- The path of a bound, with an optional `for<..>` before it.
  pub data Trait : ℕ → TokenList → List Tree → TokenList → Ending → Type 0 where
    unbound : {levels : ℕ} {run rest : TokenList} {parts : List Tree} {e : Ending} → begins_for run ≡ false → AnyPath levels OfBound run parts rest e → Trait levels run parts rest e
    for_all : {levels : ℕ} {s : Span} {run middle rest : TokenList} {parts others : List Tree} {e : Ending} → Lifetimes run parts middle → AnyPath levels OfBound middle others rest e →
        Trait levels (also (identifier (codes "for") s) run) (sign (word (codes "for")) ∷ (parts ++ others)) rest e

  -- A function from `fn`, `extern` or `unsafe` on.
  pub data Function : ℕ → TokenList → List Tree → TokenList → Ending → Type 0 where
    -- `unsafe fn(T)`, `unsafe extern "C" fn(T)`.
    not_safe : {levels : ℕ} {s : Span} {run rest : TokenList} {parts : List Tree} {e : Ending} → Linked levels run parts rest e →
        Function levels (also (identifier (codes "unsafe") s) run) (sign (word (codes "unsafe")) ∷ parts) rest e
    safe : {levels : ℕ} {run rest : TokenList} {parts : List Tree} {e : Ending} → Linked levels run parts rest e → Function levels run parts rest e

  -- A function from `fn` or `extern` on.
  pub data Linked : ℕ → TokenList → List Tree → TokenList → Ending → Type 0 where
    -- `extern fn(T)`, `extern "C" fn(T)`.
    linked : {levels : ℕ} {s t : Span} {run rest : TokenList} {parts : List Tree} {e : Ending} → Taking levels run parts rest e →
        Linked levels (also (identifier (codes "extern") s) (also (identifier (codes "fn") t) run)) (sign (word (codes "extern")) ∷ sign (word (codes "fn")) ∷ parts) rest e
    linked_as : {levels : ℕ} {text : List ℕ} {s t u : Span} {run rest : TokenList} {parts : List Tree} {e : Ending} → Taking levels run parts rest e →
        Linked levels (also (identifier (codes "extern") s) (also (literal text u) (also (identifier (codes "fn") t) run)))
        (sign (word (codes "extern")) ∷ sign (value text) ∷ sign (word (codes "fn")) ∷ parts) rest e
    -- `fn(T)`
    unlinked : {levels : ℕ} {t : Span} {run rest : TokenList} {parts : List Tree} {e : Ending} → Taking levels run parts rest e →
        Linked levels (also (identifier (codes "fn") t) run) (sign (word (codes "fn")) ∷ parts) rest e

  -- The parameters of a function and its return type, after `fn`.
  pub data Taking : ℕ → TokenList → List Tree → TokenList → Ending → Type 0 where
    takes_only : {levels : ℕ} {s : Span} {inside rest : TokenList} {parts : List Tree} → Parameters levels inside parts →
        Taking levels (also (group Parenthesis s inside) rest) (sign (opening Parenthesis) ∷ (parts ++ (sign (closing Parenthesis) ∷ []))) rest taking
    takes_and_yields : {levels : ℕ} {s t u : Span} {p : Spacing} {inside run rest : TokenList} {parts : List Tree} {result : Tree} {e : Ending} →
        Parameters levels inside parts → Written levels false run result rest e →
        Taking levels (also (group Parenthesis s inside) (also (punctuation 45 Joint t) (also (punctuation 62 p u) run)))
        (sign (opening Parenthesis) ∷ (parts ++ (sign (closing Parenthesis) ∷ sign arrow ∷ result ∷ []))) rest e

  -- The parameters of a function, with commas between them and an optional comma after the last.
  pub data Parameters : ℕ → TokenList → List Tree → Type 0 where
    no_parameter : {levels : ℕ} → Parameters levels none []
    last_parameter : {levels : ℕ} {run : TokenList} {parts : List Tree} → Parameter levels run parts none → Parameters levels run parts
    parameters : {levels : ℕ} {s : Span} {p : Spacing} {run others : TokenList} {parts back : List Tree} → Parameter levels run parts (also (punctuation 44 p s) others) → Parameters levels others back →
        Parameters levels run (parts ++ (sign (mark 44) ∷ back))

  pub data Parameter : ℕ → TokenList → List Tree → TokenList → Type 0 where
    -- `T`
    unnamed : {levels : ℕ} {run rest : TokenList} {t : Tree} {e : Ending} → begins_parameter run ≡ false → Written levels true run t rest e → Parameter levels run (t ∷ []) rest
    -- `name: T`
    with_name : {levels : ℕ} {text : List ℕ} {s u : Span} {p : Spacing} {run rest : TokenList} {t : Tree} {e : Ending} → begins_colons (also (punctuation 58 p u) run) ≡ false → Written levels true run t rest e →
        Parameter levels (also (identifier text s) (also (punctuation 58 p u) run)) (sign (word text) ∷ sign (mark 58) ∷ t ∷ []) rest
