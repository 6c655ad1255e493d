-- A run that is read as a type is a written type.
use Rattle.std.proofs.Common.{◌≡◌, ℕ, ◌-◌, ◌<◌, List, [], ◌∷◌, ◌++◌, Bool, true, false, not, ◌||◌, ◌&&◌, ◌==◌, bytes_eq, codes, if◌then◌else◌, Option, Some, None, refl, sym, ◌∙◌, subst, append_assoc, ◌≢◌, ◌⊎◌, inl, inr}
use Rattle.std.proofs.lemmas.Bool.Decides.{eqb_tells}
use Rattle.std.proofs.lemmas.Slice.Eq.{bytes_eq-Decides}
use Rattle.std.proofs.lemmas.List.{append-nil}
use Rattle.logos_lexeme.specs.declared.lexeme.Span.{Span}
use Rattle.logos_lexeme.specs.declared.lexeme.Spacing.{Spacing}
use Rattle.logos_lexeme.specs.declared.lexeme.Spacing.TheVariants.{Joint}
use Rattle.logos_lexeme.specs.declared.lexeme.Delimiter.TheVariants.{Parenthesis, Bracket, Brace}
use Rattle.logos_token.specs.Tokens.{Token, TokenList, identifier, punctuation, literal, doc, group, none, also, rest_of}
use Rattle.logos_type_reader.specs.declared.table.stage.PathKind.{PathKind}
use Rattle.logos_type_reader.specs.declared.table.stage.PathKind.TheVariants.{Plain, OfType, OfBound}
use Rattle.logos_type_reader.specs.declared.table.stage.BoundKind.TheVariants.{Listed, Enclosed}
use Rattle.logos_type_reader.specs.declared.table.stage.Binder.TheVariants.{OfFunction, OfTrait}
use Rattle.logos_type_reader.specs.declared.table.stage.Stage.{Stage}
use Rattle.logos_type_reader.specs.declared.table.stage.Stage.TheVariants as stage
use Rattle.logos_type.specs.Parts.{Sign, Tree, sign, name, whole, still, trees, none as no_part_left, also as and_part, word, mark, colons, arrow, value, opening, closing, reference, other_lifetime}
use Rattle.logos_type_reader.specs.StillRuns.{still_run}
use Rattle.logos_type_reader.specs.Table as table
use Rattle.logos_type_reader.specs.Table.{Spot, outer, Move, ends, takes, bars, needs, keeps_type, keeps, nests, stops, First, starts, refused, begin, name_of, is_reserved, continues, begins_colons, begins_arrow, begins_mark, begins_bound, begins_dots, typing, argued, next_at, name_end, after_two, to}
use Rattle.logos_type_reader.specs.Reading.{IsType, name_alone, formed, IsMove, a_token, a_bar, a_type as part_type, a_still_type, still_tokens, a_nest, AreParts, ended, further as part}
use Rattle.logos_type_reader.specs.Written.{Ending, plain_named, may_follow, name_ending, begins_mut, begins_parameter, begins_for, Lifetimes, in_angles, LifetimeList, no_lifetime, last_lifetime, lifetimes, Written, a_name, a_form, Form, path, rooted, qualified, borrowed, borrowed_for, slice, array, tuple, trait_object, bound_function, function, pointer_const, pointer_mut, Referent, shared, mutable, Listed as ListedTypes, nothing, single, several, Qualified, of_type, of_trait, AnyPath, from_name, from_root, Path, last, longer, Longer, member, angled, angled_member, called, giving, Angled, plain, turbofish, Arguments, finished, final, further, Argument, a_lifetime, a_literal, empty_braces, braces, a_type, a_binding, Bounds, one_bound, last_bound, plus_after, bounds, Bound, lifetime_bound, trait_bound, enclosed, Questioned, unquestioned, questioned, Trait, unbound, for_all, Function, not_safe, safe, Linked, linked, linked_as, unlinked, Taking, takes_only, takes_and_yields, Parameters, no_parameter, last_parameter, parameters, Parameter, unnamed, with_name}
use Rattle.logos_type_reader.proofs.WrittenReads.{name_is}

-- The construct at each stage, up to its end: parts that are read from a run, and the rest.
abbrev Parts : Type 1
Parts = TokenList → List Tree → TokenList → Type 0

abbrev Forms : Type 1
Forms = TokenList → List Tree → TokenList → Ending → Type 0

-- nothing
data Done : TokenList → List Tree → TokenList → Type 0 where
  done : {rest : TokenList} → Done rest [] rest

-- a written form that ends there
data Last (F : Forms) : TokenList → List Tree → TokenList → Type 0 where
  ending : {run rest : TokenList} {parts : List Tree} {e : Ending} → F run parts rest e → may_follow e rest ≡ true → Last F run parts rest

-- a written form, and others after it
data Then (F : Forms) (After : Parts) : TokenList → List Tree → TokenList → Type 0 where
  then_after : {run middle rest : TokenList} {front back : List Tree} {e : Ending} → F run front middle e → may_follow e middle ≡ true → After middle back rest → Then F After run (front ++ back) rest

-- a type that ends there
data LastType (levels : ℕ) (plus : Bool) : TokenList → List Tree → TokenList → Type 0 where
  ending_type : {run rest : TokenList} {t : Tree} {e : Ending} → Written levels plus run t rest e → may_follow e rest ≡ true → LastType levels plus run (t ∷ []) rest

-- after a name of a path
data AfterName (levels : ℕ) (kind : PathKind) : TokenList → List Tree → TokenList → Type 0 where
  name_last : {rest : TokenList} → may_follow (name_ending kind) rest ≡ true → AfterName levels kind rest [] rest
  name_longer : {run rest : TokenList} {parts : List Tree} {e : Ending} → Longer levels kind run parts rest e → may_follow e rest ≡ true → AfterName levels kind run parts rest

-- after `>`
data Onward (levels : ℕ) (kind : PathKind) : TokenList → List Tree → TokenList → Type 0 where
  stop : {rest : TokenList} → begins_colons rest ≡ false → Onward levels kind rest [] rest
  onward : {s t : Span} {p : Spacing} {run rest : TokenList} {parts : List Tree} {e : Ending} → Path levels kind run parts rest e → may_follow e rest ≡ true →
      Onward levels kind (also (punctuation 58 Joint s) (also (punctuation 58 p t) run)) (sign colons ∷ parts) rest

-- after `<`
data InArguments (levels : ℕ) (kind : PathKind) : TokenList → List Tree → TokenList → Type 0 where
  in_arguments : {run middle rest : TokenList} {front back : List Tree} → Arguments levels kind run front middle → Onward levels kind middle back rest → InArguments levels kind run (front ++ back) rest

-- after `::`
data AfterColons (levels : ℕ) (kind : PathKind) (may : Bool) : TokenList → List Tree → TokenList → Type 0 where
  to_path : {run rest : TokenList} {parts : List Tree} {e : Ending} → Path levels kind run parts rest e → may_follow e rest ≡ true → AfterColons levels kind may run parts rest
  to_angle : {s : Span} {p : Spacing} {run rest : TokenList} {parts : List Tree} → may ≡ true → InArguments levels (argued kind) run parts rest →
      AfterColons levels kind may (also (punctuation 60 p s) run) (sign (mark 60) ∷ parts) rest

-- after an angle argument
data AfterArgument (levels : ℕ) (kind : PathKind) : TokenList → List Tree → TokenList → Type 0 where
  comma : {s : Span} {p : Spacing} {run rest : TokenList} {parts : List Tree} → InArguments levels kind run parts rest → AfterArgument levels kind (also (punctuation 44 p s) run) (sign (mark 44) ∷ parts) rest
  angle : {s : Span} {p : Spacing} {run rest : TokenList} {parts : List Tree} → Onward levels kind run parts rest → AfterArgument levels kind (also (punctuation 62 p s) run) (sign (mark 62) ∷ parts) rest

data AtValue (levels : ℕ) (kind : PathKind) : TokenList → List Tree → TokenList → Type 0 where
  at_value : {run middle rest : TokenList} {t : Tree} {parts : List Tree} {e : Ending} → Written levels true run t middle e → AfterArgument levels kind middle parts rest → AtValue levels kind run (t ∷ parts) rest

data AtEquals (levels : ℕ) (kind : PathKind) : TokenList → List Tree → TokenList → Type 0 where
  at_equals : {s : Span} {p : Spacing} {run rest : TokenList} {parts : List Tree} → AtValue levels kind run parts rest → AtEquals levels kind (also (punctuation 61 p s) run) (sign (mark 61) ∷ parts) rest

-- in braces
data InBraces (levels : ℕ) (kind : PathKind) (after : TokenList) : TokenList → List Tree → TokenList → Type 0 where
  no_tokens : {rest : TokenList} {back : List Tree} → AfterArgument levels kind after back rest → InBraces levels kind after none (sign (closing Brace) ∷ back) rest
  tokens : {first : Token} {run rest : TokenList} {back : List Tree} → AfterArgument levels kind after back rest →
      InBraces levels kind after (also first run) (still (trees (still_run (also first run))) ∷ sign (closing Brace) ∷ back) rest

-- after the parentheses of a path or of a function
data AfterOutput (levels : ℕ) : TokenList → List Tree → TokenList → Type 0 where
  no_output : {rest : TokenList} → begins_arrow rest ≡ false → AfterOutput levels rest [] rest
  output : {s t : Span} {p : Spacing} {run rest : TokenList} {r : Tree} {e : Ending} → Written levels false run r rest e → may_follow e rest ≡ true →
      AfterOutput levels (also (punctuation 45 Joint s) (also (punctuation 62 p t) run)) (sign arrow ∷ r ∷ []) rest

-- in parentheses, and the tokens after them
data Among (levels : ℕ) (After : Parts) (after : TokenList) : TokenList → List Tree → TokenList → Type 0 where
  among : {run rest : TokenList} {front back : List Tree} → ListedTypes levels run front → After after back rest → Among levels After after run (front ++ (sign (closing Parenthesis) ∷ back)) rest

-- after a type in parentheses
data AfterOne (levels : ℕ) (After : Parts) (after : TokenList) : TokenList → List Tree → TokenList → Type 0 where
  comma_one : {s : Span} {p : Spacing} {run rest : TokenList} {parts : List Tree} → Among levels After after run parts rest →
      AfterOne levels After after (also (punctuation 44 p s) run) (sign (mark 44) ∷ parts) rest
  close_one : {rest : TokenList} {back : List Tree} → After after back rest → AfterOne levels After after none (sign (closing Parenthesis) ∷ back) rest

-- after the length of an array
data AfterLength (after : TokenList) : TokenList → List Tree → TokenList → Type 0 where
  close_length : {run rest : TokenList} {back : List Tree} → Done after back rest → AfterLength after run (sign (closing Bracket) ∷ back) rest

data AtLength (after : TokenList) : TokenList → List Tree → TokenList → Type 0 where
  at_length : {first : Token} {run rest : TokenList} {back : List Tree} → Done after back rest →
      AtLength after (also first run) (still (trees (still_run (also first run))) ∷ sign (closing Bracket) ∷ back) rest

data AfterElement (after : TokenList) : TokenList → List Tree → TokenList → Type 0 where
  close_element : {rest : TokenList} {back : List Tree} → Done after back rest → AfterElement after none (sign (closing Bracket) ∷ back) rest
  length_element : {s : Span} {p : Spacing} {run rest : TokenList} {parts : List Tree} → AtLength after run parts rest → AfterElement after (also (punctuation 59 p s) run) (sign (mark 59) ∷ parts) rest

data AtElement (levels : ℕ) (after : TokenList) : TokenList → List Tree → TokenList → Type 0 where
  at_element : {run middle rest : TokenList} {t : Tree} {parts : List Tree} {e : Ending} → Written levels true run t middle e → AfterElement after middle parts rest → AtElement levels after run (t ∷ parts) rest

-- after `*`
data AtPointer (levels : ℕ) : TokenList → List Tree → TokenList → Type 0 where
  at_const : {s : Span} {run rest : TokenList} {parts : List Tree} → LastType levels false run parts rest → AtPointer levels (also (identifier (codes "const") s) run) (sign (word (codes "const")) ∷ parts) rest
  at_mut : {s : Span} {run rest : TokenList} {parts : List Tree} → LastType levels false run parts rest → AtPointer levels (also (identifier (codes "mut") s) run) (sign (word (codes "mut")) ∷ parts) rest

-- after the `>` of a qualified path, and after the tokens before it
data AtSelfClosed (levels : ℕ) : TokenList → List Tree → TokenList → Type 0 where
  self_closed : {s t : Span} {p : Spacing} {run rest : TokenList} {parts : List Tree} {e : Ending} → Path levels OfType run parts rest e → may_follow e rest ≡ true →
      AtSelfClosed levels (also (punctuation 58 Joint s) (also (punctuation 58 p t) run)) (sign colons ∷ parts) rest

data AfterSelfTrait (levels : ℕ) : TokenList → List Tree → TokenList → Type 0 where
  self_trait_closed : {s : Span} {p : Spacing} {run rest : TokenList} {parts : List Tree} → AtSelfClosed levels run parts rest → AfterSelfTrait levels (also (punctuation 62 p s) run) (sign (mark 62) ∷ parts) rest

data AfterSelf (levels : ℕ) : TokenList → List Tree → TokenList → Type 0 where
  self_plain : {s : Span} {p : Spacing} {run rest : TokenList} {parts : List Tree} → AtSelfClosed levels run parts rest → AfterSelf levels (also (punctuation 62 p s) run) (sign (mark 62) ∷ parts) rest
  self_as : {s : Span} {run rest : TokenList} {parts : List Tree} → Then (AnyPath levels OfType) (AfterSelfTrait levels) run parts rest →
      AfterSelf levels (also (identifier (codes "as") s) run) (sign (word (codes "as")) ∷ parts) rest

-- after a bound
data AfterBound (levels : ℕ) : Bool → TokenList → List Tree → TokenList → Type 0 where
  only_bound : {rest : TokenList} → AfterBound levels false rest [] rest
  bound_last : {rest : TokenList} → begins_mark 43 rest ≡ false → AfterBound levels true rest [] rest
  plus_last : {s : Span} {p : Spacing} {rest : TokenList} → begins_bound rest ≡ false → AfterBound levels true (also (punctuation 43 p s) rest) (sign (mark 43) ∷ []) rest
  plus_more : {s : Span} {p : Spacing} {run rest : TokenList} {parts : List Tree} {e : Ending} → Bounds levels true run parts rest e → may_follow e rest ≡ true →
      AfterBound levels true (also (punctuation 43 p s) run) (sign (mark 43) ∷ parts) rest

-- after `+`
data AtFurther (levels : ℕ) : TokenList → List Tree → TokenList → Type 0 where
  no_further : {rest : TokenList} → begins_bound rest ≡ false → AtFurther levels rest [] rest
  some_further : {run rest : TokenList} {parts : List Tree} {e : Ending} → Bounds levels true run parts rest e → may_follow e rest ≡ true → AtFurther levels run parts rest

-- after a path in parentheses
data AfterEnclosed (levels : ℕ) (plus : Bool) (after : TokenList) : TokenList → List Tree → TokenList → Type 0 where
  close_enclosed : {rest : TokenList} {back : List Tree} → AfterBound levels plus after back rest → AfterEnclosed levels plus after none (sign (closing Parenthesis) ∷ back) rest

-- after `for`, after its `<`, and after one of its lifetimes
data AtFor (After : Parts) : TokenList → List Tree → TokenList → Type 0 where
  at_for : {run middle rest : TokenList} {front back : List Tree} → Lifetimes run front middle → After middle back rest → AtFor After run (front ++ back) rest

data InFor (After : Parts) : TokenList → List Tree → TokenList → Type 0 where
  in_for : {run middle rest : TokenList} {front back : List Tree} → LifetimeList run front middle → After middle back rest → InFor After run (front ++ back) rest

data AfterFor (After : Parts) : TokenList → List Tree → TokenList → Type 0 where
  for_comma : {s : Span} {p : Spacing} {run rest : TokenList} {parts : List Tree} → InFor After run parts rest → AfterFor After (also (punctuation 44 p s) run) (sign (mark 44) ∷ parts) rest
  for_angle : {s : Span} {p : Spacing} {run rest : TokenList} {parts : List Tree} → After run parts rest → AfterFor After (also (punctuation 62 p s) run) (sign (mark 62) ∷ parts) rest

-- in front of `fn`
data AtFn (levels : ℕ) : TokenList → List Tree → TokenList → Type 0 where
  at_fn : {s : Span} {run rest : TokenList} {parts : List Tree} {e : Ending} → Taking levels run parts rest e → may_follow e rest ≡ true →
      AtFn levels (also (identifier (codes "fn") s) run) (sign (word (codes "fn")) ∷ parts) rest

-- after `extern`
data AtExtern (levels : ℕ) : TokenList → List Tree → TokenList → Type 0 where
  extern_fn : {run rest : TokenList} {parts : List Tree} → AtFn levels run parts rest → AtExtern levels run parts rest
  extern_as : {text : List ℕ} {s : Span} {run rest : TokenList} {parts : List Tree} → AtFn levels run parts rest → AtExtern levels (also (literal text s) run) (sign (value text) ∷ parts) rest

-- among the parameters
data InTaken (levels : ℕ) (after : TokenList) : TokenList → List Tree → TokenList → Type 0 where
  in_taken : {run rest : TokenList} {front back : List Tree} → Parameters levels run front → AfterOutput levels after back rest → InTaken levels after run (front ++ (sign (closing Parenthesis) ∷ back)) rest

data AfterParameter (levels : ℕ) (after : TokenList) : TokenList → List Tree → TokenList → Type 0 where
  comma_taken : {s : Span} {p : Spacing} {run rest : TokenList} {parts : List Tree} → InTaken levels after run parts rest →
      AfterParameter levels after (also (punctuation 44 p s) run) (sign (mark 44) ∷ parts) rest
  close_taken : {rest : TokenList} {back : List Tree} → AfterOutput levels after back rest → AfterParameter levels after none (sign (closing Parenthesis) ∷ back) rest

data AtTypedValue (levels : ℕ) (after : TokenList) : TokenList → List Tree → TokenList → Type 0 where
  at_typed_value : {run middle rest : TokenList} {t : Tree} {parts : List Tree} {e : Ending} → Written levels true run t middle e → AfterParameter levels after middle parts rest →
      AtTypedValue levels after run (t ∷ parts) rest

data AtTyped (levels : ℕ) (after : TokenList) : TokenList → List Tree → TokenList → Type 0 where
  at_typed : {s : Span} {p : Spacing} {run rest : TokenList} {parts : List Tree} → AtTypedValue levels after run parts rest →
      AtTyped levels after (also (punctuation 58 p s) run) (sign (mark 58) ∷ parts) rest

abbrev Good : ℕ → Stage → TokenList → Option TokenList → List Tree → TokenList → Type 0
Good levels stage.End run None parts rest = Done run parts rest
Good levels (stage.Named kind) run None parts rest = AfterName levels kind run parts rest
Good levels (stage.Segments kind) run None parts rest = Onward levels kind run parts rest
Good levels (stage.Colons kind may) run None parts rest = AfterColons levels kind may run parts rest
Good levels (stage.Arguments kind) run None parts rest = InArguments levels kind run parts rest
Good levels (stage.Equals kind) run None parts rest = AtEquals levels kind run parts rest
Good levels (stage.Value kind) run None parts rest = AtValue levels kind run parts rest
Good levels (stage.Braced kind) run (Some after) parts rest = InBraces levels kind after run parts rest
Good levels (stage.ArgumentEnd kind) run None parts rest = AfterArgument levels kind run parts rest
Good levels stage.Inputs run (Some after) parts rest = Among levels (AfterOutput levels) after run parts rest
Good levels stage.InputEnd run (Some after) parts rest = AfterOne levels (AfterOutput levels) after run parts rest
Good levels stage.Output run None parts rest = AfterOutput levels run parts rest
Good levels stage.SelfType run None parts rest = Last (Qualified levels) run parts rest
Good levels stage.SelfEnd run None parts rest = AfterSelf levels run parts rest
Good levels stage.SelfTrait run None parts rest = Then (AnyPath levels OfType) (AfterSelfTrait levels) run parts rest
Good levels stage.SelfTraitEnd run None parts rest = AfterSelfTrait levels run parts rest
Good levels stage.SelfClosed run None parts rest = AtSelfClosed levels run parts rest
Good levels stage.Referent run None parts rest = Last (Referent levels) run parts rest
Good levels stage.Pointer run None parts rest = AtPointer levels run parts rest
Good levels stage.Target run None parts rest = LastType levels false run parts rest
Good levels stage.List run (Some after) parts rest = Among levels Done after run parts rest
Good levels stage.ListEnd run (Some after) parts rest = AfterOne levels Done after run parts rest
Good levels stage.Element run (Some after) parts rest = AtElement levels after run parts rest
Good levels stage.ElementEnd run (Some after) parts rest = AfterElement after run parts rest
Good levels stage.Length run (Some after) parts rest = AtLength after run parts rest
Good levels stage.LengthEnd run (Some after) parts rest = AfterLength after run parts rest
Good levels (stage.Bound plus) run None parts rest = Last (Bounds levels plus) run parts rest
Good levels (stage.BoundEnd plus) run None parts rest = AfterBound levels plus run parts rest
Good levels stage.Further run None parts rest = AtFurther levels run parts rest
Good levels (stage.Question plus) run (Some after) parts rest = Then (Questioned levels) (AfterEnclosed levels plus after) run parts rest
Good levels (stage.EnclosedEnd plus) run (Some after) parts rest = AfterEnclosed levels plus after run parts rest
Good levels (stage.Trait (Listed plus)) run None parts rest = Then (Trait levels) (AfterBound levels plus) run parts rest
Good levels (stage.Trait (Enclosed plus)) run (Some after) parts rest = Then (Trait levels) (AfterEnclosed levels plus after) run parts rest
Good levels (stage.TraitPath (Listed plus)) run None parts rest = Then (AnyPath levels OfBound) (AfterBound levels plus) run parts rest
Good levels (stage.TraitPath (Enclosed plus)) run (Some after) parts rest = Then (AnyPath levels OfBound) (AfterEnclosed levels plus after) run parts rest
Good levels (stage.For OfFunction) run None parts rest = AtFor (Last (Function levels)) run parts rest
Good levels (stage.For (OfTrait (Listed plus))) run None parts rest = AtFor (Then (AnyPath levels OfBound) (AfterBound levels plus)) run parts rest
Good levels (stage.For (OfTrait (Enclosed plus))) run (Some after) parts rest = AtFor (Then (AnyPath levels OfBound) (AfterEnclosed levels plus after)) run parts rest
Good levels (stage.ForList OfFunction) run None parts rest = InFor (Last (Function levels)) run parts rest
Good levels (stage.ForList (OfTrait (Listed plus))) run None parts rest = InFor (Then (AnyPath levels OfBound) (AfterBound levels plus)) run parts rest
Good levels (stage.ForList (OfTrait (Enclosed plus))) run (Some after) parts rest = InFor (Then (AnyPath levels OfBound) (AfterEnclosed levels plus after)) run parts rest
Good levels (stage.ForEnd OfFunction) run None parts rest = AfterFor (Last (Function levels)) run parts rest
Good levels (stage.ForEnd (OfTrait (Listed plus))) run None parts rest = AfterFor (Then (AnyPath levels OfBound) (AfterBound levels plus)) run parts rest
Good levels (stage.ForEnd (OfTrait (Enclosed plus))) run (Some after) parts rest = AfterFor (Then (AnyPath levels OfBound) (AfterEnclosed levels plus after)) run parts rest
Good levels stage.Qualified run None parts rest = Last (Function levels) run parts rest
Good levels stage.Unsafe run None parts rest = Last (Linked levels) run parts rest
Good levels stage.Extern run None parts rest = AtExtern levels run parts rest
Good levels stage.Linked run None parts rest = AtFn levels run parts rest
Good levels stage.Function run None parts rest = Last (Taking levels) run parts rest
Good levels stage.Taken run (Some after) parts rest = InTaken levels after run parts rest
Good levels stage.Typed run (Some after) parts rest = AtTyped levels after run parts rest
Good levels stage.TypedValue run (Some after) parts rest = AtTypedValue levels after run parts rest
Good levels stage.OneTaken run (Some after) parts rest = AfterParameter levels after run parts rest
Good levels p run b parts rest = Unit {0}

-- a move keeps it
abbrev Fits : ℕ → Stage → TokenList → Option TokenList → Move → Type 0
Fits levels p run b ends = Good levels p run b [] (outer run b)
Fits levels p run b (takes s spot) = (parts : List Tree) (rest : TokenList) → Good levels spot.stage spot.run spot.outside parts rest → Good levels p run b (sign s ∷ parts) rest
Fits levels p run b (bars s spot) = Unit {0}
Fits levels p run b (needs plus q) = (t : Tree) (middle : TokenList) (parts : List Tree) (rest : TokenList) (e : Ending) → Written levels plus run t middle e → may_follow e middle ≡ true →
    Good levels q middle b parts rest → Good levels p run b (t ∷ parts) rest
Fits levels p run b (keeps_type q) = (t : Tree) (middle : TokenList) (parts : List Tree) (rest : TokenList) (e : Ending) → Written levels true run t middle e → may_follow e middle ≡ true →
    Good levels q middle b parts rest → Good levels p run b (still (and_part t no_part_left) ∷ parts) rest
Fits levels p run b (keeps r spot) = (parts : List Tree) (rest : TokenList) → Good levels spot.stage spot.run spot.outside parts rest → Good levels p run b (still (trees (still_run r)) ∷ parts) rest
Fits levels p run b (nests s inner q) = (front : List Tree) (middle : TokenList) (parts : List Tree) (rest : TokenList) → Good levels inner.stage inner.run inner.outside front middle →
    Good levels q middle b parts rest → Good levels p run b (sign s ∷ (front ++ parts)) rest
Fits levels p run b (stops f) = Unit {0}

idle : (levels : ℕ) (p : Stage) (run : TokenList) (b : Option TokenList) → ((parts : List Tree) (rest : TokenList) → Good levels p run b parts rest) → (m : Move) → Fits levels p run b m
idle levels p run b g ends = g [] (outer run b)
idle levels p run b g (takes s spot) = λ parts rest h. g (sign s ∷ parts) rest
idle levels p run b g (bars s spot) = tt
idle levels p run b g (needs plus q) = λ t middle parts rest e w f h. g (t ∷ parts) rest
idle levels p run b g (keeps_type q) = λ t middle parts rest e w f h. g (still (and_part t no_part_left) ∷ parts) rest
idle levels p run b g (keeps r spot) = λ parts rest h. g (still (trees (still_run r)) ∷ parts) rest
idle levels p run b g (nests s inner q) = λ front middle parts rest h k. g (sign s ∷ (front ++ parts)) rest
idle levels p run b g (stops f) = tt

-- both branches
either : (F : Move → Type 0) (b : Bool) (m n : Move) → (b ≡ true → F m) → (b ≡ false → F n) → F (if b then m else n)
either F true m n f g = f refl
either F false m n f g = g refl

is_same : (c k : ℕ) → (c == k) ≡ true → c ≡ k
is_same c k e = go (eqb_tells c k)
  where
    go : ((c == k) ≡ true) × (c ≡ k) ⊎ ((c == k) ≡ false) × (c ≢ k) → c ≡ k
    go (inl h) = h.1
    go (inr h) = absurd (let l = sym e ∙ h.0 in cc)

-- where this character comes first
with_mark : (P : ℕ → Type 0) (c k : ℕ) → (c == k) ≡ true → P k → P c
with_mark P c k e h = subst P (sym (is_same c k e)) h

with_text : (P : List ℕ → Type 0) (a k : List ℕ) → bytes_eq a k ≡ true → P k → P a
with_text P a k e h = subst P (sym ((bytes_eq-Decides a k).0 e)) h

both_true : (a b : Bool) → (a && b) ≡ true → (a ≡ true) × (b ≡ true)
both_true true b e = (refl, e)
both_true false b e = cc

with_colons : (P : TokenList → Type 0) → ((s t : Span) (p : Spacing) (rest : TokenList) → P (also (punctuation 58 Joint s) (also (punctuation 58 p t) rest))) → (run : TokenList) → begins_colons run ≡ true → P run
with_colons P f (also (punctuation c Joint s) (also (punctuation d p t) rest)) e =
    let h = both_true (c == 58) (d == 58) e in
    with_mark (λ (x : ℕ). P (also (punctuation x Joint s) (also (punctuation d p t) rest))) c 58 h.0
    (with_mark (λ (x : ℕ). P (also (punctuation 58 Joint s) (also (punctuation x p t) rest))) d 58 h.1 (f s t p rest))
with_colons P f run e = cc

with_arrow : (P : TokenList → Type 0) → ((s t : Span) (p : Spacing) (rest : TokenList) → P (also (punctuation 45 Joint s) (also (punctuation 62 p t) rest))) → (run : TokenList) → begins_arrow run ≡ true → P run
with_arrow P f (also (punctuation c Joint s) (also (punctuation d p t) rest)) e =
    let h = both_true (c == 45) (d == 62) e in
    with_mark (λ (x : ℕ). P (also (punctuation x Joint s) (also (punctuation d p t) rest))) c 45 h.0
    (with_mark (λ (x : ℕ). P (also (punctuation 45 Joint s) (also (punctuation x p t) rest))) d 62 h.1 (f s t p rest))
with_arrow P f run e = cc

not_false : (b : Bool) → b ≡ false → not b ≡ true
not_false false e = refl
not_false true e = cc

not_not : (b : Bool) → not b ≡ true → b ≡ false
not_not false e = refl
not_not true e = cc

or_false : (a b : Bool) → a ≡ false → b ≡ false → (a || b) ≡ false
or_false a b e f = rw (e, f) refl

-- a type that ends in a name that nothing continues
free_name : (kind : PathKind) (run : TokenList) → continues run ≡ false → begins_mark 33 run ≡ false → may_follow (name_ending kind) run ≡ true
free_name Plain run e f = not_false (continues run || begins_mark 33 run) (or_false (continues run) (begins_mark 33 run) e f)
free_name OfType run e f = not_false (continues run) e
free_name OfBound run e f = not_false (continues run) e

angled_name : {levels : ℕ} {kind : PathKind} {run middle rest : TokenList} {front back : List Tree} → Angled levels (argued kind) run front middle → Onward levels (argued kind) middle back rest → AfterName levels kind run (front ++ back) rest
angled_name {levels} {kind} {run} {front = front} a (stop {rest = rest} n) = subst (λ (ts : List Tree). AfterName levels kind run ts rest) (sym (append-nil front)) (name_longer (angled a) (not_false (begins_colons rest) n))
angled_name a (onward w f) = name_longer (angled_member a w) f

angle_name : {levels : ℕ} {kind : PathKind} {s : Span} {p : Spacing} {run rest : TokenList} {parts : List Tree} → InArguments levels (argued kind) run parts rest → AfterName levels kind (also (punctuation 60 p s) run) (sign (mark 60) ∷ parts) rest
angle_name (in_arguments a o) = angled_name (plain a) o

turbofish_name : {levels : ℕ} {kind : PathKind} {s t u : Span} {p q : Spacing} {run rest : TokenList} {parts : List Tree} → InArguments levels (argued kind) run parts rest →
    AfterName levels kind (also (punctuation 58 Joint s) (also (punctuation 58 p t) (also (punctuation 60 q u) run))) (sign colons ∷ sign (mark 60) ∷ parts) rest
turbofish_name (in_arguments a o) = angled_name (turbofish a) o

colons_name : {levels : ℕ} {kind : PathKind} {may : Bool} (s t : Span) (p : Spacing) {run rest : TokenList} {parts : List Tree} → AfterColons levels kind may run parts rest →
    AfterName levels kind (also (punctuation 58 Joint s) (also (punctuation 58 p t) run)) (sign colons ∷ parts) rest
colons_name s t p (to_path w f) = name_longer (member w) f
colons_name s t p (to_angle e i) = turbofish_name i

colons_onward : {levels : ℕ} {kind : PathKind} {may : Bool} (s t : Span) (p : Spacing) {run rest : TokenList} {parts : List Tree} → may ≡ false → AfterColons levels kind may run parts rest →
    Onward levels kind (also (punctuation 58 Joint s) (also (punctuation 58 p t) run)) (sign colons ∷ parts) rest
colons_onward s t p n (to_path w f) = onward w f
colons_onward s t p n (to_angle e i) = absurd (let k = sym n ∙ e in cc)

called_longer : {levels : ℕ} {kind : PathKind} {s : Span} {inside after rest : TokenList} {front back : List Tree} → ListedTypes levels inside front → AfterOutput levels after back rest →
    AfterName levels kind (also (group Parenthesis s inside) after) (sign (opening Parenthesis) ∷ (front ++ (sign (closing Parenthesis) ∷ back))) rest
called_longer l (no_output {rest = rest} n) = name_longer (called l) (not_false (begins_arrow rest) n)
called_longer l (output w f) = name_longer (giving l w) f

called_name : {levels : ℕ} {kind : PathKind} {s : Span} {inside after rest : TokenList} {parts : List Tree} → Among levels (AfterOutput levels) after inside parts rest →
    AfterName levels kind (also (group Parenthesis s inside) after) (sign (opening Parenthesis) ∷ parts) rest
called_name (among l a) = called_longer l a

-- a path from a name on, as it is met
data APath (levels : ℕ) (kind : PathKind) : TokenList → List Tree → TokenList → Type 0 where
  a_path : {run rest : TokenList} {parts : List Tree} {e : Ending} → Path levels kind run parts rest e → may_follow e rest ≡ true → APath levels kind run parts rest

named_path : {levels : ℕ} {kind : PathKind} {text : List ℕ} {s : Span} {run rest : TokenList} {parts : List Tree} → AfterName levels kind run parts rest → APath levels kind (also (identifier text s) run) (sign (word text) ∷ parts) rest
named_path (name_last f) = a_path last f
named_path (name_longer l f) = a_path (longer l) f

named_colons : {levels : ℕ} {kind : PathKind} {text : List ℕ} {s : Span} {run rest : TokenList} {parts : List Tree} (may : Bool) → APath levels kind (also (identifier text s) run) (sign (word text) ∷ parts) rest → AfterColons levels kind may (also (identifier text s) run) (sign (word text) ∷ parts) rest
named_colons may (a_path w f) = to_path w f

append_to : {levels : ℕ} {kind : PathKind} {run rest : TokenList} {ps qs : List Tree} → ps ≡ qs → InArguments levels kind run ps rest → InArguments levels kind run qs rest
append_to {levels} {kind} {run} {rest} e h = subst (λ (ts : List Tree). InArguments levels kind run ts rest) e h

comma_in : {levels : ℕ} {kind : PathKind} {s : Span} {p : Spacing} {run middle rest : TokenList} {front back : List Tree} → Argument levels kind run front (also (punctuation 44 p s) middle) → InArguments levels kind middle back rest →
    InArguments levels kind run (front ++ (sign (mark 44) ∷ back)) rest
comma_in {front = front} a (in_arguments {front = others} {back = more_back} w o) = append_to (append_assoc front (sign (mark 44) ∷ others) more_back) (in_arguments (further a w) o)

in_argument : {levels : ℕ} {kind : PathKind} {run middle rest : TokenList} {front back : List Tree} → Argument levels kind run front middle → AfterArgument levels kind middle back rest → InArguments levels kind run (front ++ back) rest
in_argument a (comma i) = comma_in a i
in_argument {front = front} a (angle {parts = parts} o) = append_to (append_assoc front (sign (mark 62) ∷ []) parts) (in_arguments (final a) o)

value_in : {levels : ℕ} {kind : PathKind} {text : List ℕ} {s u : Span} {p : Spacing} {run rest : TokenList} {parts : List Tree} → AtValue levels kind run parts rest →
    InArguments levels kind (also (identifier text s) (also (punctuation 61 p u) run)) (sign (word text) ∷ sign (mark 61) ∷ parts) rest
value_in (at_value w h) = in_argument (a_binding w) h

binding_in : {levels : ℕ} {kind : PathKind} {text : List ℕ} {s : Span} {run rest : TokenList} {parts : List Tree} → AtEquals levels kind run parts rest → InArguments levels kind (also (identifier text s) run) (sign (word text) ∷ parts) rest
binding_in (at_equals v) = value_in v

braces_in : {levels : ℕ} {kind : PathKind} {s : Span} {inside after rest : TokenList} {parts : List Tree} → InBraces levels kind after inside parts rest →
    InArguments levels kind (also (group Brace s inside) after) (sign (opening Brace) ∷ parts) rest
braces_in (no_tokens h) = in_argument empty_braces h
braces_in (tokens h) = in_argument braces h

braced_kept : {levels : ℕ} {kind : PathKind} {after rest : TokenList} {first : Token} {run : TokenList} {parts : List Tree} → InBraces levels kind after none parts rest → InBraces levels kind after (also first run) (still (trees (still_run (also first run))) ∷ parts) rest
braced_kept (no_tokens h) = tokens h

module _ {After : Parts} where
  next_among : {levels : ℕ} {after middle run rest : TokenList} {t : Tree} {parts : List Tree} {s : Span} {p : Spacing} {e : Ending} → Written levels true run t (also (punctuation 44 p s) middle) e →
      Among levels After after middle parts rest → Among levels After after run (t ∷ sign (mark 44) ∷ parts) rest
  next_among w (among l a) = among (several w l) a

  one_among : {levels : ℕ} {after middle run rest : TokenList} {t : Tree} {parts : List Tree} {e : Ending} → Written levels true run t middle e → AfterOne levels After after middle parts rest →
      Among levels After after run (t ∷ parts) rest
  one_among w (comma_one a) = next_among w a
  one_among w (close_one a) = among (single w) a

arrow_output : {levels : ℕ} (s t : Span) (p : Spacing) {run rest : TokenList} {parts : List Tree} → LastType levels false run parts rest →
    AfterOutput levels (also (punctuation 45 Joint s) (also (punctuation 62 p t) run)) (sign arrow ∷ parts) rest
arrow_output s t p (ending_type w f) = output w f

last_type : {levels : ℕ} {plus : Bool} {run middle rest : TokenList} {t : Tree} {parts : List Tree} {e : Ending} → Written levels plus run t middle e → may_follow e middle ≡ true → Done middle parts rest → LastType levels plus run (t ∷ parts) rest
last_type w f done = ending_type w f

shared_last : {levels : ℕ} {run middle rest : TokenList} {t : Tree} {parts : List Tree} {e : Ending} → begins_mut run ≡ false → Written levels false run t middle e → may_follow e middle ≡ true → Done middle parts rest →
    Last (Referent levels) run (t ∷ parts) rest
shared_last n w f done = ending (shared n w) f

mutable_last : {levels : ℕ} {s : Span} {run rest : TokenList} {parts : List Tree} → LastType levels false run parts rest → Last (Referent levels) (also (identifier (codes "mut") s) run) (sign (word (codes "mut")) ∷ parts) rest
mutable_last (ending_type w f) = ending (mutable w) f

length_kept : {after rest : TokenList} {first : Token} {run : TokenList} {parts : List Tree} → AfterLength after none parts rest → AtLength after (also first run) (still (trees (still_run (also first run))) ∷ parts) rest
length_kept (close_length d) = at_length d

-- a qualified path
self_path : {levels : ℕ} (s t : Span) (p : Spacing) {may : Bool} {run rest : TokenList} {parts : List Tree} → may ≡ false → AfterColons levels OfType may run parts rest → AtSelfClosed levels (also (punctuation 58 Joint s) (also (punctuation 58 p t) run)) (sign colons ∷ parts) rest
self_path s t p n (to_path w f) = self_closed w f
self_path s t p n (to_angle e i) = absurd (let k = sym n ∙ e in cc)

self_type : {levels : ℕ} {run middle rest : TokenList} {self : Tree} {parts : List Tree} {e : Ending} → Written levels true run self middle e → may_follow e middle ≡ true → AfterSelf levels middle parts rest →
    Last (Qualified levels) run (still (and_part self no_part_left) ∷ parts) rest
self_type w f (self_plain (self_closed l k)) = ending (of_type w l) k
self_type w f (self_as (then_after l g (self_trait_closed (self_closed m k)))) = ending (of_trait w f l m) k

-- a path where one is required
path_then : {levels : ℕ} {kind : PathKind} {After : Parts} {text : List ℕ} {s : Span} {run middle rest : TokenList} {front : List Tree} (back : List Tree) → APath levels kind (also (identifier text s) run) (sign (word text) ∷ front) middle → After middle back rest →
    Then (AnyPath levels kind) After (also (identifier text s) run) (sign (word text) ∷ (front ++ back)) rest
path_then back (a_path w f) a = then_after (from_name w) f a

root_then : {levels : ℕ} {kind : PathKind} {After : Parts} (back : List Tree) (s t : Span) (p : Spacing) {may : Bool} {run middle rest : TokenList} {front : List Tree} → may ≡ false → AfterColons levels kind may run front middle → After middle back rest →
    Then (AnyPath levels kind) After (also (punctuation 58 Joint s) (also (punctuation 58 p t) run)) (sign colons ∷ (front ++ back)) rest
root_then back s t p n (to_path w f) a = then_after (from_root w) f a
root_then back s t p n (to_angle e i) a = absurd (let k = sym n ∙ e in cc)

trait_then : {levels : ℕ} {After : Parts} {run rest : TokenList} {parts : List Tree} → begins_for run ≡ false → Then (AnyPath levels OfBound) After run parts rest → Then (Trait levels) After run parts rest
trait_then n (then_after w f a) = then_after (unbound n w) f a

for_then : {levels : ℕ} {After : Parts} {s : Span} {run rest : TokenList} {parts : List Tree} → AtFor (Then (AnyPath levels OfBound) After) run parts rest →
    Then (Trait levels) After (also (identifier (codes "for") s) run) (sign (word (codes "for")) ∷ parts) rest
for_then {levels} {After} {s} {run} {rest} (at_for {front = front} l (then_after {front = others} {back = back} w f a)) =
    subst (λ (ts : List Tree). Then (Trait levels) After (also (identifier (codes "for") s) run) ts rest) (append_assoc (sign (word (codes "for")) ∷ front) others back) (then_after (for_all l w) f a)

unquestioned_then : {levels : ℕ} {After : Parts} {run rest : TokenList} {parts : List Tree} → Then (Trait levels) After run parts rest → Then (Questioned levels) After run parts rest
unquestioned_then (then_after w f a) = then_after (unquestioned w) f a

questioned_then : {levels : ℕ} {After : Parts} {s : Span} {p : Spacing} {run rest : TokenList} {parts : List Tree} → Then (Trait levels) After run parts rest → Then (Questioned levels) After (also (punctuation 63 p s) run) (sign (mark 63) ∷ parts) rest
questioned_then (then_after w f a) = then_after (questioned w) f a

-- a bound, and the tokens after it
bound_then : {levels : ℕ} {plus : Bool} {run middle rest : TokenList} {front back : List Tree} {e : Ending} → Bound levels run front middle e → may_follow e middle ≡ true → AfterBound levels plus middle back rest → Last (Bounds levels plus) run (front ++ back) rest
bound_then {levels} {run = run} {rest = rest} {front = front} w f only_bound = subst (λ (ts : List Tree). Last (Bounds levels false) run ts rest) (sym (append-nil front)) (ending (one_bound w) f)
bound_then {levels} {run = run} {rest = rest} {front = front} {e = e} w f (bound_last n) =
    subst (λ (ts : List Tree). Last (Bounds levels true) run ts rest) (sym (append-nil front)) (ending (last_bound w) (let k = not_false (begins_mark 43 rest) n in rw (f, k) refl))
bound_then {rest = rest} w f (plus_last n) = ending (plus_after w f) (not_false (begins_bound rest) n)
bound_then w f (plus_more k g) = ending (bounds w f k) g

questioned_bound : {levels : ℕ} {plus : Bool} {run rest : TokenList} {parts : List Tree} → Then (Questioned levels) (AfterBound levels plus) run parts rest → Last (Bounds levels plus) run parts rest
questioned_bound (then_after w f a) = bound_then (trait_bound w) f a

enclosed_bound : {levels : ℕ} {plus : Bool} {s : Span} {inside after rest : TokenList} {parts : List Tree} → Then (Questioned levels) (AfterEnclosed levels plus after) inside parts rest →
    Last (Bounds levels plus) (also (group Parenthesis s inside) after) (sign (opening Parenthesis) ∷ parts) rest
enclosed_bound {levels} {plus} {s} {inside} {after} {rest} (then_after {front = front} w f (close_enclosed {back = back} a)) =
    subst (λ (ts : List Tree). Last (Bounds levels plus) (also (group Parenthesis s inside) after) ts rest) (append_assoc (sign (opening Parenthesis) ∷ front) (sign (closing Parenthesis) ∷ []) back) (bound_then (enclosed w) refl a)

further_plus : {levels : ℕ} {s : Span} {p : Spacing} {run rest : TokenList} {parts : List Tree} → AtFurther levels run parts rest → AfterBound levels true (also (punctuation 43 p s) run) (sign (mark 43) ∷ parts) rest
further_plus (no_further n) = plus_last n
further_plus (some_further w f) = plus_more w f

bounds_further : {levels : ℕ} {run rest : TokenList} {parts : List Tree} → Last (Bounds levels true) run parts rest → AtFurther levels run parts rest
bounds_further (ending w f) = some_further w f

-- the lifetimes after `for`
module _ {After : Parts} where
  for_opened : {s : Span} {p : Spacing} {run rest : TokenList} {parts : List Tree} → InFor After run parts rest → AtFor After (also (punctuation 60 p s) run) (sign (mark 60) ∷ parts) rest
  for_opened (in_for l a) = at_for (in_angles l) a

  for_closed : {s : Span} {p : Spacing} {run rest : TokenList} {parts : List Tree} → After run parts rest → InFor After (also (punctuation 62 p s) run) (sign (mark 62) ∷ parts) rest
  for_closed a = in_for no_lifetime a

  for_lifetime : {s t : Span} {p : Spacing} {text : List ℕ} {run rest : TokenList} {parts : List Tree} → AfterFor After run parts rest → InFor After (also (punctuation 39 p s) (also (identifier text t) run)) (sign (other_lifetime text) ∷ parts) rest
  for_lifetime (for_comma (in_for l a)) = in_for (lifetimes l) a
  for_lifetime (for_angle a) = in_for last_lifetime a

bound_function_form : {levels : ℕ} {plus : Bool} {s : Span} {run rest : TokenList} {parts : List Tree} → AtFor (Last (Function levels)) run parts rest → Last (Form levels plus) (also (identifier (codes "for") s) run) (sign (word (codes "for")) ∷ parts) rest
bound_function_form (at_for l (ending w f)) = ending (bound_function l w) f

-- functions
taking_longer : {levels : ℕ} {s : Span} {inside after rest : TokenList} {front back : List Tree} → Parameters levels inside front → AfterOutput levels after back rest →
    Last (Taking levels) (also (group Parenthesis s inside) after) (sign (opening Parenthesis) ∷ (front ++ (sign (closing Parenthesis) ∷ back))) rest
taking_longer l (no_output {rest = rest} n) = ending (takes_only l) (not_false (begins_arrow rest) n)
taking_longer l (output w f) = ending (takes_and_yields l w) f

taking_last : {levels : ℕ} {s : Span} {inside after rest : TokenList} {parts : List Tree} → InTaken levels after inside parts rest →
    Last (Taking levels) (also (group Parenthesis s inside) after) (sign (opening Parenthesis) ∷ parts) rest
taking_last (in_taken l a) = taking_longer l a

fn_at : {levels : ℕ} {s : Span} {run rest : TokenList} {parts : List Tree} → Last (Taking levels) run parts rest → AtFn levels (also (identifier (codes "fn") s) run) (sign (word (codes "fn")) ∷ parts) rest
fn_at (ending w f) = at_fn w f

fn_linked : {levels : ℕ} {run rest : TokenList} {parts : List Tree} → AtFn levels run parts rest → Last (Linked levels) run parts rest
fn_linked (at_fn w f) = ending (unlinked w) f

extern_linked : {levels : ℕ} {s : Span} {run rest : TokenList} {parts : List Tree} → AtExtern levels run parts rest → Last (Linked levels) (also (identifier (codes "extern") s) run) (sign (word (codes "extern")) ∷ parts) rest
extern_linked (extern_fn (at_fn w f)) = ending (linked w) f
extern_linked (extern_as (at_fn w f)) = ending (linked_as w) f

linked_function : {levels : ℕ} {run rest : TokenList} {parts : List Tree} → Last (Linked levels) run parts rest → Last (Function levels) run parts rest
linked_function (ending w f) = ending (safe w) f

unsafe_function : {levels : ℕ} {s : Span} {run rest : TokenList} {parts : List Tree} → Last (Linked levels) run parts rest → Last (Function levels) (also (identifier (codes "unsafe") s) run) (sign (word (codes "unsafe")) ∷ parts) rest
unsafe_function (ending w f) = ending (not_safe w) f

function_form : {levels : ℕ} {plus : Bool} {run rest : TokenList} {parts : List Tree} → Last (Function levels) run parts rest → Last (Form levels plus) run parts rest
function_form (ending w f) = ending (function w) f

comma_taken_in : {levels : ℕ} {s : Span} {p : Spacing} {after run middle rest : TokenList} {front back : List Tree} → Parameter levels run front (also (punctuation 44 p s) middle) → InTaken levels after middle back rest →
    InTaken levels after run (front ++ (sign (mark 44) ∷ back)) rest
comma_taken_in {levels} {after = after} {run = run} {rest = rest} {front = front} a (in_taken {front = others} {back = more_back} w o) =
    subst (λ (ts : List Tree). InTaken levels after run ts rest) (append_assoc front (sign (mark 44) ∷ others) (sign (closing Parenthesis) ∷ more_back)) (in_taken (parameters a w) o)

parameter_in : {levels : ℕ} {after run middle rest : TokenList} {front back : List Tree} → Parameter levels run front middle → AfterParameter levels after middle back rest → InTaken levels after run (front ++ back) rest
parameter_in a (comma_taken i) = comma_taken_in a i
parameter_in a (close_taken o) = in_taken (last_parameter a) o

typed_value_in : {levels : ℕ} {text : List ℕ} {s u : Span} {p : Spacing} {after run rest : TokenList} {parts : List Tree} → begins_colons (also (punctuation 58 p u) run) ≡ false → AtTypedValue levels after run parts rest →
    InTaken levels after (also (identifier text s) (also (punctuation 58 p u) run)) (sign (word text) ∷ sign (mark 58) ∷ parts) rest
typed_value_in n (at_typed_value w h) = parameter_in (with_name n w) h

typed_in : {levels : ℕ} {text : List ℕ} {s : Span} {after run rest : TokenList} {parts : List Tree} → begins_colons run ≡ false → AtTyped levels after run parts rest →
    InTaken levels after (also (identifier text s) run) (sign (word text) ∷ parts) rest
typed_in n (at_typed v) = typed_value_in n v

fits_name_end : (levels : ℕ) (kind : PathKind) (run : TokenList) → continues run ≡ false → Fits levels (stage.Named kind) run None (name_end kind run None)
fits_name_end levels Plain (also (punctuation c p s) rest) g = either (Fits levels (stage.Named Plain) (also (punctuation c p s) rest) None) (c == 33) _ _ (λ e. tt) (λ n. name_last (free_name Plain (also (punctuation c p s) rest) g n))
fits_name_end levels Plain (also (identifier text s) rest) g = name_last (free_name Plain (also (identifier text s) rest) g refl)
fits_name_end levels Plain (also (literal text s) rest) g = name_last (free_name Plain (also (literal text s) rest) g refl)
fits_name_end levels Plain (also (doc text s) rest) g = name_last (free_name Plain (also (doc text s) rest) g refl)
fits_name_end levels Plain (also (group d s inside) rest) g = name_last (free_name Plain (also (group d s inside) rest) g refl)
fits_name_end levels Plain none g = name_last refl
fits_name_end levels OfType run g = name_last (not_false (continues run) g)
fits_name_end levels OfBound run g = name_last (not_false (continues run) g)

named_done : (a b : Bool) → a ≡ false → b ≡ false → ((a || b) || false) ≡ false
named_done a b e f = rw (e, f) refl

free_end : (levels : ℕ) (kind : PathKind) (run : TokenList) → continues run ≡ false → begins_mark 33 run ≡ false → AfterName levels kind run [] run
free_end levels kind run g n = name_last (free_name kind run g n)

fits_named : (levels : ℕ) (kind : PathKind) (run : TokenList) → Fits levels (stage.Named kind) run None (next_at (stage.Named kind) run None)
unfolding next_at
fits_named levels kind (also (punctuation c p s) rest) = either (Fits levels (stage.Named kind) (also (punctuation c p s) rest) None) (c == 60) _ _ (λ e parts r h. with_mark (λ (x : ℕ). AfterName levels kind (also (punctuation x p s) rest) (sign (mark 60) ∷ parts) r) c 60 e (angle_name h)) (λ n. either (Fits levels (stage.Named kind) (also (punctuation c p s) rest) None) (begins_colons (also (punctuation c p s) rest)) _ _ (λ e parts r. with_colons (λ (x : TokenList). AfterColons levels kind true (after_two x) parts r → AfterName levels kind x (sign colons ∷ parts) r) (λ u v q other h. colons_name u v q h) (also (punctuation c p s) rest) e) (λ m. fits_name_end levels kind (also (punctuation c p s) rest) (named_done (c == 60) (begins_colons (also (punctuation c p s) rest)) n m)))
fits_named levels kind (also (identifier text s) rest) = free_end levels kind (also (identifier text s) rest) refl refl
fits_named levels kind (also (literal text s) rest) = free_end levels kind (also (literal text s) rest) refl refl
fits_named levels kind (also (doc text s) rest) = free_end levels kind (also (doc text s) rest) refl refl
fits_named levels kind (also (group Parenthesis s inside) rest) = λ parts r h. called_name h
fits_named levels kind (also (group Bracket s inside) rest) = free_end levels kind (also (group Bracket s inside) rest) refl refl
fits_named levels kind (also (group Brace s inside) rest) = free_end levels kind (also (group Brace s inside) rest) refl refl
fits_named levels kind none = free_end levels kind none refl refl

fits_segments : (levels : ℕ) (kind : PathKind) (run : TokenList) → Fits levels (stage.Segments kind) run None (next_at (stage.Segments kind) run None)
unfolding next_at
fits_segments levels kind run = either (Fits levels (stage.Segments kind) run None) (begins_colons run) _ _
    (λ e parts r. with_colons (λ (x : TokenList). AfterColons levels kind false (after_two x) parts r → Onward levels kind x (sign colons ∷ parts) r) (λ u v q other h. colons_onward u v q refl h) run e)
    (λ n. stop n)

fits_colons : (levels : ℕ) (kind : PathKind) (may : Bool) (run : TokenList) → Fits levels (stage.Colons kind may) run None (next_at (stage.Colons kind may) run None)
unfolding next_at
fits_colons levels kind may (also (punctuation c p s) rest) = either (Fits levels (stage.Colons kind may) (also (punctuation c p s) rest) None) (may && (c == 60)) _ _ (λ e parts r h. let k = both_true may (c == 60) e in with_mark (λ (x : ℕ). AfterColons levels kind may (also (punctuation x p s) rest) (sign (mark 60) ∷ parts) r) c 60 k.1 (to_angle k.0 h)) (λ n. tt)
fits_colons levels kind may (also (identifier text s) rest) = λ parts r h. named_colons may (named_path h)
fits_colons levels kind may (also (literal text s) rest) = tt
fits_colons levels kind may (also (doc text s) rest) = tt
fits_colons levels kind may (also (group Parenthesis s inside) rest) = tt
fits_colons levels kind may (also (group Bracket s inside) rest) = tt
fits_colons levels kind may (also (group Brace s inside) rest) = tt
fits_colons levels kind may none = tt

fits_lifetime : (levels : ℕ) (kind : PathKind) (p : Spacing) (s : Span) (run : TokenList) → Fits levels (stage.Arguments kind) (also (punctuation 39 p s) run) None (table.lifetime_move kind run None)
fits_lifetime levels kind p s (also (identifier text t) rest) = λ parts r h. in_argument a_lifetime h
fits_lifetime levels kind p s (also (punctuation c q t) rest) = tt
fits_lifetime levels kind p s (also (literal text t) rest) = tt
fits_lifetime levels kind p s (also (doc text t) rest) = tt
fits_lifetime levels kind p s (also (group d t inside) rest) = tt
fits_lifetime levels kind p s none = tt

either_false : (a b : Bool) → a ≡ false → b ≡ false → (a || b) ≡ false
either_false a b e f = rw (e, f) refl

fits_argument_word : (levels : ℕ) (kind : PathKind) (text : List ℕ) (s : Span) (rest : TokenList) → Fits levels (stage.Arguments kind) (also (identifier text s) rest) None (table.argument_word kind text rest None)
fits_argument_word levels kind text s rest = either (Fits levels (stage.Arguments kind) (also (identifier text s) rest) None) (begins_mark 61 rest) _ _ (λ e parts r h. binding_in h)
    (λ n. either (Fits levels (stage.Arguments kind) (also (identifier text s) rest) None) (typing rest) _ _ (λ e. tt)
    (λ m t middle parts r e v f h. in_argument (a_type (either_false (begins_mark 61 rest) (typing rest) n m) v) h))

fits_arguments : (levels : ℕ) (kind : PathKind) (run : TokenList) → Fits levels (stage.Arguments kind) run None (next_at (stage.Arguments kind) run None)
unfolding next_at
fits_arguments levels kind (also (punctuation c p s) rest) = either (Fits levels (stage.Arguments kind) (also (punctuation c p s) rest) None) (c == 62) _ _ (λ e parts r h. with_mark (λ (x : ℕ). InArguments levels kind (also (punctuation x p s) rest) (sign (mark 62) ∷ parts) r) c 62 e (in_arguments finished h)) (λ n. either (Fits levels (stage.Arguments kind) (also (punctuation c p s) rest) None) (c == 39) _ _ (λ e. with_mark (λ (x : ℕ). Fits levels (stage.Arguments kind) (also (punctuation x p s) rest) None (table.lifetime_move kind rest None)) c 39 e (fits_lifetime levels kind p s rest)) (λ m t middle parts r e v f h. in_argument (a_type refl v) h))
fits_arguments levels kind (also (identifier text s) rest) = fits_argument_word levels kind text s rest
fits_arguments levels kind (also (literal text s) rest) = λ parts r h. in_argument a_literal h
fits_arguments levels kind (also (doc text s) rest) = λ t middle parts r e v f h. in_argument (a_type refl v) h
fits_arguments levels kind (also (group Parenthesis s inside) rest) = λ t middle parts r e v f h. in_argument (a_type refl v) h
fits_arguments levels kind (also (group Bracket s inside) rest) = λ t middle parts r e v f h. in_argument (a_type refl v) h
fits_arguments levels kind (also (group Brace s inside) rest) = λ parts r h. braces_in h
fits_arguments levels kind none = λ t middle parts r e v f h. in_argument (a_type refl v) h

fits_braced : (levels : ℕ) (kind : PathKind) (run : TokenList) (after : TokenList) → Fits levels (stage.Braced kind) run (Some after) (next_at (stage.Braced kind) run (Some after))
unfolding next_at
fits_braced levels kind (also (punctuation c p s) rest) after = λ parts r h. braced_kept h
fits_braced levels kind (also (identifier text s) rest) after = λ parts r h. braced_kept h
fits_braced levels kind (also (literal text s) rest) after = λ parts r h. braced_kept h
fits_braced levels kind (also (doc text s) rest) after = λ parts r h. braced_kept h
fits_braced levels kind (also (group Parenthesis s inside) rest) after = λ parts r h. braced_kept h
fits_braced levels kind (also (group Bracket s inside) rest) after = λ parts r h. braced_kept h
fits_braced levels kind (also (group Brace s inside) rest) after = λ parts r h. braced_kept h
fits_braced levels kind none after = λ parts r h. no_tokens h

fits_equals : (levels : ℕ) (kind : PathKind) (run : TokenList) → Fits levels (stage.Equals kind) run None (next_at (stage.Equals kind) run None)
unfolding next_at
fits_equals levels kind (also (punctuation c p s) rest) = either (Fits levels (stage.Equals kind) (also (punctuation c p s) rest) None) (c == 61) _ _ (λ e parts r h. with_mark (λ (x : ℕ). AtEquals levels kind (also (punctuation x p s) rest) (sign (mark 61) ∷ parts) r) c 61 e (at_equals h)) (λ n. tt)
fits_equals levels kind (also (identifier text s) rest) = tt
fits_equals levels kind (also (literal text s) rest) = tt
fits_equals levels kind (also (doc text s) rest) = tt
fits_equals levels kind (also (group Parenthesis s inside) rest) = tt
fits_equals levels kind (also (group Bracket s inside) rest) = tt
fits_equals levels kind (also (group Brace s inside) rest) = tt
fits_equals levels kind none = tt

fits_argument_end : (levels : ℕ) (kind : PathKind) (run : TokenList) → Fits levels (stage.ArgumentEnd kind) run None (next_at (stage.ArgumentEnd kind) run None)
unfolding next_at
fits_argument_end levels kind (also (punctuation c p s) rest) = either (Fits levels (stage.ArgumentEnd kind) (also (punctuation c p s) rest) None) (c == 44) _ _ (λ e parts r h. with_mark (λ (x : ℕ). AfterArgument levels kind (also (punctuation x p s) rest) (sign (mark 44) ∷ parts) r) c 44 e (comma h)) (λ n. either (Fits levels (stage.ArgumentEnd kind) (also (punctuation c p s) rest) None) (c == 62) _ _ (λ e parts r h. with_mark (λ (x : ℕ). AfterArgument levels kind (also (punctuation x p s) rest) (sign (mark 62) ∷ parts) r) c 62 e (angle h)) (λ n. tt))
fits_argument_end levels kind (also (identifier text s) rest) = tt
fits_argument_end levels kind (also (literal text s) rest) = tt
fits_argument_end levels kind (also (doc text s) rest) = tt
fits_argument_end levels kind (also (group Parenthesis s inside) rest) = tt
fits_argument_end levels kind (also (group Bracket s inside) rest) = tt
fits_argument_end levels kind (also (group Brace s inside) rest) = tt
fits_argument_end levels kind none = tt

fits_inputs : (levels : ℕ) (run after : TokenList) → Fits levels stage.Inputs run (Some after) (next_at stage.Inputs run (Some after))
unfolding next_at
fits_inputs levels none after = λ parts r h. among nothing h
fits_inputs levels (also first rest) after = λ t middle parts r e v f h. one_among v h

fits_list : (levels : ℕ) (run after : TokenList) → Fits levels stage.List run (Some after) (next_at stage.List run (Some after))
unfolding next_at
fits_list levels none after = λ parts r h. among nothing h
fits_list levels (also first rest) after = λ t middle parts r e v f h. one_among v h

fits_input_end : (levels : ℕ) (run : TokenList) (after : TokenList) → Fits levels stage.InputEnd run (Some after) (next_at stage.InputEnd run (Some after))
unfolding next_at
fits_input_end levels (also (punctuation c p s) rest) after = either (Fits levels stage.InputEnd (also (punctuation c p s) rest) (Some after)) (c == 44) _ _ (λ e parts r h. with_mark (λ (x : ℕ). AfterOne levels (AfterOutput levels) after (also (punctuation x p s) rest) (sign (mark 44) ∷ parts) r) c 44 e (comma_one h)) (λ n. tt)
fits_input_end levels (also (identifier text s) rest) after = tt
fits_input_end levels (also (literal text s) rest) after = tt
fits_input_end levels (also (doc text s) rest) after = tt
fits_input_end levels (also (group Parenthesis s inside) rest) after = tt
fits_input_end levels (also (group Bracket s inside) rest) after = tt
fits_input_end levels (also (group Brace s inside) rest) after = tt
fits_input_end levels none after = λ parts r h. close_one h

fits_list_end : (levels : ℕ) (run : TokenList) (after : TokenList) → Fits levels stage.ListEnd run (Some after) (next_at stage.ListEnd run (Some after))
unfolding next_at
fits_list_end levels (also (punctuation c p s) rest) after = either (Fits levels stage.ListEnd (also (punctuation c p s) rest) (Some after)) (c == 44) _ _ (λ e parts r h. with_mark (λ (x : ℕ). AfterOne levels Done after (also (punctuation x p s) rest) (sign (mark 44) ∷ parts) r) c 44 e (comma_one h)) (λ n. tt)
fits_list_end levels (also (identifier text s) rest) after = tt
fits_list_end levels (also (literal text s) rest) after = tt
fits_list_end levels (also (doc text s) rest) after = tt
fits_list_end levels (also (group Parenthesis s inside) rest) after = tt
fits_list_end levels (also (group Bracket s inside) rest) after = tt
fits_list_end levels (also (group Brace s inside) rest) after = tt
fits_list_end levels none after = λ parts r h. close_one h

fits_output : (levels : ℕ) (run : TokenList) → Fits levels stage.Output run None (next_at stage.Output run None)
unfolding next_at
fits_output levels run = either (Fits levels stage.Output run None) (begins_arrow run) _ _
    (λ e parts r. with_arrow (λ (x : TokenList). LastType levels false (after_two x) parts r → AfterOutput levels x (sign arrow ∷ parts) r) (λ u v q other h. arrow_output u v q h) run e)
    (λ n. no_output n)

fits_self_end : (levels : ℕ) (run : TokenList) → Fits levels stage.SelfEnd run None (next_at stage.SelfEnd run None)
unfolding next_at
fits_self_end levels (also (punctuation c p s) rest) = either (Fits levels stage.SelfEnd (also (punctuation c p s) rest) None) (c == 62) _ _ (λ e parts r h. with_mark (λ (x : ℕ). AfterSelf levels (also (punctuation x p s) rest) (sign (mark 62) ∷ parts) r) c 62 e (self_plain h)) (λ n. tt)
fits_self_end levels (also (identifier text s) rest) = either (Fits levels stage.SelfEnd (also (identifier text s) rest) None) (bytes_eq text (codes "as")) _ _ (λ e parts r h. with_text (λ (x : List ℕ). AfterSelf levels (also (identifier x s) rest) (sign (word x) ∷ parts) r) text (codes "as") e (self_as h)) (λ n. tt)
fits_self_end levels (also (literal text s) rest) = tt
fits_self_end levels (also (doc text s) rest) = tt
fits_self_end levels (also (group Parenthesis s inside) rest) = tt
fits_self_end levels (also (group Bracket s inside) rest) = tt
fits_self_end levels (also (group Brace s inside) rest) = tt
fits_self_end levels none = tt

fits_self_trait : (levels : ℕ) (run : TokenList) → Fits levels stage.SelfTrait run None (next_at stage.SelfTrait run None)
unfolding next_at
fits_self_trait levels (also (punctuation c p s) rest) = either (Fits levels stage.SelfTrait (also (punctuation c p s) rest) None) (begins_colons (also (punctuation c p s) rest)) _ _ (λ e front middle parts r. with_colons (λ (x : TokenList). AfterColons levels OfType false (after_two x) front middle → (AfterSelfTrait levels) middle parts r → Then (AnyPath levels OfType) (AfterSelfTrait levels) x (sign colons ∷ (front ++ parts)) r) (λ u v q other h k. root_then parts u v q refl h k) (also (punctuation c p s) rest) e) (λ n. tt)
fits_self_trait levels (also (identifier text s) rest) = λ front middle parts r h k. path_then parts (named_path h) k
fits_self_trait levels (also (literal text s) rest) = tt
fits_self_trait levels (also (doc text s) rest) = tt
fits_self_trait levels (also (group Parenthesis s inside) rest) = tt
fits_self_trait levels (also (group Bracket s inside) rest) = tt
fits_self_trait levels (also (group Brace s inside) rest) = tt
fits_self_trait levels none = tt

fits_self_trait_end : (levels : ℕ) (run : TokenList) → Fits levels stage.SelfTraitEnd run None (next_at stage.SelfTraitEnd run None)
unfolding next_at
fits_self_trait_end levels (also (punctuation c p s) rest) = either (Fits levels stage.SelfTraitEnd (also (punctuation c p s) rest) None) (c == 62) _ _ (λ e parts r h. with_mark (λ (x : ℕ). AfterSelfTrait levels (also (punctuation x p s) rest) (sign (mark 62) ∷ parts) r) c 62 e (self_trait_closed h)) (λ n. tt)
fits_self_trait_end levels (also (identifier text s) rest) = tt
fits_self_trait_end levels (also (literal text s) rest) = tt
fits_self_trait_end levels (also (doc text s) rest) = tt
fits_self_trait_end levels (also (group Parenthesis s inside) rest) = tt
fits_self_trait_end levels (also (group Bracket s inside) rest) = tt
fits_self_trait_end levels (also (group Brace s inside) rest) = tt
fits_self_trait_end levels none = tt

fits_self_closed : (levels : ℕ) (run : TokenList) → Fits levels stage.SelfClosed run None (next_at stage.SelfClosed run None)
unfolding next_at
fits_self_closed levels run = either (Fits levels stage.SelfClosed run None) (begins_colons run) _ _
    (λ e parts r. with_colons (λ (x : TokenList). AfterColons levels OfType false (after_two x) parts r → AtSelfClosed levels x (sign colons ∷ parts) r) (λ u v q other h. self_path u v q refl h) run e)
    (λ n. tt)

fits_referent : (levels : ℕ) (run : TokenList) → Fits levels stage.Referent run None (next_at stage.Referent run None)
unfolding next_at
fits_referent levels (also (punctuation c p s) rest) = λ t middle parts r e v f h. shared_last refl v f h
fits_referent levels (also (identifier text s) rest) = either (Fits levels stage.Referent (also (identifier text s) rest) None) (bytes_eq text (codes "mut")) _ _ (λ e parts r h. with_text (λ (x : List ℕ). Last (Referent levels) (also (identifier x s) rest) (sign (word x) ∷ parts) r) text (codes "mut") e (mutable_last h)) (λ n t middle parts r e v f h. shared_last n v f h)
fits_referent levels (also (literal text s) rest) = λ t middle parts r e v f h. shared_last refl v f h
fits_referent levels (also (doc text s) rest) = λ t middle parts r e v f h. shared_last refl v f h
fits_referent levels (also (group Parenthesis s inside) rest) = λ t middle parts r e v f h. shared_last refl v f h
fits_referent levels (also (group Bracket s inside) rest) = λ t middle parts r e v f h. shared_last refl v f h
fits_referent levels (also (group Brace s inside) rest) = λ t middle parts r e v f h. shared_last refl v f h
fits_referent levels none = λ t middle parts r e v f h. shared_last refl v f h

either_word : (a b : Bool) → (a || b) ≡ true → (a ≡ true) ⊎ (b ≡ true)
either_word true b e = inl refl
either_word false b e = inr e

pointer_at : (levels : ℕ) (text : List ℕ) (s : Span) (rest : TokenList) → (bytes_eq text (codes "const") ≡ true) ⊎ (bytes_eq text (codes "mut") ≡ true) → (parts : List Tree) (r : TokenList) →
    LastType levels false rest parts r → AtPointer levels (also (identifier text s) rest) (sign (word text) ∷ parts) r
pointer_at levels text s rest (inl e) parts r h = with_text (λ (x : List ℕ). AtPointer levels (also (identifier x s) rest) (sign (word x) ∷ parts) r) text (codes "const") e (at_const h)
pointer_at levels text s rest (inr e) parts r h = with_text (λ (x : List ℕ). AtPointer levels (also (identifier x s) rest) (sign (word x) ∷ parts) r) text (codes "mut") e (at_mut h)

fits_pointer : (levels : ℕ) (run : TokenList) → Fits levels stage.Pointer run None (next_at stage.Pointer run None)
unfolding next_at
fits_pointer levels (also (punctuation c p s) rest) = tt
fits_pointer levels (also (identifier text s) rest) = either (Fits levels stage.Pointer (also (identifier text s) rest) None) (bytes_eq text (codes "const") || bytes_eq text (codes "mut")) _ _ (λ e. pointer_at levels text s rest (either_word (bytes_eq text (codes "const")) (bytes_eq text (codes "mut")) e)) (λ n. tt)
fits_pointer levels (also (literal text s) rest) = tt
fits_pointer levels (also (doc text s) rest) = tt
fits_pointer levels (also (group Parenthesis s inside) rest) = tt
fits_pointer levels (also (group Bracket s inside) rest) = tt
fits_pointer levels (also (group Brace s inside) rest) = tt
fits_pointer levels none = tt

fits_element_end : (levels : ℕ) (run : TokenList) (after : TokenList) → Fits levels stage.ElementEnd run (Some after) (next_at stage.ElementEnd run (Some after))
unfolding next_at
fits_element_end levels (also (punctuation c p s) rest) after = either (Fits levels stage.ElementEnd (also (punctuation c p s) rest) (Some after)) (c == 59) _ _ (λ e parts r h. with_mark (λ (x : ℕ). AfterElement after (also (punctuation x p s) rest) (sign (mark 59) ∷ parts) r) c 59 e (length_element h)) (λ n. tt)
fits_element_end levels (also (identifier text s) rest) after = tt
fits_element_end levels (also (literal text s) rest) after = tt
fits_element_end levels (also (doc text s) rest) after = tt
fits_element_end levels (also (group Parenthesis s inside) rest) after = tt
fits_element_end levels (also (group Bracket s inside) rest) after = tt
fits_element_end levels (also (group Brace s inside) rest) after = tt
fits_element_end levels none after = λ parts r h. close_element h

fits_length : (levels : ℕ) (run : TokenList) (after : TokenList) → Fits levels stage.Length run (Some after) (next_at stage.Length run (Some after))
unfolding next_at
fits_length levels (also (punctuation c p s) rest) after = λ parts r h. length_kept h
fits_length levels (also (identifier text s) rest) after = λ parts r h. length_kept h
fits_length levels (also (literal text s) rest) after = λ parts r h. length_kept h
fits_length levels (also (doc text s) rest) after = λ parts r h. length_kept h
fits_length levels (also (group Parenthesis s inside) rest) after = λ parts r h. length_kept h
fits_length levels (also (group Bracket s inside) rest) after = λ parts r h. length_kept h
fits_length levels (also (group Brace s inside) rest) after = λ parts r h. length_kept h
fits_length levels none after = tt

fits_bound_lifetime : (levels : ℕ) (plus : Bool) (p : Spacing) (s : Span) (run : TokenList) → Fits levels (stage.Bound plus) (also (punctuation 39 p s) run) None (table.bound_lifetime_move plus run None)
fits_bound_lifetime levels plus p s (also (identifier text t) rest) = λ parts r h. bound_then lifetime_bound refl h
fits_bound_lifetime levels plus p s (also (punctuation c q t) rest) = tt
fits_bound_lifetime levels plus p s (also (literal text t) rest) = tt
fits_bound_lifetime levels plus p s (also (doc text t) rest) = tt
fits_bound_lifetime levels plus p s (also (group d t inside) rest) = tt
fits_bound_lifetime levels plus p s none = tt

fits_trait_listed : (levels : ℕ) (plus : Bool) (run : TokenList) → Fits levels (stage.Trait (Listed plus)) run None (next_at (stage.Trait (Listed plus)) run None)
unfolding next_at
fits_trait_listed levels plus (also (punctuation c p s) rest) = either (Fits levels (stage.Trait (Listed plus)) (also (punctuation c p s) rest) None) (begins_colons (also (punctuation c p s) rest)) _ _ (λ e front middle parts r. with_colons (λ (x : TokenList). AfterColons levels OfBound false (after_two x) front middle → (AfterBound levels plus) middle parts r → Then (Trait levels) (AfterBound levels plus) x (sign colons ∷ (front ++ parts)) r) (λ u v q other h k. trait_then refl (root_then parts u v q refl h k)) (also (punctuation c p s) rest) e) (λ n. tt)
fits_trait_listed levels plus (also (identifier text s) rest) = either (Fits levels (stage.Trait (Listed plus)) (also (identifier text s) rest) None) (bytes_eq text (codes "for")) _ _ (λ e parts r h. with_text (λ (x : List ℕ). Then (Trait levels) (AfterBound levels plus) (also (identifier x s) rest) (sign (word x) ∷ parts) r) text (codes "for") e (for_then h)) (λ n front middle parts r h k. trait_then n (path_then parts (named_path h) k))
fits_trait_listed levels plus (also (literal text s) rest) = tt
fits_trait_listed levels plus (also (doc text s) rest) = tt
fits_trait_listed levels plus (also (group Parenthesis s inside) rest) = tt
fits_trait_listed levels plus (also (group Bracket s inside) rest) = tt
fits_trait_listed levels plus (also (group Brace s inside) rest) = tt
fits_trait_listed levels plus none = tt

fits_trait_path_listed : (levels : ℕ) (plus : Bool) (run : TokenList) → Fits levels (stage.TraitPath (Listed plus)) run None (next_at (stage.TraitPath (Listed plus)) run None)
unfolding next_at
fits_trait_path_listed levels plus (also (punctuation c p s) rest) = either (Fits levels (stage.TraitPath (Listed plus)) (also (punctuation c p s) rest) None) (begins_colons (also (punctuation c p s) rest)) _ _ (λ e front middle parts r. with_colons (λ (x : TokenList). AfterColons levels OfBound false (after_two x) front middle → (AfterBound levels plus) middle parts r → Then (AnyPath levels OfBound) (AfterBound levels plus) x (sign colons ∷ (front ++ parts)) r) (λ u v q other h k. root_then parts u v q refl h k) (also (punctuation c p s) rest) e) (λ n. tt)
fits_trait_path_listed levels plus (also (identifier text s) rest) = λ front middle parts r h k. path_then parts (named_path h) k
fits_trait_path_listed levels plus (also (literal text s) rest) = tt
fits_trait_path_listed levels plus (also (doc text s) rest) = tt
fits_trait_path_listed levels plus (also (group Parenthesis s inside) rest) = tt
fits_trait_path_listed levels plus (also (group Bracket s inside) rest) = tt
fits_trait_path_listed levels plus (also (group Brace s inside) rest) = tt
fits_trait_path_listed levels plus none = tt

fits_trait_enclosed : (levels : ℕ) (plus : Bool) (run : TokenList) (after : TokenList) → Fits levels (stage.Trait (Enclosed plus)) run (Some after) (next_at (stage.Trait (Enclosed plus)) run (Some after))
unfolding next_at
fits_trait_enclosed levels plus (also (punctuation c p s) rest) after = either (Fits levels (stage.Trait (Enclosed plus)) (also (punctuation c p s) rest) (Some after)) (begins_colons (also (punctuation c p s) rest)) _ _ (λ e front middle parts r. with_colons (λ (x : TokenList). AfterColons levels OfBound false (after_two x) front middle → (AfterEnclosed levels plus after) middle parts r → Then (Trait levels) (AfterEnclosed levels plus after) x (sign colons ∷ (front ++ parts)) r) (λ u v q other h k. trait_then refl (root_then parts u v q refl h k)) (also (punctuation c p s) rest) e) (λ n. tt)
fits_trait_enclosed levels plus (also (identifier text s) rest) after = either (Fits levels (stage.Trait (Enclosed plus)) (also (identifier text s) rest) (Some after)) (bytes_eq text (codes "for")) _ _ (λ e parts r h. with_text (λ (x : List ℕ). Then (Trait levels) (AfterEnclosed levels plus after) (also (identifier x s) rest) (sign (word x) ∷ parts) r) text (codes "for") e (for_then h)) (λ n front middle parts r h k. trait_then n (path_then parts (named_path h) k))
fits_trait_enclosed levels plus (also (literal text s) rest) after = tt
fits_trait_enclosed levels plus (also (doc text s) rest) after = tt
fits_trait_enclosed levels plus (also (group Parenthesis s inside) rest) after = tt
fits_trait_enclosed levels plus (also (group Bracket s inside) rest) after = tt
fits_trait_enclosed levels plus (also (group Brace s inside) rest) after = tt
fits_trait_enclosed levels plus none after = tt

fits_trait_path_enclosed : (levels : ℕ) (plus : Bool) (run : TokenList) (after : TokenList) → Fits levels (stage.TraitPath (Enclosed plus)) run (Some after) (next_at (stage.TraitPath (Enclosed plus)) run (Some after))
unfolding next_at
fits_trait_path_enclosed levels plus (also (punctuation c p s) rest) after = either (Fits levels (stage.TraitPath (Enclosed plus)) (also (punctuation c p s) rest) (Some after)) (begins_colons (also (punctuation c p s) rest)) _ _ (λ e front middle parts r. with_colons (λ (x : TokenList). AfterColons levels OfBound false (after_two x) front middle → (AfterEnclosed levels plus after) middle parts r → Then (AnyPath levels OfBound) (AfterEnclosed levels plus after) x (sign colons ∷ (front ++ parts)) r) (λ u v q other h k. root_then parts u v q refl h k) (also (punctuation c p s) rest) e) (λ n. tt)
fits_trait_path_enclosed levels plus (also (identifier text s) rest) after = λ front middle parts r h k. path_then parts (named_path h) k
fits_trait_path_enclosed levels plus (also (literal text s) rest) after = tt
fits_trait_path_enclosed levels plus (also (doc text s) rest) after = tt
fits_trait_path_enclosed levels plus (also (group Parenthesis s inside) rest) after = tt
fits_trait_path_enclosed levels plus (also (group Bracket s inside) rest) after = tt
fits_trait_path_enclosed levels plus (also (group Brace s inside) rest) after = tt
fits_trait_path_enclosed levels plus none after = tt

-- a move preserves an implication between predicates
keeps_fit : (levels : ℕ) (p q : Stage) (run : TokenList) (b : Option TokenList) → ((parts : List Tree) (rest : TokenList) → Good levels p run b parts rest → Good levels q run b parts rest) → (m : Move) → Fits levels p run b m → Fits levels q run b m
keeps_fit levels p q run b g ends h = g [] (outer run b) h
keeps_fit levels p q run b g (takes s spot) h = λ parts rest k. g (sign s ∷ parts) rest (h parts rest k)
keeps_fit levels p q run b g (bars s spot) h = tt
keeps_fit levels p q run b g (needs plus stage) h = λ t middle parts rest e v f k. g (t ∷ parts) rest (h t middle parts rest e v f k)
keeps_fit levels p q run b g (keeps_type stage) h = λ t middle parts rest e v f k. g (still (and_part t no_part_left) ∷ parts) rest (h t middle parts rest e v f k)
keeps_fit levels p q run b g (keeps r spot) h = λ parts rest k. g (still (trees (still_run r)) ∷ parts) rest (h parts rest k)
keeps_fit levels p q run b g (nests s inner stage) h = λ front middle parts rest k l. g (sign s ∷ (front ++ parts)) rest (h front middle parts rest k l)
keeps_fit levels p q run b g (stops f) h = tt

trait_move_listed : (levels : ℕ) (plus : Bool) (run : TokenList) → Fits levels (stage.Trait (Listed plus)) run None (table.trait_move (Listed plus) run None)
unfolding next_at
trait_move_listed levels plus run = fits_trait_listed levels plus run

trait_move_enclosed : (levels : ℕ) (plus : Bool) (run after : TokenList) → Fits levels (stage.Trait (Enclosed plus)) run (Some after) (table.trait_move (Enclosed plus) run (Some after))
unfolding next_at
trait_move_enclosed levels plus run after = fits_trait_enclosed levels plus run after

listed_bound : (levels : ℕ) (plus : Bool) (run : TokenList) → Fits levels (stage.Bound plus) run None (table.trait_move (Listed plus) run None)
listed_bound levels plus run = keeps_fit levels (stage.Trait (Listed plus)) (stage.Bound plus) run None (λ parts rest h. questioned_bound (unquestioned_then h)) (table.trait_move (Listed plus) run None) (trait_move_listed levels plus run)

enclosed_question : (levels : ℕ) (plus : Bool) (run after : TokenList) → Fits levels (stage.Question plus) run (Some after) (table.trait_move (Enclosed plus) run (Some after))
enclosed_question levels plus run after = keeps_fit levels (stage.Trait (Enclosed plus)) (stage.Question plus) run (Some after) (λ parts rest h. unquestioned_then h) (table.trait_move (Enclosed plus) run (Some after)) (trait_move_enclosed levels plus run after)

fits_question : (levels : ℕ) (plus : Bool) (run : TokenList) (after : TokenList) → Fits levels (stage.Question plus) run (Some after) (next_at (stage.Question plus) run (Some after))
unfolding next_at
fits_question levels plus (also (punctuation c p s) rest) after = either (Fits levels (stage.Question plus) (also (punctuation c p s) rest) (Some after)) (c == 63) _ _ (λ e parts r h. with_mark (λ (x : ℕ). Then (Questioned levels) (AfterEnclosed levels plus after) (also (punctuation x p s) rest) (sign (mark 63) ∷ parts) r) c 63 e (questioned_then h)) (λ n. enclosed_question levels plus (also (punctuation c p s) rest) after)
fits_question levels plus (also (identifier text s) rest) after = enclosed_question levels plus (also (identifier text s) rest) after
fits_question levels plus (also (literal text s) rest) after = enclosed_question levels plus (also (literal text s) rest) after
fits_question levels plus (also (doc text s) rest) after = enclosed_question levels plus (also (doc text s) rest) after
fits_question levels plus (also (group Parenthesis s inside) rest) after = enclosed_question levels plus (also (group Parenthesis s inside) rest) after
fits_question levels plus (also (group Bracket s inside) rest) after = enclosed_question levels plus (also (group Bracket s inside) rest) after
fits_question levels plus (also (group Brace s inside) rest) after = enclosed_question levels plus (also (group Brace s inside) rest) after
fits_question levels plus none after = enclosed_question levels plus none after

fits_bound : (levels : ℕ) (plus : Bool) (run : TokenList) → Fits levels (stage.Bound plus) run None (next_at (stage.Bound plus) run None)
unfolding next_at
fits_bound levels plus (also (punctuation c p s) rest) = either (Fits levels (stage.Bound plus) (also (punctuation c p s) rest) None) (c == 39) _ _ (λ e. with_mark (λ (x : ℕ). Fits levels (stage.Bound plus) (also (punctuation x p s) rest) None (table.bound_lifetime_move plus rest None)) c 39 e (fits_bound_lifetime levels plus p s rest)) (λ m. either (Fits levels (stage.Bound plus) (also (punctuation c p s) rest) None) (c == 63) _ _ (λ e parts r h. with_mark (λ (x : ℕ). Last (Bounds levels plus) (also (punctuation x p s) rest) (sign (mark 63) ∷ parts) r) c 63 e (questioned_bound (questioned_then h))) (λ n. listed_bound levels plus (also (punctuation c p s) rest)))
fits_bound levels plus (also (identifier text s) rest) = listed_bound levels plus (also (identifier text s) rest)
fits_bound levels plus (also (literal text s) rest) = listed_bound levels plus (also (literal text s) rest)
fits_bound levels plus (also (doc text s) rest) = listed_bound levels plus (also (doc text s) rest)
fits_bound levels plus (also (group Parenthesis s inside) rest) = λ parts r h. enclosed_bound h
fits_bound levels plus (also (group Bracket s inside) rest) = listed_bound levels plus (also (group Bracket s inside) rest)
fits_bound levels plus (also (group Brace s inside) rest) = listed_bound levels plus (also (group Brace s inside) rest)
fits_bound levels plus none = listed_bound levels plus none

fits_one_bound : (levels : ℕ) (run : TokenList) → Fits levels (stage.BoundEnd false) run None (next_at (stage.BoundEnd false) run None)
unfolding next_at
fits_one_bound levels (also (punctuation c p s) rest) = only_bound
fits_one_bound levels (also (identifier text s) rest) = only_bound
fits_one_bound levels (also (literal text s) rest) = only_bound
fits_one_bound levels (also (doc text s) rest) = only_bound
fits_one_bound levels none = only_bound
fits_one_bound levels (also (group d s inside) rest) = only_bound

fits_bound_end : (levels : ℕ) (run : TokenList) → Fits levels (stage.BoundEnd true) run None (next_at (stage.BoundEnd true) run None)
unfolding next_at
fits_bound_end levels (also (punctuation c p s) rest) = either (Fits levels (stage.BoundEnd true) (also (punctuation c p s) rest) None) (c == 43) _ _ (λ e parts r h. with_mark (λ (x : ℕ). AfterBound levels true (also (punctuation x p s) rest) (sign (mark 43) ∷ parts) r) c 43 e (further_plus h)) (λ n. bound_last n)
fits_bound_end levels (also (identifier text s) rest) = bound_last refl
fits_bound_end levels (also (literal text s) rest) = bound_last refl
fits_bound_end levels (also (doc text s) rest) = bound_last refl
fits_bound_end levels (also (group d s inside) rest) = bound_last refl
fits_bound_end levels none = bound_last refl

bound_move_fits : (levels : ℕ) (run : TokenList) → Fits levels (stage.Bound true) run None (table.bound_move true run None)
unfolding next_at
bound_move_fits levels run = fits_bound levels true run

fits_further : (levels : ℕ) (run : TokenList) → Fits levels stage.Further run None (next_at stage.Further run None)
unfolding next_at
fits_further levels run = either (Fits levels stage.Further run None) (begins_bound run) _ _
    (λ e. keeps_fit levels (stage.Bound true) stage.Further run None (λ parts rest h. bounds_further h) (table.bound_move true run None) (bound_move_fits levels run))
    (λ n. no_further n)

fits_enclosed_end : (levels : ℕ) (plus : Bool) (run : TokenList) (after : TokenList) → Fits levels (stage.EnclosedEnd plus) run (Some after) (next_at (stage.EnclosedEnd plus) run (Some after))
unfolding next_at
fits_enclosed_end levels plus (also (punctuation c p s) rest) after = tt
fits_enclosed_end levels plus (also (identifier text s) rest) after = tt
fits_enclosed_end levels plus (also (literal text s) rest) after = tt
fits_enclosed_end levels plus (also (doc text s) rest) after = tt
fits_enclosed_end levels plus (also (group Parenthesis s inside) rest) after = tt
fits_enclosed_end levels plus (also (group Bracket s inside) rest) after = tt
fits_enclosed_end levels plus (also (group Brace s inside) rest) after = tt
fits_enclosed_end levels plus none after = λ parts r h. close_enclosed h

fits_for_function : (levels : ℕ) (run : TokenList) → Fits levels (stage.For OfFunction) run None (next_at (stage.For OfFunction) run None)
unfolding next_at
fits_for_function levels (also (punctuation c p s) rest) = either (Fits levels (stage.For OfFunction) (also (punctuation c p s) rest) None) (c == 60) _ _ (λ e parts r h. with_mark (λ (x : ℕ). AtFor (Last (Function levels)) (also (punctuation x p s) rest) (sign (mark 60) ∷ parts) r) c 60 e (for_opened h)) (λ n. tt)
fits_for_function levels (also (identifier text s) rest) = tt
fits_for_function levels (also (literal text s) rest) = tt
fits_for_function levels (also (doc text s) rest) = tt
fits_for_function levels (also (group Parenthesis s inside) rest) = tt
fits_for_function levels (also (group Bracket s inside) rest) = tt
fits_for_function levels (also (group Brace s inside) rest) = tt
fits_for_function levels none = tt

fits_for_lifetime_function : (levels : ℕ) (p : Spacing) (s : Span) (run : TokenList) → Fits levels (stage.ForList OfFunction) (also (punctuation 39 p s) run) None (table.for_lifetime_move OfFunction run None)
fits_for_lifetime_function levels p s (also (identifier text t) rest) = λ parts r h. for_lifetime h
fits_for_lifetime_function levels p s (also (punctuation c q t) rest) = tt
fits_for_lifetime_function levels p s (also (literal text t) rest) = tt
fits_for_lifetime_function levels p s (also (doc text t) rest) = tt
fits_for_lifetime_function levels p s (also (group d t inside) rest) = tt
fits_for_lifetime_function levels p s none = tt

fits_for_list_function : (levels : ℕ) (run : TokenList) → Fits levels (stage.ForList OfFunction) run None (next_at (stage.ForList OfFunction) run None)
unfolding next_at
fits_for_list_function levels (also (punctuation c p s) rest) = either (Fits levels (stage.ForList OfFunction) (also (punctuation c p s) rest) None) (c == 62) _ _ (λ e parts r h. with_mark (λ (x : ℕ). InFor (Last (Function levels)) (also (punctuation x p s) rest) (sign (mark 62) ∷ parts) r) c 62 e (for_closed h)) (λ n. either (Fits levels (stage.ForList OfFunction) (also (punctuation c p s) rest) None) (c == 39) _ _ (λ e. with_mark (λ (x : ℕ). Fits levels (stage.ForList OfFunction) (also (punctuation x p s) rest) None (table.for_lifetime_move OfFunction rest None)) c 39 e (fits_for_lifetime_function levels p s rest)) (λ m. tt))
fits_for_list_function levels (also (identifier text s) rest) = tt
fits_for_list_function levels (also (literal text s) rest) = tt
fits_for_list_function levels (also (doc text s) rest) = tt
fits_for_list_function levels (also (group Parenthesis s inside) rest) = tt
fits_for_list_function levels (also (group Bracket s inside) rest) = tt
fits_for_list_function levels (also (group Brace s inside) rest) = tt
fits_for_list_function levels none = tt

fits_for_end_function : (levels : ℕ) (run : TokenList) → Fits levels (stage.ForEnd OfFunction) run None (next_at (stage.ForEnd OfFunction) run None)
unfolding next_at
fits_for_end_function levels (also (punctuation c p s) rest) = either (Fits levels (stage.ForEnd OfFunction) (also (punctuation c p s) rest) None) (c == 44) _ _ (λ e parts r h. with_mark (λ (x : ℕ). AfterFor (Last (Function levels)) (also (punctuation x p s) rest) (sign (mark 44) ∷ parts) r) c 44 e (for_comma h)) (λ n. either (Fits levels (stage.ForEnd OfFunction) (also (punctuation c p s) rest) None) (c == 62) _ _ (λ e parts r h. with_mark (λ (x : ℕ). AfterFor (Last (Function levels)) (also (punctuation x p s) rest) (sign (mark 62) ∷ parts) r) c 62 e (for_angle h)) (λ n. tt))
fits_for_end_function levels (also (identifier text s) rest) = tt
fits_for_end_function levels (also (literal text s) rest) = tt
fits_for_end_function levels (also (doc text s) rest) = tt
fits_for_end_function levels (also (group Parenthesis s inside) rest) = tt
fits_for_end_function levels (also (group Bracket s inside) rest) = tt
fits_for_end_function levels (also (group Brace s inside) rest) = tt
fits_for_end_function levels none = tt

fits_for_listed : (levels : ℕ) (plus : Bool) (run : TokenList) → Fits levels (stage.For (OfTrait (Listed plus))) run None (next_at (stage.For (OfTrait (Listed plus))) run None)
unfolding next_at
fits_for_listed levels plus (also (punctuation c p s) rest) = either (Fits levels (stage.For (OfTrait (Listed plus))) (also (punctuation c p s) rest) None) (c == 60) _ _ (λ e parts r h. with_mark (λ (x : ℕ). AtFor (Then (AnyPath levels OfBound) (AfterBound levels plus)) (also (punctuation x p s) rest) (sign (mark 60) ∷ parts) r) c 60 e (for_opened h)) (λ n. tt)
fits_for_listed levels plus (also (identifier text s) rest) = tt
fits_for_listed levels plus (also (literal text s) rest) = tt
fits_for_listed levels plus (also (doc text s) rest) = tt
fits_for_listed levels plus (also (group Parenthesis s inside) rest) = tt
fits_for_listed levels plus (also (group Bracket s inside) rest) = tt
fits_for_listed levels plus (also (group Brace s inside) rest) = tt
fits_for_listed levels plus none = tt

fits_for_lifetime_listed : (levels : ℕ) (plus : Bool) (p : Spacing) (s : Span) (run : TokenList) → Fits levels (stage.ForList (OfTrait (Listed plus))) (also (punctuation 39 p s) run) None (table.for_lifetime_move (OfTrait (Listed plus)) run None)
fits_for_lifetime_listed levels plus p s (also (identifier text t) rest) = λ parts r h. for_lifetime h
fits_for_lifetime_listed levels plus p s (also (punctuation c q t) rest) = tt
fits_for_lifetime_listed levels plus p s (also (literal text t) rest) = tt
fits_for_lifetime_listed levels plus p s (also (doc text t) rest) = tt
fits_for_lifetime_listed levels plus p s (also (group d t inside) rest) = tt
fits_for_lifetime_listed levels plus p s none = tt

fits_for_list_listed : (levels : ℕ) (plus : Bool) (run : TokenList) → Fits levels (stage.ForList (OfTrait (Listed plus))) run None (next_at (stage.ForList (OfTrait (Listed plus))) run None)
unfolding next_at
fits_for_list_listed levels plus (also (punctuation c p s) rest) = either (Fits levels (stage.ForList (OfTrait (Listed plus))) (also (punctuation c p s) rest) None) (c == 62) _ _ (λ e parts r h. with_mark (λ (x : ℕ). InFor (Then (AnyPath levels OfBound) (AfterBound levels plus)) (also (punctuation x p s) rest) (sign (mark 62) ∷ parts) r) c 62 e (for_closed h)) (λ n. either (Fits levels (stage.ForList (OfTrait (Listed plus))) (also (punctuation c p s) rest) None) (c == 39) _ _ (λ e. with_mark (λ (x : ℕ). Fits levels (stage.ForList (OfTrait (Listed plus))) (also (punctuation x p s) rest) None (table.for_lifetime_move (OfTrait (Listed plus)) rest None)) c 39 e (fits_for_lifetime_listed levels plus p s rest)) (λ m. tt))
fits_for_list_listed levels plus (also (identifier text s) rest) = tt
fits_for_list_listed levels plus (also (literal text s) rest) = tt
fits_for_list_listed levels plus (also (doc text s) rest) = tt
fits_for_list_listed levels plus (also (group Parenthesis s inside) rest) = tt
fits_for_list_listed levels plus (also (group Bracket s inside) rest) = tt
fits_for_list_listed levels plus (also (group Brace s inside) rest) = tt
fits_for_list_listed levels plus none = tt

fits_for_end_listed : (levels : ℕ) (plus : Bool) (run : TokenList) → Fits levels (stage.ForEnd (OfTrait (Listed plus))) run None (next_at (stage.ForEnd (OfTrait (Listed plus))) run None)
unfolding next_at
fits_for_end_listed levels plus (also (punctuation c p s) rest) = either (Fits levels (stage.ForEnd (OfTrait (Listed plus))) (also (punctuation c p s) rest) None) (c == 44) _ _ (λ e parts r h. with_mark (λ (x : ℕ). AfterFor (Then (AnyPath levels OfBound) (AfterBound levels plus)) (also (punctuation x p s) rest) (sign (mark 44) ∷ parts) r) c 44 e (for_comma h)) (λ n. either (Fits levels (stage.ForEnd (OfTrait (Listed plus))) (also (punctuation c p s) rest) None) (c == 62) _ _ (λ e parts r h. with_mark (λ (x : ℕ). AfterFor (Then (AnyPath levels OfBound) (AfterBound levels plus)) (also (punctuation x p s) rest) (sign (mark 62) ∷ parts) r) c 62 e (for_angle h)) (λ n. tt))
fits_for_end_listed levels plus (also (identifier text s) rest) = tt
fits_for_end_listed levels plus (also (literal text s) rest) = tt
fits_for_end_listed levels plus (also (doc text s) rest) = tt
fits_for_end_listed levels plus (also (group Parenthesis s inside) rest) = tt
fits_for_end_listed levels plus (also (group Bracket s inside) rest) = tt
fits_for_end_listed levels plus (also (group Brace s inside) rest) = tt
fits_for_end_listed levels plus none = tt

fits_for_enclosed : (levels : ℕ) (plus : Bool) (run : TokenList) (after : TokenList) → Fits levels (stage.For (OfTrait (Enclosed plus))) run (Some after) (next_at (stage.For (OfTrait (Enclosed plus))) run (Some after))
unfolding next_at
fits_for_enclosed levels plus (also (punctuation c p s) rest) after = either (Fits levels (stage.For (OfTrait (Enclosed plus))) (also (punctuation c p s) rest) (Some after)) (c == 60) _ _ (λ e parts r h. with_mark (λ (x : ℕ). AtFor (Then (AnyPath levels OfBound) (AfterEnclosed levels plus after)) (also (punctuation x p s) rest) (sign (mark 60) ∷ parts) r) c 60 e (for_opened h)) (λ n. tt)
fits_for_enclosed levels plus (also (identifier text s) rest) after = tt
fits_for_enclosed levels plus (also (literal text s) rest) after = tt
fits_for_enclosed levels plus (also (doc text s) rest) after = tt
fits_for_enclosed levels plus (also (group Parenthesis s inside) rest) after = tt
fits_for_enclosed levels plus (also (group Bracket s inside) rest) after = tt
fits_for_enclosed levels plus (also (group Brace s inside) rest) after = tt
fits_for_enclosed levels plus none after = tt

fits_for_lifetime_enclosed : (levels : ℕ) (plus : Bool) (p : Spacing) (s : Span) (run : TokenList) (after : TokenList) → Fits levels (stage.ForList (OfTrait (Enclosed plus))) (also (punctuation 39 p s) run) (Some after) (table.for_lifetime_move (OfTrait (Enclosed plus)) run (Some after))
fits_for_lifetime_enclosed levels plus p s (also (identifier text t) rest) after = λ parts r h. for_lifetime h
fits_for_lifetime_enclosed levels plus p s (also (punctuation c q t) rest) after = tt
fits_for_lifetime_enclosed levels plus p s (also (literal text t) rest) after = tt
fits_for_lifetime_enclosed levels plus p s (also (doc text t) rest) after = tt
fits_for_lifetime_enclosed levels plus p s (also (group d t inside) rest) after = tt
fits_for_lifetime_enclosed levels plus p s none after = tt

fits_for_list_enclosed : (levels : ℕ) (plus : Bool) (run : TokenList) (after : TokenList) → Fits levels (stage.ForList (OfTrait (Enclosed plus))) run (Some after) (next_at (stage.ForList (OfTrait (Enclosed plus))) run (Some after))
unfolding next_at
fits_for_list_enclosed levels plus (also (punctuation c p s) rest) after = either (Fits levels (stage.ForList (OfTrait (Enclosed plus))) (also (punctuation c p s) rest) (Some after)) (c == 62) _ _ (λ e parts r h. with_mark (λ (x : ℕ). InFor (Then (AnyPath levels OfBound) (AfterEnclosed levels plus after)) (also (punctuation x p s) rest) (sign (mark 62) ∷ parts) r) c 62 e (for_closed h)) (λ n. either (Fits levels (stage.ForList (OfTrait (Enclosed plus))) (also (punctuation c p s) rest) (Some after)) (c == 39) _ _ (λ e. with_mark (λ (x : ℕ). Fits levels (stage.ForList (OfTrait (Enclosed plus))) (also (punctuation x p s) rest) (Some after) (table.for_lifetime_move (OfTrait (Enclosed plus)) rest (Some after))) c 39 e (fits_for_lifetime_enclosed levels plus p s rest after)) (λ m. tt))
fits_for_list_enclosed levels plus (also (identifier text s) rest) after = tt
fits_for_list_enclosed levels plus (also (literal text s) rest) after = tt
fits_for_list_enclosed levels plus (also (doc text s) rest) after = tt
fits_for_list_enclosed levels plus (also (group Parenthesis s inside) rest) after = tt
fits_for_list_enclosed levels plus (also (group Bracket s inside) rest) after = tt
fits_for_list_enclosed levels plus (also (group Brace s inside) rest) after = tt
fits_for_list_enclosed levels plus none after = tt

fits_for_end_enclosed : (levels : ℕ) (plus : Bool) (run : TokenList) (after : TokenList) → Fits levels (stage.ForEnd (OfTrait (Enclosed plus))) run (Some after) (next_at (stage.ForEnd (OfTrait (Enclosed plus))) run (Some after))
unfolding next_at
fits_for_end_enclosed levels plus (also (punctuation c p s) rest) after = either (Fits levels (stage.ForEnd (OfTrait (Enclosed plus))) (also (punctuation c p s) rest) (Some after)) (c == 44) _ _ (λ e parts r h. with_mark (λ (x : ℕ). AfterFor (Then (AnyPath levels OfBound) (AfterEnclosed levels plus after)) (also (punctuation x p s) rest) (sign (mark 44) ∷ parts) r) c 44 e (for_comma h)) (λ n. either (Fits levels (stage.ForEnd (OfTrait (Enclosed plus))) (also (punctuation c p s) rest) (Some after)) (c == 62) _ _ (λ e parts r h. with_mark (λ (x : ℕ). AfterFor (Then (AnyPath levels OfBound) (AfterEnclosed levels plus after)) (also (punctuation x p s) rest) (sign (mark 62) ∷ parts) r) c 62 e (for_angle h)) (λ n. tt))
fits_for_end_enclosed levels plus (also (identifier text s) rest) after = tt
fits_for_end_enclosed levels plus (also (literal text s) rest) after = tt
fits_for_end_enclosed levels plus (also (doc text s) rest) after = tt
fits_for_end_enclosed levels plus (also (group Parenthesis s inside) rest) after = tt
fits_for_end_enclosed levels plus (also (group Bracket s inside) rest) after = tt
fits_for_end_enclosed levels plus (also (group Brace s inside) rest) after = tt
fits_for_end_enclosed levels plus none after = tt

fits_linked : (levels : ℕ) (run : TokenList) → Fits levels stage.Linked run None (next_at stage.Linked run None)
unfolding next_at
fits_linked levels (also (punctuation c p s) rest) = tt
fits_linked levels (also (identifier text s) rest) = either (Fits levels stage.Linked (also (identifier text s) rest) None) (bytes_eq text (codes "fn")) _ _ (λ e parts r h. with_text (λ (x : List ℕ). AtFn levels (also (identifier x s) rest) (sign (word x) ∷ parts) r) text (codes "fn") e (fn_at h)) (λ n. tt)
fits_linked levels (also (literal text s) rest) = tt
fits_linked levels (also (doc text s) rest) = tt
fits_linked levels (also (group Parenthesis s inside) rest) = tt
fits_linked levels (also (group Bracket s inside) rest) = tt
fits_linked levels (also (group Brace s inside) rest) = tt
fits_linked levels none = tt

linked_move_fits : (levels : ℕ) (run : TokenList) → Fits levels stage.Linked run None (table.linked_move run None)
unfolding next_at
linked_move_fits levels run = fits_linked levels run

linked_unsafe : (levels : ℕ) (run : TokenList) → Fits levels stage.Unsafe run None (table.linked_move run None)
linked_unsafe levels run = keeps_fit levels stage.Linked stage.Unsafe run None (λ parts rest h. fn_linked h) (table.linked_move run None) (linked_move_fits levels run)

linked_extern : (levels : ℕ) (run : TokenList) → Fits levels stage.Extern run None (table.linked_move run None)
linked_extern levels run = keeps_fit levels stage.Linked stage.Extern run None (λ parts rest h. extern_fn h) (table.linked_move run None) (linked_move_fits levels run)

fits_unsafe : (levels : ℕ) (run : TokenList) → Fits levels stage.Unsafe run None (next_at stage.Unsafe run None)
unfolding next_at
fits_unsafe levels (also (punctuation c p s) rest) = tt
fits_unsafe levels (also (identifier text s) rest) = either (Fits levels stage.Unsafe (also (identifier text s) rest) None) (bytes_eq text (codes "extern")) _ _ (λ e parts r h. with_text (λ (x : List ℕ). Last (Linked levels) (also (identifier x s) rest) (sign (word x) ∷ parts) r) text (codes "extern") e (extern_linked h)) (λ n. linked_unsafe levels (also (identifier text s) rest))
fits_unsafe levels (also (literal text s) rest) = tt
fits_unsafe levels (also (doc text s) rest) = tt
fits_unsafe levels (also (group Parenthesis s inside) rest) = tt
fits_unsafe levels (also (group Bracket s inside) rest) = tt
fits_unsafe levels (also (group Brace s inside) rest) = tt
fits_unsafe levels none = tt

unsafe_move_fits : (levels : ℕ) (run : TokenList) → Fits levels stage.Unsafe run None (table.unsafe_move run None)
unfolding next_at
unsafe_move_fits levels run = fits_unsafe levels run

unsafe_qualified : (levels : ℕ) (run : TokenList) → Fits levels stage.Qualified run None (table.unsafe_move run None)
unsafe_qualified levels run = keeps_fit levels stage.Unsafe stage.Qualified run None (λ parts rest h. linked_function h) (table.unsafe_move run None) (unsafe_move_fits levels run)

fits_qualified : (levels : ℕ) (run : TokenList) → Fits levels stage.Qualified run None (next_at stage.Qualified run None)
unfolding next_at
fits_qualified levels (also (punctuation c p s) rest) = tt
fits_qualified levels (also (identifier text s) rest) = either (Fits levels stage.Qualified (also (identifier text s) rest) None) (bytes_eq text (codes "unsafe")) _ _ (λ e parts r h. with_text (λ (x : List ℕ). Last (Function levels) (also (identifier x s) rest) (sign (word x) ∷ parts) r) text (codes "unsafe") e (unsafe_function h)) (λ n. unsafe_qualified levels (also (identifier text s) rest))
fits_qualified levels (also (literal text s) rest) = tt
fits_qualified levels (also (doc text s) rest) = tt
fits_qualified levels (also (group Parenthesis s inside) rest) = tt
fits_qualified levels (also (group Bracket s inside) rest) = tt
fits_qualified levels (also (group Brace s inside) rest) = tt
fits_qualified levels none = tt

fits_extern : (levels : ℕ) (run : TokenList) → Fits levels stage.Extern run None (next_at stage.Extern run None)
unfolding next_at
fits_extern levels (also (punctuation c p s) rest) = tt
fits_extern levels (also (identifier text s) rest) = linked_extern levels (also (identifier text s) rest)
fits_extern levels (also (literal text s) rest) = λ parts r h. extern_as h
fits_extern levels (also (doc text s) rest) = tt
fits_extern levels (also (group Parenthesis s inside) rest) = tt
fits_extern levels (also (group Bracket s inside) rest) = tt
fits_extern levels (also (group Brace s inside) rest) = tt
fits_extern levels none = tt

fits_function : (levels : ℕ) (run : TokenList) → Fits levels stage.Function run None (next_at stage.Function run None)
unfolding next_at
fits_function levels (also (punctuation c p s) rest) = tt
fits_function levels (also (identifier text s) rest) = tt
fits_function levels (also (literal text s) rest) = tt
fits_function levels (also (doc text s) rest) = tt
fits_function levels (also (group Parenthesis s inside) rest) = λ parts r h. taking_last h
fits_function levels (also (group Bracket s inside) rest) = tt
fits_function levels (also (group Brace s inside) rest) = tt
fits_function levels none = tt

fits_taken_value : (levels : ℕ) (run after : TokenList) → begins_parameter run ≡ false → Fits levels stage.Taken run (Some after) (table.taken_value run (Some after))
fits_taken_value levels run after n = either (Fits levels stage.Taken run (Some after)) (begins_dots run) _ _ (λ e. tt) (λ m t middle parts r e v f h. parameter_in (unnamed n v) h)

fits_taken : (levels : ℕ) (run : TokenList) (after : TokenList) → Fits levels stage.Taken run (Some after) (next_at stage.Taken run (Some after))
unfolding next_at
fits_taken levels (also (punctuation c p s) rest) after = fits_taken_value levels (also (punctuation c p s) rest) after refl
fits_taken levels (also (identifier text s) rest) after = either (Fits levels stage.Taken (also (identifier text s) rest) (Some after)) (typing rest) _ _ (λ e parts r h. typed_in (not_not (begins_colons rest) (both_true (begins_mark 58 rest) (not (begins_colons rest)) e).1) h) (λ n t middle parts r e v f h. parameter_in (unnamed n v) h)
fits_taken levels (also (literal text s) rest) after = fits_taken_value levels (also (literal text s) rest) after refl
fits_taken levels (also (doc text s) rest) after = fits_taken_value levels (also (doc text s) rest) after refl
fits_taken levels (also (group Parenthesis s inside) rest) after = fits_taken_value levels (also (group Parenthesis s inside) rest) after refl
fits_taken levels (also (group Bracket s inside) rest) after = fits_taken_value levels (also (group Bracket s inside) rest) after refl
fits_taken levels (also (group Brace s inside) rest) after = fits_taken_value levels (also (group Brace s inside) rest) after refl
fits_taken levels none after = λ parts r h. in_taken no_parameter h

fits_typed : (levels : ℕ) (run : TokenList) (after : TokenList) → Fits levels stage.Typed run (Some after) (next_at stage.Typed run (Some after))
unfolding next_at
fits_typed levels (also (punctuation c p s) rest) after = either (Fits levels stage.Typed (also (punctuation c p s) rest) (Some after)) (c == 58) _ _ (λ e parts r h. with_mark (λ (x : ℕ). AtTyped levels after (also (punctuation x p s) rest) (sign (mark 58) ∷ parts) r) c 58 e (at_typed h)) (λ n. tt)
fits_typed levels (also (identifier text s) rest) after = tt
fits_typed levels (also (literal text s) rest) after = tt
fits_typed levels (also (doc text s) rest) after = tt
fits_typed levels (also (group Parenthesis s inside) rest) after = tt
fits_typed levels (also (group Bracket s inside) rest) after = tt
fits_typed levels (also (group Brace s inside) rest) after = tt
fits_typed levels none after = tt

fits_typed_value : (levels : ℕ) (run after : TokenList) → Fits levels stage.TypedValue run (Some after) (next_at stage.TypedValue run (Some after))
unfolding next_at
fits_typed_value levels run after = either (Fits levels stage.TypedValue run (Some after)) (begins_dots run) _ _ (λ e. tt) (λ m t middle parts r e v f h. at_typed_value v h)

fits_one_taken : (levels : ℕ) (run : TokenList) (after : TokenList) → Fits levels stage.OneTaken run (Some after) (next_at stage.OneTaken run (Some after))
unfolding next_at
fits_one_taken levels (also (punctuation c p s) rest) after = either (Fits levels stage.OneTaken (also (punctuation c p s) rest) (Some after)) (c == 44) _ _ (λ e parts r h. with_mark (λ (x : ℕ). AfterParameter levels after (also (punctuation x p s) rest) (sign (mark 44) ∷ parts) r) c 44 e (comma_taken h)) (λ n. tt)
fits_one_taken levels (also (identifier text s) rest) after = tt
fits_one_taken levels (also (literal text s) rest) after = tt
fits_one_taken levels (also (doc text s) rest) after = tt
fits_one_taken levels (also (group Parenthesis s inside) rest) after = tt
fits_one_taken levels (also (group Bracket s inside) rest) after = tt
fits_one_taken levels (also (group Brace s inside) rest) after = tt
fits_one_taken levels none after = λ parts r h. close_taken h

-- each move keeps it
fits : (levels : ℕ) (p : Stage) (run : TokenList) (b : Option TokenList) → Fits levels p run b (next_at p run b)
unfolding next_at
fits levels stage.End run None = done
fits levels (stage.Named kind) run None = fits_named levels kind run
fits levels (stage.Segments kind) run None = fits_segments levels kind run
fits levels (stage.Colons kind may) run None = fits_colons levels kind may run
fits levels (stage.Arguments kind) run None = fits_arguments levels kind run
fits levels (stage.Equals kind) run None = fits_equals levels kind run
fits levels (stage.Value kind) run None = λ t middle parts r e v f h. at_value v h
fits levels (stage.Braced kind) run (Some after) = fits_braced levels kind run after
fits levels (stage.ArgumentEnd kind) run None = fits_argument_end levels kind run
fits levels stage.Inputs run (Some after) = fits_inputs levels run after
fits levels stage.InputEnd run (Some after) = fits_input_end levels run after
fits levels stage.Output run None = fits_output levels run
fits levels stage.SelfType run None = λ t middle parts r e v f h. self_type v f h
fits levels stage.SelfEnd run None = fits_self_end levels run
fits levels stage.SelfTrait run None = fits_self_trait levels run
fits levels stage.SelfTraitEnd run None = fits_self_trait_end levels run
fits levels stage.SelfClosed run None = fits_self_closed levels run
fits levels stage.Referent run None = fits_referent levels run
fits levels stage.Pointer run None = fits_pointer levels run
fits levels stage.Target run None = λ t middle parts r e v f h. last_type v f h
fits levels stage.List run (Some after) = fits_list levels run after
fits levels stage.ListEnd run (Some after) = fits_list_end levels run after
fits levels stage.Element run (Some after) = λ t middle parts r e v f h. at_element v h
fits levels stage.ElementEnd run (Some after) = fits_element_end levels run after
fits levels stage.Length run (Some after) = fits_length levels run after
fits levels stage.LengthEnd run (Some after) = λ parts r h. close_length h
fits levels (stage.Bound plus) run None = fits_bound levels plus run
fits levels (stage.BoundEnd true) run None = fits_bound_end levels run
fits levels (stage.BoundEnd false) run None = fits_one_bound levels run
fits levels stage.Further run None = fits_further levels run
fits levels (stage.Question plus) run (Some after) = fits_question levels plus run after
fits levels (stage.EnclosedEnd plus) run (Some after) = fits_enclosed_end levels plus run after
fits levels (stage.Trait (Listed plus)) run None = fits_trait_listed levels plus run
fits levels (stage.Trait (Enclosed plus)) run (Some after) = fits_trait_enclosed levels plus run after
fits levels (stage.TraitPath (Listed plus)) run None = fits_trait_path_listed levels plus run
fits levels (stage.TraitPath (Enclosed plus)) run (Some after) = fits_trait_path_enclosed levels plus run after
fits levels (stage.For OfFunction) run None = fits_for_function levels run
fits levels (stage.For (OfTrait (Listed plus))) run None = fits_for_listed levels plus run
fits levels (stage.For (OfTrait (Enclosed plus))) run (Some after) = fits_for_enclosed levels plus run after
fits levels (stage.ForList OfFunction) run None = fits_for_list_function levels run
fits levels (stage.ForList (OfTrait (Listed plus))) run None = fits_for_list_listed levels plus run
fits levels (stage.ForList (OfTrait (Enclosed plus))) run (Some after) = fits_for_list_enclosed levels plus run after
fits levels (stage.ForEnd OfFunction) run None = fits_for_end_function levels run
fits levels (stage.ForEnd (OfTrait (Listed plus))) run None = fits_for_end_listed levels plus run
fits levels (stage.ForEnd (OfTrait (Enclosed plus))) run (Some after) = fits_for_end_enclosed levels plus run after
fits levels stage.Qualified run None = fits_qualified levels run
fits levels stage.Unsafe run None = fits_unsafe levels run
fits levels stage.Extern run None = fits_extern levels run
fits levels stage.Linked run None = fits_linked levels run
fits levels stage.Function run None = fits_function levels run
fits levels stage.Taken run (Some after) = fits_taken levels run after
fits levels stage.Typed run (Some after) = fits_typed levels run after
fits levels stage.TypedValue run (Some after) = fits_typed_value levels run after
fits levels stage.OneTaken run (Some after) = fits_one_taken levels run after
fits levels p run b = idle levels p run b (λ parts rest. tt) (next_at p run b)

-- a first token keeps it, where it does not bar the type
abbrev FitsFirst : ℕ → Bool → TokenList → First → Type 0
FitsFirst levels plus run (starts true s spot) = Unit {0}
FitsFirst levels plus run (starts false s spot) = (parts : List Tree) (rest : TokenList) → Good levels spot.stage spot.run spot.outside parts rest → Last (Form levels plus) run (sign s ∷ parts) rest
FitsFirst levels plus run (refused f) = Unit {0}

either_first : (F : First → Type 0) (b : Bool) (m n : First) → (b ≡ true → F m) → (b ≡ false → F n) → F (if b then m else n)
either_first F true m n f g = f refl
either_first F false m n f g = g refl

named_form : {levels : ℕ} {plus : Bool} {text : List ℕ} {s : Span} {run rest : TokenList} {parts : List Tree} → is_reserved text ≡ false → name_of (also (identifier text s) run) ≡ None →
    AfterName levels Plain run parts rest → Last (Form levels plus) (also (identifier text s) run) (sign (word text) ∷ parts) rest
named_form {text = text} {s = s} r n (name_last {rest = rest} g) = absurd (let k = sym (name_is text s rest r (not_not (continues rest || begins_mark 33 rest) g)) ∙ n in cc)
named_form r n (name_longer l f) = ending (path r l) f

tuple_form : {levels : ℕ} {plus : Bool} {s : Span} {inside after rest : TokenList} {parts : List Tree} → Among levels Done after inside parts rest →
    Last (Form levels plus) (also (group Parenthesis s inside) after) (sign (opening Parenthesis) ∷ parts) rest
tuple_form (among l done) = ending (tuple l) refl

element_form : {levels : ℕ} {plus : Bool} {s : Span} {inside middle after rest : TokenList} {t : Tree} {parts : List Tree} {e : Ending} → Written levels true inside t middle e → AfterElement after middle parts rest →
    Last (Form levels plus) (also (group Bracket s inside) after) (sign (opening Bracket) ∷ t ∷ parts) rest
element_form v (close_element done) = ending (slice v) refl
element_form v (length_element (at_length done)) = ending (array v) refl

bracket_form : {levels : ℕ} {plus : Bool} {s : Span} {inside after rest : TokenList} {parts : List Tree} → AtElement levels after inside parts rest →
    Last (Form levels plus) (also (group Bracket s inside) after) (sign (opening Bracket) ∷ parts) rest
bracket_form (at_element v a) = element_form v a

rooted_form : {levels : ℕ} {plus : Bool} (s t : Span) (p : Spacing) {run rest : TokenList} {parts : List Tree} {may : Bool} → may ≡ false → AfterColons levels Plain may run parts rest →
    Last (Form levels plus) (also (punctuation 58 Joint s) (also (punctuation 58 p t) run)) (sign colons ∷ parts) rest
rooted_form s t p n (to_path v f) = ending (rooted v) f
rooted_form s t p n (to_angle e i) = absurd (let k = sym n ∙ e in cc)

qualified_form : {levels : ℕ} {plus : Bool} {p : Spacing} {s : Span} {run rest : TokenList} {parts : List Tree} → Last (Qualified levels) run parts rest →
    Last (Form levels plus) (also (punctuation 60 p s) run) (sign (mark 60) ∷ parts) rest
qualified_form (ending v f) = ending (qualified v) f

borrowed_form : {levels : ℕ} {plus : Bool} {p : Spacing} {s : Span} {run rest : TokenList} {parts : List Tree} → Last (Referent levels) run parts rest →
    Last (Form levels plus) (also (punctuation 38 p s) run) (sign (reference None) ∷ parts) rest
borrowed_form (ending r f) = ending (borrowed r) f

borrowed_for_form : {levels : ℕ} {plus : Bool} {p q : Spacing} {s t u : Span} {text : List ℕ} {run rest : TokenList} {parts : List Tree} → Last (Referent levels) run parts rest →
    Last (Form levels plus) (also (punctuation 38 p s) (also (punctuation 39 q t) (also (identifier text u) run))) (sign (reference (Some text)) ∷ parts) rest
borrowed_for_form (ending r f) = ending (borrowed_for r) f

fits_borrowed_for : (levels : ℕ) (plus : Bool) (p q : Spacing) (s t : Span) (run : TokenList) →
    FitsFirst levels plus (also (punctuation 38 p s) (also (punctuation 39 q t) run)) (table.reference_lifetime_first run)
fits_borrowed_for levels plus p q s t (also (identifier text u) rest) = λ parts r h. borrowed_for_form h
fits_borrowed_for levels plus p q s t (also (punctuation c o u) rest) = tt
fits_borrowed_for levels plus p q s t (also (literal text u) rest) = tt
fits_borrowed_for levels plus p q s t (also (doc text u) rest) = tt
fits_borrowed_for levels plus p q s t (also (group d u inside) rest) = tt
fits_borrowed_for levels plus p q s t none = tt

fits_borrowed : (levels : ℕ) (plus : Bool) (p : Spacing) (s : Span) (run : TokenList) → FitsFirst levels plus (also (punctuation 38 p s) run) (table.reference_first run)
fits_borrowed levels plus p s (also (punctuation c q t) rest) = either_first (FitsFirst levels plus (also (punctuation 38 p s) (also (punctuation c q t) rest))) (c == 39) _ _
    (λ e. with_mark (λ (x : ℕ). FitsFirst levels plus (also (punctuation 38 p s) (also (punctuation x q t) rest)) (table.reference_lifetime_first rest)) c 39 e (fits_borrowed_for levels plus p q s t rest))
    (λ n parts r h. borrowed_form h)
fits_borrowed levels plus p s (also (identifier text t) rest) = λ parts r h. borrowed_form h
fits_borrowed levels plus p s (also (literal text t) rest) = λ parts r h. borrowed_form h
fits_borrowed levels plus p s (also (doc text t) rest) = λ parts r h. borrowed_form h
fits_borrowed levels plus p s (also (group d t inside) rest) = λ parts r h. borrowed_form h
fits_borrowed levels plus p s none = λ parts r h. borrowed_form h

const_form : {levels : ℕ} {plus : Bool} {p : Spacing} {s t : Span} {run rest : TokenList} {parts : List Tree} → LastType levels false run parts rest →
    Last (Form levels plus) (also (punctuation 42 p s) (also (identifier (codes "const") t) run)) (sign (mark 42) ∷ sign (word (codes "const")) ∷ parts) rest
const_form (ending_type v f) = ending (pointer_const v) f

mut_form : {levels : ℕ} {plus : Bool} {p : Spacing} {s t : Span} {run rest : TokenList} {parts : List Tree} → LastType levels false run parts rest →
    Last (Form levels plus) (also (punctuation 42 p s) (also (identifier (codes "mut") t) run)) (sign (mark 42) ∷ sign (word (codes "mut")) ∷ parts) rest
mut_form (ending_type v f) = ending (pointer_mut v) f

pointer_form : {levels : ℕ} {plus : Bool} {p : Spacing} {s : Span} {run rest : TokenList} {parts : List Tree} → AtPointer levels run parts rest →
    Last (Form levels plus) (also (punctuation 42 p s) run) (sign (mark 42) ∷ parts) rest
pointer_form (at_const h) = const_form h
pointer_form (at_mut h) = mut_form h

dyn_form : {levels : ℕ} {plus : Bool} {s : Span} {run rest : TokenList} {parts : List Tree} → Last (Bounds levels plus) run parts rest →
    Last (Form levels plus) (also (identifier (codes "dyn") s) run) (sign (word (codes "dyn")) ∷ parts) rest
dyn_form (ending v f) = ending (trait_object v) f

none_reserved : (a b c d f g h : Bool) → a ≡ false → b ≡ false → c ≡ false → d ≡ false → f ≡ false → g ≡ false → h ≡ false → (((a || b) || (c || d)) || ((f || g) || h)) ≡ false
none_reserved a b c d f g h p q r s t u v = rw (p, q, r, s, t, u, v) refl

-- after a name, by the kind of the name
abbrev WordForm : ℕ → Bool → List ℕ → Span → TokenList → Type 0
WordForm levels plus text s rest = (parts : List Tree) (r : TokenList) → Good levels (table.word_stage plus text) rest None parts r → Last (Form levels plus) (also (identifier text s) rest) (sign (word text) ∷ parts) r

dyn_word : (levels : ℕ) (plus : Bool) (s : Span) (rest : TokenList) → WordForm levels plus (codes "dyn") s rest
dyn_word levels plus s rest = λ parts r h. dyn_form h

fn_word : (levels : ℕ) (plus : Bool) (s : Span) (rest : TokenList) → WordForm levels plus (codes "fn") s rest
fn_word levels plus s rest = λ parts r h. function_form (linked_function (fn_linked (fn_at h)))

unsafe_word : (levels : ℕ) (plus : Bool) (s : Span) (rest : TokenList) → WordForm levels plus (codes "unsafe") s rest
unsafe_word levels plus s rest = λ parts r h. function_form (unsafe_function h)

extern_word : (levels : ℕ) (plus : Bool) (s : Span) (rest : TokenList) → WordForm levels plus (codes "extern") s rest
extern_word levels plus s rest = λ parts r h. function_form (linked_function (extern_linked h))

for_word : (levels : ℕ) (plus : Bool) (s : Span) (rest : TokenList) → WordForm levels plus (codes "for") s rest
for_word levels plus s rest = λ parts r h. bound_function_form h

stage_is : (plus : Bool) (text : List ℕ) → bytes_eq text (codes "dyn") ≡ false → bytes_eq text (codes "impl") ≡ false → bytes_eq text (codes "fn") ≡ false → bytes_eq text (codes "unsafe") ≡ false → bytes_eq text (codes "extern") ≡ false → bytes_eq text (codes "for") ≡ false →
    table.word_stage plus text ≡ stage.Named Plain
stage_is plus text a b c d f g = rw (a, b, c, d, f, g) refl

path_word : (levels : ℕ) (plus : Bool) (text : List ℕ) (s : Span) (rest : TokenList) → table.word_stage plus text ≡ stage.Named Plain → is_reserved text ≡ false → name_of (also (identifier text s) rest) ≡ None → WordForm levels plus text s rest
path_word levels plus text s rest e r n parts q h = named_form r n (let k : Good levels (stage.Named Plain) rest None parts q = subst (λ (x : Stage). Good levels x rest None parts q) e h in k)

-- a test of words, and the meaning of its result
reported : (P : Type 0) (b : Bool) → (b ≡ true → P) → (b ≡ false → P) → P
reported P true f g = f refl
reported P false f g = g refl

word_form : (levels : ℕ) (plus : Bool) (text : List ℕ) (s : Span) (rest : TokenList) → bytes_eq text (codes "_") ≡ false → bytes_eq text (codes "impl") ≡ false → name_of (also (identifier text s) rest) ≡ None → WordForm levels plus text s rest
word_form levels plus text s rest a b n =
    reported (WordForm levels plus text s rest) (bytes_eq text (codes "dyn")) (λ e. with_text (λ (x : List ℕ). WordForm levels plus x s rest) text (codes "dyn") e (dyn_word levels plus s rest))
    (λ c. reported (WordForm levels plus text s rest) (bytes_eq text (codes "fn")) (λ e. with_text (λ (x : List ℕ). WordForm levels plus x s rest) text (codes "fn") e (fn_word levels plus s rest))
    (λ d. reported (WordForm levels plus text s rest) (bytes_eq text (codes "unsafe")) (λ e. with_text (λ (x : List ℕ). WordForm levels plus x s rest) text (codes "unsafe") e (unsafe_word levels plus s rest))
    (λ f. reported (WordForm levels plus text s rest) (bytes_eq text (codes "extern")) (λ e. with_text (λ (x : List ℕ). WordForm levels plus x s rest) text (codes "extern") e (extern_word levels plus s rest))
    (λ g. reported (WordForm levels plus text s rest) (bytes_eq text (codes "for")) (λ e. with_text (λ (x : List ℕ). WordForm levels plus x s rest) text (codes "for") e (for_word levels plus s rest))
    (λ h. path_word levels plus text s rest (stage_is plus text c b d f g h)
    (none_reserved (bytes_eq text (codes "dyn")) (bytes_eq text (codes "impl")) (bytes_eq text (codes "_")) (bytes_eq text (codes "for")) (bytes_eq text (codes "fn")) (bytes_eq text (codes "unsafe")) (bytes_eq text (codes "extern")) c b a h d f g) n)))))

barred_first : (levels : ℕ) (plus : Bool) (run : TokenList) (b : Bool) (s : Sign) (spot : Spot) → (b ≡ false → (parts : List Tree) (rest : TokenList) → Good levels spot.stage spot.run spot.outside parts rest → Last (Form levels plus) run (sign s ∷ parts) rest) →
    FitsFirst levels plus run (starts b s spot)
barred_first levels plus run true s spot f = tt
barred_first levels plus run false s spot f = f refl

fits_word : (levels : ℕ) (plus : Bool) (text : List ℕ) (s : Span) (rest : TokenList) → name_of (also (identifier text s) rest) ≡ None → FitsFirst levels plus (also (identifier text s) rest) (table.word_first plus text s rest)
fits_word levels plus text s rest n = either_first (FitsFirst levels plus (also (identifier text s) rest)) (bytes_eq text (codes "_")) _ _ (λ e. tt)
    (λ a. barred_first levels plus (also (identifier text s) rest) (bytes_eq text (codes "impl")) (word text) (to (table.word_stage plus text) rest None) (λ b. word_form levels plus text s rest a b n))

fits_mark : (levels : ℕ) (plus : Bool) (c : ℕ) (p : Spacing) (s : Span) (rest : TokenList) → FitsFirst levels plus (also (punctuation c p s) rest) (table.mark_first c s (also (punctuation c p s) rest) rest)
fits_mark levels plus c p s rest = either_first (FitsFirst levels plus (also (punctuation c p s) rest)) (c == 38) _ _
    (λ e. with_mark (λ (x : ℕ). FitsFirst levels plus (also (punctuation x p s) rest) (table.reference_first rest)) c 38 e (fits_borrowed levels plus p s rest))
    (λ a. either_first (FitsFirst levels plus (also (punctuation c p s) rest)) (c == 42) _ _
    (λ e parts r h. with_mark (λ (x : ℕ). Last (Form levels plus) (also (punctuation x p s) rest) (sign (mark 42) ∷ parts) r) c 42 e (pointer_form h))
    (λ d. either_first (FitsFirst levels plus (also (punctuation c p s) rest)) (c == 60) _ _
    (λ e parts r h. with_mark (λ (x : ℕ). Last (Form levels plus) (also (punctuation x p s) rest) (sign (mark 60) ∷ parts) r) c 60 e (qualified_form h))
    (λ f. either_first (FitsFirst levels plus (also (punctuation c p s) rest)) (c == 33) _ _ (λ e. tt)
    (λ g. either_first (FitsFirst levels plus (also (punctuation c p s) rest)) (begins_colons (also (punctuation c p s) rest)) _ _
    (λ e parts r. with_colons (λ (x : TokenList). AfterColons levels Plain false (after_two x) parts r → Last (Form levels plus) x (sign colons ∷ parts) r) (λ u v q other h. rooted_form u v q refl h) (also (punctuation c p s) rest) e)
    (λ m. tt)))))

fits_first : (levels : ℕ) (plus : Bool) (run : TokenList) → name_of run ≡ None → FitsFirst levels plus run (begin plus run)
unfolding begin
fits_first levels plus (also (identifier text s) rest) n = fits_word levels plus text s rest n
fits_first levels plus (also (group Parenthesis s inside) rest) n = λ parts r h. tuple_form h
fits_first levels plus (also (group Bracket s inside) rest) n = λ parts r h. bracket_form h
fits_first levels plus (also (group Brace s inside) rest) n = tt
fits_first levels plus (also (punctuation c p s) rest) n = fits_mark levels plus c p s rest
fits_first levels plus (also (literal text s) rest) n = tt
fits_first levels plus (also (doc text s) rest) n = tt
fits_first levels plus none n = tt

form_written : {levels : ℕ} {plus : Bool} {run rest : TokenList} {s : Sign} {spot : Spot} {parts : List Tree} → name_of run ≡ None → begin plus run ≡ starts false s spot →
    Good levels spot.stage spot.run spot.outside parts rest → Last (Form levels plus) run (sign s ∷ parts) rest
form_written {levels} {plus} {run} {rest} {s} {spot} {parts} n b g = let f : FitsFirst levels plus run (starts false s spot) = subst (FitsFirst levels plus run) b (fits_first levels plus run n) in f parts rest g

-- the property of a type
abbrev IsWritten : ℕ → Bool → TokenList → Tree → TokenList → Type 0
IsWritten levels plus run t rest = (e : Ending) × Written levels plus run t rest e × (may_follow e rest ≡ true)

type_of : {levels : ℕ} {plus : Bool} {run rest : TokenList} {parts : List Tree} → 0 < levels → Last (Form (levels - 1) plus) run parts rest → IsWritten levels plus run (whole (trees parts)) rest
type_of a (ending {e = e} v f) = (e, a_form a v, f)

name_written : (levels : ℕ) (plus : Bool) (run : TokenList) (text : List ℕ) → 0 < levels → name_of run ≡ Some text → IsWritten levels plus run (name text) (rest_of run)
name_written levels plus (also (identifier other_text s) rest) text a e = go (is_reserved other_text) (continues rest || begins_mark 33 rest) refl refl e
  where
    go : (b d : Bool) → is_reserved other_text ≡ b → (continues rest || begins_mark 33 rest) ≡ d → (if b then None else (if d then None else Some other_text)) ≡ Some text → IsWritten levels plus (also (identifier other_text s) rest) (name text) rest
    go false false r g k = (plain_named, subst (λ (t : List ℕ). Written levels plus (also (identifier other_text s) rest) (name t) rest plain_named) (let l : other_text ≡ text = cc in l) (a_name a r), not_false (continues rest || begins_mark 33 rest) g)
    go false true r g k = cc
    go true d r g k = cc
name_written levels plus (also (punctuation c p s) rest) text a e = cc
name_written levels plus (also (literal t s) rest) text a e = cc
name_written levels plus (also (doc t s) rest) text a e = cc
name_written levels plus (also (group d s inside) rest) text a e = cc
name_written levels plus none text a e = cc

none_bars : {b c d : Bool} → b ≡ (c || d) → b ≡ false → (c ≡ false) × (d ≡ false)
none_bars {b} {c} {d} e f = go c d (sym e ∙ f)
  where
    go : (c d : Bool) → (c || d) ≡ false → (c ≡ false) × (d ≡ false)
    go true d e = cc
    go false d e = (refl, e)

fit_of : (levels : ℕ) (spot : Spot) {m : Move} → next_at spot.stage spot.run spot.outside ≡ m → Fits levels spot.stage spot.run spot.outside m
fit_of levels spot e = subst (Fits levels spot.stage spot.run spot.outside) e (fits levels spot.stage spot.run spot.outside)

mutual
  pub type_written : {levels : ℕ} {plus : Bool} {run rest : TokenList} {t : Tree} → IsType levels plus run t rest → IsWritten levels plus run t rest
  type_written {levels} {plus} {run} (name_alone {text = text} a e) = name_written levels plus run text a e
  type_written (formed a n b h) = type_of a (form_written n b (parts_good refl h))

  parts_good : {levels : ℕ} {b : Bool} {spot : Spot} {parts : List Tree} {rest : TokenList} → b ≡ false → AreParts levels b spot parts rest → Good levels spot.stage spot.run spot.outside parts rest
  parts_good {levels} {spot = spot} z (ended e) = fit_of levels spot e
  parts_good {levels} {spot = spot} z (part m a e) = let k = none_bars e z in move_good _ _ k.0 m (parts_good k.1 a)

  move_good : {levels : ℕ} {b : Bool} {spot outside : Spot} {front : List Tree} (parts : List Tree) (rest : TokenList) → b ≡ false → IsMove levels b spot front outside → Good levels outside.stage outside.run outside.outside parts rest →
      Good levels spot.stage spot.run spot.outside (front ++ parts) rest
  move_good {levels} {spot = spot} parts rest z (a_token e) g = fit_of levels spot e parts rest g
  move_good parts rest z (a_bar e) g = absurd cc
  move_good {levels} {spot = spot} parts rest z (part_type {part = t} {rest = middle} e h) g = let v = type_written h in fit_of levels spot e t middle parts rest v.0 v.1 v.2 g
  move_good {levels} {spot = spot} parts rest z (a_still_type {part = t} {rest = middle} e h) g = let v = type_written h in fit_of levels spot e t middle parts rest v.0 v.1 v.2 g
  move_good {levels} {spot = spot} parts rest z (still_tokens e) g = fit_of levels spot e parts rest g
  move_good {levels} {spot = spot} parts rest z (a_nest {parts = within} {rest = middle} e h) g = fit_of levels spot e within middle parts rest (parts_good z h) g
