-- A run begins with at most one type, a fault excludes a type, and there is a type or a fault.
use Rattle.std.proofs.Common.{◌≡◌, ℕ, ◌-◌, ◌+◌, ◌<◌, ◌||◌, List, [], ◌∷◌, ◌++◌, Bool, true, false, Option, Some, None, refl, sym, ap, ◌∙◌, subst, arith}
use Rattle.logos_token.specs.Tokens.{TokenList, none as no_token_left, also as and_token, append, count_of, rest_of, run_span}
use Rattle.logos_type_reader.specs.declared.table.stage.Stage.{Stage}
use Rattle.logos_type.specs.Parts.{Tree, Sign, sign, name, whole, still, trees, none, also}
use Rattle.logos_type_reader.specs.StillRuns.{still_run}
use Rattle.logos_type_reader.specs.Table.{Spot, outer, Move, First, ends, takes, bars, needs, keeps_type, keeps, nests, stops, starts, refused, Fault, too_deep, unsupported, begin, name_of}
use Rattle.logos_type_reader.specs.Reading.{IsType, name_alone, formed, IsMove, a_token, a_bar, a_type, a_still_type, still_tokens, a_nest, AreParts, ended, further, NoType, deep_name, deep, unbegun, unended, left_out, NoMove, no_token, no_type, no_still_type, no_nest, NoParts, here, later, next_of, after_type}

-- two readings of the same run agree
abbrev pub Same : Tree → TokenList → Tree → TokenList → Type 0
Same t rest u other = (t ≡ u) × (rest ≡ other)

-- the moves that are possible there, by the next token
abbrev MoveOf : ℕ → Bool → Spot → List Tree → Spot → Move → Type 0
MoveOf n b spot ps outside ends = ⊥
MoveOf n b spot ps outside (takes s next) = (b ≡ false) × (ps ≡ sign s ∷ []) × (outside ≡ next)
MoveOf n b spot ps outside (bars s next) = (b ≡ true) × (ps ≡ sign s ∷ []) × (outside ≡ next)
MoveOf n b spot ps outside (needs plus stage) = (t : Tree) × (rest : TokenList) × (b ≡ false) × (ps ≡ t ∷ []) × (outside ≡ after_type spot stage rest) × IsType n plus spot.run t rest
MoveOf n b spot ps outside (keeps_type stage) = (t : Tree) × (rest : TokenList) × (b ≡ false) × (ps ≡ still (also t none) ∷ []) × (outside ≡ after_type spot stage rest) × IsType n true spot.run t rest
MoveOf n b spot ps outside (keeps run next) = (b ≡ false) × (ps ≡ still (trees (still_run run)) ∷ []) × (outside ≡ next)
MoveOf n b spot ps outside (nests s inner stage) = (qs : List Tree) × (rest : TokenList) × (ps ≡ sign s ∷ qs) × (outside ≡ after_type spot stage rest) × AreParts n b inner qs rest
MoveOf n b spot ps outside (stops fault) = ⊥

move_of : {n : ℕ} {b : Bool} {spot outside : Spot} {ps : List Tree} → IsMove n b spot ps outside → MoveOf n b spot ps outside (next_of spot)
move_of {n} {b} {spot} {outside} {ps} (a_token e) = subst (MoveOf n b spot ps outside) (sym e) (refl, refl, refl)
move_of {n} {b} {spot} {outside} {ps} (a_bar e) = subst (MoveOf n b spot ps outside) (sym e) (refl, refl, refl)
move_of {n} {b} {spot} {outside} {ps} (a_type e h) = subst (MoveOf n b spot ps outside) (sym e) (_, _, refl, refl, refl, h)
move_of {n} {b} {spot} {outside} {ps} (a_still_type e h) = subst (MoveOf n b spot ps outside) (sym e) (_, _, refl, refl, refl, h)
move_of {n} {b} {spot} {outside} {ps} (still_tokens e) = subst (MoveOf n b spot ps outside) (sym e) (refl, refl, refl)
move_of {n} {b} {spot} {outside} {ps} (a_nest e h) = subst (MoveOf n b spot ps outside) (sym e) (_, _, refl, refl, h)

move_as : {n : ℕ} {b : Bool} {spot outside : Spot} {ps : List Tree} {m : Move} → IsMove n b spot ps outside → next_of spot ≡ m → MoveOf n b spot ps outside m
move_as {n} {b} {spot} {outside} {ps} h e = subst (MoveOf n b spot ps outside) e (move_of h)

-- the possible parts
data PartsOf (n : ℕ) (b : Bool) (spot : Spot) (ps : List Tree) (rest : TokenList) : Type 0 where
  none_follow : next_of spot ≡ ends → b ≡ false → ps ≡ [] → rest ≡ outer spot.run spot.outside → PartsOf n b spot ps rest
  some_follow : (now onward : Bool) (front others : List Tree) (outside : Spot) → b ≡ (now || onward) → ps ≡ front ++ others → IsMove n now spot front outside → AreParts n onward outside others rest → PartsOf n b spot ps rest

parts_of : {n : ℕ} {b : Bool} {spot : Spot} {ps : List Tree} {rest : TokenList} → AreParts n b spot ps rest → PartsOf n b spot ps rest
parts_of (ended e) = none_follow e refl refl refl
parts_of (further {now = now} {onward = onward} {next = outside} {front = front} {parts = others} m a e) = some_follow now onward front others outside e refl m a

-- the possible type
data TypeOf (n : ℕ) (plus : Bool) (run : TokenList) (t : Tree) (rest : TokenList) : Type 0 where
  of_word : (text : List ℕ) → name_of run ≡ Some text → t ≡ name text → rest ≡ rest_of run → TypeOf n plus run t rest
  of_form : (s : Sign) (spot : Spot) (ps : List Tree) → name_of run ≡ None → begin plus run ≡ starts false s spot → t ≡ whole (trees (sign s ∷ ps)) → AreParts (n - 1) false spot ps rest → TypeOf n plus run t rest

type_of : {n : ℕ} {plus : Bool} {run rest : TokenList} {t : Tree} → IsType n plus run t rest → (0 < n) × TypeOf n plus run t rest
type_of (name_alone {text = text} a e) = (a, of_word text e refl refl)
type_of (formed {s = s} {spot = spot} {parts = ps} a e g h) = (a, of_form s spot ps e g refl h)

ends_no : {n : ℕ} {b : Bool} {spot outside : Spot} {ps : List Tree} → IsMove n b spot ps outside → next_of spot ≡ ends → ⊥
ends_no h e = move_as h e

starts_same : {b c : Bool} {s s' : Sign} {p p' : Spot} {f : First} → f ≡ starts b s p → f ≡ starts c s' p' → (b ≡ c) × (s ≡ s') × (p ≡ p')
starts_same e f = let k = sym e ∙ f in (cc, cc, cc)

some_same : {a b : List ℕ} {x : Option (List ℕ)} → x ≡ Some a → x ≡ Some b → a ≡ b
some_same e f = let k = sym e ∙ f in cc

some_none : {a : List ℕ} {x : Option (List ℕ)} → x ≡ Some a → x ≡ None → ⊥
some_none e f = let k = sym e ∙ f in cc

whole_same : {s s' : Sign} {ps qs : List Tree} → s ≡ s' → ps ≡ qs → whole (trees (sign s ∷ ps)) ≡ whole (trees (sign s' ∷ qs))
whole_same {s} {s'} {ps} {qs} e f = ap (λ (x : Sign). whole (trees (sign x ∷ ps))) e ∙ ap (λ (xs : List Tree). whole (trees (sign s' ∷ xs))) f

still_same : {t u : Tree} → t ≡ u → still (also t none) ∷ [] ≡ still (also u none) ∷ []
still_same e = ap (λ (x : Tree). still (also x none) ∷ []) e

or_same : {a b c d : Bool} → a ≡ c → b ≡ d → (a || b) ≡ (c || d)
or_same {a} {b} {c} {d} e f = ap (λ (x : Bool). x || b) e ∙ ap (λ (x : Bool). c || x) f

append_same : {xs ys zs ws : List Tree} → xs ≡ zs → ys ≡ ws → xs ++ ys ≡ zs ++ ws
append_same {xs} {ys} {zs} {ws} e f = ap (λ (x : List Tree). x ++ ys) e ∙ ap (λ (x : List Tree). zs ++ x) f

-- the parts of a type equal these
abbrev SameParts : Bool → Spot → List Tree → TokenList → Type 0
SameParts b spot ps rest = (m : ℕ) (c : Bool) (qs : List Tree) (other : TokenList) → AreParts m c spot qs other → (b ≡ c) × (ps ≡ qs) × (rest ≡ other)

abbrev SameType : Bool → TokenList → Tree → TokenList → Type 0
SameType plus run t rest = (m : ℕ) (u : Tree) (other : TokenList) → IsType m plus run u other → Same t rest u other

abbrev SameMove : Bool → Spot → List Tree → Spot → Type 0
SameMove b spot ps outside = (m : ℕ) (c : Bool) (qs : List Tree) (other : Spot) → IsMove m c spot qs other → (b ≡ c) × (ps ≡ qs) × (outside ≡ other)

name_same : {m : ℕ} {plus : Bool} {run other : TokenList} {text : List ℕ} {u : Tree} → name_of run ≡ Some text → TypeOf m plus run u other → Same (name text) (rest_of run) u other
name_same e (of_word text f t r) = (ap name (some_same e f) ∙ sym t, sym r)
name_same e (of_form s spot ps f g t h) = absurd (some_none e f)

formed_same : {m : ℕ} {plus : Bool} {run rest other : TokenList} {s : Sign} {spot : Spot} {ps : List Tree} {u : Tree} → name_of run ≡ None → begin plus run ≡ starts false s spot → SameParts false spot ps rest →
    TypeOf m plus run u other → Same (whole (trees (sign s ∷ ps))) rest u other
formed_same e g same (of_word text f t r) = absurd (some_none f e)
formed_same {m} {other = other} {spot = spot} e g same (of_form s' spot' qs f g' t h) =
    let k = starts_same g g' in
    let q = same (m - 1) false qs other (subst (λ (x : Spot). AreParts (m - 1) false x qs other) (sym k.2) h) in
    (whole_same k.1 q.1 ∙ sym t, q.2)

needed_same : (m : ℕ) (c : Bool) (spot other : Spot) {plus : Bool} {stage : Stage} {t : Tree} {rest : TokenList} {qs : List Tree} → SameType plus spot.run t rest →
    MoveOf m c spot qs other (needs plus stage) → (false ≡ c) × (t ∷ [] ≡ qs) × (after_type spot stage rest ≡ other)
needed_same m c spot other {stage = stage} same (u, r, b, q, o, h) =
    let k = same m u r h in (sym b, ap (λ (x : Tree). x ∷ []) k.0 ∙ sym q, ap (λ (x : TokenList). after_type spot stage x) k.1 ∙ sym o)

still_needed_same : (m : ℕ) (c : Bool) (spot other : Spot) {stage : Stage} {t : Tree} {rest : TokenList} {qs : List Tree} → SameType true spot.run t rest →
    MoveOf m c spot qs other (keeps_type stage) → (false ≡ c) × (still (also t none) ∷ [] ≡ qs) × (after_type spot stage rest ≡ other)
still_needed_same m c spot other {stage = stage} same (u, r, b, q, o, h) =
    let k = same m u r h in (sym b, still_same k.0 ∙ sym q, ap (λ (x : TokenList). after_type spot stage x) k.1 ∙ sym o)

nested_same : (m : ℕ) (c : Bool) (spot other : Spot) {b : Bool} {inner : Spot} {stage : Stage} {s : Sign} {ps : List Tree} {rest : TokenList} {qs : List Tree} → SameParts b inner ps rest →
    MoveOf m c spot qs other (nests s inner stage) → (b ≡ c) × (sign s ∷ ps ≡ qs) × (after_type spot stage rest ≡ other)
nested_same m c spot other {stage = stage} {s = s} same (us, r, q, o, h) =
    let k = same m c us r h in (k.0, ap (λ (x : List Tree). sign s ∷ x) k.1 ∙ sym q, ap (λ (x : TokenList). after_type spot stage x) k.2 ∙ sym o)

further_same : {n m : ℕ} {b c now onward : Bool} {spot outside : Spot} {front more qs : List Tree} {rest other : TokenList} → b ≡ (now || onward) → IsMove n now spot front outside → SameMove now spot front outside →
    SameParts onward outside more rest → PartsOf m c spot qs other → (b ≡ c) × (front ++ more ≡ qs) × (rest ≡ other)
further_same e a one same (none_follow f b q r) = absurd (ends_no a f)
further_same {m = m} {other = other} e a one same (some_follow now' onward' front' more' outside' c q g h) =
    let k = one m now' front' outside' g in
    let l = same m onward' more' other (subst (λ (x : Spot). AreParts m onward' x more' other) (sym k.2) h) in
    (e ∙ or_same k.0 l.0 ∙ sym c, append_same k.1 l.1 ∙ sym q, l.2)

ended_same : {m : ℕ} {c : Bool} {spot : Spot} {qs : List Tree} {other : TokenList} → next_of spot ≡ ends → PartsOf m c spot qs other → (false ≡ c) × ([] ≡ qs) × (outer spot.run spot.outside ≡ other)
ended_same e (none_follow f b q r) = (sym b, sym q, sym r)
ended_same e (some_follow now onward front others outside c q g h) = absurd (ends_no g e)

mutual
  pub one_type : {n m : ℕ} {plus : Bool} {run rest other : TokenList} {t u : Tree} → IsType n plus run t rest → IsType m plus run u other → Same t rest u other
  one_type (name_alone a e) g = name_same e (type_of g).1
  one_type (formed a e f h) g = formed_same e f (λ m c qs other x. one_parts h x) (type_of g).1

  pub one_move : {n m : ℕ} {b c : Bool} {spot outside other : Spot} {ps qs : List Tree} → IsMove n b spot ps outside → IsMove m c spot qs other → (b ≡ c) × (ps ≡ qs) × (outside ≡ other)
  one_move (a_token e) g = let k = move_as g e in (sym k.0, sym k.1, sym k.2)
  one_move (a_bar e) g = let k = move_as g e in (sym k.0, sym k.1, sym k.2)
  one_move {m = m} {c = c} {spot = spot} {other = other} (a_type e h) g = needed_same m c spot other (λ m u other x. one_type h x) (move_as g e)
  one_move {m = m} {c = c} {spot = spot} {other = other} (a_still_type e h) g = still_needed_same m c spot other (λ m u other x. one_type h x) (move_as g e)
  one_move (still_tokens e) g = let k = move_as g e in (sym k.0, sym k.1, sym k.2)
  one_move {m = m} {c = c} {spot = spot} {other = other} (a_nest e h) g = nested_same m c spot other (λ m c qs other x. one_parts h x) (move_as g e)

  pub one_parts : {n m : ℕ} {b c : Bool} {spot : Spot} {ps qs : List Tree} {rest other : TokenList} → AreParts n b spot ps rest → AreParts m c spot qs other → (b ≡ c) × (ps ≡ qs) × (rest ≡ other)
  one_parts (ended e) g = ended_same e (parts_of g)
  one_parts (further a h e) g = further_same e a (λ m c qs other x. one_move a x) (λ m c qs other x. one_parts h x) (parts_of g)

-- the fault is one of depth, and the type is deeper
abbrev pub IsDeeper : Fault → ℕ → ℕ → Type 0
IsDeeper fault n m = (fault ≡ too_deep) × (n < m)

further_in : {fault : Fault} {n m : ℕ} → 0 < n → IsDeeper fault (n - 1) (m - 1) → IsDeeper fault n m
further_in a d = let h = d.1 in (d.0, omega arith)

abbrev AgainstParts : Fault → ℕ → Spot → Type 0
AgainstParts fault n spot = (m : ℕ) (c : Bool) (qs : List Tree) (other : TokenList) → AreParts m c spot qs other → IsDeeper fault n m

abbrev AgainstMove : Fault → ℕ → Spot → Type 0
AgainstMove fault n spot = (m : ℕ) (c : Bool) (qs : List Tree) (other : Spot) → IsMove m c spot qs other → IsDeeper fault n m

deeper : {n m : ℕ} → n ≡ 0 → 0 < m → IsDeeper too_deep n m
deeper z a = (refl, omega (arith, z, a))

against_unbegun : {n m : ℕ} {plus : Bool} {run other : TokenList} {u : Tree} {fault : Fault} → name_of run ≡ None → begin plus run ≡ refused fault → TypeOf m plus run u other → IsDeeper fault n m
against_unbegun e g (of_word text f t r) = absurd (some_none f e)
against_unbegun e g (of_form s spot ps f h t p) = absurd (let k = sym g ∙ h in cc)

against_unended : {n m : ℕ} {plus b : Bool} {run other : TokenList} {s : Sign} {spot : Spot} {u : Tree} {fault : Fault} → 0 < n → name_of run ≡ None → begin plus run ≡ starts b s spot → AgainstParts fault (n - 1) spot →
    TypeOf m plus run u other → IsDeeper fault n m
against_unended a e g against (of_word text f t r) = absurd (some_none f e)
against_unended {m = m} {other = other} a e g against (of_form s spot ps f h t p) =
    let k = starts_same g h in further_in a (against (m - 1) false ps other (subst (λ (x : Spot). AreParts (m - 1) false x ps other) (sym k.2) p))

or_true : {a b : Bool} → (a || b) ≡ true → a ≡ false → b ≡ false → ⊥
or_true {a} {b} e f g = let k : (false || false) ≡ true = rw (f, g) at e in cc

against_left_out : {n m : ℕ} {plus b c : Bool} {run rest other : TokenList} {s : Sign} {spot : Spot} {ps : List Tree} {u : Tree} {fault : Fault} → name_of run ≡ None → begin plus run ≡ starts b s spot → SameParts c spot ps rest → (b || c) ≡ true →
    TypeOf m plus run u other → IsDeeper fault n m
against_left_out e g same barred (of_word text f t r) = absurd (some_none f e)
against_left_out {m = m} {other = other} e g same barred (of_form s spot qs f h t p) =
    let k = starts_same g h in
    let q = same (m - 1) false qs other (subst (λ (x : Spot). AreParts (m - 1) false x qs other) (sym k.2) p) in
    absurd (or_true barred k.0 q.0)

no_move_ends : {n : ℕ} {spot : Spot} {fault : Fault} → NoMove n spot fault → next_of spot ≡ ends → ⊥
no_move_ends (no_token e) f = let k = sym e ∙ f in cc
no_move_ends (no_type e h) f = let k = sym e ∙ f in cc
no_move_ends (no_still_type e h) f = let k = sym e ∙ f in cc
no_move_ends (no_nest e h) f = let k = sym e ∙ f in cc

against_here : {n m : ℕ} {c : Bool} {spot : Spot} {qs : List Tree} {other : TokenList} {fault : Fault} → NoMove n spot fault → AgainstMove fault n spot → PartsOf m c spot qs other → IsDeeper fault n m
against_here h against (none_follow e b q r) = absurd (no_move_ends h e)
against_here {m = m} h against (some_follow now onward front others outside b q a p) = against m now front outside a

against_later : {n k m : ℕ} {now c : Bool} {spot outside : Spot} {ps qs : List Tree} {other : TokenList} {fault : Fault} → IsMove k now spot ps outside → AgainstParts fault n outside → PartsOf m c spot qs other → IsDeeper fault n m
against_later a against (none_follow e b q r) = absurd (ends_no a e)
against_later {m = m} {other = other} a against (some_follow now onward front others outside b q g p) =
    let k = one_move a g in against m onward others other (subst (λ (x : Spot). AreParts m onward x others other) (sym k.2) p)

mutual
  pub refused_type : {n m : ℕ} {plus : Bool} {run rest : TokenList} {t : Tree} {fault : Fault} → NoType n plus run fault → IsType m plus run t rest → IsDeeper fault n m
  refused_type (deep_name z e) g = deeper z (type_of g).0
  refused_type (deep z e f) g = deeper z (type_of g).0
  refused_type (unbegun e f) g = against_unbegun e f (type_of g).1
  refused_type (unended a e f h) g = against_unended a e f (λ m c qs other x. refused_parts h x) (type_of g).1
  refused_type (left_out front a e f h b i) g = against_left_out e f (λ m c qs other x. one_parts h x) b (type_of g).1

  pub refused_move : {n m : ℕ} {c : Bool} {spot other : Spot} {qs : List Tree} {fault : Fault} → NoMove n spot fault → IsMove m c spot qs other → IsDeeper fault n m
  refused_move (no_token e) g = absurd (move_as g e)
  refused_move (no_type e h) g = let k = move_as g e in refused_type h k.5
  refused_move (no_still_type e h) g = let k = move_as g e in refused_type h k.5
  refused_move (no_nest e h) g = let k = move_as g e in refused_parts h k.4

  pub refused_parts : {n m : ℕ} {c : Bool} {spot : Spot} {qs : List Tree} {other : TokenList} {fault : Fault} → NoParts n spot fault → AreParts m c spot qs other → IsDeeper fault n m
  refused_parts (here h) g = against_here h (λ m c qs other x. refused_move h x) (parts_of g)
  refused_parts (later a h) g = against_later a (λ m c qs other x. refused_parts h x) (parts_of g)

pub not_less : {n : ℕ} {fault : Fault} → IsDeeper fault n n → ⊥
not_less d = let h = d.1 in omega (arith, h)

-- the possible fault
data FaultOf (n : ℕ) (plus : Bool) (run : TokenList) (fault : Fault) : Type 0 where
  of_name : (text : List ℕ) → n ≡ 0 → fault ≡ too_deep → name_of run ≡ Some text → FaultOf n plus run fault
  of_depth : (b : Bool) (s : Sign) (spot : Spot) → n ≡ 0 → fault ≡ too_deep → name_of run ≡ None → begin plus run ≡ starts b s spot → FaultOf n plus run fault
  of_begin : name_of run ≡ None → begin plus run ≡ refused fault → FaultOf n plus run fault
  of_parts : (b : Bool) (s : Sign) (spot : Spot) → 0 < n → name_of run ≡ None → begin plus run ≡ starts b s spot → NoParts (n - 1) spot fault → FaultOf n plus run fault
  of_bar : (b c : Bool) (s : Sign) (spot : Spot) (ps : List Tree) (front rest : TokenList) → 0 < n → name_of run ≡ None → begin plus run ≡ starts b s spot → AreParts (n - 1) c spot ps rest → run ≡ append front rest →
      fault ≡ unsupported (run_span front) → FaultOf n plus run fault

fault_of : {n : ℕ} {plus : Bool} {run : TokenList} {fault : Fault} → NoType n plus run fault → FaultOf n plus run fault
fault_of (deep_name {text = text} z e) = of_name text z refl e
fault_of (deep {barred = b} {s = s} {spot = spot} z e f) = of_depth b s spot z refl e f
fault_of (unbegun e f) = of_begin e f
fault_of (unended {barred = b} {s = s} {spot = spot} a e f h) = of_parts b s spot a e f h
fault_of (left_out {first = b} {other = c} {s = s} {spot = spot} {parts = ps} {rest = rest} front a e f h b' i) = of_bar b c s spot ps front rest a e f h i refl

refuses_starts : {f : First} {b : Bool} {s : Sign} {spot : Spot} {fault : Fault} → f ≡ refused fault → f ≡ starts b s spot → ⊥
refuses_starts e f = let k = sym e ∙ f in cc

refuses_same : {f : First} {fault other : Fault} → f ≡ refused fault → f ≡ refused other → fault ≡ other
refuses_same e f = let k = sym e ∙ f in cc

none_left : {n : ℕ} → n ≡ 0 → 0 < n → ⊥
none_left z a = omega (arith, z, a)

-- the tokens before a rest are unique
append_count : (front rest : TokenList) → count_of (append front rest) ≡ count_of front + count_of rest
append_count no_token_left rest = omega arith
append_count (and_token t front) rest = let h = append_count front rest in omega (arith, h)

one_front : (front other rest : TokenList) → append front rest ≡ append other rest → front ≡ other
one_front no_token_left no_token_left rest e = refl
one_front no_token_left (and_token t other) rest e = absurd (let h = ap count_of e in omega (arith, h, append_count (and_token t other) rest, Rattle.logos_type_reader.proofs.TableSteps.one_token t))
one_front (and_token t front) no_token_left rest e = absurd (let h = ap count_of e in omega (arith, h, append_count (and_token t front) rest, Rattle.logos_type_reader.proofs.TableSteps.one_token t))
one_front (and_token t front) (and_token u other) rest e =
    let k : t ≡ u = cc in let l : append front rest ≡ append other rest = cc in
    ap (λ (x : Rattle.logos_token.specs.Tokens.Token). and_token x front) k ∙ ap (λ (x : TokenList). and_token u x) (one_front front other rest l)

abbrev OneFault : Fault → ℕ → Spot → Type 0
OneFault fault n spot = (other : Fault) → NoParts n spot other → fault ≡ other

name_fault : {n : ℕ} {plus : Bool} {run : TokenList} {text : List ℕ} {other : Fault} → n ≡ 0 → name_of run ≡ Some text → FaultOf n plus run other → too_deep ≡ other
name_fault z e (of_name text y f g) = sym f
name_fault z e (of_depth b s spot y f g h) = sym f
name_fault z e (of_begin f g) = absurd (some_none e f)
name_fault z e (of_parts b s spot a f g h) = absurd (none_left z a)
name_fault z e (of_bar b c s spot ps front rest a f g h i j) = absurd (none_left z a)

depth_fault : {n : ℕ} {plus b : Bool} {run : TokenList} {s : Sign} {spot : Spot} {other : Fault} → n ≡ 0 → begin plus run ≡ starts b s spot → FaultOf n plus run other → too_deep ≡ other
depth_fault z e (of_name text y f g) = sym f
depth_fault z e (of_depth b s spot y f g h) = sym f
depth_fault z e (of_begin f g) = absurd (refuses_starts g e)
depth_fault z e (of_parts b s spot a f g h) = absurd (none_left z a)
depth_fault z e (of_bar b c s spot ps front rest a f g h i j) = absurd (none_left z a)

begin_fault : {n : ℕ} {plus : Bool} {run : TokenList} {fault other : Fault} → name_of run ≡ None → begin plus run ≡ refused fault → FaultOf n plus run other → fault ≡ other
begin_fault e k (of_name text y f g) = absurd (some_none g e)
begin_fault e k (of_depth b s spot y f g h) = absurd (refuses_starts k h)
begin_fault e k (of_begin f g) = refuses_same k g
begin_fault e k (of_parts b s spot a f g h) = absurd (refuses_starts k g)
begin_fault e k (of_bar b c s spot ps front rest a f g h i j) = absurd (refuses_starts k g)

parts_fault : {n : ℕ} {plus b : Bool} {run : TokenList} {s : Sign} {spot : Spot} {fault other : Fault} → 0 < n → name_of run ≡ None → begin plus run ≡ starts b s spot → NoParts (n - 1) spot fault → OneFault fault (n - 1) spot →
    FaultOf n plus run other → fault ≡ other
parts_fault a e k against one (of_name text y f g) = absurd (some_none g e)
parts_fault a e k against one (of_depth b s spot y f g h) = absurd (none_left y a)
parts_fault a e k against one (of_begin f g) = absurd (refuses_starts g k)
parts_fault {n} {other = other} a e k against one (of_parts b s spot a' f g h) = let q = starts_same k g in one other (subst (λ (x : Spot). NoParts (n - 1) x other) (sym q.2) h)
parts_fault {n} a e k against one (of_bar b c s spot ps front rest a' f g h i j) = let q = starts_same k g in absurd (not_less (refused_parts against (subst (λ (x : Spot). AreParts (n - 1) c x ps rest) (sym q.2) h)))

bar_fault : {n : ℕ} {plus b c : Bool} {run rest : TokenList} {s : Sign} {spot : Spot} {ps : List Tree} {other : Fault} (front : TokenList) → 0 < n → name_of run ≡ None → begin plus run ≡ starts b s spot → AreParts (n - 1) c spot ps rest →
    run ≡ append front rest → FaultOf n plus run other → unsupported (run_span front) ≡ other
bar_fault front a e k p i (of_name text y f g) = absurd (some_none g e)
bar_fault front a e k p i (of_depth b s spot y f g h) = absurd (none_left y a)
bar_fault front a e k p i (of_begin f g) = absurd (refuses_starts g k)
bar_fault {n} {c = c} {rest = rest} {ps = ps} front a e k p i (of_parts b s spot a' f g h) = let q = starts_same k g in absurd (not_less (refused_parts h (subst (λ (x : Spot). AreParts (n - 1) c x ps rest) q.2 p)))
bar_fault {n} {c = c} {rest = rest} {ps = ps} front a e k p i (of_bar b d s spot qs front' rest' a' f g h i' j) =
    let q = starts_same k g in
    let l = one_parts (subst (λ (x : Spot). AreParts (n - 1) c x ps rest) q.2 p) h in
    let m : append front rest ≡ append front' rest = sym i ∙ i' ∙ ap (λ (x : TokenList). append front' x) (sym l.2) in
    ap (λ (x : TokenList). unsupported (run_span x)) (one_front front front' rest m) ∙ sym j

-- the moves that are refused there, by the next token
abbrev NoMoveOf : ℕ → Spot → Fault → Move → Type 0
NoMoveOf n spot fault (needs plus stage) = NoType n plus spot.run fault
NoMoveOf n spot fault (keeps_type stage) = NoType n true spot.run fault
NoMoveOf n spot fault (nests s inner stage) = NoParts n inner fault
NoMoveOf n spot fault (stops other) = fault ≡ other
NoMoveOf n spot fault m = ⊥

no_move_of : {n : ℕ} {spot : Spot} {fault : Fault} → NoMove n spot fault → NoMoveOf n spot fault (next_of spot)
no_move_of {n} {spot} {fault} (no_token e) = subst (NoMoveOf n spot fault) (sym e) refl
no_move_of {n} {spot} {fault} (no_type e h) = subst (NoMoveOf n spot fault) (sym e) h
no_move_of {n} {spot} {fault} (no_still_type e h) = subst (NoMoveOf n spot fault) (sym e) h
no_move_of {n} {spot} {fault} (no_nest e h) = subst (NoMoveOf n spot fault) (sym e) h

no_move_as : {n : ℕ} {spot : Spot} {fault : Fault} {m : Move} → NoMove n spot fault → next_of spot ≡ m → NoMoveOf n spot fault m
no_move_as {n} {spot} {fault} h e = subst (NoMoveOf n spot fault) e (no_move_of h)

here_fault : {n : ℕ} {spot : Spot} {fault other : Fault} → NoMove n spot fault → ((x : Fault) → NoMove n spot x → fault ≡ x) → NoParts n spot other → fault ≡ other
here_fault {other = other} h one (here g) = one other g
here_fault h one (later a g) = absurd (not_less (refused_move h a))

later_fault : {n : ℕ} {b : Bool} {spot outside : Spot} {ps : List Tree} {fault other : Fault} → IsMove n b spot ps outside → OneFault fault n outside → NoParts n spot other → fault ≡ other
later_fault a one (here g) = absurd (not_less (refused_move g a))
later_fault {n} {other = other} a one (later c g) = let q = one_move a c in one other (subst (λ (x : Spot). NoParts n x other) (sym q.2) g)

mutual
  pub one_fault : {n : ℕ} {plus : Bool} {run : TokenList} {fault other : Fault} → NoType n plus run fault → NoType n plus run other → fault ≡ other
  one_fault (deep_name z e) g = name_fault z e (fault_of g)
  one_fault (deep z e f) g = depth_fault z f (fault_of g)
  one_fault (unbegun e f) g = begin_fault e f (fault_of g)
  one_fault (unended a e f h) g = parts_fault a e f h (λ other x. one_parts_fault h x) (fault_of g)
  one_fault (left_out front a e f h b i) g = bar_fault front a e f h i (fault_of g)

  one_move_fault : {n : ℕ} {spot : Spot} {fault other : Fault} → NoMove n spot fault → NoMove n spot other → fault ≡ other
  one_move_fault (no_token e) g = sym (no_move_as g e)
  one_move_fault (no_type e h) g = one_fault h (no_move_as g e)
  one_move_fault (no_still_type e h) g = one_fault h (no_move_as g e)
  one_move_fault (no_nest e h) g = one_parts_fault h (no_move_as g e)

  one_parts_fault : {n : ℕ} {spot : Spot} {fault other : Fault} → NoParts n spot fault → NoParts n spot other → fault ≡ other
  one_parts_fault (here h) g = here_fault h (λ x y. one_move_fault h y) g
  one_parts_fault (later a h) g = later_fault a (λ other x. one_parts_fault h x) g
