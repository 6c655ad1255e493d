-- Reading a type depends only on the tokens of the type and the next sign.
use Rattle.std.proofs.Common.{◌≡◌, ℕ, ◌-◌, ◌<◌, ◌||◌, List, [], ◌∷◌, ◌++◌, Bool, true, false, Option, Some, None, refl, sym, ap, ◌∙◌, subst}
use Rattle.logos_lexeme.specs.declared.lexeme.Span.{Span}
use Rattle.logos_lexeme.specs.declared.lexeme.Delimiter.{Delimiter}
use Rattle.logos_token.specs.Tokens.{Token, TokenList, group, none, also, append, rest_of}
use Rattle.logos_type.specs.Parts.{Sign, Tree, sign, name, whole, still, trees, none as no_part, also as and_part}
use Rattle.logos_type_reader.specs.StillRuns.{still_run}
use Rattle.logos_type_reader.specs.declared.table.stage.Stage.{Stage}
use Rattle.logos_type_reader.specs.Table.{Spot, outer, Move, ends, takes, bars, needs, keeps_type, keeps, nests, starts, to, next_at, begin, name_of}
use Rattle.logos_type_reader.specs.Reading.{IsType, name_alone, formed, IsMove, a_token, a_bar, a_type, a_still_type, still_tokens, a_nest, AreParts, ended, further, next_of}
use Rattle.logos_type_reader.specs.FaultStages.{SameSign}
use Rattle.logos_type_reader.proofs.SameSigns.{ForSeen, for_same, same_self, same_append, seen_after, append_over, append_none}
use Rattle.logos_type_reader.proofs.TableLocal.{SameOpen, Passes, over, into, out, Local, moves_local}
use Rattle.logos_type_reader.proofs.BeginLocal.{Begun, by_tokens, by_group, begin_local, NameLocal, name_local, unnamed_local}

-- the move at this spot
pub local_move : (spot : Spot) {m : Move} → next_of spot ≡ m → Local (next_at spot.stage) spot.run spot.outside m
local_move spot e = subst (Local (next_at spot.stage) spot.run spot.outside) e (moves_local spot.stage spot.run spot.outside)

-- the spot with other tokens after all that is open
abbrev pub with_outer : Stage → TokenList → Option TokenList → TokenList → Spot
with_outer p run None x = to p x None
with_outer p run (Some rest) x = to p run (Some x)

-- a type depends only on its tokens and on the next sign
pub record TypeLocal (n : ℕ) (plus : Bool) (run : TokenList) (t : Tree) (rest : TokenList) : Type 0 where
  pub first : Token
  pub front : TokenList
  pub is : run ≡ also first (append front rest)
  pub same : (other : TokenList) → SameSign rest other → IsType n plus (also first (append front other)) t other

-- and so do parts
pub record PartsLocal (n : ℕ) (b : Bool) (p : Stage) (run : TokenList) (b0 : Option TokenList) (ps : List Tree) (rest : TokenList) : Type 0 where
  pub front : TokenList
  pub is : outer run b0 ≡ append front rest
  pub same : (other : TokenList) → SameSign rest other → AreParts n b (with_outer p run b0 (append front other)) ps other

abbrev pub MoveLocal : ℕ → Bool → Stage → TokenList → Option TokenList → List Tree → Spot → Type 0
MoveLocal n b p run b0 ps afterward = Passes (λ x c z. IsMove n b (to p x c) ps z) run b0 afterward

map_passes : (P Q : TokenList → Option TokenList → Spot → Type 0) {run : TokenList} {b : Option TokenList} {spot : Spot} → ((x : TokenList) (c : Option TokenList) (z : Spot) → P x c z → Q x c z) → Passes P run b spot → Passes Q run b spot
map_passes P Q f (over front e g k) = over front e g (λ x c o h. f _ c _ (k x c o h))
map_passes P Q f (into d s rest e g h k) = into d s rest e g h (λ t i x. f _ None _ (k t i x))
map_passes P Q f (out e g k) = out e g (λ x. f _ (Some x) _ (k x))

same_over : {run rest : TokenList} (front : TokenList) {other : TokenList} → run ≡ append front rest → SameSign rest other → SameSign run (append front other)
same_over front {other} e h = subst (λ (x : TokenList). SameSign x (append front other)) (sym e) (same_append front h)

ended_local : (n : ℕ) (p : Stage) (run : TokenList) (b : Option TokenList) → next_at p run b ≡ ends → PartsLocal n false p run b [] (outer run b)
ended_local n p run None e = record {
  front = none;
  is = refl;
  same = λ other h. ended (for_same (λ (x : TokenList). (c : Option TokenList) → SameOpen None c → next_at p x c ≡ ends) (local_move (to p run None) e) h None tt);
}
ended_local n p run (Some rest) e = record {
  front = none;
  is = refl;
  same = λ other h. ended (for_same (λ (x : TokenList). (c : Option TokenList) → SameOpen (Some rest) c → next_at p x c ≡ ends) (local_move (to p run (Some rest)) e) (same_self run) (Some other) tt);
}

-- a move and the parts after it
over_parts : (n : ℕ) (now onward barred : Bool) (p q : Stage) (front r : TokenList) (b : Option TokenList) (ps qs : List Tree) (rest : TokenList) → barred ≡ (now || onward) →
    ((x : TokenList) (c : Option TokenList) → SameOpen b c → SameSign r x → IsMove n now (to p (append front x) c) ps (to q x c)) → PartsLocal n onward q r b qs rest → PartsLocal n barred p (append front r) b (ps ++ qs) rest
over_parts n now onward barred p q front r None ps qs rest e k l = record {
  front = append front l.front;
  is = ap (λ (x : TokenList). append front x) l.is ∙ append_over front l.front rest;
  same = λ other h. subst (λ (x : TokenList). AreParts n barred (to p x None) (ps ++ qs) other) (append_over front l.front other) (further (k (append l.front other) None tt (same_over l.front l.is h)) (l.same other h) e);
}
over_parts n now onward barred p q front r (Some a) ps qs rest e k l = record {
  front = l.front;
  is = l.is;
  same = λ other h. further (k r (Some (append l.front other)) tt (same_self r)) (l.same other h) e;
}

into_parts : (n : ℕ) (now onward barred : Bool) (p q : Stage) (d : Delimiter) (s : Span) (r after : TokenList) (ps qs : List Tree) (rest : TokenList) → barred ≡ (now || onward) →
    ((t : Span) (inside other : TokenList) → IsMove n now (to p (also (group d t inside) other) None) ps (to q inside (Some other))) → PartsLocal n onward q r (Some after) qs rest →
    PartsLocal n barred p (also (group d s r) after) None (ps ++ qs) rest
into_parts n now onward barred p q d s r after ps qs rest e k l = record {
  front = also (group d s r) l.front;
  is = ap (λ (x : TokenList). also (group d s r) x) l.is;
  same = λ other h. further (k s r (append l.front other)) (l.same other h) e;
}

out_parts : (n : ℕ) (now onward barred : Bool) (p q : Stage) (run r : TokenList) (ps qs : List Tree) (rest : TokenList) → barred ≡ (now || onward) →
    ((other : TokenList) → IsMove n now (to p run (Some other)) ps (to q other None)) → PartsLocal n onward q r None qs rest → PartsLocal n barred p run (Some r) (ps ++ qs) rest
out_parts n now onward barred p q run r ps qs rest e k l = record {
  front = l.front;
  is = l.is;
  same = λ other h. further (k (append l.front other)) (l.same other h) e;
}

further_local : {n : ℕ} {now onward barred : Bool} {p : Stage} {run : TokenList} {b : Option TokenList} {afterward : Spot} {ps qs : List Tree} {rest : TokenList} → barred ≡ (now || onward) → MoveLocal n now p run b ps afterward →
    PartsLocal n onward afterward.stage afterward.run afterward.outside qs rest → PartsLocal n barred p run b (ps ++ qs) rest
further_local {n} {now} {onward} {barred} {p} {run} {b} {afterward} {ps} {qs} {rest} e (over front f g k) l =
    subst (λ (x : TokenList). PartsLocal n barred p x b (ps ++ qs) rest) (sym f)
    (over_parts n now onward barred p afterward.stage front afterward.run b ps qs rest e k (subst (λ (x : Option TokenList). PartsLocal n onward afterward.stage afterward.run x qs rest) (sym g) l))
further_local {n} {now} {onward} {barred} {p} {run} {b} {afterward} {ps} {qs} {rest} e (into d s after f g h k) l =
    subst (λ (x : Option TokenList). PartsLocal n barred p run x (ps ++ qs) rest) (sym g)
    (subst (λ (x : TokenList). PartsLocal n barred p x None (ps ++ qs) rest) (sym f)
    (into_parts n now onward barred p afterward.stage d s afterward.run after ps qs rest e k (subst (λ (x : Option TokenList). PartsLocal n onward afterward.stage afterward.run x qs rest) h l)))
further_local {n} {now} {onward} {barred} {p} {run} {b} {afterward} {ps} {qs} {rest} e (out f g k) l =
    subst (λ (x : Option TokenList). PartsLocal n barred p run x (ps ++ qs) rest) (sym f)
    (out_parts n now onward barred p afterward.stage run afterward.run ps qs rest e k (subst (λ (x : Option TokenList). PartsLocal n onward afterward.stage afterward.run x qs rest) g l))

-- a type inside
needed_local : (n : ℕ) (p q : Stage) (plus : Bool) (run : TokenList) (b : Option TokenList) (t : Tree) (rest : TokenList) → next_at p run b ≡ needs plus q → TypeLocal n plus run t rest → MoveLocal n false p run b (t ∷ []) (to q rest b)
needed_local n p q plus run b t rest e l =
    let F : (TokenList → Type 0) = λ (x : TokenList). (c : Option TokenList) → SameOpen b c → next_at p x c ≡ needs plus q in
    let k : ForSeen (also l.first (append l.front rest)) F = subst (λ (x : TokenList). ForSeen x F) l.is (local_move (to p run b) e) in
    over (also l.first l.front) l.is refl (λ x c o h. a_type (seen_after F l.first k (same_append l.front h) c o) (l.same x h))

still_local : (n : ℕ) (p q : Stage) (run : TokenList) (b : Option TokenList) (t : Tree) (rest : TokenList) → next_at p run b ≡ keeps_type q → TypeLocal n true run t rest →
    MoveLocal n false p run b (still (and_part t no_part) ∷ []) (to q rest b)
still_local n p q run b t rest e l =
    let k : ((x : TokenList) (c : Option TokenList) → next_at p x c ≡ keeps_type q) = local_move (to p run b) e in
    over (also l.first l.front) l.is refl (λ x c o h. a_still_type (k (also l.first (append l.front x)) c) (l.same x h))

tokens_local : (n : ℕ) (p : Stage) (run : TokenList) (b : Option TokenList) (other : TokenList) (afterward : Spot) → next_at p run b ≡ keeps other afterward → MoveLocal n false p run b (still (trees (still_run other)) ∷ []) afterward
tokens_local n p run b other afterward e =
    let k : (other ≡ run) × (afterward ≡ to afterward.stage none b) × ((c : Option TokenList) → SameOpen b c → next_at p run c ≡ keeps run (to afterward.stage none c)) = local_move (to p run b) e in
    subst (λ (x : TokenList). MoveLocal n false p run b (still (trees (still_run x)) ∷ []) afterward) (sym k.0)
    (subst (MoveLocal n false p run b (still (trees (still_run run)) ∷ [])) (sym k.1) (over run (append_none run) refl (λ x c o h. go afterward.stage x c (k.2 c o) h)))
  where
    go : (q : Stage) (x : TokenList) (c : Option TokenList) → next_at p run c ≡ keeps run (to q none c) → SameSign none x → IsMove n false (to p (append run x) c) (still (trees (still_run run)) ∷ []) (to q x c)
    go q none c f h = subst (λ (y : TokenList). IsMove n false (to p y c) (still (trees (still_run run)) ∷ []) (to q none c)) (append_none run) (still_tokens f)
    go q (also t x) c f h = elim h [ ]

nested_local : (n : ℕ) (barred : Bool) (p q i : Stage) (front r : TokenList) (b : Option TokenList) (s : Sign) (ps : List Tree) (rest : TokenList) →
    ((x : TokenList) (c : Option TokenList) → SameOpen b c → SameSign r x → next_at p (append front x) c ≡ nests s (to i x None) q) → PartsLocal n barred i r None ps rest → MoveLocal n barred p (append front r) b (sign s ∷ ps) (to q rest b)
nested_local n barred p q i front r b s ps rest k l =
    over (append front l.front) (ap (λ (x : TokenList). append front x) l.is ∙ append_over front l.front rest) refl
    (λ x c o h. subst (λ (y : TokenList). IsMove n barred (to p y c) (sign s ∷ ps) (to q x c)) (append_over front l.front x) (a_nest (k (append l.front x) c o (same_over l.front l.is h)) (l.same x h)))

nest_local : (n : ℕ) (barred : Bool) (p q : Stage) (run : TokenList) (b : Option TokenList) (s : Sign) (inner : Spot) (ps : List Tree) (rest : TokenList) → next_at p run b ≡ nests s inner q →
    PartsLocal n barred inner.stage inner.run inner.outside ps rest → MoveLocal n barred p run b (sign s ∷ ps) (to q rest b)
nest_local n barred p q run b s inner ps rest e l = go (local_move (to p run b) e)
  where
    go : ((front : TokenList) × (run ≡ append front inner.run) × (inner.outside ≡ None)
        × ((x : TokenList) (c : Option TokenList) → SameOpen b c → SameSign inner.run x → next_at p (append front x) c ≡ nests s (to inner.stage x None) q)) → MoveLocal n barred p run b (sign s ∷ ps) (to q rest b)
    go (front, f, g, k) = subst (λ (x : TokenList). MoveLocal n barred p x b (sign s ∷ ps) (to q rest b)) (sym f)
        (nested_local n barred p q inner.stage front inner.run b s ps rest k (subst (λ (x : Option TokenList). PartsLocal n barred inner.stage inner.run x ps rest) g l))

-- a type from its first token on
pub record FormLocal (m : ℕ) (plus b other : Bool) (run : TokenList) (s : Sign) (ps : List Tree) (rest : TokenList) : Type 0 where
  pub first : Token
  pub front : TokenList
  pub is : run ≡ also first (append front rest)
  pub same : (x : TokenList) → SameSign rest x → (z : Spot) × (begin plus (also first (append front x)) ≡ starts b s z) × AreParts m other z ps x

pub form_local : (m : ℕ) (plus b other : Bool) (run : TokenList) (s : Sign) (spot : Spot) (ps : List Tree) (rest : TokenList) → begin plus run ≡ starts b s spot → PartsLocal m other spot.stage spot.run spot.outside ps rest →
    FormLocal m plus b other run s ps rest
form_local m plus b other run s spot ps rest e l = go (begin_local plus run e)
  where
    go : Begun plus run b s spot → FormLocal m plus b other run s ps rest
    go (by_tokens t front f g k) = let n : PartsLocal m other spot.stage spot.run None ps rest = subst (λ (x : Option TokenList). PartsLocal m other spot.stage spot.run x ps rest) g l in record {
      first = t;
      front = append front n.front;
      is = f ∙ ap (λ (x : TokenList). also t (append front x)) n.is ∙ ap (λ (x : TokenList). also t x) (append_over front n.front rest);
      same = λ x h. (to spot.stage (append n.front x) None, subst (λ (y : TokenList). begin plus (also t y) ≡ starts b s (to spot.stage (append n.front x) None)) (append_over front n.front x) (k (append n.front x) (same_over n.front n.is h)), n.same x h);
    }
    go (by_group d t after f g k) = let n : PartsLocal m other spot.stage spot.run (Some after) ps rest = subst (λ (x : Option TokenList). PartsLocal m other spot.stage spot.run x ps rest) g l in record {
      first = group d t spot.run;
      front = n.front;
      is = f ∙ ap (λ (x : TokenList). also (group d t spot.run) x) n.is;
      same = λ x h. (to spot.stage spot.run (Some (append n.front x)), k t spot.run (append n.front x), n.same x h);
    }

pub unnamed_same : (run : TokenList) (first : Token) (front rest x : TokenList) → name_of run ≡ None → run ≡ also first (append front rest) → SameSign rest x → name_of (also first (append front x)) ≡ None
unnamed_same run first front rest x e f h =
    let k : ForSeen (also first (append front rest)) (λ (y : TokenList). name_of y ≡ None) = subst (λ (y : TokenList). ForSeen y (λ (z : TokenList). name_of z ≡ None)) f (unnamed_local run e) in
    seen_after (λ (y : TokenList). name_of y ≡ None) first k (same_append front h)

formed_local : {n : ℕ} {plus : Bool} {run : TokenList} {s : Sign} {ps : List Tree} {rest : TokenList} → 0 < n → name_of run ≡ None → FormLocal (n - 1) plus false false run s ps rest → TypeLocal n plus run (whole (trees (sign s ∷ ps))) rest
formed_local {run = run} {rest = rest} a e l = record {
  first = l.first;
  front = l.front;
  is = l.is;
  same = λ x h. let k = l.same x h in formed a (unnamed_same run l.first l.front rest x e l.is h) k.1 k.2;
}

name_type : {n : ℕ} {plus : Bool} (run : TokenList) {text : List ℕ} → 0 < n → NameLocal run text → TypeLocal n plus run (name text) (rest_of run)
name_type {n} {plus} run {text} a l = subst (TypeLocal n plus run (name text)) (ap rest_of (sym l.is)) (record { first = l.first; front = none; is = l.is; same = λ x h. name_alone a (l.same x h) })

mutual
  pub type_local : {n : ℕ} {plus : Bool} {run : TokenList} {t : Tree} {rest : TokenList} → IsType n plus run t rest → TypeLocal n plus run t rest
  type_local (name_alone {run = run} {text = text} a e) = name_type run a (name_local run text e)
  type_local (formed {levels = n} {plus = plus} {run = run} {s = s} {spot = spot} {parts = ps} {rest = rest} a e f h) = formed_local a e (form_local (n - 1) plus false false run s spot ps rest f (parts_local h))

  pub move_local : {n : ℕ} {b : Bool} {spot : Spot} {ps : List Tree} {afterward : Spot} → IsMove n b spot ps afterward → MoveLocal n b spot.stage spot.run spot.outside ps afterward
  move_local (a_token {levels = n} {spot = spot} {s = s} e) =
      map_passes (λ x c z. next_at spot.stage x c ≡ takes s z) (λ x c z. IsMove n false (to spot.stage x c) (sign s ∷ []) z) (λ x c z k. a_token k) (local_move spot e)
  move_local (a_bar {levels = n} {spot = spot} {s = s} e) =
      map_passes (λ x c z. next_at spot.stage x c ≡ bars s z) (λ x c z. IsMove n true (to spot.stage x c) (sign s ∷ []) z) (λ x c z k. a_bar k) (local_move spot e)
  move_local (a_type {levels = n} {spot = spot} {plus = plus} {stage = q} {part = t} {rest = rest} e h) = needed_local n spot.stage q plus spot.run spot.outside t rest e (type_local h)
  move_local (a_still_type {levels = n} {spot = spot} {stage = q} {part = t} {rest = rest} e h) = still_local n spot.stage q spot.run spot.outside t rest e (type_local h)
  move_local (still_tokens {levels = n} {spot = spot} {run = other} {next = afterward} e) = tokens_local n spot.stage spot.run spot.outside other afterward e
  move_local (a_nest {levels = n} {barred = b} {spot = spot} {s = s} {inner = inner} {stage = q} {parts = ps} {rest = rest} e h) = nest_local n b spot.stage q spot.run spot.outside s inner ps rest e (parts_local h)

  pub parts_local : {n : ℕ} {b : Bool} {spot : Spot} {ps : List Tree} {rest : TokenList} → AreParts n b spot ps rest → PartsLocal n b spot.stage spot.run spot.outside ps rest
  parts_local (ended {levels = n} {spot = spot} e) = ended_local n spot.stage spot.run spot.outside e
  parts_local (further m a e) = further_local e (move_local m) (parts_local a)
