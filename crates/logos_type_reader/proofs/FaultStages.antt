-- A run has the same fault as another one with the same tokens before the fault and the same sign
-- at it.
use Rattle.std.proofs.Common.{◌≡◌, ℕ, ◌-◌, ◌<◌, ◌||◌, ◌⊎◌, inl, inr, List, Bool, true, false, Option, Some, None, refl, sym, ap, ◌∙◌, subst}
use Rattle.logos_lexeme.specs.declared.lexeme.Span.{Span}
use Rattle.logos_lexeme.specs.declared.lexeme.Delimiter.{Delimiter}
use Rattle.logos_token.specs.Tokens.{Token, TokenList, group, also, append, run_span}
use Rattle.logos_type.specs.Parts.{Sign, Tree}
use Rattle.logos_type_reader.specs.declared.table.stage.Stage.{Stage}
use Rattle.logos_type_reader.specs.Table.{Spot, needs, keeps_type, nests, starts, Fault, unsupported, mismatch, too_deep, to, next_at, begin, name_of, first_span}
use Rattle.logos_type_reader.specs.Reading.{NoType, deep_name, deep, unbegun, unended, left_out, NoMove, no_token, no_type, no_still_type, no_nest, NoParts, here, later}
use Rattle.logos_type_reader.specs.FaultStages.{Front, start, past, within, IsAt, at_start, past_token, in_group, SameSign, OccursAt, fault_at, FaultStage}
use Rattle.logos_type_reader.proofs.SameSigns.{ForSeen, same_self, same_at, seen_after, seen_unnamed, begins_name, front_same, in_front, at_after, Past, past_of, front_of_is, ends_past, ends_within, ends_after, at_start_is, FirstToken, past_first, FirstGroup, within_first}
use Rattle.logos_type_reader.proofs.TableLocal.{SameOpen, over, into, out, Stops}
use Rattle.logos_type_reader.proofs.BeginLocal.{Begun, by_tokens, by_group, Refuses, at_once, after_some, begin_local, unnamed_local}
use Rattle.logos_type_reader.proofs.TypesLocal.{local_move, MoveLocal, FormLocal, form_local, unnamed_same, parts_local, move_local}

-- a fault at a spot: in the run, or after the group that is open
data FixedAt (Q : TokenList → Option TokenList → Fault → Type 0) (run : TokenList) (b : Option TokenList) (fault : Fault) : Type 0 where
  inner_stage : (front : Front) (left : TokenList) → IsAt front run left → OccursAt fault front left →
      ((other l : TokenList) (c : Option TokenList) → IsAt front other l → SameOpen b c → SameSign left l → Q other c (fault_at fault l)) → FixedAt Q run b fault
  outer_stage : (rest : TokenList) (front : Front) (left : TokenList) → b ≡ Some rest → IsAt front rest left → OccursAt fault front left →
      ((other l : TokenList) → IsAt front other l → SameSign left l → Q run (Some other) (fault_at fault l)) → FixedAt Q run b fault

-- no name comes first, if nothing is in front
abbrev Fresh : Front → TokenList → Type 0
Fresh start run = begins_name run ≡ false
Fresh (past t front) run = Unit {0}
Fresh (within d front) run = Unit {0}

record FixedType (n : ℕ) (plus : Bool) (run : TokenList) (fault : Fault) : Type 0 where
  front : Front
  left : TokenList
  is : IsAt front run left
  occurs : OccursAt fault front left
  fresh : Fresh front run
  decides : (other l : TokenList) → IsAt front other l → SameSign left l → NoType n plus other (fault_at fault l)

-- a fault with a spot
abbrev pub Placed : Fault → Type 0
Placed (mismatch span) = Unit {0}
Placed (unsupported span) = Unit {0}
Placed too_deep = ⊥

occurs_past : (fault : Fault) (t : Token) (front : Front) (left : TokenList) → OccursAt fault front left → OccursAt fault (past t front) left
occurs_past (mismatch span) t front left h = h
occurs_past (unsupported span) t front left h = ends_past t h
occurs_past too_deep t front left h = h

occurs_within : (fault : Fault) (d : Delimiter) (front : Front) (left : TokenList) → OccursAt fault front left → OccursAt fault (within d front) left
occurs_within (mismatch span) d front left h = h
occurs_within (unsupported span) d front left h = ends_within d h
occurs_within too_deep d front left h = h

occurs_after : (fault : Fault) (tokens : TokenList) (front : Front) (left : TokenList) → OccursAt fault front left → OccursAt fault (in_front tokens front) left
occurs_after (mismatch span) tokens front left h = h
occurs_after (unsupported span) tokens front left h = ends_after tokens h
occurs_after too_deep tokens front left h = h

map_fixed : (P Q : TokenList → Option TokenList → Fault → Type 0) {run : TokenList} {b : Option TokenList} {fault : Fault} → ((x : TokenList) (c : Option TokenList) (f : Fault) → P x c f → Q x c f) → FixedAt P run b fault → FixedAt Q run b fault
map_fixed P Q k (inner_stage front left a s d) = inner_stage front left a s (λ other l c at o h. k other c _ (d other l c at o h))
map_fixed P Q k (outer_stage rest front left e a s d) = outer_stage rest front left e a s (λ other l at h. k _ (Some other) _ (d other l at h))

-- a fault after tokens
over_fixed : (P Q : TokenList → Option TokenList → Fault → Type 0) (tokens r : TokenList) (b : Option TokenList) (fault : Fault) →
    ((x : TokenList) (c : Option TokenList) (f : Fault) → SameOpen b c → SameSign r x → P x c f → Q (append tokens x) c f) → FixedAt P r b fault → FixedAt Q (append tokens r) b fault
over_fixed P Q tokens r b fault k (inner_stage front left a s d) = inner_stage (in_front tokens front) left (at_after tokens a) (occurs_after fault tokens front left s)
    (λ other l c at o h. let q : Past tokens front other l = past_of tokens at in
    subst (λ (x : TokenList). Q x c (fault_at fault l)) (sym q.is) (k q.rest c (fault_at fault l) o (same_at a q.at h) (d q.rest l c q.at o h)))
over_fixed P Q tokens r b fault k (outer_stage rest front left e a s d) = outer_stage rest front left e a s
    (λ other l at h. k r (Some other) (fault_at fault l) (subst (λ (x : Option TokenList). SameOpen x (Some other)) (sym e) tt) (same_self r) (d other l at h))

-- a fault after the opening of a group
into_fixed : (P Q : TokenList → Option TokenList → Fault → Type 0) (d : Delimiter) (s : Span) (r after : TokenList) (fault : Fault) →
    ((t : Span) (inside other : TokenList) (f : Fault) → P inside (Some other) f → Q (also (group d t inside) other) None f) → FixedAt P r (Some after) fault → FixedAt Q (also (group d s r) after) None fault
into_fixed P Q d s r after fault k (inner_stage front left a st decides) = inner_stage (within d front) left (in_group a) (occurs_within fault d front left st)
    (λ other l c at o h. let q : FirstGroup d front other l = within_first at in
    go other l c o q (decides q.inside l (Some q.rest) q.at tt h))
  where
    go : (other l : TokenList) (c : Option TokenList) → SameOpen None c → (q : FirstGroup d front other l) → P q.inside (Some q.rest) (fault_at fault l) → Q other c (fault_at fault l)
    go other l None o q h = subst (λ (x : TokenList). Q x None (fault_at fault l)) (sym q.is) (k q.span q.inside q.rest (fault_at fault l) h)
    go other l (Some x) o q h = absurd o
into_fixed P Q d s r after fault k (outer_stage rest front left e a st decides) =
    inner_stage (past (group d s r) front) left (past_token (subst (λ (x : TokenList). IsAt front x left) (same_rest e) a)) (occurs_past fault (group d s r) front left st)
    (λ other l c at o h. let q : FirstToken (group d s r) front other l = past_first at in go other l c o q (decides q.rest l q.at h))
  where
    same_rest : {x y : TokenList} → Some x ≡ Some y → y ≡ x
    same_rest e = cc

    go : (other l : TokenList) (c : Option TokenList) → SameOpen None c → (q : FirstToken (group d s r) front other l) → P r (Some q.rest) (fault_at fault l) → Q other c (fault_at fault l)
    go other l None o q h = subst (λ (x : TokenList). Q x None (fault_at fault l)) (sym q.is) (k s r q.rest (fault_at fault l) h)
    go other l (Some x) o q h = absurd o

-- a fault after the closing of a group
out_fixed : (P Q : TokenList → Option TokenList → Fault → Type 0) (run r : TokenList) (fault : Fault) → ((other : TokenList) (f : Fault) → P other None f → Q run (Some other) f) → FixedAt P r None fault → FixedAt Q run (Some r) fault
out_fixed P Q run r fault k (inner_stage front left a s d) = outer_stage r front left refl a s (λ other l at h. k other (fault_at fault l) (d other l None at tt h))
out_fixed P Q run r fault k (outer_stage rest front left e a s d) = cc

-- a fault after a move
later_fixed : {n : ℕ} {now : Bool} {p : Stage} {run : TokenList} {b : Option TokenList} {afterward : Spot} {ps : List Tree} {fault : Fault} → MoveLocal n now p run b ps afterward →
    FixedAt (λ x c f. NoParts n (to afterward.stage x c) f) afterward.run afterward.outside fault → FixedAt (λ x c f. NoParts n (to p x c) f) run b fault
later_fixed {n} {now} {p} {run} {b} {afterward} {ps} {fault} (over front e g k) l =
    subst (λ (x : TokenList). FixedAt (λ y c f. NoParts n (to p y c) f) x b fault) (sym e)
    (over_fixed (λ x c f. NoParts n (to afterward.stage x c) f) (λ x c f. NoParts n (to p x c) f) front afterward.run b fault (λ x c f o h m. later (k x c o h) m)
    (subst (λ (x : Option TokenList). FixedAt (λ y c f. NoParts n (to afterward.stage y c) f) afterward.run x fault) (sym g) l))
later_fixed {n} {now} {p} {run} {b} {afterward} {ps} {fault} (into d s after e g h k) l =
    subst (λ (x : Option TokenList). FixedAt (λ y c f. NoParts n (to p y c) f) run x fault) (sym g)
    (subst (λ (x : TokenList). FixedAt (λ y c f. NoParts n (to p y c) f) x None fault) (sym e)
    (into_fixed (λ x c f. NoParts n (to afterward.stage x c) f) (λ x c f. NoParts n (to p x c) f) d s afterward.run after fault (λ t i x f m. later (k t i x) m)
    (subst (λ (x : Option TokenList). FixedAt (λ y c f. NoParts n (to afterward.stage y c) f) afterward.run x fault) h l)))
later_fixed {n} {now} {p} {run} {b} {afterward} {ps} {fault} (out e g k) l =
    subst (λ (x : Option TokenList). FixedAt (λ y c f. NoParts n (to p y c) f) run x fault) (sym e)
    (out_fixed (λ x c f. NoParts n (to afterward.stage x c) f) (λ x c f. NoParts n (to p x c) f) run afterward.run fault (λ x f m. later (k x) m)
    (subst (λ (x : Option TokenList). FixedAt (λ y c f. NoParts n (to afterward.stage y c) f) afterward.run x fault) g l))

-- a property of the run from its front on
from_front : (F : TokenList → Type 0) {front : Front} {run left other l : TokenList} → Fresh front run → ForSeen run F → IsAt front run left → IsAt front other l → SameSign left l → F other
from_front F {run = run} n k at_start at_start h = seen_unnamed F run n k h
from_front F n k (past_token {token = t} a) (past_token b) h = seen_after F t k (same_at a b h)
from_front F n k (in_group a) (in_group b) h = k _ _ _

stop_fixed : (n : ℕ) (p : Stage) (run : TokenList) (b : Option TokenList) (fault : Fault) → Stops (next_at p) run b fault → FixedAt (λ x c f. NoMove n (to p x c) f) run b fault
stop_fixed n p run b fault (front, left, e, f, k) =
    subst (λ (x : Fault). FixedAt (λ y c g. NoMove n (to p y c) g) run b x) (sym f)
    (inner_stage (in_front front start) left (subst (λ (x : TokenList). IsAt (in_front front start) x left) (sym e) (at_after front at_start)) refl
    (λ other l c at o h. let q : Past front start other l = past_of front at in
    let r : other ≡ append front l = q.is ∙ ap (λ (x : TokenList). append front x) (at_start_is q.at) in
    subst (λ (x : TokenList). NoMove n (to p x c) (mismatch (first_span l))) (sym r) (no_token (k l c o h))))

need_fixed : (n : ℕ) (p q : Stage) (plus : Bool) (run : TokenList) (b : Option TokenList) (fault : Fault) → next_at p run b ≡ needs plus q → FixedType n plus run fault → FixedAt (λ x c f. NoMove n (to p x c) f) run b fault
need_fixed n p q plus run b fault e l = inner_stage l.front l.left l.is l.occurs
    (λ other m c at o h. no_type (from_front (λ (x : TokenList). (c : Option TokenList) → SameOpen b c → next_at p x c ≡ needs plus q) l.fresh (local_move (to p run b) e) l.is at h c o) (l.decides other m at h))

still_fixed : (n : ℕ) (p q : Stage) (run : TokenList) (b : Option TokenList) (fault : Fault) → next_at p run b ≡ keeps_type q → FixedType n true run fault → FixedAt (λ x c f. NoMove n (to p x c) f) run b fault
still_fixed n p q run b fault e l =
    let k : ((x : TokenList) (c : Option TokenList) → next_at p x c ≡ keeps_type q) = local_move (to p run b) e in
    inner_stage l.front l.left l.is l.occurs (λ other m c at o h. no_still_type (k other c) (l.decides other m at h))

nest_fixed : (n : ℕ) (p q : Stage) (run : TokenList) (b : Option TokenList) (s : Sign) (inner : Spot) (fault : Fault) → next_at p run b ≡ nests s inner q →
    FixedAt (λ x c f. NoParts n (to inner.stage x c) f) inner.run inner.outside fault → FixedAt (λ x c f. NoMove n (to p x c) f) run b fault
nest_fixed n p q run b s inner fault e l = go (local_move (to p run b) e) l
  where
    inside : (front : TokenList) → run ≡ append front inner.run → ((x : TokenList) (c : Option TokenList) → SameOpen b c → SameSign inner.run x → next_at p (append front x) c ≡ nests s (to inner.stage x None) q) →
        FixedAt (λ x c f. NoParts n (to inner.stage x c) f) inner.run None fault → FixedAt (λ x c f. NoMove n (to p x c) f) run b fault
    inside tokens f k (inner_stage front left a st d) = inner_stage (in_front tokens front) left (subst (λ (x : TokenList). IsAt (in_front tokens front) x left) (sym f) (at_after tokens a)) (occurs_after fault tokens front left st)
        (λ other l c at o h. let z : Past tokens front other l = past_of tokens at in
        subst (λ (x : TokenList). NoMove n (to p x c) (fault_at fault l)) (sym z.is) (no_nest (k z.rest c o (same_at a z.at h)) (d z.rest l None z.at tt h)))
    inside tokens f k (outer_stage rest front left g a st d) = cc

    go : ((front : TokenList) × (run ≡ append front inner.run) × (inner.outside ≡ None)
        × ((x : TokenList) (c : Option TokenList) → SameOpen b c → SameSign inner.run x → next_at p (append front x) c ≡ nests s (to inner.stage x None) q)) →
        FixedAt (λ x c f. NoParts n (to inner.stage x c) f) inner.run inner.outside fault → FixedAt (λ x c f. NoMove n (to p x c) f) run b fault
    go (front, f, g, k) l = inside front f k (subst (λ (x : Option TokenList). FixedAt (λ y c f. NoParts n (to inner.stage y c) f) inner.run x fault) g l)

-- a type that does not begin
unbegun_fixed : (n : ℕ) (plus : Bool) (run : TokenList) (fault : Fault) → name_of run ≡ None → Refuses plus run fault → FixedType n plus run fault
unbegun_fixed n plus run fault e (at_once m f k) = subst (FixedType n plus run) (sym f) (record {
  front = start;
  left = run;
  is = at_start;
  occurs = refl;
  fresh = m;
  decides = λ other l at h. subst (λ (x : TokenList). NoType n plus x (mismatch (first_span l))) (sym (at_start_is at)) (unbegun (seen_unnamed (λ (x : TokenList). name_of x ≡ None) run m (unnamed_local run e) h) (k l h));
})
unbegun_fixed n plus run fault e (after_some t tokens left f st k) = record {
  front = past t (in_front tokens start);
  left = left;
  is = subst (λ (x : TokenList). IsAt (past t (in_front tokens start)) x left) (sym f) (past_token (at_after tokens at_start));
  occurs = st;
  fresh = tt;
  decides = λ other l at h. let q : Past (also t tokens) start other l = past_of (also t tokens) at in
      let r : other ≡ append (also t tokens) l = q.is ∙ ap (λ (x : TokenList). append (also t tokens) x) (at_start_is q.at) in
      subst (λ (x : TokenList). NoType n plus x (fault_at fault l)) (sym r) (unbegun (unnamed_same run t tokens left l e f h) (k l h));
}

-- a type that does not end
unended_tokens : (n : ℕ) (plus b : Bool) (run : TokenList) (s : Sign) (p : Stage) (r : TokenList) (t : Token) (tokens : TokenList) (fault : Fault) → 0 < n → name_of run ≡ None → run ≡ also t (append tokens r) →
    ((x : TokenList) → SameSign r x → begin plus (also t (append tokens x)) ≡ starts b s (to p x None)) → FixedAt (λ x c f. NoParts (n - 1) (to p x c) f) r None fault → FixedType n plus run fault
unended_tokens n plus b run s p r t tokens fault a e f k (inner_stage front left at st d) = record {
  front = past t (in_front tokens front);
  left = left;
  is = subst (λ (x : TokenList). IsAt (past t (in_front tokens front)) x left) (sym f) (past_token (at_after tokens at));
  occurs = occurs_past fault t (in_front tokens front) left (occurs_after fault tokens front left st);
  fresh = tt;
  decides = λ other l stage h. let q : Past (also t tokens) front other l = past_of (also t tokens) stage in
      let same : SameSign r q.rest = same_at at q.at h in
      subst (λ (x : TokenList). NoType n plus x (fault_at fault l)) (sym q.is) (unended a (unnamed_same run t tokens r q.rest e f same) (k q.rest same) (d q.rest l None q.at tt h));
}
unended_tokens n plus b run s p r t tokens fault a e f k (outer_stage rest front left g at st d) = cc

no_group_name : (d : Delimiter) (t : Span) (inside rest : TokenList) → name_of (also (group d t inside) rest) ≡ None
no_group_name d t inside rest = refl

unended_group : (n : ℕ) (plus b : Bool) (s : Sign) (p : Stage) (d : Delimiter) (g : Span) (r after : TokenList) (fault : Fault) → 0 < n →
    ((t : Span) (inside other : TokenList) → begin plus (also (group d t inside) other) ≡ starts b s (to p inside (Some other))) → FixedAt (λ x c f. NoParts (n - 1) (to p x c) f) r (Some after) fault →
    FixedType n plus (also (group d g r) after) fault
unended_group n plus b s p d g r after fault a k l =
    go (into_fixed (λ x c f. NoParts (n - 1) (to p x c) f) (λ x c f. NoType n plus x f) d g r after fault (λ t i x f m. unended a (no_group_name d t i x) (k t i x) m) l)
  where
    fresh : (front : Front) (left : TokenList) → IsAt front (also (group d g r) after) left → Fresh front (also (group d g r) after)
    fresh start left at = refl
    fresh (past t front) left at = tt
    fresh (within e front) left at = tt

    go : FixedAt (λ x c f. NoType n plus x f) (also (group d g r) after) None fault → FixedType n plus (also (group d g r) after) fault
    go (inner_stage front left at st e) = record { front = front; left = left; is = at; occurs = st; fresh = fresh front left at; decides = λ other l stage h. e other l None stage tt h }
    go (outer_stage rest front left e at st f) = cc

unended_fixed : (n : ℕ) (plus b : Bool) (run : TokenList) (s : Sign) (spot : Spot) (fault : Fault) → 0 < n → name_of run ≡ None → begin plus run ≡ starts b s spot →
    FixedAt (λ x c f. NoParts (n - 1) (to spot.stage x c) f) spot.run spot.outside fault → FixedType n plus run fault
unended_fixed n plus b run s spot fault a e f l = go (begin_local plus run f)
  where
    go : Begun plus run b s spot → FixedType n plus run fault
    go (by_tokens t tokens g h k) = unended_tokens n plus b run s spot.stage spot.run t tokens fault a e g k (subst (λ (x : Option TokenList). FixedAt (λ y c f. NoParts (n - 1) (to spot.stage y c) f) spot.run x fault) h l)
    go (by_group d t after g h k) = subst (λ (x : TokenList). FixedType n plus x fault) (sym g)
        (unended_group n plus b s spot.stage d t spot.run after fault a k (subst (λ (x : Option TokenList). FixedAt (λ y c f. NoParts (n - 1) (to spot.stage y c) f) spot.run x fault) h l))

-- a type that is not supported
left_out_fixed : (n : ℕ) (plus first other : Bool) (run : TokenList) (s : Sign) (ps : List Tree) (front rest : TokenList) → 0 < n → name_of run ≡ None → (first || other) ≡ true → run ≡ append front rest →
    FormLocal (n - 1) plus first other run s ps rest → FixedType n plus run (unsupported (run_span front))
left_out_fixed n plus first other run s ps front rest a e bar f l =
    let g : also l.first l.front ≡ front = front_same (also l.first l.front) front rest (sym l.is ∙ f) in
    subst (λ (x : TokenList). FixedType n plus run (unsupported (run_span x))) g (record {
      front = past l.first (in_front l.front start);
      left = rest;
      is = subst (λ (x : TokenList). IsAt (past l.first (in_front l.front start)) x rest) (sym l.is) (past_token (at_after l.front at_start));
      occurs = record { former = start; tokens = also l.first l.front; is = sym (front_of_is (also l.first l.front)); spans = refl };
      fresh = tt;
      decides = λ x y at h. let q : Past (also l.first l.front) start x y = past_of (also l.first l.front) at in
          let r : x ≡ append (also l.first l.front) y = q.is ∙ ap (λ (z : TokenList). append (also l.first l.front) z) (at_start_is q.at) in
          let k = l.same y h in
          subst (λ (z : TokenList). NoType n plus z (unsupported (run_span (also l.first l.front)))) (sym r) (left_out (also l.first l.front) a (unnamed_same run l.first l.front rest y e l.is h) k.1 k.2 bar refl);
    })

mutual
  fixed_type : {n : ℕ} {plus : Bool} {run : TokenList} {fault : Fault} → NoType n plus run fault → Placed fault → FixedType n plus run fault
  fixed_type (deep_name z e) p = absurd p
  fixed_type (deep z e f) p = absurd p
  fixed_type (unbegun {levels = n} {plus = plus} {run = run} {fault = fault} e f) p = unbegun_fixed n plus run fault e (begin_local plus run f)
  fixed_type (unended {levels = n} {plus = plus} {barred = b} {run = run} {s = s} {spot = spot} {fault = fault} a e f h) p = unended_fixed n plus b run s spot fault a e f (fixed_parts h p)
  fixed_type (left_out {levels = n} {plus = plus} {first = first} {other = other} {run = run} {s = s} {spot = spot} {parts = ps} {rest = rest} front a e f h bar is) p =
      left_out_fixed n plus first other run s ps front rest a e bar is (form_local (n - 1) plus first other run s spot ps rest f (parts_local h))

  fixed_move : {n : ℕ} {spot : Spot} {fault : Fault} → NoMove n spot fault → Placed fault → FixedAt (λ x c f. NoMove n (to spot.stage x c) f) spot.run spot.outside fault
  fixed_move (no_token {levels = n} {spot = spot} {fault = fault} e) p = stop_fixed n spot.stage spot.run spot.outside fault (local_move spot e)
  fixed_move (no_type {levels = n} {spot = spot} {plus = plus} {stage = q} {fault = fault} e h) p = need_fixed n spot.stage q plus spot.run spot.outside fault e (fixed_type h p)
  fixed_move (no_still_type {levels = n} {spot = spot} {stage = q} {fault = fault} e h) p = still_fixed n spot.stage q spot.run spot.outside fault e (fixed_type h p)
  fixed_move (no_nest {levels = n} {spot = spot} {s = s} {inner = inner} {stage = q} {fault = fault} e h) p = nest_fixed n spot.stage q spot.run spot.outside s inner fault e (fixed_parts h p)

  fixed_parts : {n : ℕ} {spot : Spot} {fault : Fault} → NoParts n spot fault → Placed fault → FixedAt (λ x c f. NoParts n (to spot.stage x c) f) spot.run spot.outside fault
  fixed_parts (here {levels = n} {spot = spot} h) p = map_fixed (λ x c f. NoMove n (to spot.stage x c) f) (λ x c f. NoParts n (to spot.stage x c) f) (λ x c f m. here m) (fixed_move h p)
  fixed_parts (later m h) p = later_fixed (move_local m) (fixed_parts h p)

pub placed : (n : ℕ) (plus : Bool) (run : TokenList) (fault : Fault) → NoType n plus run fault → (fault ≡ too_deep) ⊎ FaultStage n plus run fault
placed n plus run too_deep h = inl refl
placed n plus run (mismatch span) h = let l = fixed_type h tt in inr (record { front = l.front; left = l.left; is = l.is; occurs = l.occurs; decides = l.decides })
placed n plus run (unsupported span) h = let l = fixed_type h tt in inr (record { front = l.front; left = l.left; is = l.is; occurs = l.occurs; decides = l.decides })
