-- A type that is read part by part.
use Rattle.std.proofs.Common.{◌≡◌, Err, ℕ, ◌-◌, ◌<◌, ◌≤◌, ◌*◌, ◌||◌, List, [], ◌∷◌, ◌++◌, Bool, true, false, Option, Some, None, refl, sym, ap, ◌∙◌, subst, arith, append_assoc}
use Rattle.std.proofs.lemmas.List.{append-nil}
use Rattle.logos_token.specs.Tokens.{TokenList, append, also as and_token, none as no_token, IsRestOf, count_of}
use Rattle.logos_type.specs.Parts.{Tree, Sign, sign, whole, trees}
use Rattle.logos_type_reader.specs.declared.table.stage.Stage.{Stage}
use Rattle.logos_type_reader.specs.Table.{Spot, outer, Move, Fault, nests, needs, keeps_type, ends, starts, begin, name_of}
use Rattle.logos_type_reader.specs.Reading.{IsType, name_alone, formed, IsMove, a_token, a_bar, a_type, a_still_type, still_tokens, a_nest, AreParts, ended, further, NoType, unbegun, NoMove, no_token, no_type, no_still_type, no_nest, NoParts, later, next_of, after_type}
use Rattle.logos_type_reader.specs.declared.table.stage.StepFault.{StepFault}
use Rattle.logos_type_reader.specs.declared.table.stage.StepFault.TheVariants.{Unsupported, Mismatch}
use Rattle.logos_type_reader.specs.declared.reader.TypeFault.{TypeFault}
use Rattle.logos_type_reader.specs.declared.reader.TypeFault.TheVariants as faults
use Rattle.logos_type_reader.specs.ReadingViews.{left, spot_left, IsStep, IsFirst, IfFault, fault_of}
use Rattle.logos_type_reader.proofs.TableSteps.{Moves, Onward, Inward, steps, Begins, first_steps}

-- the rest of the rest is left of the whole
append_from : (front middle rest : TokenList) → append front (append middle rest) ≡ append (append front middle) rest
append_from no_token middle rest = refl
append_from (and_token t front) middle rest = ap (λ (x : TokenList). and_token t x) (append_from front middle rest)

pub rest_from : {run middle rest : TokenList} → IsRestOf run middle → IsRestOf middle rest → IsRestOf run rest
rest_from {run} {middle} {rest} r q = record { front = append r.front q.front; is = r.is ∙ ap (λ (x : TokenList). append r.front x) q.is ∙ append_from r.front q.front rest }

pub rest_self : (run : TokenList) → IsRestOf run run
rest_self run = record { front = no_token; is = refl }

-- one spot is after another, with less left
pub record Later (spot afterward : Spot) : Type 0 where
  pub rest : IsRestOf (outer spot.run spot.outside) (outer afterward.run afterward.outside)
  pub less : spot_left afterward < spot_left spot

-- a run is after a spot
pub record Left (spot : Spot) (run : TokenList) : Type 0 where
  pub rest : IsRestOf (outer spot.run spot.outside) run
  pub less : 2 * count_of run ≤ spot_left spot

-- a run is after another one, with less left
pub record Rest (run rest : TokenList) : Type 0 where
  pub is : IsRestOf run rest
  pub less : count_of rest < count_of run

onward : {spot afterward : Spot} → Onward spot.run spot.outside afterward → Later spot afterward
onward o = record { rest = o.rest; less = o.less }

moved : (spot : Spot) {m : Move} → next_of spot ≡ m → Moves spot.run spot.outside m
moved spot e = subst (Moves spot.run spot.outside) e (steps spot.stage spot.run spot.outside)

-- after a type or a path
after_rest : (run rest : TokenList) (afterward : Option TokenList) → Rest run rest → IsRestOf (outer run afterward) (outer rest afterward) × (left rest afterward < left run afterward)
after_rest run rest None r = (r.is, let h = r.less in omega arith)
after_rest run rest (Some after) r = (rest_self after, let h = r.less in omega arith)

later_rest : (spot : Spot) (stage : Stage) (rest : TokenList) → Rest spot.run rest → Later spot (after_type spot stage rest)
later_rest spot stage rest r = let x = after_rest spot.run rest spot.outside r in record { rest = x.0; less = x.1 }

left_self : (run : TokenList) (afterward : Option TokenList) → IsRestOf (outer run afterward) (outer run afterward) × (2 * count_of (outer run afterward) ≤ left run afterward)
left_self run None = (rest_self run, omega arith)
left_self run (Some after) = (rest_self after, omega arith)

within_rest : (run within : TokenList) (afterward : Option TokenList) (rest : TokenList) → IsRestOf run within → count_of within < count_of run → afterward ≡ None → IsRestOf (outer within afterward) rest → 2 * count_of rest ≤ left within afterward → Rest run rest
within_rest run within None rest r h n q k = record { is = rest_from r q; less = omega (arith, h, k) }
within_rest run within (Some after) rest r h n q k = absurd (let z = n in cc)

inner_rest : (run : TokenList) (inner : Spot) (rest : TokenList) → Inward run inner → Left inner rest → Rest run rest
inner_rest run inner rest i l = within_rest run inner.run inner.outside rest i.rest i.less i.alone l.rest l.less

rest_name : (run : TokenList) (text : List ℕ) → name_of run ≡ Some text → Rest run (Rattle.logos_token.specs.Tokens.rest_of run)
rest_name no_token text e = cc
rest_name (and_token t rest) text e = record { is = record { front = and_token t no_token; is = refl }; less = omega (arith, Rattle.logos_type_reader.proofs.TableSteps.one_token t) }

mutual
  -- a type leaves less after it
  pub type_rest : {levels : ℕ} {plus : Bool} {run : TokenList} {t : Tree} {rest : TokenList} → IsType levels plus run t rest → Rest run rest
  type_rest {run = run} (name_alone {text = text} a e) = rest_name run text e
  type_rest {plus = plus} {run = run} {rest = rest} (formed {spot = spot} a n b h) =
      let f : Begins run spot = first_steps plus run b in
      let l : Left spot rest = parts_rest h in
      record { is = rest_from f.rest l.rest; less = let x = f.less in let y = l.less in omega arith }

  pub move_rest : {levels : ℕ} {barred : Bool} {spot : Spot} {parts : List Tree} {afterward : Spot} → IsMove levels barred spot parts afterward → Later spot afterward
  move_rest {spot = spot} (a_token e) = onward (moved spot e)
  move_rest {spot = spot} (a_bar e) = onward (moved spot e)
  move_rest {spot = spot} (a_type {stage = stage} {rest = rest} e h) = later_rest spot stage rest (type_rest h)
  move_rest {spot = spot} (a_still_type {stage = stage} {rest = rest} e h) = later_rest spot stage rest (type_rest h)
  move_rest {spot = spot} (still_tokens e) = onward (moved spot e)
  move_rest {spot = spot} (a_nest {inner = inner} {stage = stage} {rest = rest} e h) = later_rest spot stage rest (inner_rest spot.run inner rest (moved spot e) (parts_rest h))

  pub parts_rest : {levels : ℕ} {barred : Bool} {spot : Spot} {parts : List Tree} {rest : TokenList} → AreParts levels barred spot parts rest → Left spot rest
  parts_rest {spot = spot} (ended e) = let l = left_self spot.run spot.outside in record { rest = l.0; less = l.1 }
  parts_rest (further m a e) = let f = move_rest m in let l = parts_rest a in record { rest = rest_from f.rest l.rest; less = let x = f.less in let y = l.less in omega arith }

or_assoc : (a b c : Bool) → (a || (b || c)) ≡ ((a || b) || c)
or_assoc true b c = refl
or_assoc false b c = refl

or_false : (a : Bool) → (a || false) ≡ a
or_false true = refl
or_false false = refl

-- with the parts so far, a result for the rest completes to a result for the whole, and a fault of
-- the rest is a fault of the whole
pub record Remains (levels : ℕ) (from : Spot) (old now : List Tree) (barred : Bool) (spot : Spot) : Type 0 where
  pub front : List Tree
  pub is : now ≡ old ++ front
  pub completes : (later : Bool) (parts : List Tree) (rest : TokenList) → AreParts levels later spot parts rest → AreParts levels (barred || later) from (front ++ parts) rest
  pub refuses : (fault : Fault) → NoParts levels spot fault → NoParts levels from fault
  pub less : spot_left spot ≤ spot_left from

pub begun : (levels : ℕ) (from : Spot) (old : List Tree) → Remains levels from old old false from
begun levels from old = record { front = []; is = sym (append-nil old); completes = λ b parts rest a. a; refuses = λ fault f. f; less = omega arith }

pub continues : (levels : ℕ) (from : Spot) (old now new front : List Tree) (barred bar : Bool) (spot afterward : Spot) → Remains levels from old now barred spot → new ≡ now ++ front → IsMove levels bar spot front afterward →
    Remains levels from old new (barred || bar) afterward
continues levels from old now new front barred bar spot afterward r e m = record {
  front = r.front ++ front;
  is = e ∙ ap (λ (x : List Tree). x ++ front) r.is ∙ append_assoc old r.front front;
  completes = λ b parts rest a. rw (← or_assoc barred bar b, append_assoc r.front front parts) (r.completes (bar || b) (front ++ parts) rest (further m a refl));
  refuses = λ fault f. r.refuses fault (later m f);
  less = let h = (move_rest m).less in let k = r.less in omega arith;
}

-- at its end
pub finished : (levels : ℕ) (from : Spot) (old now : List Tree) (barred : Bool) (spot : Spot) → Remains levels from old now barred spot → next_of spot ≡ ends →
    (parts : List Tree) × (now ≡ old ++ parts) × AreParts levels barred from parts (outer spot.run spot.outside)
finished levels from old now barred spot r e =
    (r.front, r.is, rw (or_false barred, append-nil r.front) at (r.completes false [] (outer spot.run spot.outside) (ended e)))

-- the reason that stops the reader is the fault
pub stop_move : (levels : ℕ) (spot : Spot) (stop : StepFault) → IsStep (Err stop) (next_of spot) → IfFault (NoMove levels spot) (fault_of stop)
stop_move levels spot (Unsupported span) h = no_token h
stop_move levels spot (Mismatch span) h = no_token h

pub stop_type : (levels : ℕ) (plus : Bool) (run : TokenList) (stop : StepFault) → name_of run ≡ None → IsFirst (Err stop) (begin plus run) → IfFault (NoType levels plus run) (fault_of stop)
stop_type levels plus run (Unsupported span) unnamed h = unbegun unnamed h
stop_type levels plus run (Mismatch span) unnamed h = unbegun unnamed h

pub if_fault-map : (P Q : Fault → Type 0) → ((fault : Fault) → P fault → Q fault) → (fault : TypeFault) → IfFault P fault → IfFault Q fault
if_fault-map P Q f (faults.Unsupported span) h = f _ h
if_fault-map P Q f (faults.Mismatch span) h = f _ h
if_fault-map P Q f faults.LimitNesting h = f _ h
if_fault-map P Q f faults.Memory h = tt

-- a fault inside a part is one of the move
pub needed_fault : (levels : ℕ) (spot : Spot) (plus : Bool) (stage : Stage) (fault : TypeFault) → next_of spot ≡ needs plus stage → IfFault (NoType levels plus spot.run) fault → IfFault (NoMove levels spot) fault
needed_fault levels spot plus stage fault e h = if_fault-map (NoType levels plus spot.run) (NoMove levels spot) (λ f n. no_type e n) fault h

pub still_fault : (levels : ℕ) (spot : Spot) (stage : Stage) (fault : TypeFault) → next_of spot ≡ keeps_type stage → IfFault (NoType levels true spot.run) fault → IfFault (NoMove levels spot) fault
still_fault levels spot stage fault e h = if_fault-map (NoType levels true spot.run) (NoMove levels spot) (λ f n. no_still_type e n) fault h

pub nest_fault : (levels : ℕ) (spot : Spot) (s : Sign) (inner : Spot) (stage : Stage) (fault : TypeFault) → next_of spot ≡ nests s inner stage → IfFault (NoParts levels inner) fault → IfFault (NoMove levels spot) fault
nest_fault levels spot s inner stage fault e h = if_fault-map (NoParts levels inner) (NoMove levels spot) (λ f n. no_nest e n) fault h

-- less is left after the first token
pub begun_falls : (plus : Bool) (run : TokenList) (barred : Bool) (s : Sign) (spot : Spot) → begin plus run ≡ starts barred s spot → spot_left spot < 2 * count_of run
begun_falls plus run barred s spot e = let f : Begins run spot = first_steps plus run e in f.less

pub begun_rest : (plus : Bool) (run : TokenList) (barred : Bool) (s : Sign) (spot : Spot) → begin plus run ≡ starts barred s spot → {levels : ℕ} {other : Bool} {parts : List Tree} {rest : TokenList} → AreParts levels other spot parts rest → IsRestOf run rest
begun_rest plus run barred s spot e a = let f : Begins run spot = first_steps plus run e in rest_from f.rest (parts_rest a).rest

both_false : (a b : Bool) → (a || b) ≡ false → (a ≡ false) × (b ≡ false)
both_false true b e = cc
both_false false b e = (refl, e)

pub formed_type : (levels : ℕ) (plus : Bool) (run : TokenList) (b c : Bool) (s : Sign) (spot : Spot) (ps : List Tree) (rest : TokenList) (ts : List Tree) → 0 < levels → name_of run ≡ None → begin plus run ≡ starts b s spot →
    AreParts (levels - 1) c spot ps rest → (b || c) ≡ false → ts ≡ sign s ∷ ps → IsType levels plus run (whole (trees ts)) rest
formed_type levels plus run b c s spot ps rest ts a e f h n is =
    let k = both_false b c n in
    let f' : begin plus run ≡ starts false s spot = subst (λ (x : Bool). begin plus run ≡ starts x s spot) k.0 f in
    let h' : AreParts (levels - 1) false spot ps rest = subst (λ (x : Bool). AreParts (levels - 1) x spot ps rest) k.1 h in
    subst (λ (x : List Tree). IsType levels plus run (whole (trees x)) rest) (sym is) (formed a e f' h')

-- less is left where a path or bounds continue inside
inner_less_than : (run within : TokenList) (afterward other : Option TokenList) → count_of within < count_of run → other ≡ None → left within other < left run afterward
inner_less_than run within None None h n = omega (arith, h)
inner_less_than run within (Some after) None h n = omega (arith, h)
inner_less_than run within afterward (Some after) h n = absurd (let z = n in cc)

pub inner_left : (spot : Spot) (s : Sign) (inner : Spot) (stage : Stage) → next_of spot ≡ nests s inner stage → spot_left inner < spot_left spot
inner_left spot s inner stage e = let i : Inward spot.run inner = moved spot e in inner_less_than spot.run inner.run spot.outside inner.outside i.less i.alone
