-- Each run begins with a type, or has a fault.
use Rattle.std.proofs.Common.{◌≡◌, ℕ, zero, suc, ◌-◌, ◌+◌, ◌*◌, ◌<◌, ◌≤◌, ◌||◌, ◌⊎◌, inl, inr, List, [], ◌∷◌, ◌++◌, Bool, true, false, Option, Some, None, refl, arith}
use Rattle.logos_token.specs.Tokens.{TokenList, count_of, rest_of, run_span}
use Rattle.logos_type_reader.specs.declared.table.stage.Stage.{Stage}
use Rattle.logos_type.specs.Parts.{Tree, Sign, sign, name, whole, trees}
use Rattle.logos_type_reader.specs.Table.{Spot, outer, Move, First, ends, takes, bars, needs, keeps_type, keeps, nests, stops, starts, refused, Fault, too_deep, unsupported, begin, name_of}
use Rattle.logos_type_reader.specs.Reading.{IsType, name_alone, IsMove, a_token, a_bar, a_type, a_still_type, still_tokens, a_nest, AreParts, ended, further, NoType, deep_name, deep, unbegun, unended, left_out, no_token, no_type, no_still_type, no_nest, NoParts, here, later, next_of, after_type}
use Rattle.logos_type_reader.specs.ReadingViews.{left, spot_left}
use Rattle.logos_type_reader.proofs.TableSteps.{Begins, first_steps}
use Rattle.logos_type_reader.proofs.ReadingLemmas.{move_rest, formed_type, begun_rest, inner_left}

abbrev pub TypeOrFault : ℕ → Bool → TokenList → Type 0
TypeOrFault n plus run = ((t : Tree) × (rest : TokenList) × IsType n plus run t rest) ⊎ ((f : Fault) × NoType n plus run f)

abbrev PartsOrFault : ℕ → Spot → Type 0
PartsOrFault n spot = ((b : Bool) × (ps : List Tree) × (rest : TokenList) × AreParts n b spot ps rest) ⊎ ((f : Fault) × NoParts n spot f)

after_move : (n : ℕ) (b : Bool) (spot outside : Spot) (ps : List Tree) → IsMove n b spot ps outside → PartsOrFault n outside → PartsOrFault n spot
after_move n b spot outside ps m (inl (c, qs, rest, a)) = inl (b || c, ps ++ qs, rest, further m a refl)
after_move n b spot outside ps m (inr (f, h)) = inr (f, later m h)

needed_case : (n : ℕ) (spot : Spot) (plus : Bool) (stage : Stage) → next_of spot ≡ needs plus stage → TypeOrFault n plus spot.run → ((outside : Spot) → spot_left outside < spot_left spot → PartsOrFault n outside) → PartsOrFault n spot
needed_case n spot plus stage e (inl (t, rest, h)) rec = let m : IsMove n false spot (t ∷ []) (after_type spot stage rest) = a_type e h in after_move n false spot _ _ m (rec _ (move_rest m).less)
needed_case n spot plus stage e (inr (f, h)) rec = inr (f, here (no_type e h))

still_case : (n : ℕ) (spot : Spot) (stage : Stage) → next_of spot ≡ keeps_type stage → TypeOrFault n true spot.run → ((outside : Spot) → spot_left outside < spot_left spot → PartsOrFault n outside) → PartsOrFault n spot
still_case n spot stage e (inl (t, rest, h)) rec = let m = a_still_type e h in after_move n false spot (after_type spot stage rest) _ m (rec _ (move_rest m).less)
still_case n spot stage e (inr (f, h)) rec = inr (f, here (no_still_type e h))

nest_case : (n : ℕ) (spot : Spot) (s : Sign) (inner : Spot) (stage : Stage) → next_of spot ≡ nests s inner stage → PartsOrFault n inner → ((outside : Spot) → spot_left outside < spot_left spot → PartsOrFault n outside) → PartsOrFault n spot
nest_case n spot s inner stage e (inl (b, ps, rest, h)) rec = let m : IsMove n b spot (sign s ∷ ps) (after_type spot stage rest) = a_nest e h in after_move n b spot _ _ m (rec _ (move_rest m).less)
nest_case n spot s inner stage e (inr (f, h)) rec = inr (f, here (no_nest e h))

spot_case : (n : ℕ) (spot : Spot) (m : Move) → next_of spot ≡ m → ((plus : Bool) → TypeOrFault n plus spot.run) → ((outside : Spot) → spot_left outside < spot_left spot → PartsOrFault n outside) → PartsOrFault n spot
spot_case n spot ends e types rec = inl (false, [], outer spot.run spot.outside, ended e)
spot_case n spot (takes s outside) e types rec = let m : IsMove n false spot (sign s ∷ []) outside = a_token e in after_move n false spot outside _ m (rec outside (move_rest m).less)
spot_case n spot (bars s outside) e types rec = let m : IsMove n true spot (sign s ∷ []) outside = a_bar e in after_move n true spot outside _ m (rec outside (move_rest m).less)
spot_case n spot (needs plus stage) e types rec = needed_case n spot plus stage e (types plus) rec
spot_case n spot (keeps_type stage) e types rec = still_case n spot stage e (types true) rec
spot_case n spot (keeps run outside) e types rec = let m = still_tokens e in after_move n false spot outside _ m (rec outside (move_rest m).less)
spot_case n spot (nests s inner stage) e types rec = nest_case n spot s inner stage e (rec inner (inner_left spot s inner stage e)) rec
spot_case n spot (stops f) e types rec = inr (f, here (no_token e))

form_case : (n : ℕ) (plus : Bool) (run : TokenList) (b : Bool) (s : Sign) (spot : Spot) → 0 < n → name_of run ≡ None → begin plus run ≡ starts b s spot → PartsOrFault (n - 1) spot → TypeOrFault n plus run
form_case n plus run b s spot a e f (inr (fault, h)) = inr (fault, unended a e f h)
form_case n plus run b s spot a e f (inl (c, ps, rest, h)) = go (b || c) refl
  where
    go : (x : Bool) → (b || c) ≡ x → TypeOrFault n plus run
    go false k = inl (whole (trees (sign s ∷ ps)), rest, formed_type n plus run b c s spot ps rest (sign s ∷ ps) a e f h k refl)
    go true k = let r = begun_rest plus run b s spot f h in inr (unsupported (run_span r.front), left_out r.front a e f h k r.is)

name_case : (n : ℕ) (plus : Bool) (run : TokenList) (text : List ℕ) → name_of run ≡ Some text → (n ≡ 0) ⊎ (0 < n) → TypeOrFault n plus run
name_case n plus run text e (inl z) = inr (too_deep, deep_name z e)
name_case n plus run text e (inr a) = inl (name text, rest_of run, name_alone a e)

begun_case : (n : ℕ) (plus : Bool) (run : TokenList) (b : Bool) (s : Sign) (spot : Spot) → name_of run ≡ None → begin plus run ≡ starts b s spot → ((spot : Spot) → spot_left spot < 2 * count_of run → PartsOrFault (n - 1) spot) → (n ≡ 0) ⊎ (0 < n) → TypeOrFault n plus run
begun_case n plus run b s spot e f rec (inl z) = inr (too_deep, deep z e f)
begun_case n plus run b s spot e f rec (inr a) = let g : Begins run spot = first_steps plus run f in form_case n plus run b s spot a e f (rec spot g.less)

type_case : (n : ℕ) (plus : Bool) (run : TokenList) (x : Option (List ℕ)) (y : First) → name_of run ≡ x → begin plus run ≡ y → ((spot : Spot) → spot_left spot < 2 * count_of run → PartsOrFault (n - 1) spot) → (n ≡ 0) ⊎ (0 < n) → TypeOrFault n plus run
type_case n plus run (Some text) y e f rec d = name_case n plus run text e d
type_case n plus run None (refused fault) e f rec d = inr (fault, unbegun e f)
type_case n plus run None (starts b s spot) e f rec d = begun_case n plus run b s spot e f rec d

some_or_none : (n : ℕ) → (n ≡ 0) ⊎ (0 < n)
some_or_none zero = inl refl
some_or_none (suc n) = inr (omega arith)

run_left : (run : TokenList) (outside : Option TokenList) → 2 * count_of run ≤ left run outside
run_left run None = omega arith
run_left run (Some rest) = omega arith

mutual
  some_type : (fuel n : ℕ) (plus : Bool) (run : TokenList) → 4 * count_of run < fuel → TypeOrFault n plus run
  some_type zero n plus run h = absurd (omega (arith, h))
  some_type (suc fuel) n plus run h = type_case n plus run (name_of run) (begin plus run) refl refl (λ spot l. some_parts fuel (n - 1) spot (omega (arith, h, l))) (some_or_none n)

  some_parts : (fuel n : ℕ) (spot : Spot) → 2 * spot_left spot + 1 < fuel → PartsOrFault n spot
  some_parts zero n spot h = absurd (omega (arith, h))
  some_parts (suc fuel) n spot h =
      spot_case n spot (next_of spot) refl (λ plus. some_type fuel n plus spot.run (let k = run_left spot.run spot.outside in omega (arith, h, k))) (λ outside l. some_parts fuel n outside (omega (arith, h, l)))

pub type_or_fault : (n : ℕ) (plus : Bool) (run : TokenList) → TypeOrFault n plus run
type_or_fault n plus run = some_type (4 * count_of run + 1) n plus run (omega arith)
