-- A walk from a node.
use Rattle.std.proofs.Common.{◌≡◌, ◌<◌, ◌⊎◌, ◌↔◌, inl, inr, ⊎_elim, ℕ, List, [], ◌∷◌, ◌++◌, length, get_or, replicate, Bool, false, IsTrue, refl, sym, ap, ◌∙◌, subst, arith, true≢false}
use Rattle.std.proofs.lemmas.List.{length-append, get_or_past, get_or-replicate, length-replicate}
use Rattle.std.proofs.lemmas.List.Elements.{Contains-append_left, Contains-push, Contains-push_cases}
use Rattle.std.proofs.lemmas.Bool.{cases_lt}
use Rattle.std.specs.List.{Contains}
use Rattle.logos_type_params.specs.cycles.Cycles.{targets_of, Leads, one, on}
use Rattle.logos_type_params.specs.cycles.inside.Memberships.{Edge}
use Rattle.logos_type_params.specs.cycles.inside.Traversals.{Reaches, IsFound, left_in}
use Rattle.logos_type_params.proofs.cycles.ListLemmas.{starts, join, contains_none}

-- the nodes to which the edges of one lead are found
abbrev pub IsDone : List (List ℕ) → List Bool → ℕ → Type 0
IsDone g found from = (to : ℕ) → Edge g from to → to < length g → IsFound found to

-- the found nodes are led to, and the edges of those that do not wait are gone through
pub record Walking (g : List (List ℕ)) (start : ℕ) (found : List Bool) (waiting : List ℕ) : Type 0 where
  pub long : length found ≡ length g
  pub sound : (node : ℕ) → IsFound found node → Leads g start node
  pub begun : IsDone g found start
  pub closed : (node : ℕ) → IsFound found node → Contains waiting node ⊎ IsDone g found node
  pub waits : (node : ℕ) → Contains waiting node → IsFound found node

module _ (g : List (List ℕ)) (start : ℕ) where
  -- the edges of a node are gone through
  done_now : (from : ℕ) (f f' : List Bool) (w w' : List ℕ) → length f ≡ length g → Reaches (targets_of g from) f w f' w' → IsDone g f' from
  done_now from f f' w w' long r = λ to h lt. r.all to h (omega (arith, long, lt))

  -- at first those of the node itself are
  pub walk_begun : (f f' : List Bool) (w' : List ℕ) → length f ≡ length g → ((node : ℕ) → IsFound f node → ⊥) → Reaches (targets_of g start) f [] f' w' → Walking g start f' w'
  walk_begun f f' w' long none r = record {
    long = r.same_length ∙ long;
    sound = λ n h. ⊎_elim (λ k. absurd (none n k)) (λ k. one k) (r.only n h);
    begun = done_now start f f' [] w' long r;
    closed = λ n h. ⊎_elim (λ k. absurd (none n k)) (λ k. inl k) (r.wait n h);
    waits = λ n h. ⊎_elim (λ k. absurd (contains_none n k)) (λ k. k) (r.awaited n h);
  }

  -- and then those of a waiting node
  pub walk_on : (from : ℕ) (f f' : List Bool) (w w1 w' : List ℕ) → w ≡ w1 ++ from ∷ [] → Walking g start f w → Reaches (targets_of g from) f w1 f' w' → Walking g start f' w'
  walk_on from f f' w w1 w' e k r = record {
    long = r.same_length ∙ k.long;
    sound = λ n h. ⊎_elim (λ j. k.sound n j) (λ j. join (k.sound from met) (one j)) (r.only n h);
    begun = wider start k.begun;
    closed = λ n h. ⊎_elim (λ j. before n j) (λ j. inl j) (r.wait n h);
    waits = λ n h. ⊎_elim (λ j. r.stay n (k.waits n (rw e (Contains-append_left w1 (from ∷ []) n j)))) (λ j. j) (r.awaited n h);
  }
    where
      met : IsFound f from
      met = k.waits from (rw e (Contains-push w1 from))

      wider : (node : ℕ) → IsDone g f node → IsDone g f' node
      wider node d to h lt = r.stay to (d to h lt)

      waited : (n : ℕ) → Contains (w1 ++ from ∷ []) n → Contains w' n ⊎ IsDone g f' n
      waited n h = ⊎_elim (λ j. inl (r.waited n j)) (λ (s : from ≡ n). inr (subst (λ (x : ℕ). IsDone g f' x) s (done_now from f f' w1 w' k.long r))) (Contains-push_cases w1 from n h)

      before : (n : ℕ) → IsFound f n → Contains w' n ⊎ IsDone g f' n
      before n h = ⊎_elim (λ j. waited n (subst (λ (x : List ℕ). Contains x n) e j)) (λ d. inr (wider n d)) (k.closed n h)

  -- if no node is waiting, all that the node leads to is found
  module _ (f : List Bool) (w : List ℕ) (end : w ≡ []) (k : Walking g start f w) where
    done : (node : ℕ) → IsFound f node → IsDone g f node
    done node h = ⊎_elim (λ j. absurd (contains_none node (subst (λ (x : List ℕ). Contains x node) end j))) (λ d. d) (k.closed node h)

    finds : (from to : ℕ) → IsDone g f from → Leads g from to → to < length g → IsFound f to
    finds from to d (one h) lt = d to h lt
    finds from to d (on {over = over} h l) lt = finds over to (done over (d over h (starts g over to l))) l lt

    pub walk_ends : start < length g → (b : Bool) → b ≡ get_or f start false → IsTrue b ↔ Leads g start start
    walk_ends lt b e = (
      λ t. k.sound start (sym e ∙ t),
      λ l. e ∙ finds start start k.begun l lt,
    )

-- none of this number of nodes is found
pub none_found : (f : List Bool) (n node : ℕ) → f ≡ replicate n false → IsFound f node → ⊥
none_found f n node e h = true≢false (sym h ∙ ap (λ x. get_or x node false) e ∙ ⊎_elim
    (λ lt. get_or-replicate n node false false lt)
    (λ past. get_or_past (replicate n false) node false (let l = length-replicate n false in omega (arith, l, past)))
    (cases_lt node n))

pub walk_smaller : (f f' : List Bool) (w w1 w' : List ℕ) (from : ℕ) → w ≡ w1 ++ from ∷ [] → left_in f' w' ≡ left_in f w1 → left_in f' w' < left_in f w
walk_smaller f f' w w1 w' from e left = let l = ap length e ∙ length-append w1 (from ∷ []) in omega (arith, l, left)

pub nil_if_empty : (w : List ℕ) → length w ≡ 0 → w ≡ []
nil_if_empty [] e = refl
nil_if_empty (x ∷ w) e = absurd (omega (arith, e))
