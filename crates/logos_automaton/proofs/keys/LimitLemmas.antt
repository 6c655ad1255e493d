-- Each state of the automaton has a key of its own.
use Rattle.std.proofs.Common.{◌≡◌, ℕ, zero, suc, ◌+◌, ◌-◌, ◌<◌, ◌≤◌, ◌↔◌, ◌⊎◌, ◌==◌, Bool, true, false, List, [], ◌∷◌, ◌++◌, length, length-append, append_assoc, append-nil, Some, None, IfSome, slice_get, slice_index_or, if◌then◌else◌, refl, sym, ap, ◌∙◌, subst, inl, inr, ⊎_elim, true≢false, ◌||◌, IsFalse, arith}
use Rattle.logos_hir.specs.Text.{IsBytes, byte_after}
use Rattle.logos_positions.specs.Core.{Core, width}
use Rattle.logos_automaton.specs.Keys.{State, state_of, start_state, dead_state, IsAt, AreDistinct, AreReached, IsReached, at_start, by_byte, by_end, IsNext, IsLast, is_start, next_kind}
use Rattle.logos_positions.specs.Kinds.{kind_of_byte, is_word_byte}
use Rattle.logos_positions.specs.Marks.{Has, IsRising}
use Rattle.logos_automaton.specs.Munch.{Rule, RuleMatches}
use Rattle.logos_automaton.specs.ReadKeys as reads
use Rattle.logos_positions.specs.Positions.{Position}
use Rattle.logos_automaton.specs.ReadKeys.{Read, nothing, upto, whole, IsRead, SameKey, HasRead, seen_kind, HasMoreKeys}
use Rattle.logos_automaton.specs.Rules.{AreRuleCores, AreFree, some_look}
use Rattle.logos_automaton.specs.Faults.{AllStart}
use Rattle.logos_automaton.specs.Faults.{some_passable}
use Rattle.logos_hir.proofs.tree.Laws.{passes}
use Rattle.logos_positions.specs.Run.{Marked, MarkedIn}
use Rattle.logos_automaton.specs.declared.key.Key.{Key}
use Rattle.logos_positions.specs.declared.positions.look.ByteKind.{ByteKind}
use Rattle.logos_positions.specs.declared.positions.look.ByteKind.TheVariants as kind
use Rattle.logos_automaton.proofs.runs.DfaLemmas.{rising_increases, contains_has}
use Rattle.logos_positions.proofs.trees.ReadLemmas.{Marked-iff}
use Rattle.logos_automaton.proofs.runs.RunLemmas.{IsAfter, after_nothing, next_after, lists_by_byte, lists_at_end, StepsIn-void, ExitsIn-void}
use Rattle.logos_automaton.proofs.ambiguity.SameMembers.{increasing_same}
use Rattle.logos_positions.proofs.steps.SeveralLemmas.{none_there, no_positions}
use Rattle.logos_positions.proofs.steps.StepLemmas.{iff_trans, iff_sym}

pub same_rising : (xs ys : List ℕ) → IsRising xs → IsRising ys → ((q : ℕ) → Has xs q ↔ Has ys q) → xs ≡ ys
same_rising xs ys r s same =
    increasing_same xs ys (rising_increases xs r) (rising_increases ys s)
    (λ n c. (contains_has ys n).1 ((same n).0 ((contains_has xs n).0 c)))
    (λ n c. (contains_has xs n).1 ((same n).1 ((contains_has ys n).0 c)))

pub nothing_there : (xs : List ℕ) → ((q : ℕ) → Has xs q → ⊥) → xs ≡ []
nothing_there [] none = refl
nothing_there (x ∷ xs) none = absurd (none x (record { at = 0; within = omega arith; is = refl }))

pub same_state_as : (s r : State) → s.positions ≡ r.positions → s.kind ≡ r.kind → s.matches ≡ r.matches → s ≡ r
same_state_as s r e f g = λ i. record { positions = e i; kind = f i; matches = g i }

-- the kinds of bytes are those of the keys
kind_as : reads.Kind → ByteKind
kind_as reads.unseen = kind.Unseen
kind_as reads.word = kind.Word
kind_as reads.cr = kind.Cr
kind_as reads.lf = kind.Lf
kind_as reads.other = kind.Other

kind_is : (b : ℕ) → kind_as (reads.kind_of b) ≡ kind_of_byte b
unfolding kind_as
kind_is b = go (is_word_byte b) (b == 13) (b == 10)
  where
    go : (w c l : Bool) → kind_as (if w then reads.word else (if c then reads.cr else (if l then reads.lf else reads.other))) ≡ (if w then kind.Word else (if c then kind.Cr else (if l then kind.Lf else kind.Other)))
    go true c l = refl
    go false true l = refl
    go false false true = refl
    go false false false = refl

-- a state without positions, not at the start
module _ (ts : List Core) (looks : Bool) (s : State) (none : s.positions ≡ []) (later : is_start s.kind ≡ false) where
  no_position : (q : ℕ) → Has s.positions q → ⊥
  no_position q h = none_there q (subst (λ xs. Has xs q) none h)

  not_begun : is_start s.kind ≡ true → ⊥
  not_begun e = cc

  pub dead_by_byte : (x : ℕ) (next : State) → IsNext ts looks s x next → next ≡ dead_state
  dead_by_byte x next h =
      let e : next.positions ≡ [] = nothing_there next.positions (λ q k. StepsIn-void ts _ x (Has s.positions) (is_start s.kind ≡ true) q no_position not_begun ((h.positions.has q).0 k)) in
      same_state_as next dead_state e (h.kind ∙ ap (λ xs. next_kind looks xs x) e)
      (nothing_there next.matches (λ k n. ExitsIn-void ts k _ (Has s.positions) (is_start s.kind ≡ true) no_position not_begun ((h.matches.has k).0 n)))

  pub dead_by_end : (next : State) → IsLast ts s next → next ≡ dead_state
  dead_by_end next h =
      same_state_as next dead_state h.positions h.kind
      (nothing_there next.matches (λ k n. ExitsIn-void ts k _ (Has s.positions) (is_start s.kind ≡ true) no_position not_begun ((h.matches.has k).0 n)))

pub no_bytes : IsBytes []
no_bytes = λ k d lt. absurd (omega (arith, lt))

pub one_byte_more : (u : List ℕ) (x : ℕ) → x < 256 → IsBytes u → IsBytes (u ++ x ∷ [])
one_byte_more [] x lt ok zero d l = lt
one_byte_more [] x lt ok (suc k) d l = absurd (omega (arith, l))
one_byte_more (y ∷ u) x lt ok zero d l = ok 0 d (omega arith)
one_byte_more (y ∷ u) x lt ok (suc k) d l = one_byte_more u x lt (λ j e m. ok (suc j) e (omega (arith, m))) k d (omega (arith, l))

only_byte : (x : ℕ) → x < 256 → IsBytes (x ∷ [])
only_byte x lt = one_byte_more [] x lt no_bytes

module _ (rules : List Rule) (ts : List Core) (are : AreRuleCores rules ts) (looks : Bool) (looks_is : looks ≡ some_look rules) (free : looks ≡ false → AreFree ts) where
  -- the state after bytes and one more, regardless of the bytes that follow
  pub record IsUpTo (u : List ℕ) (b : ℕ) (s : State) : Type 0 where
    pub after : (post : List ℕ) → IsAfter ((u ++ b ∷ []) ++ post) ts (suc (length u)) s
    pub rising : IsRising s.matches
    pub lists : (k : ℕ) → Has s.matches k ↔ RuleMatches rules k (u ++ b ∷ []) 0 (length u)
    pub kind : s.kind ≡ next_kind looks s.positions b

  -- the state after bytes and the end
  pub record IsWhole (u : List ℕ) (s : State) : Type 0 where
    pub positions : s.positions ≡ []
    pub kind : s.kind ≡ kind.Unseen
    pub rising : IsRising s.matches
    pub lists : (k : ℕ) → Has s.matches k ↔ RuleMatches rules k u 0 (length u)

  abbrev pub IsStateOf : Read → State → Type 0
  IsStateOf nothing s = s ≡ start_state
  IsStateOf (upto u b) s = IsUpTo u b s
  IsStateOf (whole u) s = IsWhole u s

  last_byte : (bytes : List ℕ) (b : ℕ) (post : List ℕ) → slice_get ((bytes ++ b ∷ []) ++ post) (length bytes) ≡ Some b
  last_byte [] b post = refl
  last_byte (x ∷ bytes) b post = last_byte bytes b post

  no_byte : (bytes : List ℕ) → byte_after bytes (length bytes) ≡ None
  no_byte [] = refl
  no_byte (x ∷ bytes) = no_byte bytes

  -- one more byte after a text
  up_to_more : (u : List ℕ) (b : ℕ) (s next : State) → ((post : List ℕ) → IsAfter (u ++ post) ts (length u) s) → IsNext ts looks s b next → IsUpTo u b next
  up_to_more u b s next after step = record {
    after = λ post. next_after ((u ++ b ∷ []) ++ post) ts (length u) s (subst (λ w. IsAfter w ts (length u) s) (sym (append_assoc u (b ∷ []) post)) (after (b ∷ post))) looks b next free (last_byte u b post) step;
    rising = step.matches.set.rising;
    lists = lists_by_byte (u ++ b ∷ []) ts (length u) s (after (b ∷ [])) rules looks b next are (subst (λ w. slice_get w (length u) ≡ Some b) (append-nil (u ++ b ∷ [])) (last_byte u b [])) step;
    kind = step.kind;
  }

  -- the end after a text
  whole_of : (u : List ℕ) (s next : State) → IsAfter u ts (length u) s → IsLast ts s next → IsWhole u next
  whole_of u s next after last = record {
    positions = last.positions;
    kind = last.kind;
    rising = last.matches.set.rising;
    lists = lists_at_end u ts (length u) s after rules next are (no_byte u) last;
  }

  size_more : (u : List ℕ) (b : ℕ) → suc (length u) ≡ length (u ++ b ∷ [])
  size_more u b = let n = length-append u (b ∷ []) in omega (arith, n)

  -- all states but one have a string
  pub string_of : (s : State) → IsReached ts looks s → (s ≡ dead_state) ⊎ ((r : Read) × IsRead rules r × IsStateOf r s)
  string_of _ at_start = inr (nothing, tt, refl)
  string_of _ (by_byte s next x lt h step) = go (string_of s h)
    where
      go : (s ≡ dead_state) ⊎ ((r : Read) × IsRead rules r × IsStateOf r s) → (next ≡ dead_state) ⊎ ((r : Read) × IsRead rules r × IsStateOf r next)
      go (inl e) = inl (dead_by_byte ts looks s (ap (λ z. z.positions) e) (ap (λ z. is_start z.kind) e) x next step)
      go (inr (nothing, ok, e)) =
          inr (upto [] x, only_byte x lt, up_to_more [] x s next (λ post. subst (IsAfter post ts 0) (sym e) (after_nothing post ts)) step)
      go (inr (upto u b, ok, is)) =
          inr (
            upto (u ++ b ∷ []) x,
            one_byte_more (u ++ b ∷ []) x lt ok,
            up_to_more (u ++ b ∷ []) x s next (λ post. subst (λ k. IsAfter ((u ++ b ∷ []) ++ post) ts k s) (size_more u b) (is.after post)) step,
          )
      go (inr (whole u, ok, is)) = inl (dead_by_byte ts looks s is.positions (ap is_start is.kind) x next step)
  string_of _ (by_end s next h last) = go (string_of s h)
    where
      go : (s ≡ dead_state) ⊎ ((r : Read) × IsRead rules r × IsStateOf r s) → (next ≡ dead_state) ⊎ ((r : Read) × IsRead rules r × IsStateOf r next)
      go (inl e) = inl (dead_by_end ts looks s (ap (λ z. z.positions) e) (ap (λ z. is_start z.kind) e) next last)
      go (inr (nothing, ok, e)) =
          inr (whole [], no_bytes, whole_of [] s next (subst (IsAfter [] ts 0) (sym e) (after_nothing [] ts)) last)
      go (inr (upto u b, ok, is)) =
          inr (
            whole (u ++ b ∷ []),
            ok,
            whole_of (u ++ b ∷ []) s next
                (subst (λ w. IsAfter w ts (length (u ++ b ∷ [])) s) (append-nil (u ++ b ∷ [])) (subst (λ k. IsAfter ((u ++ b ∷ []) ++ []) ts k s) (size_more u b) (is.after []))) last,
          )
      go (inr (whole u, ok, is)) = inl (dead_by_end ts looks s is.positions (ap is_start is.kind) next last)

-- the positions of patterns, by those of the trees
same_marked : (rules : List Rule) (ts : List Core) → AreRuleCores rules ts → (u v : List ℕ) (b c q : ℕ) →
    ((leaf : ℕ) (position : Position) → HasRead rules leaf position u b → HasRead rules leaf position v c) →
    MarkedIn ts (u ++ b ∷ []) (suc (length u)) q → MarkedIn ts (v ++ c ∷ []) (suc (length v)) q
same_marked [] [] are u v b c q same h = h
same_marked [] (t ∷ ts) are u v b c q same h = absurd are
same_marked (rule ∷ rules) [] are u v b c q same h = absurd are
same_marked (rule ∷ rules) (t ∷ ts) are u v b c q same h =
    ⊎_elim
    (λ p. inl (p.0, first p.1))
    (λ p. inr (p.0, same_marked rules ts are.1 u v b c (q - width t) (λ leaf. same (suc leaf)) p.1))
    h
  where
    first : Marked t (u ++ b ∷ []) (suc (length u)) q → Marked t (v ++ c ∷ []) (suc (length v)) q
    first m =
        let read = (Marked-iff (u ++ b ∷ []) t (suc (length u)) q).0 m in
        let position = (are.0.reads (u ++ b ∷ []) 0 (length u) q).0 read in
        (Marked-iff (v ++ c ∷ []) t (suc (length v)) q).1 ((are.0.reads (v ++ c ∷ []) 0 (length v) q).1 (position.0, same 0 position.0 position.1, position.2))

module _ (rules : List Rule) (ts : List Core) (are : AreRuleCores rules ts) (looks : Bool) (looks_is : looks ≡ some_look rules) (free : looks ≡ false → AreFree ts) where
  kind_alike : (xs : List ℕ) (b c : ℕ) → seen_kind rules b ≡ seen_kind rules c → next_kind looks xs b ≡ next_kind looks xs c
  kind_alike xs b c e = go looks looks_is xs
    where
      kinds : some_look rules ≡ true → reads.kind_of b ≡ reads.kind_of c
      kinds t = sym (ap (λ (z : Bool). if z then reads.kind_of b else reads.unseen) t) ∙ e ∙ ap (λ (z : Bool). if z then reads.kind_of c else reads.unseen) t

      go : (z : Bool) → z ≡ some_look rules → (xs : List ℕ) → next_kind z xs b ≡ next_kind z xs c
      go z is [] = refl
      go false is (x ∷ xs) = refl
      go true is (x ∷ xs) = sym (kind_is b) ∙ ap kind_as (kinds (sym is)) ∙ kind_is c

  -- strings with one key lead to one state
  pub same_key : (x y : Read) (s r : State) → IsStateOf rules ts are looks looks_is free x s → IsStateOf rules ts are looks looks_is free y r → SameKey rules x y → s ≡ r
  same_key nothing nothing s r f g same = f ∙ sym g
  same_key nothing (upto v c) s r f g same = absurd same
  same_key nothing (whole v) s r f g same = absurd same
  same_key (upto u b) nothing s r f g same = absurd same
  same_key (upto u b) (whole v) s r f g same = absurd same
  same_key (whole u) nothing s r f g same = absurd same
  same_key (whole u) (upto v c) s r f g same = absurd same
  same_key (whole u) (whole v) s r f g same =
      same_state_as s r (f.positions ∙ sym g.positions) (f.kind ∙ sym g.kind)
      (same_rising s.matches r.matches f.rising g.rising (λ k. iff_trans (f.lists k) (iff_trans (same k) (iff_sym (g.lists k)))))
  same_key (upto u b) (upto v c) s r f g same =
      let before = at_hand u b s f in
      let after = at_hand v c r g in
      let e : s.positions ≡ r.positions = same_rising s.positions r.positions before.set.rising after.set.rising
      (λ q. (
        λ h. (after.has q).1 (same_marked rules ts are u v b c q (λ leaf position. (same.positions leaf position).0) ((before.has q).0 h)),
        λ h. (before.has q).1 (same_marked rules ts are v u c b q (λ leaf position. (same.positions leaf position).1) ((after.has q).0 h)),
      )) in
      same_state_as s r e
      (f.kind ∙ ap (λ xs. next_kind looks xs b) e ∙ kind_alike r.positions b c same.kind ∙ sym g.kind)
      (same_rising s.matches r.matches f.rising g.rising (λ k. iff_trans (f.lists k) (iff_trans (same.leaves k) (iff_sym (g.lists k)))))
    where
      at_hand : (u : List ℕ) (b : ℕ) (s : State) → IsUpTo rules ts are looks looks_is free u b s → IsAfter (u ++ b ∷ []) ts (suc (length u)) s
      at_hand u b s f = subst (λ w. IsAfter w ts (suc (length u)) s) (append-nil (u ++ b ∷ [])) (f.after [])

pub state_at : (ks : List Key) (i : ℕ) → i < length ks → (s : State) × IsAt ks i s
state_at [] i lt = absurd (omega (arith, lt))
state_at (k ∷ ks) zero lt = (state_of k, record { key = k; is = refl; same = refl })
state_at (k ∷ ks) (suc i) lt = let r = state_at ks i (omega (arith, lt)) in (r.0, record { key = r.1.key; is = r.1.is; same = r.1.same })

-- no rule matches the empty text, where none can be passed
none_empty : (rules : List Rule) (leaf : ℕ) (bytes : List ℕ) (at : ℕ) → at ≤ length bytes → IsFalse (some_passable rules) → RuleMatches rules leaf bytes at at → ⊥
none_empty [] leaf bytes at le f m = m
none_empty (rule ∷ rules) zero bytes at le f m = true≢false (sym (first_true _ _ (passes rule.tree bytes at le m)) ∙ f)
  where
    first_true : (a b : Bool) → a ≡ true → (a || b) ≡ true
    first_true true b e = refl
    first_true false b e = cc
none_empty (rule ∷ rules) (suc leaf) bytes at le f m = none_empty rules leaf bytes at le (rest_false _ _ f) m
  where
    rest_false : (a b : Bool) → (a || b) ≡ false → b ≡ false
    rest_false true b e = absurd (true≢false e)
    rest_false false b e = e

module _ (rules : List Rule) (ts : List Core) (are : AreRuleCores rules ts) (looks : Bool) (looks_is : looks ≡ some_look rules) (free : looks ≡ false → AreFree ts) (start : AllStart rules) where
  -- the end at once leads to the dead state
  pub dead_at_once : (next : State) → IsLast ts start_state next → next ≡ dead_state
  dead_at_once next last =
      let is = whole_of rules ts are looks looks_is free [] start_state next (after_nothing [] ts) last in
      same_state_as next dead_state is.positions is.kind (nothing_there next.matches (λ k h. none_empty rules k [] 0 (omega arith) start.1 ((is.lists k).0 h)))

  -- so each state has a string
  dead_whole : IsWhole rules ts are looks looks_is free [] dead_state
  dead_whole = record {
    positions = refl;
    kind = refl;
    rising = no_positions.rising;
    lists = λ k. (λ h. absurd (none_there k h), λ m. absurd (none_empty rules k [] 0 (omega arith) start.1 m));
  }

  each_string : (s : State) → IsReached ts looks s → (r : Read) × IsRead rules r × IsStateOf rules ts are looks looks_is free r s
  each_string s h = go (string_of rules ts are looks looks_is free s h)
    where
      go : (s ≡ dead_state) ⊎ ((r : Read) × IsRead rules r × IsStateOf rules ts are looks looks_is free r s) → (r : Read) × IsRead rules r × IsStateOf rules ts are looks looks_is free r s
      go (inl e) = (whole [], no_bytes, subst (IsWhole rules ts are looks looks_is free []) (sym e) dead_whole)
      go (inr r) = r

  module _ (ks : List Key) (limit : ℕ) (reached : AreReached ts looks ks) (distinct : AreDistinct ks) (many : limit < length ks) where
    -- the strings of n states from the i-th on
    record AreStrings (i n : ℕ) (strings : List Read) : Type 0 where
      count : length strings ≡ n
      strings_are : (k : ℕ) (x : Read) → k < n →
          (s : State) × IsAt ks (i + k) s × IsRead rules (slice_index_or strings k x) × IsStateOf rules ts are looks looks_is free (slice_index_or strings k x) s

    strings_from : (n i : ℕ) → i + n ≤ suc limit → (strings : List Read) × AreStrings i n strings
    strings_from zero i le = ([], record { count = refl; strings_are = λ k x lt. absurd (omega (arith, lt)) })
    strings_from (suc n) i le =
        let rest = strings_from n (suc i) (omega (arith, le)) in
        let here = state_at ks i (omega (arith, le, many)) in
        let string = each_string here.0 (reached.reached i here.0 here.1) in (
          string.0 ∷ rest.0,
          record {
            count = ap suc rest.1.count;
            strings_are = λ k x lt. go here.0 here.1 string rest.0 rest.1 k x lt;
          },
        )
      where
        go : (s : State) → IsAt ks i s → (string : (r : Read) × IsRead rules r × IsStateOf rules ts are looks looks_is free r s) → (rest : List Read) → AreStrings (suc i) n rest →
            (k : ℕ) (x : Read) → k < suc n →
            (s : State) × IsAt ks (i + k) s × IsRead rules (slice_index_or (string.0 ∷ rest) k x) × IsStateOf rules ts are looks looks_is free (slice_index_or (string.0 ∷ rest) k x) s
        go s at string rest r zero x lt = let e : i ≡ i + 0 = omega arith in (s, subst (λ j. IsAt ks j s) e at, string.1, string.2)
        go s at string rest r (suc k) x lt =
            let e : suc i + k ≡ i + suc k = omega arith in
            let h = r.strings_are k x (omega (arith, lt)) in
            (h.0, subst (λ j. IsAt ks j h.0) e h.1, h.2, h.3)

    pub more_keys : HasMoreKeys rules limit
    more_keys =
        let all = strings_from (suc limit) 0 (omega arith) in
        record {
          strings = all.0;
          many = omega (arith, all.1.count);
          are_bytes = λ i. bytes_of all.0 i (λ x lt. (all.1.strings_are i x (omega (arith, lt, all.1.count))).2);
          different = λ i j x lt within same.
              let f = all.1.strings_are i x (omega (arith, lt, within, all.1.count)) in
              let g = all.1.strings_are j x (omega (arith, within, all.1.count)) in
              let e = same_key rules ts are looks looks_is free _ _ f.0 g.0 f.3 g.3 same in
              let one = distinct.distinct (0 + i) (0 + j) g.0 (subst (IsAt ks (0 + i)) e f.1) g.1 in
              omega (arith, one, lt);
        }
      where
        bytes_of : (strings : List Read) (i : ℕ) → ((x : Read) → i < length strings → IsRead rules (slice_index_or strings i x)) → IfSome (slice_get strings i) (IsRead rules)
        bytes_of [] i h = tt
        bytes_of (r ∷ strings) zero h = h nothing (omega arith)
        bytes_of (r ∷ strings) (suc i) h = bytes_of strings i (λ x lt. h x (omega (arith, lt)))
