use Rattle.std.proofs.Common.{◌≡◌, ◌↔◌, ◌⊎◌, inl, inr, ℕ, List, map, Contains, Vec, Global}
use Rattle.std.specs.BTreeSet.{insert_key}
use Rattle.logos_automaton.proofs.ambiguity.SameMembers.{Has, has_from_contains, contains_from_has}
use Rattle.logos_automaton.proofs.ambiguity.SetOrder.{by_numbers, inserted}
use Rattle.logos_automaton.proofs.faults.add_set.Goals as goal

abbrev items_of : Vec ℕ Global → List ℕ
items_of v = v.items

added : (old new : List (Vec ℕ Global)) (set : Vec ℕ Global) → new ≡ insert_key (by_numbers items_of) old set → (other : List ℕ) → Contains (map items_of new) other ↔ (Contains (map items_of old) other ⊎ (other ≡ items_of set))
added old new set e other = (there, back)
  where
    i : Has (map items_of (insert_key (by_numbers items_of) old set)) other ↔ (Has (map items_of old) other ⊎ (other ≡ items_of set))
    i = inserted items_of old set other

    into : Has (map items_of old) other ⊎ (other ≡ items_of set) → Contains (map items_of old) other ⊎ (other ≡ items_of set)
    into (inl h) = inl (contains_from_has _ _ h)
    into (inr q) = inr q

    out : Contains (map items_of old) other ⊎ (other ≡ items_of set) → Has (map items_of old) other ⊎ (other ≡ items_of set)
    out (inl h) = inl (has_from_contains _ _ h)
    out (inr q) = inr q

    there : Contains (map items_of new) other → Contains (map items_of old) other ⊎ (other ≡ items_of set)
    there c = into (i.0 (has_from_contains _ _ (rw e at c)))

    back : Contains (map items_of old) other ⊎ (other ≡ items_of set) → Contains (map items_of new) other
    back c = rw e (contains_from_has _ _ (i.1 (out c)))

pub returns : goal.returns
returns c = λ other. added c.args.sets.now.keys c.insert.new.self.keys c.args.set c.in_ok-insert.ensures.keys other
