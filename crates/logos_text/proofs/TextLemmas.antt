-- Texts that are printed part by part.
use Rattle.std.proofs.Common.{◌≡◌, ℕ, ◌+◌, ◌<◌, ◌≤◌, List, [], ◌∷◌, ◌++◌, length, map, drop, get_or, drop-cons, add-one, append-nil, append_assoc, refl, suc, sym, ◌∙◌, ap, subst}
use Rattle.std.proofs.Math.ListN.{drop_of_length-le}
use Rattle.std.specs.List.{flat_map}
use Rattle.logos_text.specs.Texts.{table_text, table_texts}
use Rattle.logos_text.specs.Occurrence.{OccurInOrder, Adds, Grows}

-- the part of an element is added
part_added : (whole old new part rest : List ℕ) → new ≡ old ++ part → old ++ (part ++ rest) ≡ whole → new ++ rest ≡ whole
part_added whole old new part rest e all = ap (λ text. text ++ rest) e ∙ append_assoc old part rest ∙ all

-- a loop that adds the text of each element
pub item_added : {A : Type 0} (g : A → List ℕ) (xs : List A) (i : ℕ) (d : A) (whole old new : List ℕ) → i < length xs →
    new ≡ old ++ g (get_or xs i d) → old ++ flat_map g (drop i xs) ≡ whole → new ++ flat_map g (drop (i + 1) xs) ≡ whole
item_added g xs i d whole old new l e all =
    part_added whole old new (g (get_or xs i d)) (flat_map g (drop (i + 1) xs)) e
    (ap (λ rest. old ++ rest) (rw (add-one, drop-cons xs i d) refl) ∙ all)

pub items_added : {A : Type 0} (g : A → List ℕ) (xs : List A) (i : ℕ) (whole text : List ℕ) → length xs ≤ i → text ++ flat_map g (drop i xs) ≡ whole → text ≡ whole
items_added g xs i whole text l all = sym (append-nil text) ∙ ap (λ rest. text ++ flat_map g rest) (sym (drop_of_length-le xs l)) ∙ all

-- one part after another
pub parts : (a : List ℕ) {b c : List ℕ} (u v : List ℕ) → b ≡ a ++ u → c ≡ b ++ v → c ≡ a ++ (u ++ v)
parts a u v e f = f ∙ ap (λ w. w ++ v) e ∙ append_assoc a u v

occur_after : (ys : List (List ℕ)) (u v : List ℕ) → OccurInOrder ys v → OccurInOrder ys (u ++ v)
occur_after [] u v k = tt
occur_after (y ∷ ys) u v k =
    (u ++ k.0, k.1, ap (λ w. u ++ w) k.2 ∙ sym (append_assoc u k.0 (y ++ k.1)), k.3)

occur_together : (xs ys : List (List ℕ)) (u v : List ℕ) → OccurInOrder xs u → OccurInOrder ys v → OccurInOrder (xs ++ ys) (u ++ v)
occur_together [] ys u v h k = occur_after ys u v k
occur_together (x ∷ xs) ys u v h k =
    (h.0, h.1 ++ v, ap (λ w. w ++ v) h.2 ∙ append_assoc h.0 (x ++ h.1) v ∙ ap (λ w. h.0 ++ w) (append_assoc x h.1 v), occur_together xs ys h.1 v h.3 k)

-- one step of printing after another
pub adds_both : {xs ys : List (List ℕ)} {a b c : List ℕ} → Adds xs a b → Adds ys b c → Adds (xs ++ ys) a c
adds_both {xs} {ys} {a} {b} {c} p q = record {
  added = p.added ++ q.added;
  is = q.is ∙ ap (λ w. w ++ q.added) p.is ∙ append_assoc a p.added q.added;
  occur = occur_together xs ys p.added q.added p.occur q.occur;
}

-- something is printed after
pub grows_after : {xs : List (List ℕ)} {a b c : List ℕ} → Adds xs a b → Grows b c → Adds xs a c
grows_after {xs} {a} {b} {c} p q = subst (λ texts. Adds texts a c) (append-nil xs) (adds_both p q)

-- a text is printed
pub adds_text : {a b : List ℕ} (text : List ℕ) → b ≡ a ++ text → Adds (text ∷ []) a b
adds_text text e = record { added = text; is = e; occur = ([], [], sym (append-nil text), tt) }

pub adds_nothing : (a : List ℕ) → Grows a a
adds_nothing a = record { added = []; is = sym (append-nil a); occur = tt }

-- an exact text is printed, and nothing is promised of it
pub grows_text : {a b : List ℕ} (text : List ℕ) → b ≡ a ++ text → Grows a b
grows_text text e = record { added = text; is = e; occur = tt }

-- a text added to the empty text is the whole
pub occur_whole : {texts : List (List ℕ)} {old whole : List ℕ} → old ≡ [] → Adds texts old whole → OccurInOrder texts whole
occur_whole {texts} {old} {whole} none p = subst (λ w. OccurInOrder texts w) (sym (p.is ∙ ap (λ w. w ++ p.added) none)) p.occur

-- a result for the rest of a loop's texts completes all of them
more_added : (all rest texts left : List (List ℕ)) (start old new : List ℕ) → rest ≡ texts ++ left → Adds texts old new →
    ((whole : List ℕ) → Adds rest old whole → Adds all start whole) → (whole : List ℕ) → Adds left new whole → Adds all start whole
more_added all rest texts left start old new e step so_far whole afterward = so_far whole (subst (λ ts. Adds ts old whole) (sym e) (adds_both step afterward))

all_added : (all rest : List (List ℕ)) (start text : List ℕ) → rest ≡ [] → ((whole : List ℕ) → Adds rest text whole → Adds all start whole) → Adds all start text
all_added all rest start text e so_far = so_far text (subst (λ ts. Adds ts text text) (sym e) (adds_nothing text))

-- the rest of a list begins with its next element
front : {A : Type 0} (xs : List A) (i : ℕ) (x : A) → i < length xs → x ≡ get_or xs i x → drop i xs ≡ x ∷ drop (i + 1) xs
front xs i x l is = rw (add-one, drop-cons xs i x) (ap (λ y. y ∷ drop (suc i) xs) (sym is))

-- loops over elements with a text each
pub texts_more : {A B : Type 0} (f : B → List ℕ) (g : A → B) (xs : List A) (i : ℕ) (x : A) (start old new : List ℕ) → i < length xs → x ≡ get_or xs i x →
    Adds (f (g x) ∷ []) old new → ((whole : List ℕ) → Adds (map f (map g (drop i xs))) old whole → Adds (map f (map g xs)) start whole) →
    (whole : List ℕ) → Adds (map f (map g (drop (i + 1) xs))) new whole → Adds (map f (map g xs)) start whole
texts_more f g xs i x start old new l is step so_far =
    more_added (map f (map g xs)) (map f (map g (drop i xs))) (f (g x) ∷ []) (map f (map g (drop (i + 1) xs))) start old new
    (ap (λ rest. map f (map g rest)) (front xs i x l is)) step so_far

pub texts_all : {A B : Type 0} (f : B → List ℕ) (g : A → B) (xs : List A) (i : ℕ) (start text : List ℕ) → length xs ≤ i →
    ((whole : List ℕ) → Adds (map f (map g (drop i xs))) text whole → Adds (map f (map g xs)) start whole) → Adds (map f (map g xs)) start text
texts_all f g xs i start text l so_far =
    all_added (map f (map g xs)) (map f (map g (drop i xs))) start text (ap (λ rest. map f (map g rest)) (drop_of_length-le xs l)) so_far

-- loops over elements with texts each
pub lists_more : {A B : Type 0} (f : B → List (List ℕ)) (g : A → B) (xs : List A) (i : ℕ) (x : A) (start old new : List ℕ) → i < length xs → x ≡ get_or xs i x →
    Adds (f (g x)) old new → ((whole : List ℕ) → Adds (flat_map f (map g (drop i xs))) old whole → Adds (flat_map f (map g xs)) start whole) →
    (whole : List ℕ) → Adds (flat_map f (map g (drop (i + 1) xs))) new whole → Adds (flat_map f (map g xs)) start whole
lists_more f g xs i x start old new l is step so_far =
    more_added (flat_map f (map g xs)) (flat_map f (map g (drop i xs))) (f (g x)) (flat_map f (map g (drop (i + 1) xs))) start old new
    (ap (λ rest. flat_map f (map g rest)) (front xs i x l is)) step so_far

pub lists_all : {A B : Type 0} (f : B → List (List ℕ)) (g : A → B) (xs : List A) (i : ℕ) (start text : List ℕ) → length xs ≤ i →
    ((whole : List ℕ) → Adds (flat_map f (map g (drop i xs))) text whole → Adds (flat_map f (map g xs)) start whole) → Adds (flat_map f (map g xs)) start text
lists_all f g xs i start text l so_far =
    all_added (flat_map f (map g xs)) (flat_map f (map g (drop i xs))) start text (ap (λ rest. flat_map f (map g rest)) (drop_of_length-le xs l)) so_far

-- the loop over tables
pub tables_more : (tables : List (List ℕ)) (n : ℕ) (entries start old new : List ℕ) → n < length tables → entries ≡ get_or tables n entries →
    Adds (table_text n entries ∷ []) old new → ((whole : List ℕ) → Adds (table_texts n (drop n tables)) old whole → Adds (table_texts 0 tables) start whole) →
    (whole : List ℕ) → Adds (table_texts (n + 1) (drop (n + 1) tables)) new whole → Adds (table_texts 0 tables) start whole
tables_more tables n entries start old new l is step so_far =
    more_added (table_texts 0 tables) (table_texts n (drop n tables)) (table_text n entries ∷ []) (table_texts (n + 1) (drop (n + 1) tables)) start old new
    (ap (table_texts n) (front tables n entries l is)) step so_far

pub tables_all : (tables : List (List ℕ)) (n : ℕ) (start text : List ℕ) → length tables ≤ n →
    ((whole : List ℕ) → Adds (table_texts n (drop n tables)) text whole → Adds (table_texts 0 tables) start whole) → Adds (table_texts 0 tables) start text
tables_all tables n start text l so_far =
    all_added (table_texts 0 tables) (table_texts n (drop n tables)) start text (ap (table_texts n) (drop_of_length-le tables l)) so_far
