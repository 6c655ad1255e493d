-- Files that are expanded one after another.
use Rattle.std.proofs.Common.{◌≡◌, ◌≢◌, ◌⊎◌, ◌≤◌, ◌<◌, ◌+◌, All, Contains, drop, drop-cons, get_or, length, map, ℕ, zero, suc, List, [], ◌∷◌, ◌++◌, Option, Some, None, Bool, true, false, IsTrue, inl, inr, refl, sym, subst, ap, ◌∙◌, arith, append-nil, append_assoc, length-append, true≢false}
use Rattle.std.proofs.lemmas.List.{drop_all, get_or-map}
use Rattle.std.proofs.lemmas.List.Elements.{All-cons, All-map, All-nil, All-same, All-weaker}
use Rattle.std.proofs.KnownBytes.{Appends-trans, Keeps-trans}
use Rattle.std.specs.Io.KnownBytes.{Appends, Keeps}
use Rattle.logos_host.specs.declared.comparison.Occurrence.{Occurrence}
use Rattle.logos_text.specs.Occurrence.{OccurInOrder}
use Rattle.logos_cli.specs.Orders.{OrderValue, requests_each}
use Rattle.logos_cli.specs.declared.batch.BatchFile.{BatchFile}
use Rattle.logos_cli.specs.inside.BatchFiles.{batch_file_order, orders_of, output_text}
use Rattle.logos_cli.specs.Runs.{AreCarriedOut, AreDenied, AreEnded, IsApart, IsCarriedOut, IsDelivered, IsDeniedOrder, IsNoInput, IsOwnOutput, has_twins, output_of}

-- texts occur in a text that follows another one
occur_afterward : (front : List ℕ) (texts : List (List ℕ)) (whole : List ℕ) → OccurInOrder texts whole → OccurInOrder texts (front ++ whole)
occur_afterward front [] whole s = tt
occur_afterward front (text ∷ texts) whole s = (front ++ s.0, s.1, ap (λ w. front ++ w) s.2 ∙ sym (append_assoc front s.0 (text ++ s.1)), s.3)

-- texts occur in some text
occur_somewhere : (texts : List (List ℕ)) → (whole : List ℕ) × OccurInOrder texts whole
occur_somewhere [] = ([], tt)
occur_somewhere (text ∷ texts) = let rest = occur_somewhere texts in (text ++ rest.0, ([], rest.0, refl, rest.1))

some_after : {X : Type 0} (xs : List X) (x : X) → xs ++ x ∷ [] ≢ []
some_after xs x e = omega (arith, ap length e, length-append xs (x ∷ []))

zero_or_one : (n : ℕ) → n ≤ 1 → (n ≡ 0) ⊎ (n ≡ 1)
zero_or_one zero h = inl refl
zero_or_one (suc zero) h = inr refl
zero_or_one (suc (suc n)) h = absurd (omega (arith, h))

nothing_appended : (known : Option (List ℕ)) → Appends known known []
nothing_appended None = tt
nothing_appended (Some bytes) = sym (append-nil bytes)

-- One more element has the property, and so the rest decides as before.
pub all_next : {X : Type 0} (P : X → Type 0) (xs : List X) (i : ℕ) (item : X) → i < length xs → item ≡ get_or xs i item → P item → (All P (drop i xs) → All P xs) → All P (drop (i + 1) xs) → All P xs
all_next P xs i item l e p so rest =
    let k : i + 1 ≡ suc i = omega arith in
    so (All-same P (drop i xs) (get_or xs i item ∷ drop (suc i) xs) (drop-cons xs i item l) (All-cons P (get_or xs i item) (drop (suc i) xs) (subst P e p) (subst (λ n. All P (drop n xs)) k rest)))

-- No element is left.
pub all_seen : {X : Type 0} (P : X → Type 0) (xs : List X) (i : ℕ) → length xs ≤ i → (All P (drop i xs) → All P xs) → All P xs
all_seen P xs i l so = so (All-same P (drop i xs) [] (drop_all i xs l) (All-nil P))

length_mapped : {X Y : Type 0} (f : X → Y) (xs : List X) → length (map f xs) ≡ length xs
length_mapped f [] = refl
length_mapped f (x ∷ xs) = ap suc (length_mapped f xs)

pub contains_mapped : {X Y : Type 0} (f : X → Y) (xs : List X) (x : X) → Contains xs x → Contains (map f xs) (f x)
contains_mapped f xs x h = (h.0, omega (arith, h.1, length_mapped f xs), get_or-map f xs h.0 x (f x) h.1 ∙ ap f h.2)

-- The first order of those that are left.
pub orders_next : (order : OrderValue) (batch_files : List BatchFile) (i : ℕ) (item : BatchFile) → i < length batch_files → item ≡ get_or batch_files i item → orders_of order (drop i batch_files) ≡ batch_file_order order item ∷ orders_of order (drop (i + 1) batch_files)
orders_next order batch_files i item l e =
    let k : suc i ≡ i + 1 = omega arith in
    ap (orders_of order) (drop-cons batch_files i item l) ∙ ap (λ x. batch_file_order order x ∷ orders_of order (drop (suc i) batch_files)) (sym e) ∙ ap (λ n. batch_file_order order item ∷ orders_of order (drop n batch_files)) k

-- No order is left.
pub orders_through : (order : OrderValue) (batch_files : List BatchFile) (i : ℕ) → length batch_files ≤ i → orders_of order (drop i batch_files) ≡ []
orders_through order batch_files i l = ap (orders_of order) (drop_all i batch_files l)

-- One more order is appended.
pub orders_pushed : (order : OrderValue) (batch_files : List BatchFile) (all : List BatchFile) (batch_file : BatchFile) (last : OrderValue) → all ≡ batch_files ++ batch_file ∷ [] → batch_file_order order batch_file ≡ last →
    orders_of order all ≡ orders_of order batch_files ++ last ∷ []
orders_pushed order batch_files all batch_file last e l = ap (orders_of order) e ∙ go batch_files ∙ ap (λ x. orders_of order batch_files ++ x ∷ []) l
  where
    go : (list : List BatchFile) → orders_of order (list ++ batch_file ∷ []) ≡ orders_of order list ++ batch_file_order order batch_file ∷ []
    go [] = refl
    go (one ∷ list) = ap (λ rest. batch_file_order order one ∷ rest) (go list)

-- The paths of results are those of the orders.
outputs_are : (order : OrderValue) (batch_files : List BatchFile) → map output_text batch_files ≡ map output_of (orders_of order batch_files)
outputs_are order [] = refl
outputs_are order (batch_file ∷ batch_files) = ap (λ rest. output_text batch_file ∷ rest) (outputs_are order batch_files)

module _ {F : Type 0} (same : F → List ℕ → List ℕ → Bool → Type 0) (order : OrderValue) (orders : List OrderValue) (files : F) where
  -- A result is a file that is read.
  pub own_found : (batch_files : List BatchFile) → orders_of order batch_files ≡ orders → (one : BatchFile) → Contains batch_files one → (other : BatchFile) → Contains batch_files other → same files other.input.now (output_text one) true →
      IsOwnOutput same (requests_each orders) files
  own_found batch_files e one has other holds is =
      subst (λ all. IsOwnOutput same (requests_each all) files) e (inl (batch_file_order order one, contains_mapped (batch_file_order order) batch_files one has, (batch_file_order order other, contains_mapped (batch_file_order order) batch_files other holds, is)))

  -- Two results have one path.
  pub twins_found : (batch_files : List BatchFile) → orders_of order batch_files ≡ orders → has_twins (map output_text batch_files) ≡ true → IsOwnOutput same (requests_each orders) files
  twins_found batch_files e t = subst (λ all. IsOwnOutput same (requests_each all) files) e (inr (sym (ap has_twins (outputs_are order batch_files)) ∙ t))

  -- Each result is another file.
  pub all_apart : (batch_files twins : List BatchFile) → orders_of order batch_files ≡ orders → orders_of order twins ≡ orders → All (λ one. All (λ other. same files other.input.now (output_text one) false) batch_files) batch_files →
      has_twins (map output_text twins) ≡ false → IsApart same (requests_each orders) files
  all_apart batch_files twins e d apart t = (
    subst (λ all. All (λ one. IsNoInput same all files (output_of one)) all) e
        (All-map (λ one. IsNoInput same (orders_of order batch_files) files (output_of one)) (batch_file_order order) batch_files
        (All-weaker (λ one. All (λ other. same files other.input.now (output_text one) false) batch_files) (λ one. IsNoInput same (orders_of order batch_files) files (output_text one))
        (λ one h. All-map (λ other. same files other.input (output_text one) false) (batch_file_order order) batch_files h) batch_files apart)),
    ap (λ all. has_twins (map output_of all)) (sym d) ∙ sym (ap has_twins (outputs_are order twins)) ∙ t,
  )

-- The texts of refusals that were written, so that the texts of later ones follow.
abbrev pub IsReported : List (List ℕ) → Option (List ℕ) → Option (List ℕ) → Type 0
IsReported texts old new =
    (reported : List ℕ) × Appends old new reported × ((more : List (List ℕ)) (rest : List ℕ) → OccurInOrder more rest → OccurInOrder (texts ++ more) (reported ++ rest))

module _ {F : Type 0} (yields makes : F → List ℕ → List ℕ → F → Type 0) (finds : F → List ℕ → List ℕ → Occurrence → F → Type 0) where
  -- How the runs of files so far ended: a result for the rest completes to a result for the whole.
  abbrev pub IsDoneSoFar : List OrderValue → List OrderValue → ℕ → F → F → Option (List ℕ) → Option (List ℕ) → Type 0
  IsDoneSoFar orders left status first now old new =
      status ≡ 0 → (after : F) (last : Option (List ℕ)) → AreCarriedOut yields makes finds left now after new last → AreCarriedOut yields makes finds orders first after old last

  abbrev pub IsEndedSoFar : List OrderValue → List OrderValue → ℕ → Bool → F → F → Option (List ℕ) → Option (List ℕ) → Type 0
  IsEndedSoFar orders left status is_written first now old new =
      status ≤ 1 → (texts : List (List ℕ)) × (status ≡ 1 → texts ≢ [])
      × ((after : F) (more : List (List ℕ)) → AreEnded yields makes finds left now after more → AreEnded yields makes finds orders first after (texts ++ more))
      × (IsTrue is_written → IsReported texts old new)

  -- the clauses of the run of one file
  abbrev pub EndsDone : OrderValue → ℕ → F → F → Option (List ℕ) → Option (List ℕ) → Type 0
  EndsDone order status files after old new = status ≡ 0 → IsCarriedOut yields makes finds order files after old new

  abbrev pub EndsDenied : OrderValue → ℕ → Bool → F → F → Option (List ℕ) → Option (List ℕ) → Type 0
  EndsDenied order status is_written files after old new =
      status ≡ 1 → (shown : List ℕ) × IsDeniedOrder yields makes finds order files after shown × (IsTrue is_written → (front : List ℕ) × Appends old new (front ++ shown))

  abbrev pub EndsReported : Bool → Option (List ℕ) → Option (List ℕ) → Type 0
  EndsReported is_written old new = IsTrue is_written → (text : List ℕ) × Appends old new text

  -- a result that goes into a file leaves standard output as it is
  pub carried_keeps : (order : OrderValue) (files after : F) (old new : Option (List ℕ)) → (path : List ℕ) → order.output ≡ Some path → IsCarriedOut yields makes finds order files after old new → Keeps old new
  carried_keeps order files after old new path e r =
      (subst (λ output. IsDelivered yields makes finds order output r.holds.0 r.after after old new) e r.holds.2).1

  pub none_done : (orders : List OrderValue) (files : F) (out : Option (List ℕ)) → IsDoneSoFar orders orders 0 files files out out
  none_done orders files out e after last h = h

  pub none_ended : (orders : List OrderValue) (files : F) (err : Option (List ℕ)) → IsEndedSoFar orders orders 0 true files files err err
  none_ended orders files err l = ([], (λ e. absurd (omega (arith, e))), (λ after more h. h), (λ _. ([], nothing_appended err, λ more rest s. s)))

  module _ (orders left : List OrderValue) (order : OrderValue) (one other both : ℕ) (first now next : F) (least : one ≤ both) (most : other ≤ both) (is : (both ≡ one) ⊎ (both ≡ other)) where
    pub next_done : (old middle new : Option (List ℕ)) → IsDoneSoFar orders (order ∷ left) one first now old middle → EndsDone order other now next middle new → IsDoneSoFar orders left both first next old new
    next_done old middle new so done e after last h = so (omega (arith, least, e)) after last (next, new, done (omega (arith, most, e)), h)

    pub next_ended : (is_written is_next : Bool) (old middle new was out : Option (List ℕ)) → IsEndedSoFar orders (order ∷ left) one is_written first now old middle →
        EndsDone order other now next was out → EndsDenied order other is_next now next middle new → EndsReported is_next middle new →
        (w : Bool) → (IsTrue w → IsTrue is_written × IsTrue is_next) → IsEndedSoFar orders left both w first next old new
    next_ended is_written is_next old middle new was out so done denied reported w parts l =
        let before = so (omega (arith, least, l)) in
        go before (zero_or_one other (omega (arith, most, l)))
      where
        go : ((texts : List (List ℕ)) × (one ≡ 1 → texts ≢ [])
            × ((after : F) (more : List (List ℕ)) → AreEnded yields makes finds (order ∷ left) now after more → AreEnded yields makes finds orders first after (texts ++ more))
            × (IsTrue is_written → IsReported texts old middle)) → (other ≡ 0) ⊎ (other ≡ 1) →
            (texts : List (List ℕ)) × (both ≡ 1 → texts ≢ [])
            × ((after : F) (more : List (List ℕ)) → AreEnded yields makes finds left next after more → AreEnded yields makes finds orders first after (texts ++ more))
            × (IsTrue w → IsReported texts old new)
        go before (inl e) = (
          before.0,
          (λ b. before.1 (elim is [ inl i ↦ omega (arith, b, i) | inr i ↦ absurd (omega (arith, b, i, e)) ])),
          (λ after more h. before.2 after more (next, [], more, refl, inl (was, out, done e, refl), h)),
          (λ t. let p = parts t in let s = before.3 p.0 in let u = reported p.1 in (
            s.0 ++ u.0,
            Appends-trans old middle new s.0 u.0 s.1 u.1,
            λ more rest st. subst (λ x. OccurInOrder (before.0 ++ more) x) (sym (append_assoc s.0 u.0 rest)) (s.2 more (u.0 ++ rest) (occur_afterward u.0 more rest st)),
          )),
        )
        go before (inr e) =
            let d = denied e in
            let shown = d.0 in (
              before.0 ++ shown ∷ [],
              (λ b. some_after before.0 shown),
              (λ after more h. subst (λ t. AreEnded yields makes finds orders first after t) (sym (append_assoc before.0 (shown ∷ []) more)) (before.2 after (shown ∷ more) (next, shown ∷ [], more, refl, inr (shown, d.1, refl), h))),
              (λ t. let p = parts t in let s = before.3 p.0 in let u = d.2 p.1 in let text = u.0 ++ shown in (
                s.0 ++ text,
                Appends-trans old middle new s.0 text s.1 u.1,
                λ more rest st. subst (λ x. OccurInOrder x ((s.0 ++ text) ++ rest)) (sym (append_assoc before.0 (shown ∷ []) more)) (subst (λ x. OccurInOrder (before.0 ++ shown ∷ more) x) (sym (append_assoc s.0 text rest)) (s.2 (shown ∷ more) (text ++ rest) (u.0, rest, append_assoc u.0 shown rest, st))),
              )),
            )

    pub next_silent : (old middle new : Option (List ℕ)) → (one ≤ 1 → Keeps old middle) → EndsDone order other now next middle new → (other ≡ 1 → Keeps middle new) → (path : List ℕ) → order.output ≡ Some path →
        both ≤ 1 → Keeps old new
    next_silent old middle new so done silent path e l = Keeps-trans old middle new (so (omega (arith, least, l))) (go (zero_or_one other (omega (arith, most, l))))
      where
        go : (other ≡ 0) ⊎ (other ≡ 1) → Keeps middle new
        go (inl z) = carried_keeps order now next middle new path e (done z)
        go (inr z) = silent z

    pub next_known : (one ≤ 3) → (one ≢ 2) → (other ≤ 3) × (other ≢ 2) → (both ≤ 3) × (both ≢ 2)
    next_known l n k = elim is [
      | inl e ↦ (omega (arith, e, l), λ t. n (sym e ∙ t))
      | inr e ↦ (omega (arith, e, k.0), λ t. k.1 (sym e ∙ t))
    ]

  -- All files were expanded.
  pub all_done : (orders : List OrderValue) (status : ℕ) (first now : F) (old new : Option (List ℕ)) → IsDoneSoFar orders [] status first now old new → status ≡ 0 → AreCarriedOut yields makes finds orders first now old new
  all_done orders status first now old new so e = so e now new (refl, refl)

  pub all_denied : (orders : List OrderValue) (status : ℕ) (is_written : Bool) (first now : F) (old new : Option (List ℕ)) → IsEndedSoFar orders [] status is_written first now old new → status ≡ 1 →
      (shown : List ℕ) × AreDenied yields makes finds orders first now shown × (IsTrue is_written → (front : List ℕ) × Appends old new (front ++ shown))
  all_denied orders status true first now old new so e =
      let h = so (omega (arith, e)) in
      let s = h.3 refl in
      (s.0 ++ [], (h.0 ++ [], (λ n. h.1 e (sym (append-nil h.0) ∙ n)), h.2 now [] (refl, refl), s.2 [] [] tt), λ t. ([], subst (λ x. Appends old new x) (sym (append-nil s.0)) s.1))
  all_denied orders status false first now old new so e =
      let h = so (omega (arith, e)) in
      let whole = occur_somewhere (h.0 ++ []) in
      (whole.0, (h.0 ++ [], (λ n. h.1 e (sym (append-nil h.0) ∙ n)), h.2 now [] (refl, refl), whole.1), λ t. absurd (true≢false (sym t)))
