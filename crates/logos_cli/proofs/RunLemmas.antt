-- The reasons that a run fails, and their reports.
use Rattle.std.proofs.Common.{◌≡◌, ◌≢◌, ◌⊎◌, ◌≤◌, ℕ, List, [], ◌++◌, Option, Some, None, Bool, Result, Ok, Err, IfErr, IfSome, IsTrue, inl, inr, refl, subst, arith, string_bytes}
use Rattle.std.proofs.KnownBytes.{Appends-trans}
use Rattle.std.specs.Io.KnownBytes.{Appends}
use Rattle.logos_host.specs.declared.comparison.Occurrence.{Occurrence}
use Rattle.logos_host.specs.declared.failure.Failure.{Failure}
use Rattle.logos_host.specs.declared.failure.Failure.TheVariants.{Misuse, UnknownOption, OwnOutput, Refused, NotUtf8, NotText, Read, Write, Output, Closed, Memory}
use Rattle.logos_host.specs.Failures.{status_of}
use Rattle.logos_host.specs.Messages.{message_of}
use Rattle.logos_host.specs.Reading.{Reads}
use Rattle.logos_expand.specs.Expanding.{IsExpanded}
use Rattle.logos_expand.specs.Gathering.{FailsBy, FailsFor, IsCause, IsRefusedFor}
use Rattle.logos_cli.specs.Orders.{OrderValue}
use Rattle.logos_cli.specs.Runs.{IsCarriedOut, IsDelivered, IsDeniedOrder, IsOther}

-- a failure has one of three statuses
pub known_status : (failure : Failure) → (status_of failure ≤ 3) × (status_of failure ≢ 0)
known_status (Misuse what word) = (omega arith, λ e. absurd (omega (arith, e)))
known_status (UnknownOption word nearest) = (omega arith, λ e. absurd (omega (arith, e)))
known_status (OwnOutput path) = (omega arith, λ e. absurd (omega (arith, e)))
known_status (Refused text) = (omega arith, λ e. absurd (omega (arith, e)))
known_status (NotUtf8 valid_up_to) = (omega arith, λ e. absurd (omega (arith, e)))
known_status (NotText path valid_up_to) = (omega arith, λ e. absurd (omega (arith, e)))
known_status (Read path reason) = (omega arith, λ e. absurd (omega (arith, e)))
known_status (Write path reason) = (omega arith, λ e. absurd (omega (arith, e)))
known_status Output = (omega arith, λ e. absurd (omega (arith, e)))
known_status Closed = (omega arith, λ e. absurd (omega (arith, e)))
known_status Memory = (omega arith, λ e. absurd (omega (arith, e)))

-- a refusal for another reason
refused_also : (One Other : List ℕ → Type 0) (failure : Failure) → ((shown : List ℕ) → One shown → Other shown) → IsRefusedFor One failure → IsRefusedFor Other failure
refused_also One Other (Misuse what word) f r = absurd r
refused_also One Other (UnknownOption word nearest) f r = absurd r
refused_also One Other (OwnOutput path) f r = absurd r
refused_also One Other (Refused text) f r = f (string_bytes text) r
refused_also One Other (NotUtf8 valid_up_to) f r = absurd r
refused_also One Other (NotText path valid_up_to) f r = absurd r
refused_also One Other (Read path reason) f r = absurd r
refused_also One Other (Write path reason) f r = absurd r
refused_also One Other Output f r = absurd r
refused_also One Other Closed f r = absurd r
refused_also One Other Memory f r = absurd r

pub fails_also : (One Other : List ℕ → Type 0) (failure : Failure) → ((shown : List ℕ) → One shown → Other shown) → FailsBy (IsRefusedFor One) failure → FailsBy (IsRefusedFor Other) failure
fails_also One Other failure f (inl e) = inl e
fails_also One Other failure f (inr r) = inr (r.0, refused_also One Other failure f r.1)

-- a failure that is a refusal or of exit status 3 is not a misuse
pub fails_twice : {Reason : Type 0} (failure : Failure) → (status_of failure ≡ 3) ⊎ ((status_of failure ≡ 1) × Reason) → status_of failure ≢ 2
fails_twice failure (inl e) s = omega (arith, e, s)
fails_twice failure (inr r) s = omega (arith, r.0, s)

-- the text of a refusal is its message
message_shown : (Shown : List ℕ → Type 0) (failure : Failure) → IsRefusedFor Shown failure → (shown : List ℕ) × Shown shown × ((usage : List ℕ) → message_of usage failure ≡ shown)
message_shown Shown (Misuse what word) r = absurd r
message_shown Shown (UnknownOption word nearest) r = absurd r
message_shown Shown (OwnOutput path) r = absurd r
message_shown Shown (Refused text) r = (string_bytes text, r, λ usage. refl)
message_shown Shown (NotUtf8 valid_up_to) r = absurd r
message_shown Shown (NotText path valid_up_to) r = absurd r
message_shown Shown (Read path reason) r = absurd r
message_shown Shown (Write path reason) r = absurd r
message_shown Shown Output r = absurd r
message_shown Shown Closed r = absurd r
message_shown Shown Memory r = absurd r

-- the last text of a refusal on standard error
pub written : (Shown : List ℕ → Type 0) (failure : Failure) (is_written : Bool) (old new : Option (List ℕ)) → FailsBy (IsRefusedFor Shown) failure → status_of failure ≡ 1 →
    (IsTrue is_written → (usage : List ℕ) × Appends old new (message_of usage failure)) →
    (shown : List ℕ) × Shown shown × (IsTrue is_written → (front : List ℕ) × Appends old new (front ++ shown))
written Shown failure is_written old new (inl e) s t = absurd (omega (arith, e, s))
written Shown failure is_written old new (inr r) s t =
    let m = message_shown Shown failure r.1 in
    (m.0, m.1, λ b. let a = t b in ([], subst (λ x. Appends old new x) (m.2 a.0) a.1))

-- the same after a warning
pub written_after : (Shown : List ℕ → Type 0) (failure : Failure) (is_warned is_written : Bool) (old middle new : Option (List ℕ)) → FailsBy (IsRefusedFor Shown) failure → status_of failure ≡ 1 →
    (IsTrue is_warned → (text : List ℕ) × Appends old middle text) → (IsTrue is_written → IsTrue is_warned × ((usage : List ℕ) × Appends middle new (message_of usage failure))) →
    (shown : List ℕ) × Shown shown × (IsTrue is_written → (front : List ℕ) × Appends old new (front ++ shown))
written_after Shown failure is_warned is_written old middle new (inl e) s w t = absurd (omega (arith, e, s))
written_after Shown failure is_warned is_written old middle new (inr r) s w t =
    let m = message_shown Shown failure r.1 in
    (m.0, m.1, λ b. let a = t b in let front = w a.0 in (front.0, Appends-trans old middle new front.0 m.0 front.1 (subst (λ x. Appends middle new x) (m.2 a.1.0) a.1.1)))

-- a refusal whose text shows something, and the facts about that text
pub shown_only : {A : Type 0} (Shown Known : A → List ℕ → Type 0) (found : Option A) → IfSome found (λ one. (shown : List ℕ) × Shown one shown × Known one shown) → IfSome found (λ one. (shown : List ℕ) × Shown one shown)
shown_only Shown Known None h = tt
shown_only Shown Known (Some one) h = (h.0, h.1)

module _ {F : Type 0} (yields makes : F → List ℕ → List ℕ → F → Type 0) (finds : F → List ℕ → List ℕ → Occurrence → F → Type 0) (order : OrderValue) where
  -- the file that was read has faults
  pub denied_faults : {A : Type 0} (result : Result A Failure) (files after : F) (text shown : List ℕ) → yields files order.input text after → shown ≡ text →
      IfErr result (FailsFor order.format order.denies order.shape (record { path = order.input; text = shown })) → IfErr result (FailsBy (IsRefusedFor (IsDeniedOrder yields makes finds order files after)))
  denied_faults (Ok done) files after text shown g e h = tt
  denied_faults (Err failure) files after text shown g e h =
      fails_also (IsCause order.format order.denies order.shape (record { path = order.input; text = shown })) (IsDeniedOrder yields makes finds order files after) failure (λ reads_as faults. record { bytes = text; after = after; given = g; holds = inl (refl, subst (λ t. IsCause order.format order.denies order.shape (record { path = order.input; text = t }) reads_as) e faults) }) h

  -- the file was read and expanded, and the result delivered
  pub carried_out : (files between after : F) (bytes : List ℕ) (old new : Option (List ℕ)) →
      Reads yields files order.input (λ text read. (between ≡ read) × IsExpanded order.shape order.input text bytes) → IsDelivered yields makes finds order order.output bytes between after old new →
      IsCarriedOut yields makes finds order files after old new
  carried_out files between after bytes old new r d = record {
    bytes = r.bytes;
    after = r.after;
    given = r.given;
    holds = (bytes, r.holds.1, subst (λ f. IsDelivered yields makes finds order order.output bytes f after old new) r.holds.0 d);
  }

  -- or it was only to be compared, and another file has other bytes
  pub denied_check : (files between after : F) (bytes shown : List ℕ) → Reads yields files order.input (λ text read. (between ≡ read) × IsExpanded order.shape order.input text bytes) →
      IsTrue order.is_check × IfSome order.output (λ path. IsOther finds path bytes between after) → IsDeniedOrder yields makes finds order files after shown
  denied_check files between after bytes shown r d = record {
    bytes = r.bytes;
    after = r.after;
    given = r.given;
    holds = inr (d.0, (bytes, r.holds.1, subst (λ f. IfSome order.output (λ path. IsOther finds path bytes f after)) r.holds.0 d.1));
  }
