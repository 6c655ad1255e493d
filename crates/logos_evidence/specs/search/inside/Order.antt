-- The order in which bytes are searched: letters, digits, punctuation, and then the rest.
use Rattle.std.specs.Prelude.{◌≡◌, ℕ, ◌+◌, ◌<◌, ◌≤◌}

-- The byte at an index of the order.
pub record IsByteAt (site byte : ℕ) : Type 0 where
  pub small : site < 26 → byte ≡ 97 + site
  pub capital : 26 ≤ site → site < 52 → byte ≡ 39 + site
  pub digit : 52 ≤ site → site < 62 → byte + 4 ≡ site
  pub blank : 62 ≤ site → site < 78 → byte + 30 ≡ site
  pub colon : 78 ≤ site → site < 85 → byte + 20 ≡ site
  pub bracket : 85 ≤ site → site < 91 → byte ≡ 6 + site
  pub brace : 91 ≤ site → site < 95 → byte ≡ 32 + site
  pub control : 95 ≤ site → site < 127 → byte + 95 ≡ site
  pub others : 127 ≤ site → byte ≡ site
