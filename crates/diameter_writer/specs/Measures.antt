-- What is found before anything is written: the length, that the AVPs fit, and (which holds of any `u32`) that numbers fit four octets.
use Rattle.std.specs.Prelude.{◌≡◌, ℕ, ◌^◌, ◌<◌, true, List, [], ◌∷◌, ◌≢◌}
use Rattle.diameter_headers.specs.declared.place.Kind.{Kind}
use Rattle.diameter_writer.specs.Encoding.{vendor_for}
use Rattle.diameter_writer.specs.Messages.{all_fit, message_len}
use Rattle.diameter_writer.specs.declared.avp.Avp.{Avp}
use Rattle.diameter_writer.specs.declared.message.MessageFields.{MessageFields}

-- the numbers of the header have four octets
pub record FieldsTyped (f : MessageFields) : Type 0 where
  pub application : f.application < 2 ^ 32
  pub hop_by_hop : f.hop_by_hop < 2 ^ 32
  pub end_to_end : f.end_to_end < 2 ^ 32

-- codes and vendors have four octets
unfoldable pub Typed : List Avp → Type 0
Typed [] = Unit {0}
Typed (a ∷ rest) = (a.code < 2 ^ 32) × (vendor_for a < 2 ^ 32) × Typed rest

module _ {P : Type 0} (kinds : P → ℕ → ℕ → Kind P) (p : P) (avps : List Avp) where
  -- the message has this length, which three octets hold, and all its AVPs fit
  pub record Measured (n : ℕ) : Type 0 where
    pub total : n ≡ message_len avps
    pub small : n < 2 ^ 24
    pub fits : all_fit kinds p avps ≡ true
    pub typed : Typed avps

  -- the message is too long, or an AVP does not fit
  abbrev pub Unmeasured : Type 0
  Unmeasured = message_len avps < 2 ^ 24 → all_fit kinds p avps ≢ true
