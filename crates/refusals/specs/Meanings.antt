-- What each refusal stands for: its number, the Diameter Result-Code (0 where no message is at fault),
-- the layer that it comes from, and whether it names the AVP at fault by its offset.
use Rattle.std.specs.Prelude.{ℕ, Bool, true, false}
use Rattle.refusals.specs.declared.refusal.Layer.{Layer}
use Rattle.refusals.specs.declared.refusal.Layer.TheVariants.{Call, Framing, Grammar, Session, Rules, Configuration}
use Rattle.refusals.specs.declared.refusal.Refusal.{Refusal}
use Rattle.refusals.specs.declared.refusal.Refusal.TheVariants.{BearerNumber, State, TextLength, TriggerNotArmed, UpdatesSpent, NoSpace, MessageLength, Version, Command, HeaderFlags, Application, AvpLength, UnknownMandatory, ValueRange, TooOften, Missing, SessionId, NotAwaited, RuleContent, TooManyMembers, StoreFull, ConfigurationParts, ConfigurationCounts, ConfigurationRule, ConfigurationNames, ConfigurationGroup}

pub record Meaning : Type 0 where
  pub number : ℕ
  pub code : ℕ
  pub layer : Layer
  pub located : Bool

abbrev pub row : ℕ → ℕ → Layer → Bool → Meaning
row number code layer located = record { number = number; code = code; layer = layer; located = located }

abbrev pub meaning : Refusal → Meaning
meaning BearerNumber = row 1 0 Call false
meaning State = row 2 0 Call false
meaning TextLength = row 3 0 Call false
meaning TriggerNotArmed = row 4 0 Call false
meaning UpdatesSpent = row 5 0 Call false
meaning NoSpace = row 6 0 Call false
meaning MessageLength = row 7 5015 Framing false
meaning Version = row 8 5011 Framing false
meaning Command = row 9 3001 Framing false
meaning HeaderFlags = row 10 3008 Framing false
meaning Application = row 11 3007 Framing false
meaning AvpLength = row 12 5014 Framing true
meaning UnknownMandatory = row 13 5001 Grammar true
meaning ValueRange = row 14 5004 Grammar true
meaning TooOften = row 15 5009 Grammar true
meaning Missing = row 16 5005 Grammar false
meaning SessionId = row 17 5002 Session false
meaning NotAwaited = row 18 5012 Session false
meaning RuleContent = row 19 5004 Rules true
meaning TooManyMembers = row 20 5006 Rules false
meaning StoreFull = row 21 5006 Rules false
meaning ConfigurationParts = row 22 0 Configuration false
meaning ConfigurationCounts = row 23 0 Configuration false
meaning ConfigurationRule = row 24 0 Configuration false
meaning ConfigurationNames = row 25 0 Configuration false
meaning ConfigurationGroup = row 26 0 Configuration false
