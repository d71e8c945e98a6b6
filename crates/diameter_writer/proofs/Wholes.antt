-- Header and AVPs, one after the other, are the message.
use Rattle.std.proofs.Common.{◌≡◌, ℕ, ◌^◌, ◌<◌, ◌≤◌, true, List, ◌++◌, ◌+◌, length, take, drop, ap, ◌∙◌, zero-add, arith, lt-ltb, le-leb}
use Rattle.diameter_headers.specs.declared.place.Kind.{Kind}
use Rattle.diameter_writer.specs.Encoding.{encode_avps}
use Rattle.diameter_writer.specs.Messages.{all_fit, encode_message, header_octets, message_len, writable}
use Rattle.diameter_writer.specs.Outputs.{Put}
use Rattle.diameter_writer.specs.declared.avp.Avp.{Avp}
use Rattle.diameter_writer.specs.declared.message.MessageFields.{MessageFields}
use Rattle.diameter_writer.specs.declared.output.Output.{Output}

pub message_length : (f : MessageFields) (avps : List Avp) → length (encode_message f avps) ≡ message_len avps
unfolding encode_message
message_length f avps = omega arith

-- header and AVPs were written at the start of an output
pub put_message : (f : MessageFields) (avps : List Avp) (o : Output) (total : ℕ) (n : Output) → o.end ≡ 0 → total ≡ message_len avps → Put o (header_octets f total ++ encode_avps avps) n → n.octets.now ≡ encode_message f avps ++ drop (length (encode_message f avps)) o.octets.now
unfolding encode_message
put_message f avps o total n none is p =
    p.wrote.is
    ∙ (λ i. take (none i) o.octets.now ++ ((header_octets f (is i) ++ encode_avps avps) ++ drop (none i + length (header_octets f (is i) ++ encode_avps avps)) o.octets.now))
    ∙ ap (λ k. encode_message f avps ++ drop k o.octets.now) (zero-add (length (encode_message f avps)))

pub writable_is : {P : Type 0} (kinds : P → ℕ → ℕ → Kind P) (p : P) (f : MessageFields) (avps : List Avp) (room : ℕ) → f.command < 2 ^ 24 → message_len avps < 2 ^ 24 → message_len avps ≤ room → all_fit kinds p avps ≡ true → writable kinds p f avps room ≡ true
writable_is kinds p f avps room command small fits all = simp (lt-ltb f.command (2 ^ 24) command, lt-ltb (message_len avps) (2 ^ 24) small, le-leb (message_len avps) room fits) all
