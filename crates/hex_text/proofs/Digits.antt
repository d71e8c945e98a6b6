-- What one turn of reading hexadecimal keeps.
use Rattle.std.proofs.Common.{◌≡◌, ℕ, ◌+◌, ◌*◌, ◌<◌, ◌≤◌, true, false, List, [], ◌∷◌, ◌++◌, length, get_or, drop, IfSome, Some, None, Ok, Err, Option, Result, sym, refl, ap, ◌∙◌, append_assoc, append-nil}
use Rattle.std.proofs.lemmas.List.{at_drop_more, at_drop_all}
use Rattle.hex_text.specs.Hex.{digit_value, hex_read, is_blank, octet_then}
use Rattle.hex_text.specs.declared.hex.HexError.{HexError}
use Rattle.hex_text.specs.declared.hex.HexError.TheVariants.{NotADigit, HalfOctet}

-- octets that were read, and then what is read
abbrev pub after : List ℕ → Result (List ℕ) HexError → Result (List ℕ) HexError
after xs (Ok ys) = Ok (xs ++ ys)
after xs (Err e) = Err e

after_octet : (xs : List ℕ) (x : ℕ) (r : Result (List ℕ) HexError) → after xs (octet_then x r) ≡ after (xs ++ x ∷ []) r
after_octet xs x (Ok ys) = ap Ok (sym (append_assoc xs (x ∷ []) ys))
after_octet xs x (Err e) = refl

-- the text up to `at` gave these octets and this half of one
pub record Reading (text octets : List ℕ) (half : Option ℕ) (at : ℕ) : Type 0 where
  pub value : hex_read 0 None text ≡ after octets (hex_read at half (drop at text))
  pub small : IfSome half (λ h. h < 16)

module _ (text octets : List ℕ) (half : Option ℕ) (at : ℕ) (t : Reading text octets half at) where
  module _ (inside : at < length text) where
    -- the next character decides
    met : hex_read 0 None text ≡ after octets (hex_read at half (get_or text at 0 ∷ drop (at + 1) text))
    met = t.value ∙ at_drop_more (λ l. after octets (hex_read at half l)) text at 0 inside

    pub blank_more : is_blank (get_or text at 0) ≡ true → Reading text octets half (at + 1)
    unfolding hex_read
    blank_more blank = record { value = rw blank at met; small = t.small }

    pub no_digit : is_blank (get_or text at 0) ≡ false → None ≡ digit_value (get_or text at 0) → Err (NotADigit at) ≡ hex_read 0 None text
    unfolding hex_read
    no_digit shown is = sym (rw (shown, ← is) at met)

    pub first_half : is_blank (get_or text at 0) ≡ false → (d : ℕ) → Some d ≡ digit_value (get_or text at 0) → d < 16 → half ≡ None → Reading text octets (Some d) (at + 1)
    unfolding hex_read
    first_half shown d is small none = record { value = rw (shown, ← is, none) at met; small = small }

    pub second_half : is_blank (get_or text at 0) ≡ false → (d h : ℕ) → Some d ≡ digit_value (get_or text at 0) → half ≡ Some h → (more : List ℕ) → more ≡ octets ++ (h * 16 + d) ∷ [] → Reading text more None (at + 1)
    unfolding hex_read
    second_half shown d h is some more grew = record {
      value = rw grew (rw (shown, ← is, some) at met ∙ after_octet octets (h * 16 + d) (hex_read (at + 1) None (drop (at + 1) text)));
      small = tt;
    }

  -- at the end of the text
  pub read_whole : length text ≤ at → half ≡ None → Ok octets ≡ hex_read 0 None text
  unfolding hex_read
  read_whole all none = sym (rw (none, append-nil) at (t.value ∙ at_drop_all (λ l. after octets (hex_read at half l)) text at all))

  pub read_half : length text ≤ at → (h : ℕ) → half ≡ Some h → Err HalfOctet ≡ hex_read 0 None text
  unfolding hex_read
  read_half all h some = sym (rw some at (t.value ∙ at_drop_all (λ l. after octets (hex_read at half l)) text at all))
