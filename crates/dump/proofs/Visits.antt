-- What the visitor that adds lines has added when the walk ends.
use Rattle.std.proofs.Common.{◌≡◌, ◌≢◌, ◌⊎◌, ℕ, List, ◌++◌, Ok, Err, string_bytes, Result, sym, ap, ◌∙◌, inl, inr, ⊎_elim, append-nil, append_assoc, MatchResult}
use Rattle.refusals.specs.Faults.{fault_at}
use Rattle.refusals.specs.declared.fault.Fault.{Fault}
use Rattle.refusals.specs.declared.refusal.Refusal.{Refusal}
use Rattle.refusals.specs.declared.refusal.Refusal.TheVariants.{NoSpace}
use Rattle.diameter.specs.Listing.{Listing, done, fault, more}
use Rattle.diameter_checks.specs.Questions.{framing}
use Rattle.diameter.specs.Values.{Value}
use Rattle.diameter.specs.Visiting.{Shown}
use Rattle.diameter.specs.declared.entry.Entry.{Entry}
use Rattle.dump.specs.Dump.{end_text, lines}
use Rattle.dump.specs.Lines.{line_of}
use Rattle.gx_dictionary.specs.declared.dictionary.Part.{Part}
use Rattle.dump.specs.declared.message.Lines.{Lines}

abbrev pub Adds : Lines → Entry Part → Value → Result (Unit {0}) Refusal → Lines → Type 0
Adds u e v a w = MatchResult a (λ _. string_bytes w.text ≡ string_bytes u.text ++ line_of e v) (λ refusal. refusal ≡ NoSpace)

-- memory ran out, or all lines are there and the walk ended as the framing does
abbrev pub Outcome : Lines → Listing Part → Result (Unit {0}) Fault → Lines → Type 0
Outcome u l r w = (r ≡ Err (fault_at NoSpace 0)) ⊎ ((string_bytes w.text ≡ string_bytes u.text ++ lines l) × (r ≡ framing l))

step : (a : Result (Unit {0}) Refusal) (u x w : Lines) (e : Entry Part) (v : Value) (l : Listing Part) (r : Result (Unit {0}) Fault) → Adds u e v a x → MatchResult a (λ _. Shown Adds x l r w) (λ refusal. (r ≡ Err (fault_at refusal e.offset)) × (w ≡ x)) → (Shown Adds x l r w → Outcome x l r w) → Outcome u (more e v l) r w
unfolding lines framing
step (Ok y) u x w e v l r added rest next = ⊎_elim inl (λ t. inr (t.0 ∙ ap (λ s. s ++ lines l) added ∙ append_assoc (string_bytes u.text) (line_of e v) (lines l), t.1)) (next rest)
step (Err refusal) u x w e v l r is rest next = inl (rest.0 ∙ ap (λ y. Err (fault_at y e.offset)) is)

shown_lines : (l : Listing Part) (u w : Lines) (r : Result (Unit {0}) Fault) → Shown Adds u l r w → Outcome u l r w
unfolding Shown lines framing
shown_lines done u w r s = inr (ap (λ x. string_bytes x.text) s.1 ∙ sym (append-nil (string_bytes u.text)), s.0)
shown_lines (fault at) u w r s = inr (ap (λ x. string_bytes x.text) s.1 ∙ sym (append-nil (string_bytes u.text)), s.0)
shown_lines (more e v l) u w r s = step s.0 u s.1 w e v l r s.2 s.3 (λ t. shown_lines l s.1 w r t)

-- where memory did not run out, all is there
pub all_there : (u w : Lines) (l : Listing Part) (r : Result (Unit {0}) Fault) → Shown Adds u l r w → r ≢ Err (fault_at NoSpace 0) → (text : List ℕ) → text ≡ string_bytes w.text ++ end_text r → text ≡ string_bytes u.text ++ (lines l ++ end_text (framing l))
all_there u w l r s enough text is =
    ⊎_elim (λ out. absurd (enough out)) (λ t. rw (is, t.1, t.0) (append_assoc (string_bytes u.text) (lines l) (end_text (framing l)))) (shown_lines l u w r s)
