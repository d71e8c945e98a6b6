-- One write after another.
use Rattle.std.proofs.Common.{◌≡◌, ℕ, ◌+◌, ◌-◌, ◌≤◌, cond, List, [], ◌++◌, length, take, drop, replicate, is_some, Some, None, Option, sym, refl, ap, ◌∙◌, append_assoc, add-zero, add_assoc, arith, length-append}
use Rattle.std.proofs.lemmas.List.{take-append-drop, take_at, drop_at, drop-drop, length-drop, length-take-le, length-replicate}
use Rattle.diameter_headers.specs.Framing.{padded}
use Rattle.diameter_writer.specs.Encoding.{encode_avp, length_for, vendor_part}
use Rattle.diameter_writer.specs.Outputs.{Put}
use Rattle.diameter_writer.specs.Writing.{Wrote}
use Rattle.diameter_writer.specs.declared.avp.Avp.{Avp}
use Rattle.diameter_writer.specs.declared.output.Output.{Output}

pub wrote_length : (old : List ℕ) (at : ℕ) (xs new : List ℕ) → Wrote old at xs new → length new ≡ length old
wrote_length old at xs new w =
    let room = w.room in
    ap length w.is ∙ simp (length-append, length-take-le at old (omega arith), length-drop) (omega arith)

pub wrote_none : (old : List ℕ) (at : ℕ) → at ≤ length old → Wrote old at [] old
wrote_none old at h = record { room = omega arith; is = sym (take-append-drop at old) ∙ ap (λ n. take at old ++ drop n old) (sym (add-zero at)) }

-- what follows straight on is one write of both
pub wrote_more : (old : List ℕ) (at : ℕ) (xs mid : List ℕ) (e : ℕ) (ys new : List ℕ) → Wrote old at xs mid → e ≡ at + length xs → Wrote mid e ys new → Wrote old at (xs ++ ys) new
wrote_more old at xs mid e ys new w s v =
    let room = w.room in
    let more = v.room in
    let same = wrote_length old at xs mid w in
    let n = at + length xs in
    let first : length (take at old ++ xs) ≡ e = length-append (take at old) xs ∙ ap (λ k. k + length xs) (length-take-le at old (omega arith)) ∙ sym s in
    let split : mid ≡ (take at old ++ xs) ++ drop n old = w.is ∙ sym (append_assoc (take at old) xs (drop n old)) in
    let front : take e mid ≡ take at old ++ xs = ap (take e) split ∙ take_at (take at old ++ xs) (drop n old) e first in
    let back : drop (e + length ys) mid ≡ drop (at + length (xs ++ ys)) old =
    sym (drop-drop (length ys) e mid)
    ∙ ap (drop (length ys)) (ap (drop e) split ∙ drop_at (take at old ++ xs) (drop n old) e first)
    ∙ drop-drop (length ys) n old
    ∙ ap (λ k. drop k old) (add_assoc at (length xs) (length ys) ∙ ap (λ k. at + k) (sym (length-append xs ys))) in
    record {
      room = omega (arith, length-append xs ys);
      is =
          v.is
          ∙ ap (λ l. l ++ (ys ++ drop (e + length ys) mid)) front
          ∙ append_assoc (take at old) xs (ys ++ drop (e + length ys) mid)
          ∙ ap (λ l. take at old ++ l) (sym (append_assoc xs ys (drop (e + length ys) mid)))
          ∙ ap (λ l. take at old ++ ((xs ++ ys) ++ l)) back;
    }

pub vendor_length : (v : Option ℕ) → length (vendor_part v) + 8 ≡ cond (is_some v) 12 8
vendor_length None = refl
vendor_length (Some v) = refl

pub encode_length : (a : Avp) → length (encode_avp a) ≡ padded (length_for a)
unfolding encode_avp
encode_length a =
    let n = length_for a in
    let fill : List ℕ = replicate (padded n - n) 0 in
    omega (arith, vendor_length a.vendor, length-append (vendor_part a.vendor) (a.octets.now ++ fill), length-append a.octets.now fill, length-replicate {A = ℕ} (padded n - n) 0)

-- an output on which nothing is written, and one on which two writes follow each other
pub put_none : (o : Output) → Put o [] o
put_none o = record { same = refl; wrote = wrote_none o.octets.now o.end o.within; end = sym (add-zero o.end) }

pub put_more : (o : Output) (xs : List ℕ) (m : Output) (ys : List ℕ) (n : Output) → Put o xs m → Put m ys n → Put o (xs ++ ys) n
put_more o xs m ys n p q = record {
  same = q.same ∙ p.same;
  wrote = wrote_more o.octets.now o.end xs m.octets.now m.end ys n.octets.now p.wrote p.end q.wrote;
  end = omega (arith, p.end, q.end, length-append xs ys);
}
