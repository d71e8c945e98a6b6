-- What one reading says of the list that is ahead of the reader.
use Rattle.std.proofs.Common.{◌≡◌, ℕ, suc, ◌+◌, ◌-◌, ◌<◌, ◌≤◌, min, List, length, take, drop, Some, None, Ok, Err, Option, Result, sym, refl, ap, ◌∙◌, subst, ⊎_elim, arith}
use Rattle.std.proofs.lemmas.Bool.{cases_lt}
use Rattle.std.proofs.lemmas.List.{take_all, drop-drop, length-drop, length-take-le, drop-take, take-take}
use Rattle.refusals.specs.declared.fault.Fault.{Fault}
use Rattle.diameter_headers.specs.Framing.{padded, data_of}
use Rattle.diameter_headers.specs.Headers.{length_of, header_len}
use Rattle.diameter.specs.Listing.{Listing, done, fault, more, append, members, entry_at, level, listed, listing}
use Rattle.diameter.specs.Reading.{Within, Told, Ended, Malformed, Read, window, left, ahead, opening}
use Rattle.diameter.specs.Values.{held}
use Rattle.diameter.specs.declared.cursor.Cursor.{Cursor}
use Rattle.diameter.specs.declared.entry.Entry.{Entry}
use Rattle.diameter.specs.declared.entry.Item.{Item}
use Rattle.diameter_headers.specs.declared.place.Kind.{Kind}
use Rattle.diameter_headers.specs.declared.place.Kind.TheVariants.{Unknown, Number, Octets, Group}
use Rattle.diameter.proofs.Levels.{level_more, level_fault, level_done, header_least}

pub window_length : (m : List ℕ) (c : Cursor) → Within m c → length (left m c) ≡ c.end - c.position
unfolding window
window_length m c in-m = length-drop c.position (take c.end m) ∙ ap (λ n. n - c.position) (length-take-le c.end m in-m.inside)

-- a part of a window is a window
pub window_part : (m : List ℕ) (position end h n : ℕ) → h ≤ n → position + n ≤ end → take (n - h) (drop h (window m position end)) ≡ window m (position + h) (position + n)
unfolding window
window_part m position end h n headed fits =
    let sum : position + h + (n - h) ≡ position + n = omega arith in
    let rest : position + h + (end - (position + h)) ≡ end = omega arith in
    ap (take (n - h)) (drop-drop h position (take end m))
    ∙ ap (λ x. take (n - h) (drop (position + h) (take x m))) (sym rest)
    ∙ ap (take (n - h)) (drop-take (position + h) (end - (position + h)) m)
    ∙ take-take (n - h) (end - (position + h)) (drop (position + h) m) (omega arith)
    ∙ sym (drop-take (position + h) (n - h) m)
    ∙ ap (λ x. drop (position + h) (take x m)) sum

-- where an AVP that was told lies
pub record Lies (c d : Cursor) {P : Type 0} (e : Entry P) (m : List ℕ) : Type 0 where
  pub at : e.offset ≡ c.position
  pub begins : c.position < e.start
  pub ordered : e.start ≤ e.end
  pub fits : e.end ≤ d.position
  pub same : d.end ≡ c.end
  pub within : Within m d

module _ {P : Type 0} (kinds : P → ℕ → ℕ → Kind P) (rank : P → ℕ) (p : P) (parent : ℕ) (m : List ℕ) (c d : Cursor) (in-m : Within m c) where
  pub ahead_done : Ended kinds p parent m c d → ahead kinds rank p parent m c ≡ done
  unfolding ahead
  ahead_done t = level_done kinds (listed kinds (rank p)) p parent c.position (left m c) (window_length m c in-m ∙ omega (arith, t.end))

  pub ahead_fault : (f : Fault) → Malformed kinds p parent m c d f → ahead kinds rank p parent m c ≡ fault c.position
  unfolding ahead
  ahead_fault f t = level_fault kinds (listed kinds (rank p)) p parent c.position (left m c) (omega (arith, window_length m c in-m, t.some)) t.broken

  module _ (e : Entry P) (i : Item) (t : Told kinds p parent m c d e i) where
    pub told_lies : Lies c d e m
    unfolding entry_at
    told_lies =
        let l = left m c in
        let f = t.framed in
        let long = window_length m c in-m in
        let least = header_least l in
        let covers = f.covers in
        let whole = f.whole in
        let ordered = in-m.ordered in
        let position : d.position ≡ c.position + padded (length_of l) = ap (λ x. x.position) t.after in
        let end : d.end ≡ c.end = ap (λ x. x.end) t.after in
        let start : e.start ≡ c.position + header_len l = ap (λ x. x.start) t.entry in
        let stop : e.end ≡ c.position + length_of l = ap (λ x. x.end) t.entry in
        record {
          at = ap (λ x. x.offset) t.entry;
          begins = omega arith;
          ordered = omega arith;
          fits = omega arith;
          same = end;
          within = record { ordered = omega arith; inside = omega (arith, in-m.inside) };
        }

    pub told_kind : e.kind ≡ kinds p e.code e.vendor
    unfolding entry_at
    told_kind = ap (λ x. x.kind) t.entry ∙ sym (λ j. kinds p (t.entry j).code (t.entry j).vendor)

    pub ahead_more : ahead kinds rank p parent m c ≡ more e (held i) (append (members (listed kinds (rank p)) e.kind e.offset e.start (window m e.start e.end)) (ahead kinds rank p parent m d))
    unfolding ahead entry_at window
    ahead_more =
        let l = left m c in
        let f = t.framed in
        let long = window_length m c in-m in
        let covers = f.covers in
        let whole = f.whole in
        let inner = listed kinds (rank p) in
        let part : data_of l ≡ window m (c.position + header_len l) (c.position + length_of l) = window_part m c.position c.end (header_len l) (length_of l) covers (omega arith) in
        let data_is : data_of l ≡ window m e.start e.end = part ∙ sym (λ j. window m (t.entry j).start (t.entry j).end) in
        let rest : level kinds inner p parent 0 (c.position + padded (length_of l)) (drop (padded (length_of l)) l) ≡ ahead kinds rank p parent m d =
        ap (level kinds inner p parent 0 (c.position + padded (length_of l))) (drop-drop (padded (length_of l)) c.position (take c.end m)) ∙ sym (ap (ahead kinds rank p parent m) t.after) in
        level_more kinds inner p parent c.position l f
        ∙ (λ j. more (sym t.entry j) (sym t.value j) (append (members inner (sym t.entry j).kind (sym t.entry j).offset (sym t.entry j).start (data_is j)) (rest j)))

-- the members of a group are the list of its place in the message, one deeper
pub members_group : {P : Type 0} (kinds : P → ℕ → ℕ → Kind P) (rank : P → ℕ) (m : List ℕ) (p q : P) (k : Kind P) (at start end : ℕ) → k ≡ Group q → suc (rank q) ≡ rank p → members (listed kinds (rank p)) k at start (window m start end) ≡ ahead kinds rank q at m (record { position = start; end = end })
unfolding listed ahead
members_group kinds rank m p q k at start end is deep =
    ap (λ x. members (listed kinds (rank p)) x at start (window m start end)) is
    ∙ sym (ap (λ n. listed kinds n q at start (window m start end)) deep)

pub members_none : {P : Type 0} (inner : P → ℕ → ℕ → List ℕ → Listing P) (k : Kind P) (at start : ℕ) (ys : List ℕ) → ((q : P) → k ≡ Group q → ⊥) → members inner k at start ys ≡ done
members_none inner Unknown at start ys other = refl
members_none inner Number at start ys other = refl
members_none inner Octets at start ys other = refl
members_none inner (Group q) at start ys other = absurd (other q refl)

-- a reading leaves the cursor in the message
pub read_within : {P : Type 0} (kinds : P → ℕ → ℕ → Kind P) (p : P) (parent : ℕ) (m : List ℕ) (c d : Cursor) (r : Result (Option (Entry P × Item)) Fault) → Within m c → Read kinds p parent m c d r → Within m d
read_within kinds p parent m c d (Ok None) in-m t = subst (Within m) (sym t.same) in-m
read_within kinds p parent m c d (Ok (Some x)) in-m t = (told_lies kinds (λ _. 0) p parent m c d in-m x.0 x.1 t).within
read_within kinds p parent m c d (Err f) in-m t = subst (Within m) (sym t.same) in-m

-- what is ahead of a reader at the first AVP of a message is the list of the message
pub ahead_opening : {P : Type 0} (kinds : P → ℕ → ℕ → Kind P) (rank : P → ℕ) (p : P) (m : List ℕ) → ahead kinds rank p 0 m (opening m) ≡ listing kinds rank p m
unfolding ahead listing listed window
ahead_opening kinds rank p m =
    let inner = listed kinds (rank p) in
    ap (λ l. level kinds inner p 0 0 (min 20 (length m)) (drop (min 20 (length m)) l)) (take_all (length m) m (omega arith))
    ∙ ⊎_elim
    (λ short. level_done kinds inner p 0 (min 20 (length m)) (drop (min 20 (length m)) m) (length-drop (min 20 (length m)) m ∙ omega arith) ∙ sym (level_done kinds inner p 0 20 (drop 20 m) (length-drop 20 m ∙ omega arith)))
    (λ long. let same : min 20 (length m) ≡ 20 = omega arith in ap (λ n. level kinds inner p 0 0 n (drop n m)) same)
    (cases_lt (length m) 20)
