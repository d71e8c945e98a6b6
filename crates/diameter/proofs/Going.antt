-- What one turn of the walk keeps: what is shown from here on completes what was to be shown from the start.
use Rattle.std.proofs.Common.{◌≡◌, ℕ, suc, List, Ok, Err, Result, sym, refl, ap, ◌∙◌, subst}
use Rattle.refusals.specs.Faults.{fault_at}
use Rattle.refusals.specs.declared.fault.Fault.{Fault}
use Rattle.refusals.specs.declared.refusal.Refusal.{Refusal}
use Rattle.diameter.specs.Listing.{more, append, members, listed}
use Rattle.diameter.specs.Reading.{Within, Told, Ended, Malformed, window, ahead}
use Rattle.diameter.specs.Values.{Value, held}
use Rattle.diameter.specs.Visiting.{Shown}
use Rattle.diameter.specs.declared.cursor.Cursor.{Cursor}
use Rattle.diameter.specs.declared.entry.Entry.{Entry}
use Rattle.diameter.specs.declared.entry.Item.{Item}
use Rattle.diameter_headers.specs.declared.place.Kind.{Kind}
use Rattle.diameter_headers.specs.declared.place.Kind.TheVariants.{Group}
use Rattle.diameter.proofs.Steps.{ahead_done, ahead_fault, ahead_more, told_lies, members_group, members_none}
use Rattle.diameter.proofs.Shows.{shown_then, shown_stops}

module _ {P V : Type 0} (kinds : P → ℕ → ℕ → Kind P) (rank : P → ℕ) (shows : V → Entry P → Value → Result (Unit {0}) Refusal → V → Type 0) (p : P) (parent : ℕ) (m : List ℕ) (u0 : V) (c0 : Cursor) where
  -- the visitor came from u0 to u while the cursor went from c0 to c
  pub record Going (u : V) (c : Cursor) : Type 0 where
    pub within : Within m c
    pub end : c.end ≡ c0.end
    pub goes : (r : Result (Unit {0}) Fault) (w : V) → Shown shows u (ahead kinds rank p parent m c) r w → Shown shows u0 (ahead kinds rank p parent m c0) r w

  module _ (u : V) (c d : Cursor) (t : Going u c) where
    pub finished : Ended kinds p parent m c d → Shown shows u0 (ahead kinds rank p parent m c0) (Ok tt) u
    unfolding Shown
    finished e = t.goes (Ok tt) u (subst (λ l. Shown shows u l (Ok tt) u) (sym (ahead_done kinds rank p parent m c d t.within e)) (refl, refl))

    pub broke : (f : Fault) → Malformed kinds p parent m c d f → Shown shows u0 (ahead kinds rank p parent m c0) (Err f) u
    unfolding Shown
    broke f e = t.goes (Err f) u (subst (λ l. Shown shows u l (Err f) u) (sym (ahead_fault kinds rank p parent m c d t.within f e)) (ap Err e.fault, refl))

    module _ (e : Entry P) (i : Item) (told : Told kinds p parent m c d e i) (x : V) where
      -- the list from c on, with the AVP that was read at its head
      from : (r : Result (Unit {0}) Fault) (w : V) → Shown shows u (more e (held i) (append (members (listed kinds (rank p)) e.kind e.offset e.start (window m e.start e.end)) (ahead kinds rank p parent m d))) r w → Shown shows u0 (ahead kinds rank p parent m c0) r w
      from r w s = t.goes r w (subst (λ l. Shown shows u l r w) (sym (ahead_more kinds rank p parent m c d t.within e i told)) s)

      pub refused : (refusal : Refusal) → shows u e (held i) (Err refusal) x → Shown shows u0 (ahead kinds rank p parent m c0) (Err (fault_at refusal e.offset)) x
      unfolding Shown
      refused refusal s = from (Err (fault_at refusal e.offset)) x (Err refusal, x, s, (refl, refl))

      pub passed : shows u e (held i) (Ok tt) x → ((q : P) → e.kind ≡ Group q → ⊥) → Going x d
      unfolding Shown append
      passed s other =
          let lies = told_lies kinds rank p parent m c d t.within e i told in
          record {
            within = lies.within;
            end = lies.same ∙ t.end;
            goes = λ r w next. from r w (Ok tt, x, s, subst (λ l. Shown shows x (append l (ahead kinds rank p parent m d)) r w) (sym (members_none (listed kinds (rank p)) e.kind e.offset e.start (window m e.start e.end) other)) next);
          }

      module _ (q : P) (is : e.kind ≡ Group q) (deep : suc (rank q) ≡ rank p) where
        inner_is : members (listed kinds (rank p)) e.kind e.offset e.start (window m e.start e.end) ≡ ahead kinds rank q e.offset m (record { position = e.start; end = e.end })
        inner_is = members_group kinds rank m p q e.kind e.offset e.start e.end is deep

        pub entered : (y : V) → shows u e (held i) (Ok tt) x → Shown shows x (ahead kinds rank q e.offset m (record { position = e.start; end = e.end })) (Ok tt) y → Going y d
        unfolding Shown
        entered y s in_group =
            let lies = told_lies kinds rank p parent m c d t.within e i told in
            let all : Shown shows x (members (listed kinds (rank p)) e.kind e.offset e.start (window m e.start e.end)) (Ok tt) y = subst (λ l. Shown shows x l (Ok tt) y) (sym inner_is) in_group in
            record {
              within = lies.within;
              end = lies.same ∙ t.end;
              goes = λ r w next. from r w (Ok tt, x, s, shown_then shows (members (listed kinds (rank p)) e.kind e.offset e.start (window m e.start e.end)) (ahead kinds rank p parent m d) x y w r all next);
            }

        pub failed : (y : V) (f : Fault) → shows u e (held i) (Ok tt) x → Shown shows x (ahead kinds rank q e.offset m (record { position = e.start; end = e.end })) (Err f) y → Shown shows u0 (ahead kinds rank p parent m c0) (Err f) y
        unfolding Shown
        failed y f s in_group =
            let all : Shown shows x (members (listed kinds (rank p)) e.kind e.offset e.start (window m e.start e.end)) (Err f) y = subst (λ l. Shown shows x l (Err f) y) (sym inner_is) in_group in
            from (Err f) y (Ok tt, x, s, shown_stops shows (members (listed kinds (rank p)) e.kind e.offset e.start (window m e.start e.end)) (ahead kinds rank p parent m d) x y f all)
