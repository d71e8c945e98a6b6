use Rattle.std.proofs.Common.{rules, ◌≡◌, ◌-◌, ◌<◌, length, get_or, set, sym, ap, ◌∙◌, arith}
use Rattle.std.proofs.lemmas.List.{get_or_default, set-get_or}
use Rattle.chained_store.proofs.Buckets.{chains_last}
use Rattle.chained_store.proofs.linked.Linked.swap_remove.Goals as goal

pub bounds-self-last : goal.bounds-self-last
bounds-self-last g c =
    let s = c.args.self.now in
    s.chains.low (s.table.used - 1) (let a = c.requires in omega arith)

pub offset_bounds-self-last : goal.offset_bounds-self-last
offset_bounds-self-last g c =
    let s = c.args.self.now in
    let there : s.table.used - 1 < length s.table.rows.now = s.chains.low (s.table.used - 1) (let a = c.requires in omega arith) in
    search rules

pub invariant_of-self : goal.invariant_of-self
invariant_of-self g c =
    let t = c.unlink.new.self in
    record { chains = chains_last g.K.Key.digest t.rows.now t.links.now c.args.self.now.table.used c.unlink.ensures.chains }

pub returns-then-i-last-clause-rows : goal.returns-then-i-last-clause-rows
returns-then-i-last-clause-rows g c d =
    let rows = c.args.self.now.table.rows.now in
    let n = c.args.self.now.table.used in
    let i = c.args.i in
    let there : n - 1 < length rows = c.args.self.now.chains.low (n - 1) (let a = c.requires in omega arith) in
    c.replace.ensures.rows ∙ ap (λ v. set v i (get_or rows (n - 1) c.index-self-last.result)) c.unlink.ensures.rows ∙ ap (λ x. set rows i x) (get_or_default rows (n - 1) c.index-self-last.result d there)

pub returns-else-i-last-clause-rows : goal.returns-else-i-last-clause-rows
returns-else-i-last-clause-rows g c d =
    let rows = c.args.self.now.table.rows.now in
    let n = c.args.self.now.table.used in
    let at : c.args.i ≡ n - 1 = (let a = c.requires in let b = c.if-i-last.false in omega arith) in
    c.unlink.ensures.rows ∙ sym (set-get_or rows (n - 1) d) ∙ ap (λ m. set rows m (get_or rows (n - 1) d)) (sym at)
