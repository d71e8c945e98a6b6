use Rattle.std.proofs.Common.{◌≡◌, ◌≢◌, sym, refl, arith, append-nil, ne_eqb}
use Rattle.std.proofs.Output.{has_written_append, has_written_of_eq}
use Rattle.std.proofs.lemmas.Bool.{eq-eqb}
use Rattle.dump.specs.Dump.{header_text, identifiers_line}
use Rattle.dump.proofs.message.HeaderDisplay.fmt.Goals as goal

pub returns-in_ok-writeln-3-clause-writes : goal.returns-in_ok-writeln-3-clause-writes
unfolding header_text
returns-in_ok-writeln-3-clause-writes g c = λ plain _.
    let length = c.args.self.now.header.length in
    let octets = c.args.self.now.octets in
    let differ : length ≢ octets = omega arith in
    let first = c.in_ok-writeln.ensures.writes plain refl in
    let second = c.in_ok-writeln-2.ensures.writes first.plain refl in
    has_written_append _ _ _ _ _ _ first (has_written_append _ _ _ _ _ _ second (rw (ne_eqb length octets differ) (c.in_ok-writeln-3.ensures.writes second.plain refl)))

pub returns-else-length-octets-clause-writes : goal.returns-else-length-octets-clause-writes
unfolding header_text
returns-else-length-octets-clause-writes g c = λ plain _.
    let h = c.args.self.now.header in
    let octets = c.args.self.now.octets in
    let same : h.length ≡ octets = omega arith in
    let first = c.in_ok-writeln.ensures.writes plain refl in
    let second = c.in_ok-writeln-2.ensures.writes first.plain refl in
    has_written_append _ _ _ _ _ _ first (rw (eq-eqb h.length octets same) (has_written_of_eq _ _ _ _ _ (sym (append-nil (identifiers_line h))) second))
