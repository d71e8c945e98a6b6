use Rattle.std.proofs.Common.{◌≡◌, ◌-◌, ◌≤◌, cond, length, take, drop, sym, ap, ◌∙◌, arith, get_or-drop, rules, ne_eqb}
use Rattle.std.proofs.lemmas.Grind.{common_steps}
use Rattle.std.proofs.lemmas.List.{take_rest, length-drop}
use Rattle.diameter_headers.specs.Headers.{four, header_len, vendor_of}
use Rattle.diameter_headers.proofs.headers.AvpHeader.read.Goals as goal
use Rattle.diameter_headers.proofs.headers.AvpHeader.read.Goals.{then-flags-eq0, else-flags-eq0+in-len4-up}

pub returns : goal.returns
returns c =
    let m = c.args.part.now in
    let found = c.if-flags-eq0.header in
    let met : (header_len m ≤ length m) × (found.1 ≡ vendor_of m) × (found.0 ≡ header_len m) =
    elim c.if-flags-eq0.branch [
      | then-flags-eq0 w ↦ grind (arith, common_steps)
      | else-flags-eq0+in-len4-up w ↦
          let set = ne_eqb _ 0 w.if-flags-eq0.false in
          let header : header_len m ≡ 12 = ap (λ b. cond b 8 12) set in
          let rest : length (take (length m - 8) (drop 8 m)) ≡ length m - 8 = ap length (take_rest m 8) ∙ length-drop 8 m in
          let vendor : w.number4.result ≡ four m 8 = rw (take_rest m 8, get_or-drop 8 m 0 0, get_or-drop 8 m 1 0, get_or-drop 8 m 2 0, get_or-drop 8 m 3 0) at w.number4.ensures in
          (omega arith, ap (λ x. x.1) w.header-is ∙ vendor ∙ sym (ap (λ b. cond b 0 (four m 8)) set), ap (λ x. x.0) w.header-is ∙ sym header)
    ] in
    record {
      begun = met.0;
      code = search rules;
      flags = search rules;
      vendor = met.1;
      header = met.2;
      length = search rules;
      small = search rules;
    }
