-- `report_lines::line_length` meets its contract. Assumes nothing.
use Rattle.std.proofs.Common.{rules, arith, ◌≡◌, ◌+◌, length, sum_by}
use Rattle.decimal.specs.Decimal.{digits_of}
use Rattle.report_lines.proofs.Laws.{line_sum, line_most}
use Rattle.report_lines.proofs.line_length.Goals as goal

pub returns : goal.returns
returns c =
    let ns = c.args.numbers.now in
    let counted : c.sum.result ≡ sum_by (λ x. length (digits_of x) + 1) ns = search rules in
    record { value = omega (arith, line_sum ns); upper_bound = omega (arith, line_sum ns, line_most ns (λ i h. (c.type_inv.numbers i).fits)) }
