use Rattle.std.proofs.Common.{◌∙◌, Some, ap, sym}
use Rattle.pl_report.specs.Summary.{summary_lines}
use Rattle.pl_report.proofs.Standing.{summary-count, summary-rule, not_past, is_past}
use Rattle.pl_report.proofs.summary.summary_line.Goals as goal

pub returns-then-k-lt-COUNTS-clause-line : goal.returns-then-k-lt-COUNTS-clause-line
returns-then-k-lt-COUNTS-clause-line c =
    summary-count c.args.tally.now c.args.k _ c.count_line.ensures

pub returns-then-k-lt-COUNTS-clause-past : goal.returns-then-k-lt-COUNTS-clause-past
returns-then-k-lt-COUNTS-clause-past c =
    let t = c.args.tally.now in
    not_past (summary_lines t) c.args.k _ (summary-count t c.args.k _ c.count_line.ensures)

pub returns-clause-line : goal.returns-clause-line
returns-clause-line c =
    summary-rule c.args.tally.now c.args.k _ c.if-k-lt-COUNTS.false c.in_ok-rule.ensures
    ∙ ap Some (sym c.rule_line.ensures)

pub returns-clause-past : goal.returns-clause-past
returns-clause-past c =
    let t = c.args.tally.now in
    not_past (summary_lines t) c.args.k _
    (summary-rule t c.args.k _ c.if-k-lt-COUNTS.false c.in_ok-rule.ensures)

pub returns-in_err-rule-clause-past : goal.returns-in_err-rule-clause-past
returns-in_err-rule-clause-past c =
    let t = c.args.tally.now in
    is_past c.from_residual.result (summary_lines t) c.args.k (cc)
    (summary-rule t c.args.k _ c.if-k-lt-COUNTS.false c.in_err-rule.ensures)
