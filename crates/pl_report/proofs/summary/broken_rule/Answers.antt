use Rattle.std.proofs.Common.{◌∙◌, sym, rules, tests}
use Rattle.std.proofs.lemmas.Iterator.{YieldsList-from_slice}
use Rattle.std.proofs.lemmas.Iterator.Adapters.{option_map_id}
use Rattle.std.proofs.lemmas.Iterator.Consumers.{nth_from_yields_List, YieldsList-from_copied}
use Rattle.std.proofs.lemmas.Iterator.Consumers.{YieldsList-from_filter}
use Rattle.pl_report.specs.Summary.{every_rule, is_broken}
use Rattle.pl_report.proofs.summary.broken_rule.Goals as goal

pub returns : goal.returns
returns c =
    sym (option_map_id c.nth.result)
    ∙ nth_from_yields_List _ _ c.args.k c.nth.ensures.ran
    (YieldsList-from_filter _ (is_broken c.args.tally.now)
    (YieldsList-from_copied (YieldsList-from_slice every_rule cc))
    c.filter.ensures.closure (λ x r q k. search (rules, tests)))
