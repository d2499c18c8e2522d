use Rattle.std.proofs.Common.{◌∙◌, sym, rules, tests}
use Rattle.std.specs.Prelude.{bytes_eq}
use Rattle.std.proofs.lemmas.Iterator.{YieldsList-from_slice}
use Rattle.std.proofs.lemmas.Iterator.Adapters.{option_map_id}
use Rattle.std.proofs.lemmas.Iterator.Consumers.{YieldsList-from_copied}
use Rattle.std.proofs.lemmas.Iterator.Search.{find_from_yields_List}
use Rattle.pl_base.specs.Rule.{name_of}
use Rattle.pl_report.specs.Summary.{every_rule}
use Rattle.pl_report.proofs.summary.rule_named.Goals as goal

pub returns : goal.returns
returns c =
    sym (option_map_id c.find.result)
    ∙ find_from_yields_List (λ rule. bytes_eq (name_of rule) c.args.name.now) _ _ _
    c.find.ensures.ran
    (YieldsList-from_copied (YieldsList-from_slice every_rule cc))
    (λ x b q k. search (rules, tests))
