use Rattle.std.proofs.Common.{ℕ, ◌*◌, ◌%◌, replicate, ap, ◌∙◌, arith}
use Rattle.std.proofs.lemmas.List.{take-replicate}
use Rattle.pl_make.proofs.Lawful.{completion_fits, completion_plain}
use Rattle.pl_make.proofs.items.put_completion.Goals as goal

pub completion-completion-requires-clause-payload
    : goal.completion-completion-requires-clause-payload
completion-completion-requires-clause-payload c =
    take-replicate (4 * c.from.result) 64 (c.args.k % 256) (omega arith)
    ∙ ap (λ (n : ℕ). replicate (4 * n) (c.args.k % 256)) c.from.ensures

pub put_tlp-requires-clause-fits : goal.put_tlp-requires-clause-fits
put_tlp-requires-clause-fits c =
    rw c.completion-completion.ensures
    (completion_fits c.args.k c.args.left c.args.address c.args.part c.requires.some c.requires.most
    c.requires.left c.requires.read)

pub put_tlp-requires-clause-plain : goal.put_tlp-requires-clause-plain
put_tlp-requires-clause-plain c =
    rw c.completion-completion.ensures
    (completion_plain c.args.k c.args.left c.args.address c.args.part c.requires.most)
