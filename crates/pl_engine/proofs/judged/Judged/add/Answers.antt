use Rattle.std.proofs.Common.{ℕ, ◌-◌, List, [], ◌∷◌, None, get_or, length, take, ap, ◌∙◌, arith}
use Rattle.std.proofs.Common.{length-append}
use Rattle.pl_base.specs.declared.rule.Rule.TheVariants.{L1}
use Rattle.pl_base.specs.declared.verdict.Verdict.{Verdict}
use Rattle.pl_engine.specs.Wanted.{wanted_of}
use Rattle.pl_engine.proofs.Asked.{few_wanted, kept-more, wanted-more}
use Rattle.pl_engine.proofs.judged.Judged.add.Goals as goal

pub keep-requires : goal.keep-requires
keep-requires c =
    omega (
      arith,
      c.requires.items,
      c.requires.total,
      c.requires.few,
      c.loop-verdict.invariant.total,
      few_wanted c.args.wanted c.args.found.now c.loop-verdict.verdict-index,
      c.loop-verdict-test.true,
    )

-- what stands where there is no verdict
none : Verdict
none = record { rule = L1; at = 0; first = None; second = None }

pub loop-verdict-preserved : goal.loop-verdict-preserved
unfolding none
loop-verdict-preserved c =
    let w = c.args.wanted in
    let xs = c.args.found.now in
    let i = c.loop-verdict.verdict-index in
    let so_far : List Verdict = wanted_of w (take i xs) in
    let one : List Verdict = wanted_of w (get_or xs i none ∷ []) in
    let more = wanted-more w xs i none c.loop-verdict-test.true in
    record {
      items = c.keep.ensures.items ∙ c.loop-verdict.invariant.items;
      total = omega (
        arith,
        c.keep.ensures.total,
        c.loop-verdict.invariant.total,
        ap (λ (l : List Verdict). length l) more,
        length-append so_far one,
      );
      verdicts = kept-more c.args.self.now.most _ c.args.self.now.verdicts.items _ _ so_far one _
          c.loop-verdict.invariant.verdicts
          (ap (λ (n : ℕ). n - length c.loop-verdict.self.verdicts.items)
          c.loop-verdict.invariant.most)
          c.keep.ensures.verdicts more;
      most = c.keep.ensures.most ∙ c.loop-verdict.invariant.most;
    }

pub returns-clause-few : goal.returns-clause-few
returns-clause-few c =
    omega (
      arith,
      c.requires.total,
      c.requires.few,
      c.loop-verdict.invariant.items,
      c.loop-verdict.invariant.total,
      few_wanted c.args.wanted c.args.found.now c.loop-verdict.verdict-index,
      c.loop-verdict.auto.verdict-index-end,
    )
