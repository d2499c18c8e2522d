use Rattle.std.proofs.Common.{◌≡◌, drop}
use Rattle.pl_filter.specs.Reading.{first_like}
use Rattle.pl_filter.proofs.word.first_like.Given as goal

abbrev pub invariant-loop-sample : goal.invariant-loop-sample
invariant-loop-sample l = first_like (drop l.sample-index l.samples) l.word ≡ first_like l.samples l.word
