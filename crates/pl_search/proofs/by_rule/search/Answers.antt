use Rattle.std.proofs.Common.{◌∙◌, ap}
use Rattle.pl_keeper.specs.Listing.{Line}
use Rattle.pl_search.proofs.Ascending.{keys-listed}
use Rattle.pl_search.proofs.Gathered.{handed, keys, search-done, search-on}
use Rattle.pl_search.proofs.Gathered.{search-refused}
use Rattle.pl_search.specs.Hits.{hits_of}
use Rattle.pl_search.proofs.by_rule.search.Goals as goal

pub returns-in_err-add_capture-clause-answers : goal.returns-in_err-add_capture-clause-answers
returns-in_err-add_capture-clause-answers g c = λ lives a tells.
    let line : Line = c.row-item.result in
    let before = c.add_capture.ensures.lived lives in
    let listing = c.loop-row.invariant.lived before in
    let told = c.keys.ensures.same listing a tells in
    let rows = keys-listed a c.args.bench.now c.in_ok-rows.rows.items
    (c.in_ok-rows.ensures.listed listing a tells)
    (c.in_ok-rows.ensures.ascending listing a tells) in
    let same = c.deref.ensures ∙ ap (λ (l : Line). l.key) c.row.view_is in
    let adds = c.in_err-add_capture.ensures.adds lives a (c.loop-row.invariant.same before a told) in
    let answer = search-refused a c.args.bench.now c.args.rule c.deref-row-items.result.now
    c.loop-row.row-index line c.loop-row-test.true c.row-item.is c.deref.result.now same
    c.loop-row.search c.add_capture.new.search (c.loop-row.invariant.holds before a told)
    _ (ap keys c.deref-row-items.ensures.value ∙ rows) adds in
    handed (hits_of a c.args.bench.now c.args.rule) c.in_err-add_capture.field-0.0
    c.from_residual-in_err-add_capture.result c.from_residual-in_err-add_capture.ensures.1 answer

pub loop-row-preserved : goal.loop-row-preserved
loop-row-preserved g c =
    let line : Line = c.row-item.result in
    let same = c.deref.ensures ∙ ap (λ (l : Line). l.key) c.row.view_is in
    record {
      holds = λ lives a tells.
          let before = c.add_capture.ensures.lived lives in
          search-on a c.args.bench.now c.args.rule c.deref-row-items.result.now
          c.loop-row.row-index line c.loop-row-test.true c.row-item.is c.deref.result.now same
          c.loop-row.search c.add_capture.new.search
          (c.loop-row.invariant.holds before a tells)
          (c.in_ok-add_capture.ensures.adds lives a
          (c.loop-row.invariant.same before a tells));
      same = λ lives a tells.
          c.add_capture.ensures.same lives a
          (c.loop-row.invariant.same (c.add_capture.ensures.lived lives) a tells);
      lived = λ lives. c.loop-row.invariant.lived (c.add_capture.ensures.lived lives);
      cause = c.in_ok-add_capture.ensures.cause ∙ c.loop-row.invariant.cause;
      sure = λ is. (c.in_ok-add_capture.ensures.sure (c.loop-row.invariant.sure is)).1;
    }

pub returns-clause-answers : goal.returns-clause-answers
returns-clause-answers g c = λ lives a tells.
    let listing = c.loop-row.invariant.lived lives in
    let told = c.keys.ensures.same listing a tells in
    let rows = keys-listed a c.args.bench.now c.in_ok-rows.rows.items
    (c.in_ok-rows.ensures.listed listing a tells)
    (c.in_ok-rows.ensures.ascending listing a tells) in
    search-done a c.args.bench.now c.args.rule c.deref-row-items.result.now c.loop-row.row-index
    c.loop-row.search c.loop-row-test.false
    (ap keys c.deref-row-items.ensures.value ∙ rows)
    (c.loop-row.invariant.holds lives a told)
