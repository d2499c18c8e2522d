use Rattle.std.proofs.Common.{◌∙◌, ◌∷◌, length, sym, ap}
use Rattle.pl_filter.specs.Lexemes.{seen}
use Rattle.pl_filter.specs.Reading.{tokens_at}
use Rattle.pl_filter.specs.Tokens.{placed}
use Rattle.pl_filter.proofs.Steps.{filter_end, filter_close, filter_test, filter_no_test, filter_deep, filter_open}
use Rattle.pl_filter.proofs.parser.+parser.Goals as goal

pub filter_at-returns-in_default-clause-read : goal.filter_at-returns-in_default-clause-read
filter_at-returns-in_default-clause-read t c = filter_end _ _ _ c.in_default.ensures.none

pub filter_at-returns-in-Some-read-clause-read : goal.filter_at-returns-in-Some-read-clause-read
filter_at-returns-in-Some-read-clause-read t c =
    let x = c.in-Some.next in
    let rest = tokens_at c.args.text.now x.end in
    filter_test _ _ x.at c.in-Word.word.now c.in-Some-read.test _ rest
    (c.in-Some.ensures.some ∙ ap (λ token. placed x.at (seen token) ∷ rest) c.in-Word.is) (sym c.in-Some-read.ensures)

pub filter_at-returns-in-None-clause-read : goal.filter_at-returns-in-None-clause-read
filter_at-returns-in-None-clause-read t c =
    let x = c.in-Some.next in
    let rest = tokens_at c.args.text.now x.end in
    filter_no_test _ _ x.at c.in-Word.word.now _ rest
    (c.in-Some.ensures.some ∙ ap (λ token. placed x.at (seen token) ∷ rest) c.in-Word.is) (sym c.in-None.ensures)

pub filter_at-returns-in-Close-clause-read : goal.filter_at-returns-in-Close-clause-read
filter_at-returns-in-Close-clause-read t c =
    let x = c.in-Some.next in
    let rest = tokens_at c.args.text.now x.end in
    filter_close _ _ x.at _ rest (c.in-Some.ensures.some ∙ ap (λ token. placed x.at (seen token) ∷ rest) c.in-Close.is)

pub filter_at-returns-in-Open-clause-read : goal.filter_at-returns-in-Open-clause-read
filter_at-returns-in-Open-clause-read t c =
    let x = c.in-Some.next in
    let rest = tokens_at c.args.text.now x.end in
    filter_deep _ _ x.at _ rest c.if-left-eq0.true
    (c.in-Some.ensures.some ∙ ap (λ token. placed x.at (seen token) ∷ rest) c.in-Open.is)

pub filter_at-returns-in-Open-2-clause-read : goal.filter_at-returns-in-Open-2-clause-read
filter_at-returns-in-Open-2-clause-read t c =
    let x = c.in-Some.next in
    let rest = tokens_at c.args.text.now x.end in
    let e = filter_open (length c.args.text.now) c.args.left x.at (tokens_at c.args.text.now c.args.from) rest c.if-left-eq0.false
    (c.in-Some.ensures.some ∙ ap (λ token. placed x.at (seen token) ∷ rest) c.in-Open-2.is) in
    rw e c.operation_at.ensures.read
