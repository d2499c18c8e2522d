use Rattle.std.proofs.Common.{◌∙◌, ◌+◌, ◌++◌, [], ap, arith, drop, length, length-append, length-drop, length-take, subst, sym, take}
use Rattle.pl_capture.specs.Standing.{StandsFor}
use Rattle.pl_merge.specs.Sides.{Reached, Sight}
use Rattle.pl_merge.proofs.Headers.{header_bad, no_step}
use Rattle.pl_merge.proofs.Taking.{fed_part, part_front, parted}
use Rattle.pl_merge.proofs.side.Side.feed_header.Goals as goal

pub returns-in-More-clause-feeds : goal.returns-in-More-clause-feeds
returns-in-More-clause-feeds c = λ rest file r.
    let read = take c.self.inside.filled c.self.inside.buffer in
    let part = part_front c.self.inside.place c.min-most.result c.self.inside.filled c.self.inside.buffer (omega arith) in
    fed_part _ c.give-step.new.reader (drop c.self.inside.place (take (c.self.inside.place + c.min-most.result) c.self.inside.buffer)) _ _ rest file []
    (parted c.self.inside.place c.min-most.result read ∙ ap (λ l. l ++ drop (c.self.inside.place + c.min-most.result) read) (sym part))
    (omega (arith, length-drop c.self.inside.place (take (c.self.inside.place + c.min-most.result) c.self.inside.buffer), length-take (c.self.inside.place + c.min-most.result) c.self.inside.buffer))
    c.in-More.ensures.answers c.in-More.ensures.becomes
    (subst (λ (s : Sight). Reached s rest file []) (sym c.self.view_is) r)

pub unreachable-requires : goal.unreachable-requires
unreachable-requires c =
    let r = c.requires.reached.2 in
    let same = ap (λ (s : Sight). s.used) c.self.view_is in
    let stands = subst (λ (s : Sight). StandsFor s.reader r.bytes) (sym c.self.view_is) r.took.stands in
    let piece = drop c.self.inside.place (take (c.self.inside.place + c.min-most.result) c.self.inside.buffer) in
    no_step c.give-step.result r.bytes piece c.give-step.new.reader
    (omega (arith, same, r.took.used, length-append r.bytes piece, length-drop c.self.inside.place (take (c.self.inside.place + c.min-most.result) c.self.inside.buffer), length-take (c.self.inside.place + c.min-most.result) c.self.inside.buffer))
    (c.give-step.ensures.answers r.bytes stands) c.give-step.ensures.becomes c.in-Item.is

pub returns-clause-feeds : goal.returns-clause-feeds
returns-clause-feeds c = λ rest file r.
    let read = take c.self.inside.filled c.self.inside.buffer in
    let part = part_front c.self.inside.place c.min-most.result c.self.inside.filled c.self.inside.buffer (omega arith) in
    rw c.end_by.ensures
    (header_bad _ c.give-step.new.reader c.in-Bad.stop (drop c.self.inside.place (take (c.self.inside.place + c.min-most.result) c.self.inside.buffer)) _ rest file
    (parted c.self.inside.place c.min-most.result read ∙ ap (λ l. l ++ drop (c.self.inside.place + c.min-most.result) read) (sym part))
    (omega (arith, ap (λ (s : Sight). s.used) c.self.view_is, c.requires.within, c.min-most.ensures, length-drop c.self.inside.place (take (c.self.inside.place + c.min-most.result) c.self.inside.buffer), length-take (c.self.inside.place + c.min-most.result) c.self.inside.buffer))
    c.in-Bad.ensures.answers c.in-Bad.ensures.becomes
    (subst (λ (s : Sight). Reached s rest file []) (sym c.self.view_is) r))
