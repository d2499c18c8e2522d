use Rattle.std.proofs.Common.{◌∙◌, ℕ, List, [], Option, Some, ap, max, subst, sym}
use Rattle.pl_capture.specs.Record.{header_of}
use Rattle.pl_page.specs.Gathers.{Gathers, tells}
use Rattle.pl_merge.specs.Sides.{Reached, time_or_none}
use Rattle.pl_merge.proofs.Closings.{cut_writes, header_gathered, header_lost, header_lost_at, whole_writes}
use Rattle.pl_merge.proofs.two_files.write_merged.Goals as goal

pub returns-in-Ok-merge_items-clause-writes : goal.returns-in-Ok-merge_items-clause-writes
returns-in-Ok-merge_items-clause-writes g c = λ down up a b h h2 is is2.
    let one = c.args.one.now.reader.version in
    let two = c.args.two.now.reader.version in
    let version = c.max.ensures ∙ ap (λ (n : ℕ). max n c.version-2.result) c.version.ensures.version ∙ ap (max one) c.version-2.ensures.version in
    let begun = header_gathered c.max.result (max one two) _ c.push_header.new.self version c.new-page.ensures c.in-Ok.ensures.gathered in
    let r = subst (λ (f : Option (List ℕ)). Reached c.args.one.now (g.H.Shelf.rest c.args.first.now) f []) is h.reached in
    let r2 = subst (λ (f : Option (List ℕ)). Reached c.args.two.now (g.H.Shelf.rest c.args.second.now) f []) is2 h2.reached in
    let m = c.in-Ok-merge_items.ensures.mixes (Some a) (Some b) (header_of (max one two) 0) (tells g.O.Sink c.args.out.now) r r2 begun in
    let time = c.max-in-Ok-merge_items.ensures ∙ ap (λ (n : ℕ). max n c.end_time-in-Ok-merge_items.result) c.end_time.ensures
    ∙ ap (max (time_or_none c.merge_items.new.one.reader.end_time)) c.end_time-in-Ok-merge_items.ensures in
    whole_writes a b one two (g.H.Shelf.rest c.merge_items.new.first) (g.H.Shelf.rest c.merge_items.new.second)
    (g.H.Shelf.rest c.merge_items.new.first) (g.H.Shelf.rest c.merge_items.new.second)
    c.merge_items.new.one c.merge_items.new.two c.merge_items.new.page (tells g.O.Sink c.args.out.now) (tells g.O.Sink c.merge_items.new.out) (tells g.O.Sink c.close.new.out)
    c.in-Ok-merge_items.count c.max-in-Ok-merge_items.result c.close.result (h.told a is) (h2.told b is2)
    c.merge_items.ensures.down c.merge_items.ensures.up time m.0 m.1 m.2 c.close.ensures.writes

pub returns-in-Err-merge_items-clause-writes : goal.returns-in-Err-merge_items-clause-writes
returns-in-Err-merge_items-clause-writes g c = λ down up a b h h2 is is2.
    let one = c.args.one.now.reader.version in
    let two = c.args.two.now.reader.version in
    let version = c.max.ensures ∙ ap (λ (n : ℕ). max n c.version-2.result) c.version.ensures.version ∙ ap (max one) c.version-2.ensures.version in
    let begun = header_gathered c.max.result (max one two) _ c.push_header.new.self version c.new-page.ensures c.in-Ok.ensures.gathered in
    let r = subst (λ (f : Option (List ℕ)). Reached c.args.one.now (g.H.Shelf.rest c.args.first.now) f []) is h.reached in
    let r2 = subst (λ (f : Option (List ℕ)). Reached c.args.two.now (g.H.Shelf.rest c.args.second.now) f []) is2 h2.reached in
    cut_writes c.in-Err-merge_items.halt a b one two (g.H.Shelf.rest c.merge_items.new.first) (g.H.Shelf.rest c.merge_items.new.second)
    c.merge_items.new.page (tells g.O.Sink c.args.out.now) (tells g.O.Sink c.merge_items.new.out) (tells g.O.Sink c.cut.new.out) c.cut.result
    (h.told a is) (h2.told b is2)
    (c.in-Err-merge_items.ensures.mixes (Some a) (Some b) (header_of (max one two) 0) (tells g.O.Sink c.args.out.now) r r2 begun) c.cut.ensures.cuts

pub returns-in-Err-clause-writes : goal.returns-in-Err-clause-writes
returns-in-Err-clause-writes g c = λ down up a b h h2 is is2.
    let one = c.args.one.now.reader.version in
    let two = c.args.two.now.reader.version in
    let version = c.max.ensures ∙ ap (λ (n : ℕ). max n c.version-2.result) c.version.ensures.version ∙ ap (max one) c.version-2.ensures.version in
    header_lost a b one two (g.H.Shelf.rest c.args.first.now) (g.H.Shelf.rest c.args.second.now) (h.told a is) (h2.told b is2)
    (header_lost_at c.max.result (max one two) _ version c.new-page.ensures c.in-Err.ensures.gathered)
