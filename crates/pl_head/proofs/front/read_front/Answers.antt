use Rattle.std.proofs.Common.{◌≡◌, length, take, ◌-◌, arith, rules, subst}
use Rattle.std.proofs.Common.{length-take-le}
use Rattle.std.proofs.lemmas.Slice.{take-put_mid_below}
use Rattle.httparse.specs.Grammar.{HasNoRequest}
use Rattle.pl_io.specs.Told.{ahead}
use Rattle.pl_head.proofs.Fronts.{whole_told, bad_told, long_told, short_told}
use Rattle.pl_head.proofs.Reading.{ahead_read}
use Rattle.pl_head.proofs.front.read_front.Goals as goal

-- ---- a whole head, or none that can come

pub returns-in-Whole-clause-front : goal.returns-in-Whole-clause-front
returns-in-Whole-clause-front g c = λ text told h at.
    let n = c.loop-head.filled in
    whole_told _ _ (take n c.loop-head.buf) _ h c.loop-head.invariant.bytes
    (omega (arith, length-take-le n c.loop-head.buf (omega arith))) at.reads text told

pub returns-in-Bad-clause-front : goal.returns-in-Bad-clause-front
returns-in-Bad-clause-front g c = λ text told.
    let n = c.loop-head.filled in
    bad_told _ _ (take n c.loop-head.buf) c.loop-head.invariant.bytes
    (omega (arith, length-take-le n c.loop-head.buf (omega arith))) c.in-Bad.ensures text told

-- ---- the limit

pub returns-then-filled-buf-clause-reads : goal.returns-then-filled-buf-clause-reads
returns-then-filled-buf-clause-reads g c =
    let full : c.loop-head.filled ≡ 16384 = omega arith in
    subst (λ n. HasNoRequest (take n c.loop-head.buf)) full c.in-Unfinished.ensures.0

pub returns-then-filled-buf-clause-bytes : goal.returns-then-filled-buf-clause-bytes
returns-then-filled-buf-clause-bytes g c =
    let full : c.loop-head.filled ≡ 16384 = omega arith in
    subst
    (λ n. g.C.Conn.incoming c.args.conn.now
    ≡ ahead (take n c.loop-head.buf) (g.C.Conn.incoming c.loop-head.conn))
    full c.loop-head.invariant.bytes

pub returns-then-filled-buf-clause-front : goal.returns-then-filled-buf-clause-front
returns-then-filled-buf-clause-front g c = λ text told.
    let n = c.loop-head.filled in
    long_told _ _ (take n c.loop-head.buf) c.loop-head.invariant.bytes
    (omega (arith, length-take-le n c.loop-head.buf (omega arith)))
    c.in-Unfinished.ensures.0 text told

-- ---- the peer's end

pub returns-then-count-eq0-clause-reads : goal.returns-then-count-eq0-clause-reads
returns-then-count-eq0-clause-reads g c =
    let n = c.loop-head.filled in
    let same = take-put_mid_below n (length c.loop-head.buf - n) c.loop-head.buf c.read.new.buf n
    (omega arith) (omega arith) in
    (omega arith, rw same c.in-Unfinished.ensures.0, rw same c.in-Unfinished.ensures.1)

pub returns-then-count-eq0-clause-front : goal.returns-then-count-eq0-clause-front
returns-then-count-eq0-clause-front g c = λ text told.
    let n = c.loop-head.filled in
    short_told _ _ _ (take n c.loop-head.buf) _ _ c.loop-head.invariant.bytes
    c.in_ok-count.ensures.bytes c.if-count-eq0.true
    (c.in_ok-count.ensures.end c.if-count-eq0.true)
    (omega (arith, length-take-le n c.loop-head.buf (omega arith)))
    c.in-Unfinished.ensures.0 c.in-Unfinished.ensures.1 text told

-- ---- one read more

pub loop-head-preserved : goal.loop-head-preserved
loop-head-preserved g c = record {
  inside = search rules;
  buffer = search rules;
  room = search rules;
  bytes = ahead_read _ _ _ _ _ _ _ _
      (length-take-le c.loop-head.filled c.loop-head.buf (omega arith)) (search rules)
      c.loop-head.invariant.bytes c.in_ok-count.ensures.bytes;
  written = search rules;
  room_kept = search rules;
  kept = search rules;
}
