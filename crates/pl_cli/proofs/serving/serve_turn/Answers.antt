use Rattle.std.proofs.Common.{◌≡◌, ◌≤◌, ◌+◌, List, ℕ, length, sym, subst, ap, ◌∙◌, arith, refl, rules}
use Rattle.std.proofs.lemmas.Bool.{false≢true}
use Rattle.pl_io.specs.Told.{plus}
use Rattle.pl_report.specs.ServedLines.{served_text}
use Rattle.pl_web.specs.Turns.{line_of}
use Rattle.pl_cli.proofs.Served.{has_less, line_short, store_line, turned_failed, turned_served}
use Rattle.pl_cli.proofs.serving.serve_turn.Goals as goal

pub returns-then-served-eq503-clause-serves : goal.returns-then-served-eq503-clause-serves
returns-then-served-eq503-clause-serves g c = λ link others links is.
    let text : c.as_bytes.result.now ≡ served_text (line_of c.in-Ok.served) = search rules in (
      c.in-Ok.served,
      c.in-Ok.ensures.serves link others links,
      c.in-Ok-write_all.ensures.appended ∙ ap (plus (g.O.Sink.written c.args.out.now)) text,
      turned_failed c.in-Ok.served c.if-served-eq503.true,
    )

pub returns-else-served-eq503-clause-serves : goal.returns-else-served-eq503-clause-serves
returns-else-served-eq503-clause-serves g c = λ link others links is.
    let text : c.as_bytes.result.now ≡ served_text (line_of c.in-Ok.served) = search rules in (
      c.in-Ok.served,
      c.in-Ok.ensures.serves link others links,
      c.in-Ok-write_all.ensures.appended ∙ ap (plus (g.O.Sink.written c.args.out.now)) text,
      turned_served c.in-Ok.served c.if-served-eq503.false,
    )

pub returns-then-served-eq503-clause-room : goal.returns-then-served-eq503-clause-room
returns-then-served-eq503-clause-room g c = λ more has.
    let text : c.as_bytes.result.now ≡ served_text (line_of c.in-Ok.served) = search rules in
    let short : length c.as_bytes.result.now ≤ 11 =
    subst (λ (t : List ℕ). length t ≤ 11) (sym text)
    (line_short c.in-Ok.served c.in-Ok.ensures.small) in (
      λ is. cc,
      c.in-Ok-write_all.ensures.room_left more
          (has_less (g.O.Sink.room c.args.out.now) (11 + more)
          (length c.as_bytes.result.now + more) (omega arith) has),
    )

pub returns-else-served-eq503-clause-room : goal.returns-else-served-eq503-clause-room
returns-else-served-eq503-clause-room g c = λ more has.
    let text : c.as_bytes.result.now ≡ served_text (line_of c.in-Ok.served) = search rules in
    let short : length c.as_bytes.result.now ≤ 11 =
    subst (λ (t : List ℕ). length t ≤ 11) (sym text)
    (line_short c.in-Ok.served c.in-Ok.ensures.small) in (
      λ is. cc,
      c.in-Ok-write_all.ensures.room_left more
          (has_less (g.O.Sink.room c.args.out.now) (11 + more)
          (length c.as_bytes.result.now + more) (omega arith) has),
    )

pub returns-in-Err-write_all-clause-room : goal.returns-in-Err-write_all-clause-room
returns-in-Err-write_all-clause-room g c = λ more has.
    let text : c.as_bytes.result.now ≡ served_text (line_of c.in-Ok.served) = search rules in
    let short : length c.as_bytes.result.now ≤ 11 =
    subst (λ (t : List ℕ). length t ≤ 11) (sym text)
    (line_short c.in-Ok.served c.in-Ok.ensures.small) in
    absurd (false≢true (c.in-Err-write_all.ensures.fits
    (has_less (g.O.Sink.room c.args.out.now) (11 + more) (length c.as_bytes.result.now)
    (omega arith) has)))

pub returns-then-served-eq503-clause-line : goal.returns-then-served-eq503-clause-line
returns-then-served-eq503-clause-line g c = λ is.
    let text : c.as_bytes.result.now ≡ served_text (line_of c.in-Ok.served) = search rules in (
      line_of c.in-Ok.served,
      c.in-Ok-write_all.ensures.appended ∙ ap (plus (g.O.Sink.written c.args.out.now)) text,
      λ store. refl,
    )

pub returns-else-served-eq503-clause-line : goal.returns-else-served-eq503-clause-line
returns-else-served-eq503-clause-line g c = λ is.
    let text : c.as_bytes.result.now ≡ served_text (line_of c.in-Ok.served) = search rules in (
      line_of c.in-Ok.served,
      c.in-Ok-write_all.ensures.appended ∙ ap (plus (g.O.Sink.written c.args.out.now)) text,
      λ store.
          absurd (c.if-served-eq503.false
          (store_line c.in-Ok.served.sent c.in-Ok.served.status store)),
    )
