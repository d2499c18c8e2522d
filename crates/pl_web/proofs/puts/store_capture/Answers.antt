use Rattle.std.proofs.Common.{subst}
use Rattle.std.specs.Prelude.{option_map}
use Rattle.pl_keeper.specs.Archive.{Capture, profile_at}
use Rattle.pl_web.specs.Judged.{Judges}
use Rattle.pl_web.specs.Judging.{Finding, finding}
use Rattle.pl_web.proofs.Kept.{stored_judged, stored_refused}
use Rattle.pl_web.proofs.puts.store_capture.Goals as goal

pub returns-in-Judged-clause-answers : goal.returns-in-Judged-clause-answers
returns-in-Judged-clause-answers g c = λ lives a tells.
    let capture : Capture = record {
      bench = c.args.bench.now;
      key = c.args.key.now;
      profile = c.args.profile.now;
      bytes = c.args.bytes.now;
    } in
    let f : Finding =
    finding (option_map (λ p. p.bytes) (profile_at a capture.bench capture.profile)) capture.bytes
    in
    let mid = c.put_capture.ensures.lived lives in
    stored_judged a capture f 0 c.in-Judged.judged (g.K.Keeper.tells c.put_capture.new.keeper)
    c.put_capture.result
    (subst (Judges f capture.bytes 0) c.in-Judged.is (c.in_ok-judged.ensures.judges mid a tells))
    (c.put_capture.ensures.answers lives a (c.in_ok-judged.ensures.same mid a tells))

pub returns-in-Refused-clause-answers : goal.returns-in-Refused-clause-answers
returns-in-Refused-clause-answers g c = λ lives a tells.
    let capture : Capture = record {
      bench = c.args.bench.now;
      key = c.args.key.now;
      profile = c.args.profile.now;
      bytes = c.args.bytes.now;
    } in
    let f : Finding =
    finding (option_map (λ p. p.bytes) (profile_at a capture.bench capture.profile)) capture.bytes
    in
    stored_refused a capture f 0 c.in-Refused.reply (g.K.Keeper.tells c.judge.new.keeper)
    (subst (Judges f capture.bytes 0) c.in-Refused.is
    (c.in_ok-judged.ensures.judges lives a tells))
    (c.in_ok-judged.ensures.same lives a tells)
