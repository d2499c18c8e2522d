use Rattle.std.proofs.Common.{◌≡◌, subst}
use Rattle.std.specs.Prelude.{option_map}
use Rattle.pl_keeper.specs.Archive.{profile_at}
use Rattle.pl_web.specs.Judged.{Judges}
use Rattle.pl_web.specs.Judging.{Finding, finding}
use Rattle.pl_web.proofs.Kept.{shown_judged, shown_refused}
use Rattle.pl_web.proofs.gets.show_verdicts_of.Goals as goal

pub returns-in-Judged-clause-answers : goal.returns-in-Judged-clause-answers
returns-in-Judged-clause-answers g c = λ lives a tells.
    let stored = c.args.stored in
    let owner : c.deref.result.now ≡ stored.profile =
    cc (c.deref.ensures, c.parts_of-profile.ensures.profile) in
    let bytes : c.deref-2.result.now ≡ stored.bytes =
    cc (c.deref-2.ensures.value, c.parts_of-profile.ensures.bytes) in
    let f : Finding =
    finding (option_map (λ p. p.bytes) (profile_at a c.args.bench.now stored.profile)) stored.bytes
    in
    shown_judged a c.args.bench.now c.args.key.now stored.bytes f c.in-Judged.judged
    (g.K.Keeper.tells c.judge.new.keeper) c.verdicts.result c.in_json.result
    (subst (Judges f stored.bytes 10000) c.in-Judged.is
    (rw (owner, bytes) at (c.in_ok-judged.ensures.judges lives a tells)))
    c.verdicts.ensures c.in_json.ensures
    (c.in_ok-judged.ensures.same lives a tells)

pub returns-clause-answers : goal.returns-clause-answers
returns-clause-answers g c = λ lives a tells.
    let stored = c.args.stored in
    let owner : c.deref.result.now ≡ stored.profile =
    cc (c.deref.ensures, c.parts_of-profile.ensures.profile) in
    let bytes : c.deref-2.result.now ≡ stored.bytes =
    cc (c.deref-2.ensures.value, c.parts_of-profile.ensures.bytes) in
    let f : Finding =
    finding (option_map (λ p. p.bytes) (profile_at a c.args.bench.now stored.profile)) stored.bytes
    in
    shown_refused a c.args.bench.now c.args.key.now stored.bytes f 10000 c.in-Refused.reply
    (g.K.Keeper.tells c.judge.new.keeper)
    (subst (Judges f stored.bytes 10000) c.in-Refused.is
    (rw (owner, bytes) at (c.in_ok-judged.ensures.judges lives a tells)))
    (c.in_ok-judged.ensures.same lives a tells)
