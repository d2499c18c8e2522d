use Rattle.std.proofs.Common.{◌≡◌, ◌+◌, ℕ, List, length, ap, sym, subst, arith}
use Rattle.std.proofs.lemmas.Grind.{common_steps}
use Rattle.pl_seq.specs.Sent.{Held, Sent}
use Rattle.pl_seq.specs.Runs.{Run}
use Rattle.pl_seq.specs.Lane.{Kept, Rise, latest_position}
use Rattle.pl_seq.specs.declared.lane.Latest.{Latest}
use Rattle.pl_seq.proofs.Rising.{rise-push}
use Rattle.pl_seq.proofs.lane.Lane.admit.Goals as goal

pub invariant_of-self : goal.invariant_of-self
invariant_of-self c =
    let old = c.self.inside.retry.tlps in
    let before = latest_position c.self.inside.latest_tlp in
    let latest = ap (λ (lane : Kept). latest_position lane.latest_tlp) c.self.view_is in
    let at : c.whole.result.at ≡ c.args.at = ap (λ (tlp : Latest). tlp.at) c.whole.ensures in
    let tlps = ap (λ (held : Held). held.tlps) c.push.ensures in
    let room = ap (λ (held : Held). held.room) c.push.ensures in
    let next = ap (λ (run : Run). run.next) c.take.ensures in
    let answered = ap (λ (run : Run). run.answered) c.take.ensures in
    let tlp : Sent = record { at = c.args.at; bytes = c.args.tlp.now } in
    let more : length c.push.new.self.tlps ≡ length old + 1 = grind (arith, common_steps, tlps) in (
      omega (arith, more, next, answered, c.self.invariant.0),
      omega (arith, next, c.self.invariant.1, latest, at, c.requires.rises),
      grind (arith, common_steps, more, room, c.self.invariant.2, c.requires.room, c.self.view_is),
      subst (λ (last : ℕ). Rise 0 c.push.new.self.tlps last) (sym at)
          (subst (λ (l : List Sent). Rise 0 l c.args.at) (sym tlps)
          (rise-push 0 before old tlp (omega (arith, latest, c.requires.rises))
          c.self.invariant.3)),
      omega (arith, room, c.self.invariant.4),
    )
