use Rattle.std.proofs.Common.{◌≡◌, ap, arith}
use Rattle.pl_seq.specs.Lane.{Kept, latest_position}
use Rattle.pl_seq.specs.declared.lane.Latest.{Latest}
use Rattle.pl_seq.proofs.Rising.{rise-to}
use Rattle.pl_seq.proofs.lane.Lane.repeat.Goals as goal

pub invariant_of-self : goal.invariant_of-self
invariant_of-self c =
    let latest = ap (λ (lane : Kept). latest_position lane.latest_tlp) c.self.view_is in
    let at : c.whole.result.at ≡ c.args.at = ap (λ (tlp : Latest). tlp.at) c.whole.ensures in (
      c.self.invariant.0,
      omega (arith, c.self.invariant.1, latest, at, c.requires.rises),
      c.self.invariant.2,
      rise-to 0 (latest_position c.self.inside.latest_tlp) c.whole.result.at
          c.self.inside.retry.tlps (omega (arith, latest, at, c.requires.rises)) c.self.invariant.3,
      c.self.invariant.4,
    )
