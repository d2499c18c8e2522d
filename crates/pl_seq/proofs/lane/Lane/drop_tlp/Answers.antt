use Rattle.std.proofs.Common.{ap, arith}
use Rattle.pl_seq.specs.Lane.{Kept, latest_position}
use Rattle.pl_seq.proofs.Rising.{rise-to}
use Rattle.pl_seq.proofs.lane.Lane.drop_tlp.Goals as goal

pub invariant_of-self : goal.invariant_of-self
invariant_of-self c =
    let latest = ap (λ (lane : Kept). latest_position lane.latest_tlp) c.self.view_is in (
      c.self.invariant.0,
      omega (arith, c.self.invariant.1, latest, c.requires.rises),
      c.self.invariant.2,
      rise-to 0 (latest_position c.self.inside.latest_tlp) c.args.at c.self.inside.retry.tlps
          (omega (arith, latest, c.requires.rises)) c.self.invariant.3,
      c.self.invariant.4,
    )
