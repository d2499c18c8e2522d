-- The TLPs of a round are lawful.
use Rattle.std.proofs.Common.{ℕ, ◌-◌, ◌*◌, ◌%◌, ◌≤◌, length, refl, inl, inr, arith}
use Rattle.std.proofs.lemmas.List.{length-replicate}
use Rattle.pl_base.specs.Bits.{bits}
use Rattle.pl_tlp.specs.Fit.{Fits}
use Rattle.pl_make.specs.declared.draw.Draw.{Draw}
use Rattle.pl_make.specs.Generated.{IsDraw, read, completion}
use Rattle.pl_make.specs.Packets.{IsPlain}

pub read_plain : (k : ℕ) (draw : Draw) → IsPlain (read k draw)
read_plain k draw = record {
  kind = inl refl;
  wide = refl;
  prefixes = refl;
  payload =
      omega arith;
  digest = refl;
}

pub completion_plain : (k left address part : ℕ) → part ≤ 16
    → IsPlain (completion k left address part)
completion_plain k left address part most =
    let size = length-replicate (4 * part) (k % 256) in
    record { kind = inr refl; wide = refl; prefixes = refl; payload = omega arith; digest = refl }

pub read_fits : (k : ℕ) (draw : Draw) → IsDraw draw → Fits (read k draw)
unfolding bits
read_fits k draw is =
    let b = is.before in let h = is.behind in let m = is.boundary in let u = is.unit in
    record {
      first = record {
        wide = refl;
        tc = omega arith;
        attr = omega arith;
        at = omega arith;
        length =
            (omega arith, omega arith);
      };
      layout = record {
        requester = omega arith;
        tag = omega arith;
        first_be = omega arith;
        last_be = omega arith;
        address = omega arith;
        address_unit = omega arith;
        code = omega arith;
        routing = omega arith;
        completer = omega arith;
        status = refl;
        bcm = refl;
        byte_count = refl;
        lower = omega arith;
      };
      bytes = record { prefixes = refl; payload = refl };
    }

pub completion_fits : (k left address part : ℕ) → 1 ≤ part → part ≤ 16 → part ≤ left → left ≤ 32
    → Fits (completion k left address part)
unfolding bits
completion_fits k left address part some most in_left in_read =
    record {
      first = record {
        wide = refl;
        tc = omega arith;
        attr = omega arith;
        at = omega arith;
        length =
            (omega arith, omega arith);
      };
      layout = record {
        requester = omega arith;
        tag = omega arith;
        first_be = omega arith;
        last_be = omega arith;
        address = omega arith;
        address_unit = refl;
        code = omega arith;
        routing = omega arith;
        completer = omega arith;
        status = refl;
        bcm = tt;
        byte_count = (omega arith, omega arith);
        lower = omega arith;
      };
      bytes = record { prefixes = refl; payload = length-replicate (4 * part) (k % 256) };
    }
