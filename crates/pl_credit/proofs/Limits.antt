-- The three numbers of a limit tell whether a grant falls short.
use Rattle.std.proofs.Common.{◌≡◌, ℕ, ◌+◌, ◌-◌, ◌*◌, ◌/◌, ◌%◌, Bool, true, false, not, ◌&&◌, ◌==◌}
use Rattle.std.proofs.Common.{nat_lt, if◌then◌else◌, Option, Some, None, refl, ap, ◌∙◌, arith}
use Rattle.std.proofs.lemmas.Nat.{and_mask}
use Rattle.std.specs.Int.Bits.{bit_and}
use Rattle.pl_dllp.specs.declared.packet.Fc.{Fc}
use Rattle.pl_credit.specs.declared.advert.Advert.{Advert}
use Rattle.pl_credit.specs.declared.limit.Limit.{Limit}
use Rattle.pl_credit.specs.declared.pool.Pool.{Pool}
use Rattle.pl_credit.specs.declared.pool.Pool.TheVariants.{Header, Data}
use Rattle.pl_credit.specs.Limits.{limit, no_limit}
use Rattle.pl_credit.specs.Pools.{ahead, field_ring, granted, is_infinite, kept_ring, ring, scale}
use Rattle.pl_credit.specs.Rules.{overspends}

-- what is left of a grant, on two bytes
abbrev left : ℕ → ℕ → ℕ
left granted spent = (granted % 65536 + (65536 - spent % 65536)) % 65536

left-256 : (g sum cost : ℕ) → bit_and (left g (sum % 4096 + cost)) 255 ≡ ahead g (sum + cost) 256
left-256 g sum cost = and_mask (left g (sum % 4096 + cost)) 8 ∙ omega arith

left-1024 : (g sum cost : ℕ) → bit_and (left g (sum % 4096 + cost)) 1023 ≡ ahead g (sum + cost) 1024
left-1024 g sum cost = and_mask (left g (sum % 4096 + cost)) 10 ∙ omega arith

left-4096 : (g sum cost : ℕ) → bit_and (left g (sum % 4096 + cost)) 4095 ≡ ahead g (sum + cost) 4096
left-4096 g sum cost = and_mask (left g (sum % 4096 + cost)) 12 ∙ omega arith

data-4096 : (g sum cost : ℕ) → bit_and (left g (sum % 65536 + cost)) 4095 ≡ ahead g (sum + cost) 4096
data-4096 g sum cost = and_mask (left g (sum % 65536 + cost)) 12 ∙ omega arith

data-16384 : (g sum cost : ℕ) → bit_and (left g (sum % 65536 + cost)) 16383 ≡ ahead g (sum + cost) 16384
data-16384 g sum cost = and_mask (left g (sum % 65536 + cost)) 14 ∙ omega arith

data-65536 : (g sum cost : ℕ) → bit_and (left g (sum % 65536 + cost)) 65535 ≡ ahead g (sum + cost) 65536
data-65536 g sum cost = and_mask (left g (sum % 65536 + cost)) 16 ∙ omega arith

-- of each ring of a pool
abbrev ring_by : Pool → Bool → Bool → ℕ
ring_by pool four sixteen =
    field_ring pool * (if four then 4 else (if sixteen then 16 else 1))

left-by : (pool : Pool) (four sixteen : Bool) (g sum cost : ℕ)
    → bit_and (left g (sum % kept_ring pool + cost)) (ring_by pool four sixteen - 1)
    ≡ ahead g (sum + cost) (ring_by pool four sixteen)
left-by Header true sixteen g sum cost = left-1024 g sum cost
left-by Header false true g sum cost = left-4096 g sum cost
left-by Header false false g sum cost = left-256 g sum cost
left-by Data true sixteen g sum cost = data-16384 g sum cost
left-by Data false true g sum cost = data-65536 g sum cost
left-by Data false false g sum cost = data-4096 g sum cost

-- where there is no limit
endless : (n : ℕ) → nat_lt 0 (bit_and n 0) ≡ false
endless n =
    let nothing : bit_and n 0 ≡ 0 = and_mask n 0 ∙ omega arith in
    rw nothing refl

-- in a pool
short-by : (endless : Bool) (pool : Pool) (first fc : Fc) (sum cost : ℕ) (self : Limit)
    → is_infinite pool first ≡ endless
    → self ≡ (if endless then no_limit else record {
      granted = granted pool first fc % 65536;
      mask = ring pool (scale pool first) - 1;
      half = ring pool (scale pool first) / 2;
    })
    → nat_lt self.half
    (bit_and ((self.granted + (65536 - (sum % kept_ring pool + cost) % 65536)) % 65536) self.mask)
    ≡ (not endless && nat_lt (ring pool (scale pool first) / 2)
    (ahead (granted pool first fc) (sum + cost) (ring pool (scale pool first))))
short-by true pool first fc sum cost self e is = rw is (endless _)
short-by false pool first fc sum cost self e is =
    rw is (ap (nat_lt (ring pool (scale pool first) / 2))
    (left-by pool (scale pool first == 2) (scale pool first == 3) (granted pool first fc) sum cost))

pub short : (pool : Pool) (first grant : Option Advert) (sum cost : ℕ) (self : Limit)
    → self ≡ limit pool first grant
    → nat_lt self.half
    (bit_and ((self.granted + (65536 - (sum % kept_ring pool + cost) % 65536)) % 65536) self.mask)
    ≡ overspends pool first grant (sum + cost)
short pool None grant sum cost self is = rw is (endless _)
short pool (Some first) None sum cost self is = rw is (endless _)
short pool (Some first) (Some grant) sum cost self is =
    short-by (is_infinite pool first.fc) pool first.fc grant.fc sum cost self refl is
