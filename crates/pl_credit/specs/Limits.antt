-- How far the latest grant of a class reaches in a pool, in three numbers.
-- PCI Express Base Specification 5.0, chapter 2: flow control, and scaled flow control.
use Rattle.std.specs.Prelude.{◌-◌, ◌/◌, ◌%◌, if◌then◌else◌, Option, Some, None}
use Rattle.pl_dllp.specs.declared.packet.Fc.{Fc}
use Rattle.pl_credit.specs.declared.advert.Advert.{Advert}
use Rattle.pl_credit.specs.declared.limit.Limit.{Limit}
use Rattle.pl_credit.specs.declared.pool.Pool.{Pool}
use Rattle.pl_credit.specs.Pools.{granted, is_infinite, ring, scale}

abbrev pub no_limit : Limit
no_limit = record { granted = 0; mask = 0; half = 0 }

-- of a grant in a pool whose initial is this one
abbrev pub limit_under : Pool → Fc → Fc → Limit
limit_under pool first fc =
    if is_infinite pool first
    then no_limit
    else record {
      granted = granted pool first fc % 65536;
      mask = ring pool (scale pool first) - 1;
      half = ring pool (scale pool first) / 2;
    }

-- of the latest grant of a class, where it has its initial
abbrev pub limit : Pool → Option Advert → Option Advert → Limit
limit pool None grant = no_limit
limit pool (Some first) None = no_limit
limit pool (Some first) (Some grant) = limit_under pool first.fc grant.fc
