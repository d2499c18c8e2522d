-- The names of DLLPs by what they say.
use Rattle.std.proofs.Common.{◌≡◌, ℕ, refl}
use Rattle.pl_base.specs.declared.link.Class.{Class}
use Rattle.pl_base.specs.declared.link.Class.TheVariants.{P, Np, Cpl}
use Rattle.pl_dllp.specs.declared.packet.Dllp.TheVariants as dllp
use Rattle.pl_dllp.specs.declared.packet.Fc.{Fc}
use Rattle.pl_dllp.specs.declared.packet.Stage.{Stage}
use Rattle.pl_dllp.specs.declared.packet.Stage.TheVariants.{Init1, Init2, Update}
use Rattle.pl_dllp.specs.Name.{name_or_other}
use Rattle.pl_dllp.specs.Types.{flow_code, type_with}
use Rattle.std.specs.Option.{unwrap_or}
use Rattle.pl_filter.specs.Items.{type_name}
use Rattle.pl_filter.specs.Names.{named}
use Rattle.pl_filter.specs.declared.name.Name.TheVariants as name

pub ack_name : (number : ℕ) → name.Ack ≡ type_name (dllp.Ack number)
unfolding named type_with
ack_name number = refl

pub nak_name : (number : ℕ) → name.Nak ≡ type_name (dllp.Nak number)
unfolding named type_with
nak_name number = refl

by_type : (stage : Stage) (class : Class) → name.Flow stage class ≡ unwrap_or (named (name_or_other (type_with (flow_code stage class)))) name.Other
unfolding named type_with
by_type Init1 P = refl
by_type Init1 Np = refl
by_type Init1 Cpl = refl
by_type Init2 P = refl
by_type Init2 Np = refl
by_type Init2 Cpl = refl
by_type Update P = refl
by_type Update Np = refl
by_type Update Cpl = refl

pub flow_name : (fc : Fc) → name.Flow fc.stage fc.class ≡ type_name (dllp.Flow fc)
flow_name fc = by_type fc.stage fc.class
