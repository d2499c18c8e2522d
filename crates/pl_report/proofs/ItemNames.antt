-- How long the names of what items carry are.
use Rattle.std.proofs.Common.{◌≤◌, ◌++◌, length, arith}
use Rattle.pl_base.specs.declared.link.Class.{Class}
use Rattle.pl_base.specs.declared.link.Class.TheVariants.{P, Np, Cpl}
use Rattle.pl_dllp.specs.declared.packet.Stage.{Stage}
use Rattle.pl_dllp.specs.declared.packet.Stage.TheVariants.{Init1, Init2, Update}
use Rattle.pl_tlp.specs.Kinds.{name_of}
use Rattle.pl_tlp.specs.declared.kind.Kind.{Kind}
use Rattle.pl_tlp.specs.declared.kind.Kind.TheVariants.{MRd}
use Rattle.pl_filter.specs.Names.{class_text, stage_text, text_of}
use Rattle.pl_filter.specs.declared.name.Name.{Name}
use Rattle.pl_filter.specs.declared.name.Name.TheVariants as name

-- each case computes
kind_is_short : (kind : Kind) → length (name_of kind) ≤ 26
kind_is_short MRd = omega arith
kind_is_short _ = omega arith

flow_is_short : (stage : Stage) (class : Class) → length (stage_text stage ++ class_text class) ≤ 26
flow_is_short Init1 P = omega arith
flow_is_short Init1 Np = omega arith
flow_is_short Init1 Cpl = omega arith
flow_is_short Init2 P = omega arith
flow_is_short Init2 Np = omega arith
flow_is_short Init2 Cpl = omega arith
flow_is_short Update P = omega arith
flow_is_short Update Np = omega arith
flow_is_short Update Cpl = omega arith

pub text_is_short : (n : Name) → length (text_of n) ≤ 26
text_is_short (name.Tlp kind) = kind_is_short kind
text_is_short (name.Flow stage class) = flow_is_short stage class
text_is_short _ = omega arith
