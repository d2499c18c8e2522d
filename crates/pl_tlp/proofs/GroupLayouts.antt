-- How the headers of the groups of kinds are laid out.
use Rattle.std.proofs.Common.{◌≡◌, true, refl}
use Rattle.std.proofs.lemmas.Bool.{false≢true}
use Rattle.pl_tlp.specs.declared.kind.Kind.{Kind}
use Rattle.pl_tlp.specs.declared.kind.Kind.TheVariants.{MRd, MRdLk, MWr, IORd, IOWr, CfgRd0, CfgWr0, CfgRd1, CfgWr1, Msg, MsgD, Cpl, CplD, CplLk, CplDLk, FetchAdd, Swap, Cas}
use Rattle.pl_tlp.specs.declared.kind.Layout.TheVariants.{Completion, Message}
use Rattle.pl_tlp.specs.Groups.{is_memory_request, is_atomic, is_io_or_configuration_request, needs_completion, is_message, is_completion}
use Rattle.pl_tlp.specs.Header.{is_access}
use Rattle.pl_tlp.specs.Kinds.{layout_of}

pub memory_access : (kind : Kind) → is_memory_request kind ≡ true → is_access (layout_of kind) ≡ true
memory_access MRd is = refl
memory_access MRdLk is = refl
memory_access MWr is = refl
memory_access other is = absurd (false≢true is)

pub atomic_access : (kind : Kind) → is_atomic kind ≡ true → is_access (layout_of kind) ≡ true
atomic_access FetchAdd is = refl
atomic_access Swap is = refl
atomic_access Cas is = refl
atomic_access other is = absurd (false≢true is)

pub register_access : (kind : Kind) → is_io_or_configuration_request kind ≡ true
    → is_access (layout_of kind) ≡ true
register_access IORd is = refl
register_access IOWr is = refl
register_access CfgRd0 is = refl
register_access CfgWr0 is = refl
register_access CfgRd1 is = refl
register_access CfgWr1 is = refl
register_access other is = absurd (false≢true is)

pub request_access : (kind : Kind) → needs_completion kind ≡ true → is_access (layout_of kind) ≡ true
request_access MRd is = refl
request_access MRdLk is = refl
request_access IORd is = refl
request_access IOWr is = refl
request_access CfgRd0 is = refl
request_access CfgWr0 is = refl
request_access CfgRd1 is = refl
request_access CfgWr1 is = refl
request_access FetchAdd is = refl
request_access Swap is = refl
request_access Cas is = refl
request_access other is = absurd (false≢true is)

pub message_layout : (kind : Kind) → is_message kind ≡ true → layout_of kind ≡ Message
message_layout Msg is = refl
message_layout MsgD is = refl
message_layout other is = absurd (false≢true is)

pub completion_layout : (kind : Kind) → is_completion kind ≡ true → layout_of kind ≡ Completion
completion_layout Cpl is = refl
completion_layout CplD is = refl
completion_layout CplLk is = refl
completion_layout CplDLk is = refl
completion_layout other is = absurd (false≢true is)
