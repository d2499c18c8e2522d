-- The groups of kinds that the rules speak of.
-- PCI Express Base Specification 5.0, chapter 2: Fmt and Type fields, non-posted requests,
-- completions.
use Rattle.std.specs.Prelude.{Bool, true, false, ◌||◌}
use Rattle.pl_tlp.specs.declared.kind.Kind.{Kind}
use Rattle.pl_tlp.specs.declared.kind.Kind.TheVariants.{MRd, MRdLk, MWr, IORd, IOWr, CfgRd0, CfgWr0}
use Rattle.pl_tlp.specs.declared.kind.Kind.TheVariants.{CfgRd1, CfgWr1, Msg, MsgD, Cpl, CplD, CplLk}
use Rattle.pl_tlp.specs.declared.kind.Kind.TheVariants.{CplDLk, FetchAdd, Swap, Cas}

abbrev pub is_memory_read : Kind → Bool
is_memory_read MRd = true
is_memory_read MRdLk = true
is_memory_read other = false

abbrev pub is_locked_read : Kind → Bool
is_locked_read MRdLk = true
is_locked_read other = false

abbrev pub is_memory_write : Kind → Bool
is_memory_write MWr = true
is_memory_write other = false

abbrev pub is_memory_request : Kind → Bool
is_memory_request kind = is_memory_read kind || is_memory_write kind

abbrev pub is_io_request : Kind → Bool
is_io_request IORd = true
is_io_request IOWr = true
is_io_request other = false

abbrev pub is_configuration_request : Kind → Bool
is_configuration_request CfgRd0 = true
is_configuration_request CfgWr0 = true
is_configuration_request CfgRd1 = true
is_configuration_request CfgWr1 = true
is_configuration_request other = false

abbrev pub is_io_or_configuration_request : Kind → Bool
is_io_or_configuration_request kind = is_io_request kind || is_configuration_request kind

abbrev pub is_atomic : Kind → Bool
is_atomic FetchAdd = true
is_atomic Swap = true
is_atomic Cas = true
is_atomic other = false

abbrev pub is_compare_and_swap : Kind → Bool
is_compare_and_swap Cas = true
is_compare_and_swap other = false

-- a request that isn't posted: it needs a completion
abbrev pub needs_completion : Kind → Bool
needs_completion kind = is_memory_read kind || is_io_or_configuration_request kind || is_atomic kind

abbrev pub is_message : Kind → Bool
is_message Msg = true
is_message MsgD = true
is_message other = false

abbrev pub is_message_with_data : Kind → Bool
is_message_with_data MsgD = true
is_message_with_data other = false

abbrev pub is_completion : Kind → Bool
is_completion Cpl = true
is_completion CplD = true
is_completion CplLk = true
is_completion CplDLk = true
is_completion other = false

abbrev pub is_completion_with_data : Kind → Bool
is_completion_with_data CplD = true
is_completion_with_data CplDLk = true
is_completion_with_data other = false

-- the completions of locked reads, with data or without
abbrev pub is_locked_completion : Kind → Bool
is_locked_completion CplLk = true
is_locked_completion CplDLk = true
is_locked_completion other = false

-- a completion with data of another request
abbrev pub is_plain_completion_with_data : Kind → Bool
is_plain_completion_with_data CplD = true
is_plain_completion_with_data other = false
