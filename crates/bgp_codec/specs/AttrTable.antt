-- The table of the attributes that are known: their flags and the sizes of their values (RFC 4271 sections 4.3 and 5).
use Rattle.std.specs.Prelude.{ℕ, ◌+◌, ◌*◌, ◌/◌, nat_le, ◌==◌, ◌||◌, ◌&&◌, Bool, true, if◌then◌else◌}
use Rattle.bgp_values.specs.declared.width.Width.{Width}
use Rattle.bgp_codec.specs.AsNumbers.{asn_size}
use Rattle.bgp_values.specs.declared.attributes.TheConstants.{OPTIONAL, TRANSITIVE, PARTIAL, ORIGIN, AS_PATH, MULTI_EXIT_DISC, ATOMIC_AGGREGATE, AGGREGATOR}

-- the flag of an attribute that was passed on by somebody who did not know it
abbrev pub partial_flag : Bool → ℕ
partial_flag partial = if partial then PARTIAL else 0

-- the three high flags of an octet of flags: Optional, Transitive, Partial
abbrev pub high_flags : ℕ → ℕ
high_flags flags = flags / PARTIAL * PARTIAL

-- the table: the codes from ORIGIN to AGGREGATOR are known, AGGREGATOR and MULTI_EXIT_DISC are optional, AGGREGATOR may be partial
abbrev pub is_known : ℕ → Bool
is_known code = nat_le ORIGIN code && nat_le code AGGREGATOR

abbrev pub flags_of : ℕ → ℕ
flags_of code = if code == MULTI_EXIT_DISC then OPTIONAL else if code == AGGREGATOR then OPTIONAL + TRANSITIVE else TRANSITIVE

-- the flags of an AGGREGATOR that is partial
abbrev pub is_partial : ℕ → Bool
is_partial flags = high_flags flags == OPTIONAL + TRANSITIVE + partial_flag true

abbrev pub flags_fit : ℕ → ℕ → Bool
flags_fit code flags = (high_flags flags == flags_of code) || ((code == AGGREGATOR) && is_partial flags)

-- which lengths a value may have: AS_PATH any, ATOMIC_AGGREGATE none, AGGREGATOR a number and an address
abbrev pub size_fits : Width → ℕ → ℕ → Bool
size_fits width code size =
    if code == ORIGIN then size == 1
    else if code == AS_PATH then true
    else if code == ATOMIC_AGGREGATE then size == 0
    else if code == AGGREGATOR then size == asn_size width + 4
    else size == 4
