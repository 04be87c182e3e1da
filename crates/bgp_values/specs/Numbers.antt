-- The numbers of the standard, each as a literal beside its section: of RFC 4271, where no other RFC is named.
use Rattle.std.specs.Prelude.{◌≡◌}
use Rattle.bgp_values.specs.declared.messages.TheConstants.{MESSAGE_LIMIT, HEADER_LEN, LEAST_OPEN, LEAST_UPDATE, LEAST_NOTIFICATION, MOST_DATA, VERSION, CAPABILITIES, FOUR_OCTET_ASN, OPEN, UPDATE, NOTIFICATION, KEEPALIVE}
use Rattle.bgp_values.specs.declared.attributes.TheConstants.{OPTIONAL, TRANSITIVE, PARTIAL, EXTENDED, ORIGIN, IGP, INCOMPLETE, AS_PATH, NEXT_HOP, MULTI_EXIT_DISC, LOCAL_PREF, ATOMIC_AGGREGATE, AGGREGATOR, AS_SET, AS_SEQUENCE}
use Rattle.bgp_values.specs.declared.faults.TheConstants.{MESSAGE_HEADER_ERROR, OPEN_MESSAGE_ERROR, UPDATE_MESSAGE_ERROR, HOLD_TIMER_EXPIRED, FSM_ERROR, CEASE, UNSPECIFIC, CONNECTION_NOT_SYNCHRONIZED, BAD_MESSAGE_LENGTH, BAD_MESSAGE_TYPE, UNSUPPORTED_VERSION_NUMBER, BAD_PEER_AS, BAD_BGP_IDENTIFIER, UNSUPPORTED_OPTIONAL_PARAMETER, UNACCEPTABLE_HOLD_TIME, UNSUPPORTED_CAPABILITY, MALFORMED_ATTRIBUTE_LIST, UNRECOGNIZED_WELL_KNOWN_ATTRIBUTE, MISSING_WELL_KNOWN_ATTRIBUTE, ATTRIBUTE_FLAGS_ERROR, ATTRIBUTE_LENGTH_ERROR, INVALID_ORIGIN_ATTRIBUTE, INVALID_NEXT_HOP_ATTRIBUTE, INVALID_NETWORK_FIELD, MALFORMED_AS_PATH}
use Rattle.bgp_values.specs.declared.ranges.TheConstants.{LEAST_HOLD, FIRST_UNICAST, LAST_UNICAST}
use Rattle.bgp_values.specs.declared.width.TheConstants.{GREATEST_OF_TWO, GREATEST_OF_FOUR, AS_TRANS}

-- octets of messages, and their types
abbrev pub OfMessages : Type 0
OfMessages =
    -- 4.1
    (MESSAGE_LIMIT ≡ 4096) × (HEADER_LEN ≡ 19)
    × (OPEN ≡ 1) × (UPDATE ≡ 2) × (NOTIFICATION ≡ 3) × (KEEPALIVE ≡ 4)
    -- 4.2
    × (LEAST_OPEN ≡ 29) × (VERSION ≡ 4)
    -- 4.3
    × (LEAST_UPDATE ≡ 23)
    -- 4.5
    × (LEAST_NOTIFICATION ≡ 21) × (MOST_DATA ≡ 4075)
    -- RFC 5492 section 4, RFC 6793 section 3
    × (CAPABILITIES ≡ 2) × (FOUR_OCTET_ASN ≡ 65)

-- flags, codes and values of path attributes, and types of segments
abbrev pub OfAttributes : Type 0
OfAttributes =
    -- 4.3: the four high bits of the flags, from the highest down
    (OPTIONAL ≡ 128) × (TRANSITIVE ≡ 64) × (PARTIAL ≡ 32) × (EXTENDED ≡ 16)
    -- 4.3
    × (IGP ≡ 0) × (INCOMPLETE ≡ 2) × (AS_SET ≡ 1) × (AS_SEQUENCE ≡ 2)
    -- 5.1.1 to 5.1.7
    × (ORIGIN ≡ 1) × (AS_PATH ≡ 2) × (NEXT_HOP ≡ 3) × (MULTI_EXIT_DISC ≡ 4)
    × (LOCAL_PREF ≡ 5) × (ATOMIC_AGGREGATE ≡ 6) × (AGGREGATOR ≡ 7)

-- error codes and subcodes of a NOTIFICATION
abbrev pub OfFaults : Type 0
OfFaults =
    -- 4.5
    (MESSAGE_HEADER_ERROR ≡ 1) × (OPEN_MESSAGE_ERROR ≡ 2) × (UPDATE_MESSAGE_ERROR ≡ 3)
    × (HOLD_TIMER_EXPIRED ≡ 4) × (FSM_ERROR ≡ 5) × (CEASE ≡ 6) × (UNSPECIFIC ≡ 0)
    -- 6.1
    × (CONNECTION_NOT_SYNCHRONIZED ≡ 1) × (BAD_MESSAGE_LENGTH ≡ 2) × (BAD_MESSAGE_TYPE ≡ 3)
    -- 6.2
    × (UNSUPPORTED_VERSION_NUMBER ≡ 1) × (BAD_PEER_AS ≡ 2) × (BAD_BGP_IDENTIFIER ≡ 3)
    × (UNSUPPORTED_OPTIONAL_PARAMETER ≡ 4) × (UNACCEPTABLE_HOLD_TIME ≡ 6)
    -- RFC 5492 section 5
    × (UNSUPPORTED_CAPABILITY ≡ 7)
    -- 6.3
    × (MALFORMED_ATTRIBUTE_LIST ≡ 1) × (UNRECOGNIZED_WELL_KNOWN_ATTRIBUTE ≡ 2)
    × (MISSING_WELL_KNOWN_ATTRIBUTE ≡ 3) × (ATTRIBUTE_FLAGS_ERROR ≡ 4) × (ATTRIBUTE_LENGTH_ERROR ≡ 5)
    × (INVALID_ORIGIN_ATTRIBUTE ≡ 6) × (INVALID_NEXT_HOP_ATTRIBUTE ≡ 8) × (INVALID_NETWORK_FIELD ≡ 10)
    × (MALFORMED_AS_PATH ≡ 11)

-- what a speaker may say of itself
abbrev pub OfSpeakers : Type 0
OfSpeakers =
    -- 4.2: seconds
    (LEAST_HOLD ≡ 3)
    -- first octets of the addresses of hosts
    × (FIRST_UNICAST ≡ 1) × (LAST_UNICAST ≡ 223)
    -- 4.2, RFC 6793 section 4.1
    × (GREATEST_OF_TWO ≡ 65535) × (GREATEST_OF_FOUR ≡ 4294967295)
    -- RFC 6793 section 9
    × (AS_TRANS ≡ 23456)
