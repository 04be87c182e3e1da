-- Faults in words: the name and the section of each code and subcode.
use Rattle.std.specs.Prelude.{◌&&◌, nat_eq, nat_le, Bool, List, [], ◌∷◌, take, drop, replicate, length, Option, None, codes, if◌then◌else◌}
use Rattle.std.specs.List.{starts_with}
use Rattle.net_text.specs.Lexing.{Text}
use Rattle.error_words.specs.Tables.{found_in}

-- the hex of a code and its subcode, and what they mean
abbrev pub faults : List (Text × Text)
faults =
    (codes "0101", codes "fault 1 1: Connection Not Synchronized (RFC 4271 section 6.1)")
    ∷ (codes "0102", codes "fault 1 2: Bad Message Length (RFC 4271 section 6.1)")
    ∷ (codes "0103", codes "fault 1 3: Bad Message Type (RFC 4271 section 6.1)")
    ∷ (codes "0200", codes "fault 2 0: optional parameters that are malformed (RFC 4271 section 6.2)")
    ∷ (codes "0201", codes "fault 2 1: Unsupported Version Number (RFC 4271 section 6.2)")
    ∷ (codes "0202", codes "fault 2 2: Bad Peer AS (RFC 4271 section 6.2)")
    ∷ (codes "0203", codes "fault 2 3: Bad BGP Identifier (RFC 4271 section 6.2)")
    ∷ (codes "0204", codes "fault 2 4: Unsupported Optional Parameter (RFC 4271 section 6.2)")
    ∷ (codes "0206", codes "fault 2 6: Unacceptable Hold Time (RFC 4271 section 6.2)")
    ∷ (codes "0301", codes "fault 3 1: Malformed Attribute List (RFC 4271 section 6.3)")
    ∷ (codes "0302", codes "fault 3 2: Unrecognized Well-known Attribute (RFC 4271 section 6.3)")
    ∷ (codes "0303", codes "fault 3 3: Missing Well-known Attribute (RFC 4271 section 6.3)")
    ∷ (codes "0304", codes "fault 3 4: Attribute Flags Error (RFC 4271 section 6.3)")
    ∷ (codes "0305", codes "fault 3 5: Attribute Length Error (RFC 4271 section 6.3)")
    ∷ (codes "0306", codes "fault 3 6: Invalid ORIGIN Attribute (RFC 4271 section 6.3)")
    ∷ (codes "0308", codes "fault 3 8: Invalid NEXT_HOP Attribute (RFC 4271 section 6.3)")
    ∷ (codes "030a", codes "fault 3 10: Invalid Network Field (RFC 4271 section 6.3)")
    ∷ (codes "030b", codes "fault 3 11: Malformed AS_PATH (RFC 4271 section 6.3)")
    ∷ []

-- a line is a message in hex: it begins with the Marker, sixteen octets of ones
abbrev pub is_hex_message : Text → Bool
is_hex_message last = starts_with nat_eq last (replicate 32 102) && nat_le 42 (length last)

-- the fault that a NOTIFICATION in hex tells: its code and subcode stand behind a header of nineteen octets
abbrev pub fault_of : Text → Option Text
fault_of last = if is_hex_message last then found_in faults (take 4 (drop 38 last)) else None
