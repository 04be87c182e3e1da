-- The Marker that each message begins with (RFC 4271 section 4.1).
use Rattle.std.specs.Prelude.{ℕ, List, replicate, Bool, not, ◌==◌}

-- sixteen octets of ones
unfoldable pub marker : List ℕ
marker = replicate 16 255

-- an octet that is not all ones
abbrev pub is_other : ℕ → Bool
is_other octet = not (octet == 255)
