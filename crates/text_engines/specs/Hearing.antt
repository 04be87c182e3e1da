-- A stream in hex that is printed as it is read.
use Rattle.std.specs.Prelude.{ℕ, List}
use Rattle.bgp_codec.specs.declared.rule.Rule.{Rule}
use Rattle.text_engines.specs.declared.hex_input.Hearing.{Hearing}
use Rattle.text_engines.specs.Decoding.{Leads}
use Rattle.text_engines.specs.Digits.{HasRead}

-- these digits were read, and what is printed for the octets that were taken away is there
abbrev pub Hears : Rule → Hearing → List ℕ → Type 0
Hears rule hearing digits = (taken : List ℕ) × HasRead taken hearing.digits digits × Leads rule taken hearing.out.items hearing.status
