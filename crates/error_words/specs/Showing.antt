-- How octets of an input are shown, and how a remark is said.
use Rattle.std.specs.Prelude.{ℕ, ◌==◌, ◌&&◌, nat_le, ◌++◌, length, take, map, codes, if◌then◌else◌}
use Rattle.net_text.specs.Lexing.{Text}
use Rattle.net_text.specs.Printing.{line}
use Rattle.error_words.specs.declared.showing.TheConstants.{MOST_SHOWN}

-- an octet as it is shown: a question mark if it is not a printable one of ASCII, a space for a tab
abbrev pub shown_octet : ℕ → ℕ
shown_octet x = if nat_le 32 x && nat_le x 126 then x else if x == 9 then 32 else 63

-- a line as it is shown, up to a bound
abbrev pub shown : Text → Text
shown text =
    if nat_le (length text) MOST_SHOWN then map shown_octet text
    else map shown_octet (take MOST_SHOWN text) ++ codes " .."

unfoldable pub remark_text : Text → Text
remark_text text = line (codes "bgpnet: " ++ text)
