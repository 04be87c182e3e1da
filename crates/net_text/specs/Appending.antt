-- The lines that are appended whole, and the text of each.
use Rattle.std.specs.Prelude.{ℕ, ◌≤◌, List, length}
use Rattle.bgp_values.specs.declared.messages.TheConstants.{MOST_DATA}
use Rattle.net_text.specs.declared.lines.Line.{Line}
use Rattle.net_text.specs.declared.lines.Line.TheVariants as lines
use Rattle.net_text.specs.Printing.{line, open_line, update_line, flight_line, fault_lines, truncated_line, refused_line, unstable_line}

-- the text of a line, with its end
abbrev pub text_of : Line → List ℕ
text_of (lines.Open message) = line (open_line message.now)
text_of (lines.Update message) = line (update_line message.now)
text_of (lines.Flight from to message) = flight_line from to message.now
text_of (lines.Fault fault) = fault_lines fault.now
text_of (lines.Truncated len) = truncated_line len
text_of (lines.Refused at code) = refused_line at code.now
text_of (lines.Unstable router has best) = unstable_line router has.now best.now

-- the NOTIFICATION that tells of a fault fits a message
abbrev pub IsSendable : Line → Type 0
IsSendable (lines.Fault fault) = length fault.now.extra ≤ MOST_DATA
IsSendable other = Unit {0}
