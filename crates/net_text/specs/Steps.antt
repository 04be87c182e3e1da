-- What a step of a reader answers.
use Rattle.std.specs.Prelude.{ℕ, ◌≡◌, ◌==◌, ◌||◌, nat_le, Result, Ok, Err, IsOk, if◌then◌else◌}
use Rattle.std.specs.List.{list_any, count_by}
use Rattle.ranked_policy.specs.declared.limits.TheConstants.{MOST_LINKS}
use Rattle.ranked_policy.specs.declared.refusal.NetError.{NetError}
use Rattle.ranked_policy.specs.declared.refusal.NetError.TheVariants as refusals
use Rattle.ranked_policy.specs.Plans.{touches}
use Rattle.ranked_policy.specs.Adding.{with_link}
use Rattle.net_text.specs.declared.network_so_far.NetworkSoFar.{NetworkSoFar}
use Rattle.net_text.specs.Lines.{joins}
use Rattle.net_text.specs.declared.code.Code.{Code}
use Rattle.net_text.specs.declared.code.Code.TheVariants as codes

-- a code other than want of memory is the line's fault; want of memory is answered only of a line without a fault
abbrev pub Refuses : {S : Type 0} → Code → Result S Code → Type 0
Refuses codes.Memory read = IsOk read
Refuses code read = read ≡ Err code

-- the state afterwards is what the line makes of the state before
abbrev pub Steps : {S : Type 0} → Result (Unit {0}) Code → Result S Code → S → Type 0
Steps (Ok u) read new = read ≡ Ok new
Steps (Err code) read new = Refuses code read

-- what a link between two routers makes of a network, or its fault
abbrev pub link_told : NetworkSoFar → ℕ → ℕ → Result NetworkSoFar Code
link_told d u v =
    if (u == v) || list_any (joins u v) d.net.links then Err codes.Repeated
    else if nat_le MOST_LINKS (count_by (touches u) d.net.links) || nat_le MOST_LINKS (count_by (touches v) d.net.links) then Err codes.OutOfLimit
    else Ok (record d { net = with_link d.net u v })

-- the code of why a network refuses a link between two of its routers
abbrev pub link_code : NetError → Code
link_code refusals.Memory = codes.Memory
link_code refusals.Repeated = codes.Repeated
link_code e = codes.OutOfLimit
