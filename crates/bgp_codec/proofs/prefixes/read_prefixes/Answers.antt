use Rattle.std.proofs.Common.{[]}
use Rattle.std.proofs.lemmas.Result.{err_from_is_err_and}
use Rattle.bgp_codec.specs.UpdateReading.{prefix_at, prefixes_reading}
use Rattle.bgp_codec.proofs.EachLemmas.{no_front, each_go_on, each_stop, each_end, some_left, none_left}
use Rattle.bgp_codec.proofs.PrefixLemmas.{prefix_shortens}
use Rattle.bgp_codec.proofs.prefixes.read_prefixes.Goals as goal

pub returns-then-is_empty : goal.returns-then-is_empty
returns-then-is_empty c = rw c.new.ensures (each_end prefix_at c.args.octets.now c.args.octets.now _ (none_left _ c.if-is_empty.ensures) (no_front (prefixes_reading c.args.octets.now)))

pub returns-in_err-first : goal.returns-in_err-first
returns-in_err-first c =
    let p = err_from_is_err_and c.from_residual.result c.from_residual.ensures.1 in
    rw (p.1, p.2) (each_stop prefix_at c.args.octets.now c.args.octets.now [] c.in_err-first.field-0.0 (some_left _ c.if-is_empty.ensures) (no_front (prefixes_reading c.args.octets.now)) c.in_err-first.ensures.gives)

pub returns-then-is_empty-2 : goal.returns-then-is_empty-2
returns-then-is_empty-2 c =
    let octets = c.args.octets.now in
    let one = each_go_on prefix_at octets octets c.in_ok-first.rest.now [] c.in_ok-first.first prefix_shortens c.in_ok-first.ensures.gives (no_front (prefixes_reading octets)) in
    rw c.one.ensures (each_end prefix_at octets c.in_ok-first.rest.now _ (none_left _ c.if-is_empty-2.ensures) one)
