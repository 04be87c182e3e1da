-- The data of an OPEN's fault has at most six octets.
use Rattle.std.proofs.Common.{ℕ, ◌+◌, List, [], ◌∷◌, length, drop, Option, Some, None, IfSome, ◌≤◌, arith}
use Rattle.std.specs.Prelude.{nat_lt, ◌==◌, not, slice_index}
use Rattle.std.proofs.lemmas.Bool.{cond_both}
use Rattle.bgp_values.specs.declared.width.Width.{Width}
use Rattle.bgp_values.specs.declared.width.Width.TheVariants.{Two, Four}
use Rattle.bgp_codec.specs.declared.fault.Fault.{Fault}
use Rattle.bgp_codec.specs.declared.open.Cap.{Cap}
use Rattle.bgp_codec.specs.declared.rule.Rule.{Rule}
use Rattle.bgp_codec.specs.Opens.{value_at, cap_at, caps_reading, param_at, params_reading, open_reading, open_of, open_fault, unless, said_fault, number_fault, params_fault, said_in, is_peer, asn_field, hold_field, id_field}
use Rattle.bgp_values.specs.Ranges.{is_hold_time, is_unicast}
use Rattle.bgp_codec.proofs.FaultData.{FaultsWithin, then_within, either_within}
use Rattle.bgp_codec.proofs.EachLemmas.{each_faults}

value_faults : (octets : List ℕ) → FaultsWithin 6 (value_at octets)
value_faults [] = omega arith
value_faults (x ∷ []) = omega arith
value_faults (x ∷ len ∷ rest) = either_within 6 (nat_lt (length rest) len) _ _ (omega arith) tt

cap_faults : (octets : List ℕ) → FaultsWithin 6 (cap_at octets)
cap_faults octets = then_within 6 (value_at octets) _ (value_faults octets) (λ v. tt)

param_faults : (octets : List ℕ) → FaultsWithin 6 (param_at octets)
param_faults octets =
    then_within 6 (value_at octets) _ (value_faults octets)
    (λ v. either_within 6 (not (slice_index octets 0 == 2)) _ _ (omega arith) (then_within 6 (caps_reading v.0) _ (each_faults 6 cap_at v.0 cap_faults) (λ caps. tt)))

-- the fault of a number that is said, or that is not
said_faults : (own peer said : Option ℕ) → IfSome (said_fault own peer said) (λ f. length f.extra ≤ 6)
said_faults None peer None = tt
said_faults (Some own) peer None = omega arith
said_faults None None (Some asn) = tt
said_faults (Some own) None (Some asn) = tt
said_faults None (Some peer) (Some asn) = cond_both (asn == peer) None (Some (open_fault 2)) (λ o. IfSome o (λ f. length f.extra ≤ 6)) (λ _. tt) (λ _. omega arith)
said_faults (Some own) (Some peer) (Some asn) = cond_both (asn == peer) None (Some (open_fault 2)) (λ o. IfSome o (λ f. length f.extra ≤ 6)) (λ _. tt) (λ _. omega arith)

number_faults : (width : Width) (own peer said : Option ℕ) → IfSome (number_fault width own peer said) (λ f. length f.extra ≤ 6)
number_faults Two own peer said = tt
number_faults Four own peer said = said_faults own peer said

params_faults : (rule : Rule) (params : List (List Cap)) → IfSome (params_fault rule params) (λ f. length f.extra ≤ 6)
params_faults rule params = number_faults rule.width rule.own rule.peer (said_in params)

unless_within : {A : Type 0} (k : ℕ) (o : Option Fault) (x : A) → IfSome o (λ f. length f.extra ≤ k) → FaultsWithin k (unless o x)
unless_within k None x h = tt
unless_within k (Some f) x h = h

pub open_faults : (rule : Rule) (body : List ℕ) → FaultsWithin 6 (open_reading rule body)
unfolding open_reading
open_faults rule body =
    either_within 6 (not (slice_index body 0 == 4)) _ _ (omega arith)
    (either_within 6 (not (is_peer rule.width rule.peer (asn_field body))) _ _ (omega arith)
    (either_within 6 (not (is_hold_time (hold_field body))) _ _ (omega arith)
    (either_within 6 (not (is_unicast (id_field body))) _ _ (omega arith)
    (either_within 6 (not (length body == 10 + slice_index body 9)) _ _ (omega arith)
    (then_within 6 (params_reading (drop 10 body)) _ (each_faults 6 param_at (drop 10 body) param_faults) (λ params. unless_within 6 (params_fault rule params) (open_of body params) (params_faults rule params)))))))
