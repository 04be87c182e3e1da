-- Beginnings of lists, octets, and numbers that are dialled.
use Rattle.std.proofs.Common.{◌≡◌, ℕ, ◌+◌, ◌<◌, Bool, true, false, ◌&&◌, cond, List, [], ◌∷◌, ◌++◌, length, slice_get, refl, ap, sym, ◌∙◌, arith, append_assoc, Some}
use Rattle.std.specs.Prelude.{nat_lt, max, not}
use mathlib.Core.List.{IsPrefix}
use Rattle.std.proofs.lemmas.Bool.Decides.{nat_tests}
use Rattle.bgp_codec.specs.declared.message.Message.{Message}
use Rattle.bgp_codec.specs.declared.message.Message.TheVariants.{OpenMsg, UpdateMsg, NoticeMsg, AliveMsg}
use Rattle.router_model.specs.Messages.{updates_in}
use Rattle.run_model.specs.Links.{End, answers, greatest_dial, has_shut}
use Rattle.run_model.specs.Octets.{Octet, octets_of}

pub prefix_trans : {A : Type 0} (xs ys zs : List A) → IsPrefix xs ys → IsPrefix ys zs → IsPrefix xs zs
prefix_trans xs ys zs p q = (p.0 ++ q.0, sym (append_assoc xs p.0 q.0) ∙ (ap (λ w. w ++ q.0) p.1 ∙ q.1))

-- the element behind a beginning makes a longer beginning
pub prefix_next : {A : Type 0} (xs ys : List A) (x : A) → IsPrefix xs ys → slice_get ys (length xs) ≡ Some x → IsPrefix (xs ++ x ∷ []) ys
prefix_next [] [] x p h = absurd cc
prefix_next [] (y ∷ ys) x p h = (ys, cc)
prefix_next (x' ∷ xs) [] x p h = absurd (cc (p.1))
prefix_next (x' ∷ xs) (y ∷ ys) x p h =
    let rest = prefix_next xs ys x (p.0, cc (p.1)) h in (rest.0, cc (p.1, rest.1))

pub octets_more : (e : ℕ) (xs ys : List ℕ) → octets_of {M = Message} e (xs ++ ys) ≡ octets_of e xs ++ octets_of e ys
octets_more e [] ys = refl
octets_more e (x ∷ xs) ys = ap (λ w. Octet e x ∷ w) (octets_more e xs ys)

-- the next number is above the own
left_true : (p q : Bool) → (p && q) ≡ true → p ≡ true
left_true true q h = refl
left_true false q h = h

pub answers_above : (a : End Message) → answers a ≡ true → greatest_dial a.appended < greatest_dial a.taken
answers_above a h =
    let k : nat_lt (greatest_dial a.appended) (greatest_dial a.taken) ≡ true = left_true (nat_lt (greatest_dial a.appended) (greatest_dial a.taken)) (not (has_shut (greatest_dial a.taken) a.taken)) h in grind (arith, nat_tests, k)

pub answers_true : (a : End Message) (b : Bool) → answers a ≡ b → greatest_dial a.appended < cond b (greatest_dial a.taken) (max (greatest_dial a.appended) (greatest_dial a.taken) + 1)
answers_true a true e = answers_above a e
answers_true a false e = omega arith

-- the UPDATEs of two lists
pub updates-append : (xs ys : List Message) → updates_in (xs ++ ys) ≡ updates_in xs ++ updates_in ys
updates-append [] ys = refl
updates-append (OpenMsg o ∷ xs) ys = updates-append xs ys
updates-append (UpdateMsg u ∷ xs) ys = ap (λ us. u ∷ us) (updates-append xs ys)
updates-append (NoticeMsg n ∷ xs) ys = updates-append xs ys
updates-append (AliveMsg ∷ xs) ys = updates-append xs ys
