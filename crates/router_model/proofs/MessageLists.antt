-- The UPDATEs of lists, and the messages of an incarnation among entries.
use Rattle.std.proofs.Common.{◌≡◌, ℕ, ◌==◌, Bool, true, false, cond, List, [], ◌∷◌, ◌++◌, refl, ap, ◌∙◌, arith}
use Rattle.std.proofs.lemmas.List.{append-nil}
use Rattle.bgp_codec.specs.declared.message.Message.{Message}
use Rattle.bgp_codec.specs.declared.message.Message.TheVariants.{OpenMsg, UpdateMsg, NoticeMsg, AliveMsg}
use Rattle.run_model.specs.Links.{Entry, Dial, Says, Mark, Shut, said}
use Rattle.router_model.specs.Messages.{updates_in, is_update}

pub updates-append : (xs ys : List Message) → updates_in (xs ++ ys) ≡ updates_in xs ++ updates_in ys
updates-append [] ys = refl
updates-append (OpenMsg o ∷ xs) ys = updates-append xs ys
updates-append (UpdateMsg u ∷ xs) ys = ap (λ us. u ∷ us) (updates-append xs ys)
updates-append (NoticeMsg n ∷ xs) ys = updates-append xs ys
updates-append (AliveMsg ∷ xs) ys = updates-append xs ys

no_update : (n : Message) → is_update n ≡ false → updates_in (n ∷ []) ≡ []
no_update n h = grind arith

front : (b : Bool) (n : Message) (ms : List Message) → is_update n ≡ false → updates_in ms ≡ [] → updates_in (cond b (n ∷ ms) ms) ≡ []
front true n ms h none = updates-append (n ∷ []) ms ∙ rw (no_update n h, none) refl
front false n ms h none = none

kept : (b : Bool) (m : Message) (xs ys zs : List Message) → zs ≡ xs ++ ys → cond b (m ∷ zs) zs ≡ cond b (m ∷ xs) xs ++ ys
kept true m xs ys zs e = ap (λ w. m ∷ w) e
kept false m xs ys zs e = e

pub said-append : (n : ℕ) (xs ys : List (Entry Message)) → said n (xs ++ ys) ≡ said n xs ++ said n ys
said-append n [] ys = refl
said-append n (Dial e ∷ xs) ys = said-append n xs ys
said-append n (Says e m ∷ xs) ys = kept (n == e) m (said n xs) (said n ys) (said n (xs ++ ys)) (said-append n xs ys)
said-append n (Mark e s ∷ xs) ys = said-append n xs ys
said-append n (Shut e ∷ xs) ys = said-append n xs ys

-- a message that is no UPDATE adds none to what is said
pub quiet_message : (e d : ℕ) (n : Message) (xs ys : List (Entry Message)) → is_update n ≡ false → updates_in (said e ys) ≡ []
    → updates_in (said e (xs ++ Says d n ∷ ys)) ≡ updates_in (said e xs)
quiet_message e d n xs ys h none =
    let here : updates_in (said e (Says d n ∷ ys)) ≡ [] = front (e == d) n (said e ys) h none in
    ap updates_in (said-append e xs (Says d n ∷ ys)) ∙ updates-append (said e xs) (said e (Says d n ∷ ys)) ∙ ap (λ w. updates_in (said e xs) ++ w) here ∙ append-nil (updates_in (said e xs))
