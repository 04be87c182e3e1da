-- The peers of a router, made one after the other.
use Rattle.std.proofs.Common.{◌≡◌, ℕ, ◌+◌, ◌<◌, List, [], ◌∷◌, ◌++◌, length, map, drop, ap, sym, ◌∙◌, get_or, append_assoc}
use Rattle.std.specs.List.{AllByRecursion}
use Rattle.std.proofs.lemmas.List.{at_drop_more, map-append}
use Rattle.ranked_policy.specs.declared.network.Link.{Link}
use Rattle.router_core.specs.declared.peers.Peer.{Peer}

-- the peer of the next link joins those that were made
pub one_more : (made : List Peer) (p : Peer) (links : List Link) (i : ℕ) (d l : Link) → i < length links → l ≡ get_or links i d → p.number ≡ l.other
    → map (λ p. p.number) (made ++ p ∷ []) ++ map (λ k. k.other) (drop (i + 1) links) ≡ map (λ p. p.number) made ++ map (λ k. k.other) (drop i links)
one_more made p links i d l lt at same =
    let Left : List Link → List ℕ = λ ls. map (λ k. k.other) ls in
    let others = drop (i + 1) links in
    let next : Left (drop i links) ≡ l.other ∷ Left others = at_drop_more Left links i d lt ∙ ap (λ k. Left (k ∷ others)) (sym at) in
    ap (λ ns. ns ++ Left others) (map-append (λ (p : Peer). p.number) made (p ∷ [])) ∙ append_assoc (map (λ p. p.number) made) (p.number ∷ []) (Left others)
    ∙ ap (λ n. map (λ p. p.number) made ++ n ∷ Left others) same ∙ ap (λ ns. map (λ p. p.number) made ++ ns) (sym next)

-- what holds of those that were made and of one more holds of all
pub all_more : (P : Peer → Type 0) (made : List Peer) (p : Peer) → AllByRecursion P made → P p → AllByRecursion P (made ++ p ∷ [])
all_more P [] p all here = (here, all)
all_more P (q ∷ made) p all here = (all.0, all_more P made p all.1 here)
