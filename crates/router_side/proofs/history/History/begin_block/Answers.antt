use Rattle.std.proofs.Common.{◌≡◌, ◌++◌, ◌∷◌, ◌∙◌, List, [], ap}
use Rattle.std.proofs.lemmas.List.{append-nil}
use Rattle.router_side.specs.declared.block.Block.{Block}
use Rattle.router_side.specs.declared.block.Stored.{Stored}
use Rattle.router_side.specs.Histories.{entries_in, octets_in, places_of, spelt_in}
use Rattle.router_side.proofs.Kept.{entries_more, octets_more}
use Rattle.router_side.proofs.history.History.begin_block.Goals as goal

-- the last block joins those that are full, and the new one has nothing yet
pub returns-clause-entries : goal.returns-clause-entries
returns-clause-entries c =
    let bs = c.self.inside.full.items in
    let last = c.self.inside.last in
    let full : c.push_reserved.new.self.items ≡ bs ++ last ∷ [] =
    c.push_reserved.ensures.items ∙ ap (λ (xs : List Block). xs ++ c.replace.result ∷ []) c.in_ok-reserve.ensures.items ∙ ap (λ (b : Block). bs ++ b ∷ []) c.replace.ensures.value in
    ap (λ (xs : List Block). entries_in xs ++ places_of c.replace.new.dest.places.items) full
    ∙ ap (λ (b : Block). entries_in (bs ++ last ∷ []) ++ places_of b.places.items) c.replace.ensures.after
    ∙ ap (λ (ss : List Stored). entries_in (bs ++ last ∷ []) ++ places_of ss) c.in_ok-next.ensures.places
    ∙ append-nil (entries_in (bs ++ last ∷ []))
    ∙ entries_more bs last
    ∙ ap (λ v. v.entries) c.self.view_is

pub returns-clause-octets : goal.returns-clause-octets
returns-clause-octets c =
    let bs = c.self.inside.full.items in
    let last = c.self.inside.last in
    let full : c.push_reserved.new.self.items ≡ bs ++ last ∷ [] =
    c.push_reserved.ensures.items ∙ ap (λ (xs : List Block). xs ++ c.replace.result ∷ []) c.in_ok-reserve.ensures.items ∙ ap (λ (b : Block). bs ++ b ∷ []) c.replace.ensures.value in
    ap (λ (xs : List Block). octets_in xs ++ spelt_in c.replace.new.dest.places.items c.replace.new.dest.octets.items) full
    ∙ ap (λ (b : Block). octets_in (bs ++ last ∷ []) ++ spelt_in b.places.items b.octets.items) c.replace.ensures.after
    ∙ ap (λ (ps : List Stored). octets_in (bs ++ last ∷ []) ++ spelt_in ps c.in_ok-next.next.octets.items) c.in_ok-next.ensures.places
    ∙ append-nil (octets_in (bs ++ last ∷ []))
    ∙ octets_more bs last
    ∙ ap (λ v. v.octets) c.self.view_is
