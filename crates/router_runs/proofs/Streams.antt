-- The octets of an incarnation among items are those among what the items pass.
use Rattle.std.proofs.Common.{◌≡◌, ℕ, ◌==◌, Bool, true, false, cond, List, [], ◌∷◌, ◌++◌, refl, ap, sym, ◌∙◌}
use Rattle.bgp_codec.specs.declared.message.Message.{Message}
use Rattle.run_model.specs.Octets.{Passing, octets_of}
use Rattle.run_model.specs.Streams.{octets_in}
use Rattle.outbox.specs.declared.item.What.{What}
use Rattle.outbox.specs.declared.item.What.TheVariants as item
use Rattle.router_model.specs.Laws.{all_passes}
use Rattle.router_runs.specs.Runs.{stream}

pub piece_in : (c : Bool) (e f : ℕ) (bs : List ℕ) (xs : List (Passing Message)) → (e == f) ≡ c → octets_in e (octets_of f bs ++ xs) ≡ cond c (bs ++ octets_in e xs) (octets_in e xs)
piece_in true e f [] xs is = refl
piece_in false e f [] xs is = refl
piece_in true e f (b ∷ bs) xs is = ap (λ c. cond c (b ∷ octets_in e (octets_of f bs ++ xs)) (octets_in e (octets_of f bs ++ xs))) is ∙ ap (λ w. b ∷ w) (piece_in true e f bs xs is)
piece_in false e f (b ∷ bs) xs is = ap (λ c. cond c (b ∷ octets_in e (octets_of f bs ++ xs)) (octets_in e (octets_of f bs ++ xs))) is ∙ piece_in false e f bs xs is

pub stream_is : (e : ℕ) (is : List What) → stream e is ≡ octets_in e (all_passes is)
stream_is e [] = refl
stream_is e (item.Dial f ∷ is) = stream_is e is
stream_is e (item.Piece f octets ∷ is) = ap (λ w. cond (e == f) (octets ++ w) w) (stream_is e is) ∙ sym (piece_in (e == f) e f octets (all_passes is) refl)
stream_is e (item.Mark f s ∷ is) = stream_is e is
stream_is e (item.Shut f ∷ is) = ap (λ w. cond (e == f) [] w) (stream_is e is)
