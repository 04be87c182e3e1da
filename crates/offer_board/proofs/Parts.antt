-- A part that is the same says the same.
use Rattle.std.proofs.Common.{◌≡◌, ℕ, ◌==◌, cond, List, [], ◌∷◌, refl, ap, sym, ◌∙◌, map}
use Rattle.std.proofs.Math.Path.{fun_ext}
use Rattle.run_model.specs.Offers.{Finished, made_of}
use Rattle.snap_marker.specs.declared.part.Channel.{Channel}
use Rattle.snap_marker.specs.declared.part.Part.{Part}
use Rattle.snap_marker.specs.declared.part.Offer.TheVariants as offer
use Rattle.snap_collector.specs.Collecting.{made_by}
use Rattle.snap_marker.specs.Parts.{Seen, seen, link_has, epoch_in, channel_in, messages, kept_in, originated_in, part_of, IsCopy}

module _ {A : Type 0} (none : A) (what : Seen → A) where
  abbrev look : List Seen → ℕ → A
  look [] v = none
  look (c ∷ cs) v = cond (v == c.peer) (what c) (look cs v)

  looks : (cs : List Channel) (v : ℕ) → link_has none (λ c. what (seen c)) cs v ≡ look (map seen cs) v
  looks [] v = refl
  looks (c ∷ cs) v = ap (λ (x : A). cond (v == c.peer) (what (seen c)) x) (looks cs v)

  alike : (cs ds : List Channel) → map seen cs ≡ map seen ds → link_has none (λ c. what (seen c)) cs ≡ link_has none (λ c. what (seen c)) ds
  alike cs ds e = fun_ext (λ v. looks cs v ∙ ap (λ l. look l v) e ∙ sym (looks ds v))

copies_say_the_same : (p q : Part) → IsCopy p q → part_of p ≡ part_of q
copies_say_the_same p q h =
    let epochs : epoch_in p.channels.items ≡ epoch_in q.channels.items = alike 0 (λ c. c.epoch) p.channels.items q.channels.items h.channels in
    let channels : channel_in p.channels.items ≡ channel_in q.channels.items = alike [] (λ c. messages c.updates) p.channels.items q.channels.items h.channels in
    λ i. record { kept = kept_in (h.kept i); originated = originated_in (h.originated i); incarnation = epochs i; pending = h.pending i; channel = channels i }

pub parts_offer_the_same : (p q : Part) → IsCopy p q → made_by (offer.Part p) ≡ made_by (offer.Part q)
parts_offer_the_same p q h = λ i. made_of (h.router i) (Finished (h.number i) (copies_say_the_same p q h i))
