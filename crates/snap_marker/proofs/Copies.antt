-- Links that are seen alike, and copies of a part, say the same.
use Rattle.std.proofs.Common.{◌≡◌, ℕ, zero, suc, ◌==◌, true, cond, List, [], ◌∷◌, get_or, set, refl, ap, sym, ◌∙◌, map}
use Rattle.std.proofs.Math.Path.{fun_ext}
use Rattle.run_model.specs.Offers.{Finished}
use Rattle.snap_marker.specs.declared.part.Channel.{Channel}
use Rattle.snap_marker.specs.declared.part.Part.{Part}
use Rattle.snap_marker.specs.Parts.{Seen, seen, link_has, epoch_in, channel_in, messages, kept_in, originated_in, peers_of, part_of, recording_of, waits_for_marker, IsCopy}

module _ {A : Type 0} (none : A) (what : Seen → A) where
  abbrev look : List Seen → ℕ → A
  look [] v = none
  look (c ∷ cs) v = cond (v == c.peer) (what c) (look cs v)

  looks : (cs : List Channel) (v : ℕ) → link_has none (λ c. what (seen c)) cs v ≡ look (map seen cs) v
  looks [] v = refl
  looks (c ∷ cs) v = ap (λ (x : A). cond (v == c.peer) (what (seen c)) x) (looks cs v)

  pub alike : (cs ds : List Channel) → map seen cs ≡ map seen ds → link_has none (λ c. what (seen c)) cs ≡ link_has none (λ c. what (seen c)) ds
  alike cs ds e = fun_ext (λ v. looks cs v ∙ ap (λ l. look l v) e ∙ sym (looks ds v))

-- room for more UPDATEs is not seen
pub seen_set : (cs : List Channel) (i : ℕ) (p q : Channel) → p ≡ get_or cs i p → seen q ≡ seen p → map seen (set cs i q) ≡ map seen cs
seen_set [] i p q here e = refl
seen_set (c ∷ cs) zero p q here e = ap (λ (s : Seen). s ∷ map seen cs) (e ∙ ap seen here)
seen_set (c ∷ cs) (suc i) p q here e = ap (λ (ss : List Seen). seen c ∷ ss) (seen_set cs i p q here e)

pub peers_alike : (cs ds : List Channel) → map seen cs ≡ map seen ds → peers_of cs ≡ peers_of ds
peers_alike cs ds e = peers_seen cs ∙ ap (map (λ (s : Seen). s.peer)) e ∙ sym (peers_seen ds)
  where
    peers_seen : (cs : List Channel) → peers_of cs ≡ map (λ (s : Seen). s.peer) (map seen cs)
    peers_seen [] = refl
    peers_seen (c ∷ cs) = ap (λ (ns : List ℕ). c.peer ∷ ns) (peers_seen cs)

pub copies_say_the_same : (p q : Part) → IsCopy p q → part_of p ≡ part_of q
copies_say_the_same p q h =
    let epochs : epoch_in p.channels.items ≡ epoch_in q.channels.items = alike 0 (λ c. c.epoch) p.channels.items q.channels.items h.channels in
    let channels : channel_in p.channels.items ≡ channel_in q.channels.items = alike [] (λ c. messages c.updates) p.channels.items q.channels.items h.channels in
    λ i. record { kept = kept_in (h.kept i); originated = originated_in (h.originated i); incarnation = epochs i; pending = h.pending i; channel = channels i }

pub copies_record_the_same : (p q : Part) → IsCopy p q → recording_of p ≡ recording_of q
copies_record_the_same p q h =
    let waits : waits_for_marker p.channels.items ≡ waits_for_marker q.channels.items = alike true (λ c. c.is_open) p.channels.items q.channels.items h.channels in
    λ i. record { number = h.number i; part = copies_say_the_same p q h i; waits = waits i }

pub offers_say_the_same : (p q : Part) → IsCopy p q → Finished p.number (part_of p) ≡ Finished q.number (part_of q)
offers_say_the_same p q h = λ i. Finished (h.number i) (copies_say_the_same p q h i)
