-- What an order puts and takes in a direction is what the journals of its two routers put and take.
use Rattle.std.proofs.Common.{◌≡◌, ℕ, ◌==◌, if◌then◌else◌, Bool, true, false, [], ◌∷◌, ◌++◌, refl, sym, ap, ◌∙◌, append_assoc}
use Rattle.std.proofs.lemmas.List.{append-nil}
use Rattle.run_model.specs.Network.{Order, Journal, Event, put_towards, taken_from, puts_in, takes_in}
use Rattle.run_model.specs.CausalOrder.{CausalOrdersEndAlike}
use Rattle.run_model.specs.Journals.{puts_towards, takes_from, event_of, events_of}

module _ {Own Item Offer : Type 0} where
  pub puts_towards-append : (v : ℕ) (xs ys : Journal Own Item Offer) → puts_towards v (xs ++ ys) ≡ puts_towards v xs ++ puts_towards v ys
  puts_towards-append v [] ys = refl
  puts_towards-append v (e ∷ xs) ys = ap (λ l. put_towards v e ++ l) (puts_towards-append v xs ys) ∙ sym (append_assoc (put_towards v e) (puts_towards v xs) (puts_towards v ys))

  pub takes_from-append : (u : ℕ) (xs ys : Journal Own Item Offer) → takes_from u (xs ++ ys) ≡ takes_from u xs ++ takes_from u ys
  takes_from-append u [] ys = refl
  takes_from-append u (e ∷ xs) ys = ap (λ l. taken_from u e ++ l) (takes_from-append u xs ys) ∙ sym (append_assoc (taken_from u e) (takes_from u xs) (takes_from u ys))

  pub events_of-append : (u : ℕ) (xs ys : Order Own Item Offer) → events_of u (xs ++ ys) ≡ events_of u xs ++ events_of u ys
  events_of-append u [] ys = refl
  events_of-append u (d ∷ xs) ys = ap (λ l. event_of u d ++ l) (events_of-append u xs ys) ∙ sym (append_assoc (event_of u d) (events_of u xs) (events_of u ys))

  puts_one : (v : ℕ) (e : Event Own Item Offer) (b : Bool) → puts_towards v (if b then e ∷ [] else []) ≡ (if b then put_towards v e else [])
  puts_one v e true = append-nil (put_towards v e)
  puts_one v e false = refl

  takes_one : (u : ℕ) (e : Event Own Item Offer) (b : Bool) → takes_from u (if b then e ∷ [] else []) ≡ (if b then taken_from u e else [])
  takes_one u e true = append-nil (taken_from u e)
  takes_one u e false = refl

  pub puts_are : (u v : ℕ) (ds : Order Own Item Offer) → puts_towards v (events_of u ds) ≡ puts_in u v ds
  puts_are u v [] = refl
  puts_are u v (d ∷ ds) = puts_towards-append v (event_of u d) (events_of u ds) ∙ (λ i. puts_one v d.event (d.router == u) i ++ puts_are u v ds i)

  pub takes_are : (u v : ℕ) (ds : Order Own Item Offer) → takes_from u (events_of v ds) ≡ takes_in u v ds
  takes_are u v [] = refl
  takes_are u v (d ∷ ds) = takes_from-append u (event_of v d) (events_of v ds) ∙ (λ i. takes_one u d.event (d.router == v) i ++ takes_are u v ds i)

module _ {State Own Item Offer : Type 0} where
  pub causal_orders_end_alike : CausalOrdersEndAlike State Own Item Offer
  causal_orders_end_alike finish journal collected order is i =
      record {
        routers = finish;
        put = λ u v. (sym (puts_are u v order) ∙ ap (puts_towards v) (is.journals u)) i;
        taken = λ u v. (sym (takes_are u v order) ∙ ap (takes_from u) (is.journals v)) i;
        offered = collected;
      }
