-- What is said grows at its end.
use Rattle.std.proofs.Common.{◌≡◌, ℕ, true, List, [], ◌∷◌, ◌++◌, append_assoc, refl, ap, sym, ◌∙◌}
use Rattle.std.specs.Prelude.{Option}
use Rattle.std.proofs.lemmas.List.{append-nil}
use Rattle.bgp_codec.specs.declared.update.Update.{Update}
use Rattle.router_side.specs.SideOf.{told_by}
use Rattle.bgp_codec.specs.declared.message.Message.{Message}
use Rattle.bgp_codec.specs.Spelling.{written}
use Rattle.run_model.specs.Links.{Entry}
use Rattle.run_model.specs.Octets.{Passing, octets_of}
use Rattle.router_side.specs.declared.drafted.Say.{Say}
use Rattle.session_fsm.specs.Table.{SessionView, kept_alive}
use Rattle.router_model.specs.Sides.{Side, AtHand, NoMessage, HasFault, HasUpdate, Draft, tells_fault}
use Rattle.router_side.specs.Sayings.{entries_of, all_entries, said_where, told_of, update_in, acted_where}

pub said_on : (own_open : Message) (told : Option Message) (xs : List Say) (x : Say) → all_entries own_open told (xs ++ x ∷ []) ≡ all_entries own_open told xs ++ entries_of own_open told x
said_on own_open told [] x = append-nil (entries_of own_open told x)
said_on own_open told (y ∷ xs) x =
    ap (λ (w : List (Entry Message)). entries_of own_open told y ++ w) (said_on own_open told xs x)
    ∙ sym (append_assoc (entries_of own_open told y) (all_entries own_open told xs) (entries_of own_open told x))

-- a fault that is at hand is told of, and nothing else
pub says_given : (g : AtHand) (a : Draft) → record a { says = a.says ++ said_where a.link.epoch (told_of g) } ≡ tells_fault a g
says_given NoMessage a = ap (λ (w : List (Entry Message)). record a { says = w }) (append-nil a.says)
says_given (HasFault fault) a = refl
says_given (HasUpdate update) a = ap (λ (w : List (Entry Message)). record a { says = w }) (append-nil a.says)

-- an UPDATE that is told
pub told_is : (s : Side) (m : Message) (session : SessionView) (outbox : List (Passing Message)) (sent : ℕ → List Update) → session ≡ kept_alive s.session
    → outbox ≡ s.outbox ++ octets_of s.link.epoch (written s.width m) → sent ≡ acted_where true (update_in m) s.link.epoch s.sent
    → record s { session = session; outbox = outbox; sent = sent } ≡ told_by s m
told_is s m session outbox sent a b c = rw (a, b, c, append-nil (octets_of {M = Message} s.link.epoch (written s.width m))) refl
