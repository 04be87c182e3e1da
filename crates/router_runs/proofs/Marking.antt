-- Markers that are sent and taken, at one side.
use Rattle.std.proofs.Common.{◌≡◌, ℕ, Bool, true, false, cond, List, [], ◌∷◌, ◌++◌, refl, ap, sym, ◌∙◌, arith}
use Rattle.std.proofs.lemmas.List.{append-nil}
use Rattle.bgp_codec.specs.declared.message.Message.{Message}
use Rattle.run_model.specs.Links as links
use Rattle.run_model.specs.Links.{Entry, Mark, End, Marks, Takes, incarnation, IsNext}
use Rattle.run_model.specs.Octets.{Passing}
use Rattle.run_model.specs.Sessions as model
use Rattle.run_model.specs.Sessions.{SendsMarker, Passes}
use Rattle.router_model.specs.Settings.{Setting}
use Rattle.router_model.specs.Sides.{Side, is_up, marked}
use Rattle.router_model.specs.Step.{says_where}
use Rattle.router_runs.specs.Reading.{model_side, state_of}
use Rattle.router_runs.specs.Doing.{Stands}
use Rattle.router_runs.specs.Kept.{Holds}
use Rattle.router_runs.proofs.Doing.{reads_like, up_in}
use Rattle.router_runs.proofs.Moving.{moves_are_read}
use Rattle.router_runs.proofs.Signing.{established}
use Rattle.router_runs.proofs.Hanging.{up_is}
use Rattle.router_runs.proofs.Lower.{Laws, greatest_dial-append}

module _ (laws : Laws) where
  pub up_alike : (s : Side) (a b : End Message) → Stands s a b → links.is_up a ≡ is_up s
  up_alike s a b x = up_is laws (state_of s.session.state) a x.fits ∙ up_in laws s.session.state

  -- a side that is up is joined
  pub up_joined : (s : Side) (a b : End Message) → Stands s a b → is_up s ≡ true → a.phase ≡ links.Joined
  up_joined s a b x up = x.fits.phase ∙ ap model.phase_in (established laws s.session.state up)

  pub marks_stands : (s : Side) (a b : End Message) (k : ℕ) → Stands s a b → is_up s ≡ true → Stands (marked k s) (links.after a (Marks k)) b
  marks_stands s a b k x up =
      let l = laws.leads (model_side s a) b (SendsMarker k) x.fits x.mine x.theirs (established laws s.session.state up) in
      let r = moves_are_read laws (Marks k) s a b x.reads x.mine x.theirs (up_alike s a b x ∙ up) in
      record { reads = reads_like laws s (marked k s) (links.after a (Marks k)) refl refl refl r.reads; fits = l.fits; mine = l.mine; theirs = l.theirs }

  pub takes_stands : (s : Side) (a b : End Message) (e k : ℕ) → Stands s a b → IsNext a b (Mark e k) → Stands s (links.after a (Takes (Mark e k))) b
  takes_stands s a b e k x next =
      let l = laws.leads (model_side s a) b (Passes (Mark e k)) x.fits x.mine x.theirs (next, tt) in
      let r = moves_are_read laws (Takes (Mark e k)) s a b x.reads x.mine x.theirs (next, tt) in
      record { reads = r.reads; fits = l.fits; mine = l.mine; theirs = l.theirs }

  -- the marker changes nothing but the log
  pub mark_number : (a : End Message) (k : ℕ) → incarnation (links.after a (Marks k)) ≡ incarnation a
  mark_number a k = omega (arith, greatest_dial-append laws a.appended (Mark (incarnation a) k ∷ []))

  -- where a session is up its marker goes
  pub record SendsWhere (g : Setting) (c d : Bool) (k : ℕ) (s : Side) (items : List (Passing Message)) (a b : End Message) (h : Holds g s items a) : Type 0 where
    pub stands : Stands (cond c (marked k s) s) (cond d (links.after a (Marks k)) a) b
    pub appended : (cond d (links.after a (Marks k)) a).appended ≡ a.appended ++ says_where c (Mark s.link.epoch k ∷ [])
    pub taken : (cond d (links.after a (Marks k)) a).taken ≡ a.taken
    pub number : incarnation (cond d (links.after a (Marks k)) a) ≡ incarnation a
    pub holds : Holds g (cond c (marked k s) s) items (cond d (links.after a (Marks k)) a)
    pub rest : holds.rest ≡ h.rest
    pub like : ((cond c (marked k s) s).link ≡ s.link) × ((cond c (marked k s) s).acted ≡ s.acted) × ((cond c (marked k s) s).sent ≡ s.sent) × (is_up (cond c (marked k s) s) ≡ is_up s)

  pub sends_where : (g : Setting) (c d : Bool) (k : ℕ) (s : Side) (items : List (Passing Message)) (a b : End Message) (h : Holds g s items a) → Stands s a b → c ≡ is_up s → d ≡ c → SendsWhere g c d k s items a b h
  sends_where g true true k s items a b h x up same = record {
    stands = marks_stands s a b k x (sym up);
    appended = ap (λ e. a.appended ++ Mark e k ∷ []) (sym x.reads.epoch);
    taken = refl;
    number = mark_number a k;
    holds = record { rest = h.rest; only = h.only; passed = h.passed; joined = h.joined; apart = h.apart };
    rest = refl;
    like = (refl, refl, refl, refl);
  }
  sends_where g true false k s items a b h x up same = absurd (cc same)
  sends_where g false true k s items a b h x up same = absurd (cc same)
  sends_where g false false k s items a b h x up same = record {
    stands = x;
    appended = sym (append-nil a.appended);
    taken = refl;
    number = refl;
    holds = h;
    rest = refl;
    like = (refl, refl, refl, refl);
  }
