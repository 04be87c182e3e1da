-- An UPDATE in front that tells a path is handled without a draft.
use Rattle.std.proofs.Common.{◌≡◌, ◌∙◌, ℕ, Bool, true, false, List, [], ◌∷◌, Option, None, Some, refl, ap, sym, subst, inl, inr, cond}
use Rattle.std.specs.Prelude.{Result, Ok, IfOk, MatchOption, is_some, not}
use Rattle.snap_marker.specs.declared.part.Part.{Part}
use Rattle.std.proofs.lemmas.Bool.{eq-eqb}
use Rattle.bgp_values.specs.declared.width.Width.{Width}
use Rattle.prefix_lanes.specs.Bits.{PrefixView}
use Rattle.bgp_codec.specs.declared.message.Message.{Message}
use Rattle.bgp_codec.specs.declared.message.Message.TheVariants.{UpdateMsg}
use Rattle.bgp_codec.specs.declared.fault.Fault.{Fault}
use Rattle.bgp_codec.specs.declared.rule.Rule.{Rule}
use Rattle.bgp_codec.specs.declared.update.Update.{Update}
use Rattle.bgp_codec.specs.Spelling.{IsWritable}
use Rattle.bgp_codec.specs.Updates.{UpdateFits}
use Rattle.rib_tables.specs.Words.{TellsPath}
use Rattle.rib_tables.specs.Owners.{RibView, HearsUpdate}
use Rattle.snap_marker.specs.Parts.{MarkView, snapshots_of}
use Rattle.router_model.specs.Sides.{Side, HasUpdate, at_hand, carried, front, draft_message, is_up, is_established, without_front}
use Rattle.router_model.specs.State.{telling}
use Rattle.router_side.specs.Acting.{IsToldInFront, UpdatesAreActedOn}
use Rattle.router_side.specs.SideOf.{acting, naming, IsInFront}
use Rattle.router_core.specs.Following.{Followed, ComesUpAgain, standing}
use Rattle.router_core.specs.Handling.{HandlesFront, seen_where}

-- nothing is being recorded
pub no_part : {X : Type 0} (p : Option Part) (r : Option X) (P : X → Type 0) (n : Bool) → MatchOption r (p ≡ None) P → is_some r ≡ not n → n ≡ true → p ≡ None
no_part {X} p None P n m is none = m
no_part {X} p (Some x) P n m is none = (let both = is ∙ ap not none in absurd cc)

-- what tells a path tells it of one prefix
pub tells : (id : ℕ) (q : PrefixView) (path : List ℕ) → TellsPath (telling id q path) q path
tells id q [] = inr (refl, refl, refl)
tells id q (v ∷ path) = inl (refl, refl, refl)

pub at_hand_of : (s : Side) (v : ℕ) (u : Update) → IsToldInFront s.width v s.held u → IsInFront s.width s.held (HasUpdate u)
at_hand_of s v u in_front = (0, v, sym (ap at_hand (in_front.reads (naming s.width 0 v) refl refl)))

-- a session that stays up in its incarnation
stays_by : (b : Bool) (e : ℕ) (t : RibView) (v : ℕ) → Followed t t v (cond b (Some e) None) (cond b (Some e) None)
stays_by true e t v = subst (λ (c : Bool). ComesUpAgain c t t v) (sym (eq-eqb e e refl)) refl
stays_by false e t v = refl

module _ (law : UpdatesAreActedOn) (o : Message) (rule : Rule) (own v : ℕ) (s : Side) (u : Update) (up : is_up s ≡ true) (is : rule ≡ naming s.width own v) (in_front : IsToldInFront s.width v s.held u) (x : MarkView)
    (none : x.unfinished ≡ None) where
  reads : front rule s.held ≡ Ok (UpdateMsg u)
  reads = in_front.reads rule (ap (λ (r : Rule). r.width) is) (ap (λ (r : Rule). r.peer) is)

  nothing_seen : snapshots_of x ≡ seen_where v (Some u) (snapshots_of x)
  nothing_seen = rw none refl

  pub handled_by : (z : Side) (old new : RibView) → z ≡ carried (HasUpdate u) (without_front s) (acting s) → HearsUpdate old new v u → HandlesFront o rule v s z old new (snapshots_of x) (snapshots_of x)
  handled_by z old new carries hears = record {
    hand = HasUpdate u;
    draft = acting s;
    between = new;
    hand_is = sym (ap at_hand reads);
    draft_is = sym (ap (λ (m : Result Message Fault). draft_message o m s) reads ∙ law o u s up);
    side = carries;
    hears = hears;
    follows = subst (λ (k : Side). Followed new new v (standing s) (standing k)) (sym carries) (stays_by (is_established s.session.state) s.link.epoch new v);
    writable = subst (λ (m : Result Message Fault). IfOk m (IsWritable rule)) (sym reads) (subst (λ (w : Width). UpdateFits w u) (sym (ap (λ (r : Rule). r.width) is)) in_front.sayable.0);
    sees = nothing_seen;
  }
