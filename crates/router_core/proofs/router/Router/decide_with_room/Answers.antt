use Rattle.std.proofs.Common.{◌≡◌, ◌+◌, ◌≤◌, Option, arith, subst}
use Rattle.std.specs.Prelude.{Ok, Err, MatchOption}
use Rattle.std.proofs.lemmas.Bool.Decides.{nat_tests}
use Rattle.prefix_lanes.specs.Bits.{PrefixView}
use Rattle.rib_tables.specs.Least.{HoldsOfAll, IsLeastWithout}
use Rattle.rib_tables.specs.Owners.{IsSettled, Decides}
use Rattle.router_model.specs.declared.refusal.RouterError.TheVariants as error
use Rattle.router_model.specs.declared.refusal.Stepped.TheVariants as stepped
use Rattle.router_model.specs.Calls.{Decide}
use Rattle.run_model.specs.declared.stamps.TheConstants.{GREATEST_STAMP}
use Rattle.router_core.specs.Views.{view_of, RouterView, Answers}
use Rattle.router_core.specs.Calling.{no_step}
use Rattle.router_core.proofs.Originations.{with_tables}
use Rattle.router_core.proofs.Deciding.{decided_all, no_step_to_decide, no_memory_to_decide, decides, sound_deciding}
use Rattle.router_core.proofs.router.Router.decide_with_room.Goals as goal

pub returns-in_default-clause-answers : goal.returns-in_default-clause-answers
returns-in_default-clause-answers c =
    let r = view_of c.self.inside in
    let laws = c.the_best_is_the_best_path.ensures in
    subst (λ (x : RouterView). Answers (Ok stepped.Nothing) x Decide x) c.self.view_is (λ g e ranks.
    decided_all laws.over laws.one g r (record { sound = c.self.invariant; net = e; ranks = ranks; linked = laws.linked }) c.in_default.ensures)

pub returns-in-Err-clause-answers : goal.returns-in-Err-clause-answers
returns-in-Err-clause-answers c =
    let r = view_of c.self.inside in
    let laws = c.the_best_is_the_best_path.ensures in
    rw c.in-Err.ensures.refused
    (subst (λ (x : RouterView). Answers (Err (no_step r.stamp)) x Decide x) c.self.view_is (λ g e ranks.
    no_step_to_decide laws.over laws.one g r (record { sound = c.self.invariant; net = e; ranks = ranks; linked = laws.linked }) c.in-Some.field-0 c.in-Some.ensures))

pub invariant_of-self : goal.invariant_of-self
invariant_of-self c =
    let r = view_of c.self.inside in
    let t = c.decide.new.self in
    let few : r.stamp + 1 ≤ GREATEST_STAMP = grind (arith, nat_tests, c.in-Ok.ensures.next.1) in
    let least = subst (λ (o : Option PrefixView). MatchOption o (HoldsOfAll r.tables.net.origins (IsSettled r.tables)) (IsLeastWithout r.tables.net.origins (IsSettled r.tables))) c.in-Ok-Some.field-0-is c.in-Ok-Some.ensures.least in
    let does = subst (λ (o : Option PrefixView). MatchOption o (t ≡ r.tables) (Decides r.tables t)) c.in-Ok-Some.field-0-is c.in-Ok-Some.ensures.decides in
    rw c.in-Ok.ensures.next.0 (sound_deciding r c.self.invariant t c.in-Ok-Some.field-0-0 does least.is_named (r.stamp + 1) few)

pub returns-in-Ok-Some-clause-answers : goal.returns-in-Ok-Some-clause-answers
returns-in-Ok-Some-clause-answers c =
    let r = view_of c.self.inside in
    let laws = c.the_best_is_the_best_path.ensures in
    let t = c.decide.new.self in
    let least = subst (λ (o : Option PrefixView). MatchOption o (HoldsOfAll r.tables.net.origins (IsSettled r.tables)) (IsLeastWithout r.tables.net.origins (IsSettled r.tables))) c.in-Ok-Some.field-0-is c.in-Ok-Some.ensures.least in
    let does = subst (λ (o : Option PrefixView). MatchOption o (t ≡ r.tables) (Decides r.tables t)) c.in-Ok-Some.field-0-is c.in-Ok-Some.ensures.decides in
    rw c.in-Ok.ensures.next.0
    (subst (λ (x : RouterView). Answers (Ok stepped.Did) x Decide (with_tables r t (r.stamp + 1))) c.self.view_is (λ g e ranks.
    decides laws.over laws.one g r (record { sound = c.self.invariant; net = e; ranks = ranks; linked = laws.linked }) c.in-Ok-Some.field-0-0 least t does c.in-Ok.ensures.next.1))

pub returns-in-Ok-None-clause-answers : goal.returns-in-Ok-None-clause-answers
returns-in-Ok-None-clause-answers c =
    let r = view_of c.self.inside in
    let laws = c.the_best_is_the_best_path.ensures in
    let t = c.decide.new.self in
    let least = subst (λ (o : Option PrefixView). MatchOption o (HoldsOfAll r.tables.net.origins (IsSettled r.tables)) (IsLeastWithout r.tables.net.origins (IsSettled r.tables))) c.in-Ok-None.field-0-is c.in-Ok-None.ensures.least in
    let does = subst (λ (o : Option PrefixView). MatchOption o (t ≡ r.tables) (Decides r.tables t)) c.in-Ok-None.field-0-is c.in-Ok-None.ensures.decides in
    rw does
    (subst (λ (x : RouterView). Answers (Ok stepped.Nothing) x Decide r) c.self.view_is (λ g e ranks.
    decided_all laws.over laws.one g r (record { sound = c.self.invariant; net = e; ranks = ranks; linked = laws.linked }) least))

pub returns-in-Err-decide-clause-answers : goal.returns-in-Err-decide-clause-answers
returns-in-Err-decide-clause-answers c =
    let r = view_of c.self.inside in
    let laws = c.the_best_is_the_best_path.ensures in
    let pending = c.in-Err-decide.ensures.pending in
    rw c.in-Err-decide.ensures.err
    (subst (λ (x : RouterView). Answers (Err error.Memory) x Decide r) c.self.view_is (λ g e ranks.
    no_memory_to_decide laws.over laws.one g r (record { sound = c.self.invariant; net = e; ranks = ranks; linked = laws.linked }) pending.0 pending.1 c.in-Ok.ensures.next.1))
