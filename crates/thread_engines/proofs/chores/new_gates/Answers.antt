use Rattle.std.proofs.Common.{◌≡◌, ◌∙◌, List, [], ◌∷◌, ◌++◌, length, map, ap, sym, subst, arith}
use Rattle.std.specs.List.{AllByRecursion}
use Rattle.std.proofs.lemmas.List.{length-map, map-append}
use Rattle.worker_loop.specs.declared.chore.Chore.{Chore}
use Rattle.thread_engines.specs.Gates.{Asked, asked_of, given_by, scripts_for}
use Rattle.thread_engines.proofs.ChoreLemmas.{all_both}
use Rattle.thread_engines.proofs.GateLemmas.{all_asked, asked_len, asked_on, scripts_len}
use Rattle.thread_engines.proofs.chores.new_gates.Goals as goal

pub returns-clause-many : goal.returns-clause-many
returns-clause-many c =
    let l = c.loop-router in
    let net = c.args.network.now in
    sym (length-map l.gates.items asked_of)
    ∙ ap length (all_asked c.args.until net c.args.spacing l.left c.routers-router-items.result.now l.router-index _ _ c.loop-router-test.false l.invariant.asked)
    ∙ asked_len c.args.until (scripts_for net c.args.spacing c.args.snapshots net.routers) ∙ scripts_len net c.args.spacing c.args.snapshots net.routers

pub loop-router-preserved : goal.loop-router-preserved
loop-router-preserved c =
    let l = c.loop-router in
    let gate = c.new.result in
    record {
      asked = asked_on c.args.until c.args.network.now c.args.spacing l.left c.routers-router-items.result.now l.router-index c.router-item.result (map asked_of l.gates.items)
          (map asked_of c.push.new.self.items) _ (omega (arith, c.loop-router-test.true)) c.router-item.is
          (ap (map asked_of) c.in_ok-push.ensures.items ∙ map-append asked_of l.gates.items (gate ∷ [])
          ∙ ap (λ (a : Asked). map asked_of l.gates.items ++ a ∷ [])
          (c.new.ensures.asked ∙ ap (λ (cs : List Chore). record { script = record { opening = cs; spacing = c.args.spacing; snapshots = l.left }; until = c.args.until }) c.in_ok-chores.ensures))
          l.invariant.asked;
      nothing = subst (AllByRecursion (λ g. given_by g ≡ [])) (sym c.in_ok-push.ensures.items) (all_both (λ g. given_by g ≡ []) l.gates.items (gate ∷ []) l.invariant.nothing (c.new.ensures.nothing, tt));
    }
