-- what was put, before what is left, is what all are printed as; and what the buffer had stands in front
use Rattle.std.proofs.Common.{◌≡◌, ◌++◌, drop, length, take}
use Rattle.router_core.specs.Views.{plain_of}
use Rattle.schedule_text.specs.Routes.{router_text}
use Rattle.schedule_text.proofs.routes.put_each_path.Given as goal

abbrev pub invariant-loop-origin : goal.invariant-loop-origin
invariant-loop-origin l = record {
  put :
      l.out.items ++ router_text (plain_of l.router).router.kept l.number (drop l.origin-index l.origins)
      ≡ l.fn.out.items ++ router_text (plain_of l.router).router.kept l.number l.origins;
  kept : take (length l.fn.out.items) l.out.items ≡ l.fn.out.items;
}
