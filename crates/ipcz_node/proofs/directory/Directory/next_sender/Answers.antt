use Rattle.std.proofs.Common.{◌∙◌, false, subst, sym, ap}
use Rattle.std.specs.Option.{option_map_or}
use Rattle.ipcz_router.specs.Router.{Router}
use Rattle.ipcz_node.specs.Lone.{IsFirstSender}
use Rattle.ipcz_node.proofs.directory.Directory.next_sender.Goals as goal

pub returns-in-Some-next_way-clause-some : goal.returns-in-Some-next_way-clause-some
returns-in-Some-next_way-clause-some c =
    let held = c.self.invariant.0.0 in
    let r = c.in-Some-router.router.now.router in
    let here = sym c.in-Some-router.ensures in
    subst (λ v. IsFirstSender v.filed.routers c.in-Some.serial c.in-Some-next_way.link) c.self.view_is (record {
      router = r;
      here = here;
      flagged = ap (λ o. option_map_or (λ (x : Router). x.flagged) o false) (sym here) ∙ sym (held.by_flag c.in-Some.serial) ∙ c.in-Some.ensures.0;
      others = λ s x at up. c.in-Some.ensures.1 s (held.by_flag s ∙ ap (λ o. option_map_or (λ (x : Router). x.flagged) o false) at ∙ up);
      sends = sym c.in-Some-next_way.ensures;
    })
