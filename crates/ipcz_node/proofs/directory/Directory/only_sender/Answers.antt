use Rattle.std.proofs.Common.{◌∙◌, false, subst, sym, ap}
use Rattle.std.specs.Option.{option_map_or}
use Rattle.ipcz_router.specs.Router.{Router}
use Rattle.ipcz_node.specs.Lone.{IsOnlySender}
use Rattle.ipcz_node.proofs.directory.Directory.only_sender.Goals as goal

pub returns-in-Some-last_way-clause-some : goal.returns-in-Some-last_way-clause-some
returns-in-Some-last_way-clause-some c =
    let held = c.self.invariant.0.0 in
    let r = c.in-Some-router.router.now.router in
    let here = sym c.in-Some-router.ensures in
    subst (λ v. IsOnlySender v.filed.routers c.in-Some.serial c.in-Some-last_way.link) c.self.view_is (record {
      router = r;
      here = here;
      flagged = ap (λ o. option_map_or (λ (x : Router). x.flagged) o false) (sym here) ∙ sym (held.by_flag c.in-Some.serial) ∙ c.in-Some.ensures.member;
      others = λ s x at up. c.in-Some.ensures.only s (held.by_flag s ∙ ap (λ o. option_map_or (λ (x : Router). x.flagged) o false) at ∙ up);
      sends = sym c.in-Some-last_way.ensures;
    })
