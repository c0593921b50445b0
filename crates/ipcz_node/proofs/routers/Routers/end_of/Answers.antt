use Rattle.std.proofs.Common.{◌≡◌, ap, sym, subst, ◌∙◌, Some, None, is_some, true, false, refl, inl, inr}
use Rattle.std.specs.Prelude.{option_map}
use Rattle.std.specs.Ordering.{nat_cmp}
use Rattle.std.specs.FinMap.{get, find}
use Rattle.std.proofs.lemmas.Bool.{cases_lt}
use Rattle.ipcz_router.specs.Router.{Router}
use Rattle.ipcz_node.specs.Serials.{key_at}
use Rattle.ipcz_node.proofs.Serials.{get_none, read_value, find_at, find_above}
use Rattle.ipcz_node.proofs.routers.Routers.end_of.Goals as goal

pub unreachable-requires : goal.unreachable-requires
unreachable-requires c =
    let none : get c.args.self.now.routers c.args.serial ≡ None =
    sym (ap (λ v. get v.routers c.args.serial) c.self.view_is)
    ∙ get_none (λ x. x.router) c.args.serial c.self.inside.entries.items
    (subst (λ es. find nat_cmp c.args.serial es ≡ None) c.deref.ensures.value c.in_default.ensures.found) in
    let no : is_some (get c.args.self.now.routers c.args.serial) ≡ false = rw none refl in
    let yes : is_some (get c.args.self.now.routers c.args.serial) ≡ true = c.requires in
    cc

pub returns-clause-end : goal.returns-clause-end
returns-clause-end c =
    let at_i : key_at c.self.inside.entries.items c.in-Some.place ≡ Some c.args.serial =
    subst (λ es. key_at es c.in-Some.place ≡ Some c.args.serial) c.deref.ensures.value c.in-Some.ensures.found in
    sym (ap (option_map (λ (r : Router). r.end))
    (read_value (λ x. x.router) 0 c.self.inside.next c.args.serial c.self.inside.entries.items c.in-Some.place c.index.result.now c.self.invariant
    at_i c.index.ensures ∙ ap (λ v. get v.routers c.args.serial) c.self.view_is))
    ∙ ap (λ e. Some e) (sym c.end.ensures)

pub returns-clause-below : goal.returns-clause-below
returns-clause-below c =
    let es = c.self.inside.entries.items in
    let n = c.self.inside.next in
    let at_i : key_at es c.in-Some.place ≡ Some c.args.serial =
    subst (λ es. key_at es c.in-Some.place ≡ Some c.args.serial) c.deref.ensures.value c.in-Some.ensures.found in
    elim (cases_lt c.args.serial n) [
      | inl t ↦ rw (ap (λ v. v.next) (sym c.self.view_is)) t
      | inr t ↦
          let no : None ≡ Some _ = sym (find_above (λ x. x.router) 0 n c.args.serial es c.self.invariant t) ∙
          find_at (λ x. x.router) 0 n c.args.serial es c.in-Some.place c.index.result.now c.self.invariant at_i in
          absurd (cc)
    ]
