-- What a quiet node does of its own: nothing.
use Rattle.std.specs.Prelude.{◌≡◌, true, List, [], ◌∷◌, Option, None, Some}
use Rattle.std.proofs.Common.{refl, arith}
use Rattle.ipcz_base.specs.declared.end.End.{End}
use Rattle.ipcz_node.specs.declared.act.Act.TheVariants as acts
use Rattle.ipcz_world.proofs.Vocabulary.{is_quiet, close_turn, router_turn, flagged_router}
use Rattle.ipcz_node.specs.Node.{Node, Found}

pub idle_own : (n : Node) → is_quiet n ≡ true → close_turn n.pending (router_turn (flagged_router n)) ≡ acts.Idle
unfolding is_quiet close_turn router_turn
idle_own n h = go n.pending refl (flagged_router n) refl
  where
    go : (es : List End) → n.pending ≡ es → (o : Option Found) → flagged_router n ≡ o → close_turn es (router_turn o) ≡ acts.Idle
    go [] e None f = refl
    go [] e (Some r) f = absurd (grind (arith, h, f))
    go (end ∷ ends) e o f = absurd (grind (arith, h, e))
