-- Turns alone, however many: an end that was let go isn't held after them, and one that is held is, if none of them lets it go.
use Rattle.std.specs.Prelude.{[], ◌∷◌}
use Rattle.std.proofs.Common.{arith, sym, subst, inl, inr}
use Rattle.ipcz_world.proofs.Vocabulary.{World, after_act, Turn, after_turn, advance, routes_after, routes_after_turn, turn_event, Lawful}
use Rattle.ipcz_world.proofs.Vocabulary.{StepKeepsLawful}
use Rattle.ipcz_world.specs.declared.step.Reply.TheVariants as replies
use Rattle.ipcz_world.specs.HeldEnds.{IsEndHeld, TurnsHeldWereHeld, HeldUntilLetGo, TurnsKeepHeld}
use Rattle.ipcz_world.proofs.facts.Claimed.{claimed-after_act}
use Rattle.ipcz_world.proofs.lawful.LettingGo.{held_were_held}
use Rattle.ipcz_world.proofs.lawful.Turning.{stepped}

pub turns_held_were_held : StepKeepsLawful → TurnsHeldWereHeld
unfolding advance routes_after
turns_held_were_held keeps w v b d g h [] i s law run held = inl (subst (λ u. IsEndHeld u i s) run.0 held)
turns_held_were_held keeps w v b d g h (t ∷ ts) i s law run held =
    let u : World = after_act w t.0 t.1 in
    let step = stepped w t.0 t.1 run.0 in
    let next : Lawful u (after_turn w b t.0 (turn_event w t.0 t.1)) (routes_after_turn w g t.0 (turn_event w t.0 t.1)) =
    keeps w u b g (Turn t.0) (replies.Turned (turn_event w t.0 t.1)) law step in
    elim (turns_held_were_held keeps u v (after_turn w b t.0 (turn_event w t.0 t.1)) d (routes_after_turn w g t.0 (turn_event w t.0 t.1)) h ts i s
    next run.1 held) [
      | inl e ↦ held_were_held w u b g (Turn t.0) (replies.Turned (turn_event w t.0 t.1)) i s law step e
      | inr l ↦ inr (omega (arith, l, claimed-after_act w t.0 t.1))
    ]

pub turns_keep_held : StepKeepsLawful → HeldUntilLetGo → TurnsKeepHeld
unfolding advance routes_after
turns_keep_held keeps until w v b d g h [] i s law run held = inl (subst (λ u. IsEndHeld u i s) (sym run.0) held)
turns_keep_held keeps until w v b d g h (t ∷ ts) i s law run held = elim (until w b g t.0 t.1 i s law run.0.node run.0.may held) [
  | inl still ↦ elim (turns_keep_held keeps until u v (after_turn w b t.0 (turn_event w t.0 t.1)) d (routes_after_turn w g t.0 (turn_event w t.0 t.1)) h ts i s next run.1 still) [
    | inl e ↦ inl e
    | inr l ↦ inr (inr l)
  ]
  | inr gone ↦ inr (inl gone)
]
  where
    u : World
    u = after_act w t.0 t.1

    next : Lawful u (after_turn w b t.0 (turn_event w t.0 t.1)) (routes_after_turn w g t.0 (turn_event w t.0 t.1))
    next = keeps w u b g (Turn t.0) (replies.Turned (turn_event w t.0 t.1)) law (stepped w t.0 t.1 run.0)
