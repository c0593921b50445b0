-- A run from a lawful world is a run of the machine over the books alone.
use Rattle.std.specs.Prelude.{List, [], ◌∷◌}
use Rattle.ipcz_world.proofs.Vocabulary.{Reply, World, Books, Step, advance, Routes, routes_after, Lawful, StepKeepsLawful}
use Rattle.ipcz_world.specs.Plain.{PlainRun}
use Rattle.ipcz_world.specs.Lawful.{RunAny}
use Rattle.ipcz_world.specs.WorldLaws.{RepliesPlainly}

-- of the same steps, with the same replies
pub plain_run : StepKeepsLawful → RepliesPlainly → (w v : World) (b c : Books) (g h : Routes) (steps : List Step) (replies : List Reply) →
    Lawful w b g → RunAny w b g steps replies v c h → PlainRun b steps replies c
plain_run keep plain w v b c g h [] [] law run = run.1
plain_run keep plain w v b c g h [] (reply ∷ replies) law run = run
plain_run keep plain w v b c g h (step ∷ steps) [] law run = run
plain_run keep plain w v b c g h (step ∷ steps) (reply ∷ replies) law (u, s, rest) = (
  advance w b step reply,
  plain w u b g step reply law s,
  plain_run keep plain u v (advance w b step reply) c (routes_after w g step reply) h steps replies (keep w u b g step reply law s) rest,
)
