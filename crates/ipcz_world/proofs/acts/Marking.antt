-- A mark keeps what is said of shapes and words.
use Rattle.ipcz_world.proofs.Vocabulary.{Router, primary_word, output_of, router_in, commit, World, node_at, router_at, set_node, set_word, after_act}
use Rattle.ipcz_world.proofs.Vocabulary.{answer_of, leaves_by, apply, on_router, send, commit_router, keep_or_drop, after_router_act, touch}
use Rattle.ipcz_world.proofs.Vocabulary.{touch_word, link_answer, word_answer}
use Rattle.std.specs.Prelude.{◌≡◌, ℕ, Some, refl}
use Rattle.ipcz_router.specs.declared.act.RouterAct.TheVariants as acts
use Rattle.ipcz_node.specs.declared.act.Act.TheVariants.{Router as OfRouter}
use Rattle.ipcz_world.specs.WordAnswers.{word_after}
use Rattle.ipcz_world.proofs.facts.Updates.{mark_act}

-- a node's mark in the world is the update
pub acted-mark : (w : World) (n s i : ℕ) (r : Router) → router_at w (record { node = n; serial = s }) ≡ Some r → primary_word r ≡ Some i →
    after_act w n (OfRouter s acts.Mark) ≡ mark_act w (record { node = n; serial = s }) r i
unfolding after_act after_router_act touch touch_word word_after answer_of link_answer word_answer commit on_router commit_router
    keep_or_drop leaves_by apply output_of send router_at set_word set_node
acted-mark w n s i r here word = let inside : router_in (node_at w n) s ≡ Some r = here in rw (here, inside, word) refl
