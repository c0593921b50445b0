-- A node's acts on words, its claims and its rests in the world are the updates.
use Rattle.ipcz_world.proofs.Vocabulary.{Router, primary_word, output_of, router_in, commit, World, node_at, word_at, router_at, set_node, set_word}
use Rattle.ipcz_world.proofs.Vocabulary.{set_claimed, after_act, answer_of, leaves_by, Plan, Locks, Waits, Refuses, plan_of, apply, on_router, send}
use Rattle.ipcz_world.proofs.Vocabulary.{commit_router, keep_or_drop, after_router_act, touch, touch_word, link_answer, word_answer}
use Rattle.ipcz_world.proofs.Vocabulary.{has_unclaimed_word}
use Rattle.std.specs.Prelude.{◌≡◌, ℕ, true, false, Some, refl}
use Rattle.ipcz_word.specs.Word.{word_by_plan}
use Rattle.ipcz_router.specs.declared.act.RouterAct.TheVariants as acts
use Rattle.ipcz_node.specs.declared.act.Act.TheVariants.{Router as OfRouter}
use Rattle.ipcz_world.specs.WordAnswers.{word_after, try_answer}
use Rattle.ipcz_world.proofs.facts.Updates.{lock_act, unlock_act, claim_act, rest_act}
use Rattle.ipcz_world.specs.HeldEnds.{dry_act}

pub acted-rest : (w : World) (n s : ℕ) (r : Router) → router_at w (record { node = n; serial = s }) ≡ Some r →
    after_act w n (OfRouter s acts.Rest) ≡ rest_act w (record { node = n; serial = s }) r
unfolding after_act after_router_act touch commit on_router commit_router keep_or_drop leaves_by apply output_of send router_at
acted-rest w n s r here = let inside : router_in (node_at w n) s ≡ Some r = here in rw (here, inside) refl

pub acted-unlock : (w : World) (n s i : ℕ) (r : Router) → router_at w (record { node = n; serial = s }) ≡ Some r → primary_word r ≡ Some i →
    after_act w n (OfRouter s acts.Unlock) ≡ unlock_act w (record { node = n; serial = s }) r i
unfolding after_act after_router_act touch touch_word word_after answer_of link_answer word_answer commit on_router commit_router
    keep_or_drop leaves_by apply output_of send router_at set_word set_node
acted-unlock w n s i r here word = let inside : router_in (node_at w n) s ≡ Some r = here in rw (here, inside, word) refl

pub acted-lock : (w : World) (n s i : ℕ) (r : Router) (plan : Plan) → router_at w (record { node = n; serial = s }) ≡ Some r →
    primary_word r ≡ Some i → plan_of (word_at w i) r.end.side ≡ plan →
    after_act w n (OfRouter s acts.Lock) ≡ lock_act w (record { node = n; serial = s }) r i plan
unfolding after_act after_router_act touch touch_word word_after answer_of link_answer word_answer try_answer word_by_plan commit on_router
    commit_router keep_or_drop leaves_by apply output_of send router_at set_word set_node
acted-lock w n s i r Locks here word is = let inside : router_in (node_at w n) s ≡ Some r = here in rw (here, inside, word, is) refl
acted-lock w n s i r Waits here word is = let inside : router_in (node_at w n) s ≡ Some r = here in rw (here, inside, word, is) refl
acted-lock w n s i r Refuses here word is = let inside : router_in (node_at w n) s ≡ Some r = here in rw (here, inside, word, is) refl

pub acted-claim : (w : World) (n s : ℕ) (r : Router) → router_at w (record { node = n; serial = s }) ≡ Some r →
    has_unclaimed_word w ≡ true →
    after_act w n (OfRouter s acts.Claim) ≡ claim_act w (record { node = n; serial = s }) r
unfolding after_act after_router_act touch answer_of commit on_router commit_router keep_or_drop leaves_by apply output_of send router_at set_claimed
    set_node
acted-claim w n s r here some = let inside : router_in (node_at w n) s ≡ Some r = here in rw (here, inside, some) refl

pub acted-dry : (w : World) (n s : ℕ) (r : Router) → router_at w (record { node = n; serial = s }) ≡ Some r → has_unclaimed_word w ≡ false →
    after_act w n (OfRouter s acts.Claim) ≡ dry_act w (record { node = n; serial = s }) r
unfolding after_act after_router_act touch answer_of commit on_router commit_router keep_or_drop leaves_by apply output_of send router_at set_claimed
    set_node
acted-dry w n s r here none = let inside : router_in (node_at w n) s ≡ Some r = here in rw (here, inside, none) refl
