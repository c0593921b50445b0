-- An open, in one or in two halves, keeps the invariant.
use Rattle.std.specs.Prelude.{◌≡◌, ◌<◌, ◌+◌, ℕ, Bool, true, false, cond, Option, Some, None, refl}
use Rattle.std.proofs.Common.{arith, ap, subst, sym}
use Rattle.std.proofs.lemmas.Bool.Decides.{nat_tests}
use Rattle.ipcz_world.proofs.Vocabulary.{put_place, empty_word, open_word, Node, bare_node, Refusal, World, node_at, set_node, set_word, set_claimed}
use Rattle.ipcz_world.proofs.Vocabulary.{unless, Books, Records, Inv, open_node, serials_refusal, claim_for_open, open_on, refuse, has_unclaimed_word}
use Rattle.ipcz_base.specs.declared.refusal.Refusal.TheVariants as refusals
use Rattle.ipcz_world.proofs.frames.Frames.{frames}
use Rattle.ipcz_world.proofs.facts.RecordsAfter.{opening_records, open_records}
use Rattle.ipcz_world.proofs.acts.OpenedNodes.{inv-claim_for_open}
use Rattle.ipcz_world.proofs.acts.OpeningPair.{inv-opened}
use Rattle.ipcz_world.proofs.acts.Updating.{put-twice}
use Rattle.ipcz_world.specs.Steps.{opened_reply}

claimed_node : (w : World) (n : ℕ) → node_at (claim_for_open w n) n ≡ record (node_at w n) { opening = Some w.claimed }
claimed_node w n = grind (arith, frames, nat_tests)

-- both halves of an open are an open
halves : (w : World) (n i : ℕ) →
    set_word (set_node (claim_for_open w n) n (open_node (record (node_at w n) { opening = Some w.claimed }) i)) i open_word ≡ set_word
    (set_node (set_claimed w (w.claimed + 1)) n (open_node (node_at w n) i)) i open_word
unfolding set_word set_node set_claimed
halves w n i = ap (λ ns. record {
  nodes = ns;
  words = put_place empty_word w.words i open_word;
  claimed = w.claimed + 1;
  size = w.size;
  count = w.count;
  mail = w.mail;
})
    (put-twice (bare_node 0 0) w.nodes n (record (node_at w n) { opening = Some w.claimed }) (open_node (node_at w n) i))

-- a whole open, on the next word
pub inv-open : (w : World) (b : Books) (g : Records) (n : ℕ) → Inv w b g → n < w.count → w.claimed < w.size → (node_at w n).opening ≡ None →
    Inv (set_word (set_node (set_claimed w (w.claimed + 1)) n (open_node (node_at w n) w.claimed)) w.claimed open_word) b
    (open_records (opening_records g n w.claimed) n w.claimed (node_at w n).next_router)
inv-open w b g n law l room none =
    let first = inv-claim_for_open w b g n law room none in
    let u : World = claim_for_open w n in
    let in_it : n < u.count = let c : u.count ≡ w.count = grind (arith, frames) in subst (λ c. n < c) (sym c) l in
    let done = inv-opened u b (opening_records g n w.claimed) n w.claimed first in_it (ap (λ (y : Node). y.opening) (claimed_node w n)) in
    subst (λ v. Inv v b (open_records (opening_records g n w.claimed) n w.claimed (node_at w n).next_router)) (halves w n w.claimed)
    (subst (λ (y : Node). Inv (set_word (set_node u n (open_node y w.claimed)) w.claimed open_word) b
    (open_records (opening_records g n w.claimed) n w.claimed y.next_router)) (claimed_node w n) done)

-- what an open does, if it isn't refused, is one of the two
pub inv-open_on : (w : World) (b : Books) (g : Records) (n : ℕ) (o : Option ℕ) → (node_at w n).opening ≡ o → Inv w b g → n < w.count →
    (v : World) → v ≡ (open_on w n o).world → (h : Records) × Inv v b h
unfolding open_on unless
inv-open_on w b g n (Some i) e law l v is = go (serials_refusal (node_at w n)) is
  where
    go : (r : Option Refusal) → v ≡ (unless w r (record {
      reply = opened_reply i;
      world =
          set_word (set_node w n (open_node (node_at w n) i)) i open_word;
    })).world → (h : Records) × Inv v b h
    go None f = (
      open_records g n i (node_at w n).next_router,
      subst (λ u. Inv u b (open_records g n i (node_at w n).next_router)) (sym f)
          (inv-opened w b g n i law l e),
    )
    go (Some why) f = (g, subst (λ u. Inv u b g) (sym f) law)
inv-open_on w b g n None e law l v is = go (has_unclaimed_word w) refl (serials_refusal (node_at w n)) is
  where
    go : (c : Bool) → has_unclaimed_word w ≡ c → (r : Option Refusal) →
        v ≡ (cond c (unless w r (record {
          reply = opened_reply w.claimed;
          world = set_word
              (set_node (set_claimed w (w.claimed + 1)) n (open_node (node_at w n) w.claimed)) w.claimed open_word;
        }))
        (refuse w refusals.NoWord)).world → (h : Records) × Inv v b h
    go true c None f = let h = open_records (opening_records g n w.claimed) n w.claimed (node_at w n).next_router in
        (h, subst (λ u. Inv u b h) (sym f) (inv-open w b g n law l (grind (arith, c, nat_tests)) e))
    go true c (Some why) f = (g, subst (λ u. Inv u b g) (sym f) law)
    go false c r f = (g, subst (λ u. Inv u b g) (sym f) law)
