-- Who stands at a link's side hasn't left it.
use Rattle.std.specs.Prelude.{◌≡◌, ◌⊎◌, ◌&&◌, ◌||◌, ℕ, Bool, true, false, Some, refl}
use Rattle.std.proofs.Common.{sym, ◌∙◌, ap, inl, inr}
use Rattle.std.proofs.lemmas.Bool.{and_parts}
use Rattle.ipcz_world.proofs.Vocabulary.{Side, A, B, LinkId, Central, Router, World, Key, router_at, word_at, has, Books, Records, side_router}
use Rattle.ipcz_world.proofs.Vocabulary.{is_linked, is_begun, is_left, RetiredEnds, is_retired, end_at}
use Rattle.ipcz_world.specs.Standing.{key_passes, passes}
use Rattle.ipcz_world.specs.Structure.{Stands, Words}

-- a router that stands at a side hasn't left it
pub not_left : (w : World) (g : Records) (link : LinkId) (s : Side) (k : Key) (r : Router) → Stands w g → side_router g link s ≡ Some k →
    router_at w k ≡ Some r → is_left g link s ≡ false
unfolding key_passes passes
not_left w g link s k r law at here = go (is_left g link s) refl
  where
    go : (c : Bool) → is_left g link s ≡ c → c ≡ false
    go false e = refl
    go true e = let t : key_passes w (Some k) (λ x. true) ≡ true = rw (here) refl in
        sym t ∙ ap (λ o. key_passes w o (λ x. true)) (sym at) ∙ law.left_gone link s e

-- who holds the lock of a link where it stands has nobody left across
pub held_stays : (w : World) (g : Records) (i : ℕ) (t s : Side) → Words w g → has (word_at w i).holder t ≡ true →
    is_left g (Central i) t ≡ false → is_left g (Central i) s ≡ false
held_stays w g i t s law held still = go (is_left g (Central i) s) refl
  where
    never : (u : Side) → is_left g (Central i) u ≡ true → has (word_at w i).holder u ≡ true → true ≡ false
    never u l h = let e : u ≡ t = (law.each i).one_holder u t h held in sym l ∙ ap (is_left g (Central i)) e ∙ still

    parts : (u : Side) → (is_left g (Central i) u && has (word_at w i).holder u) ≡ true → true ≡ false
    parts u h = let p = and_parts (is_left g (Central i) u) (has (word_at w i).holder u) h in never u p.0 p.1

    either : (a c : Bool) → (a || c) ≡ true → (a ≡ true) ⊎ (c ≡ true)
    either true c h = inl refl
    either false c h = inr h

    go : (c : Bool) → is_left g (Central i) s ≡ c → c ≡ false
    go false e = refl
    go true e = elim (either (is_left g (Central i) A && has (word_at w i).holder A) (is_left g (Central i) B && has (word_at w i).holder B)
        ((law.each i).left_held s e)) [ inl h ↦ parts A h | inr h ↦ parts B h ]

-- and no end of its pair has retired
pub held_unretired : (w : World) (b : Books) (g : Records) (i : ℕ) (t : Side) → Words w g → RetiredEnds b g →
    has (word_at w i).holder t ≡ true → is_left g (Central i) t ≡ false → is_linked (g.owner i) ≡ true → is_begun (g.bypass i) ≡ false →
    (s : Side) → is_retired b (end_at (g.central i).pair s) ≡ false
held_unretired w b g i t law ends held still linked live s = go (is_retired b (end_at (g.central i).pair s)) refl
  where
    go : (c : Bool) → is_retired b (end_at (g.central i).pair s) ≡ c → c ≡ false
    go false e = refl
    go true e = sym (ends.left (end_at (g.central i).pair s) i e linked live refl) ∙ held_stays w g i t s law held still
