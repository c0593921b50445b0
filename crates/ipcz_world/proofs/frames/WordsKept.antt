-- What is said of a link's word stays if the word is as it was, and other records tell the same of its link and of who stands there.
use Rattle.std.specs.Prelude.{◌≡◌, ◌≤◌, ℕ, true, false, Some}
use Rattle.std.proofs.Common.{ap, sym, ◌∙◌}
use Rattle.ipcz_word.specs.Word.{Word}
use Rattle.ipcz_world.proofs.Vocabulary.{Side, A, B, Central, has, same_side, World, Records, HasWord, word_at, is_begun, is_linked, inner_link}
use Rattle.ipcz_world.proofs.Vocabulary.{side_router, side_node, proxy_side, key_passes, is_left}

-- in another world the word is the same, and other records tell the same of its link
pub record KeepsWord (w v : World) (g h : Records) (i : ℕ) : Type 0 where
  pub word : word_at v i ≡ word_at w i
  pub linked : is_linked (h.owner i) ≡ is_linked (g.owner i)
  pub begun : is_begun (h.bypass i) ≡ is_begun (g.bypass i)
  pub early : (h.bypass i).stage ≤ 2 → (g.bypass i).stage ≤ 2
  pub side : is_begun (g.bypass i) ≡ true → proxy_side h i ≡ proxy_side g i
  pub inner : is_begun (g.bypass i) ≡ true →
      side_node h (inner_link (h.bypass i).inner) B ≡ side_node g (inner_link (g.bypass i).inner) B
  pub left : (s : Side) → is_left h (Central i) s ≡ is_left g (Central i) s
  pub marked : (s : Side) → is_linked (g.owner i) ≡ true → is_begun (g.bypass i) ≡ false → is_left g (Central i) s ≡ false →
      key_passes v (side_router h (Central i) s) (λ r. r.marked) ≡ key_passes w (side_router g (Central i) s) (λ r. r.marked)
  pub holds : (s : Side) → is_linked (g.owner i) ≡ true → is_begun (g.bypass i) ≡ false → is_left g (Central i) s ≡ false →
      key_passes v (side_router h (Central i) s) (λ r. r.holds) ≡ key_passes w (side_router g (Central i) s) (λ r. r.holds)

pub word-kept : {w v : World} {g h : Records} {i : ℕ} → KeepsWord w v g h i → HasWord w g i → HasWord v h i
word-kept keeps law = record {
  unused = λ l. keeps.word ∙ law.unused (sym keeps.linked ∙ l);
  begun_stable = λ s b. ap (λ (x : Word). has x.stable s) keeps.word ∙ law.begun_stable s (sym keeps.begun ∙ b);
  begun_holder = λ s b. let n = sym keeps.begun ∙ b in
      ap (λ (x : Word). has x.holder s) keeps.word ∙ law.begun_holder s n ∙ ap (same_side s) (sym (keeps.side n));
  stable = λ s l b n. let a = sym keeps.linked ∙ l in let c = sym keeps.begun ∙ b in let d = sym (keeps.left s) ∙ n in
      ap (λ (x : Word). has x.stable s) keeps.word ∙ law.stable s a c d ∙ sym (keeps.marked s a c d);
  holder = λ s l b n. let a = sym keeps.linked ∙ l in let c = sym keeps.begun ∙ b in let d = sym (keeps.left s) ∙ n in
      ap (λ (x : Word). has x.holder s) keeps.word ∙ law.holder s a c d ∙ sym (keeps.holds s a c d);
  held_stable = λ s t e. ap (λ (x : Word). has x.stable t) keeps.word ∙
      law.held_stable s t (ap (λ (x : Word). has x.holder s) (sym keeps.word) ∙ e);
  one_holder = λ s t a b. law.one_holder s t (ap (λ (x : Word). has x.holder s) (sym keeps.word) ∙ a)
      (ap (λ (x : Word). has x.holder t) (sym keeps.word) ∙ b);
  left_held = λ s e. rw (keeps.left A, keeps.left B, keeps.word) (law.left_held s (sym (keeps.left s) ∙ e));
  begun_source = λ b l. let n = sym keeps.begun ∙ b in
      ap (λ (x : Word). x.source) keeps.word ∙ law.begun_source n (keeps.early l) ∙ ap Some (sym (keeps.inner n));
}
