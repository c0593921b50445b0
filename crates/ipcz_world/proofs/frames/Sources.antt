-- An AcceptBypass under way comes from the node that the old link's word names.
use Rattle.ipcz_world.proofs.Vocabulary.{Side, B, World, word_at, Books, Records, is_linked, is_begun, side_node, inner_of, Inv, Lost, Unclaimed}
use Rattle.ipcz_world.proofs.Vocabulary.{source_for}
use Rattle.std.specs.Prelude.{◌≡◌, ℕ, true, false, nat_eq, nat_lt, Some, refl}
use Rattle.std.proofs.Common.{◌∙◌, arith, ap, sym}
use Rattle.std.proofs.lemmas.Bool.Decides.{nat_tests}
use Rattle.ipcz_base.specs.declared.message.Message.TheVariants as messages
use Rattle.ipcz_router.specs.Bypass.{is_source}
use Rattle.ipcz_world.specs.Records.{Owner, Spare, Opening, Fresh, Linked, is_unclaimed}
use Rattle.ipcz_world.proofs.facts.Tests.{nat_eq-itself}
use Rattle.ipcz_world.proofs.frames.Telling.{IsAccept}

used_by : (o : Owner) → is_linked o ≡ true → is_unclaimed o ≡ false
unfolding is_linked is_unclaimed
used_by Unclaimed e = cc
used_by (Spare k) e = refl
used_by (Opening n) e = refl
used_by (Fresh o) e = refl
used_by Lost e = refl
used_by Linked e = refl

-- the old link's word names the sender
pub accept_source : (w : World) (b : Books) (g : Records) (n from o : ℕ) (side : Side) (fresh length : ℕ) → Inv w b g →
    IsAccept g from n o side fresh length →
    is_source from (source_for w (messages.AcceptBypass o side fresh length)) ≡ true
unfolding source_for is_source is_linked is_unclaimed
accept_source w b g n from o side fresh length law at =
    let begun : is_begun (g.bypass o) ≡ true = grind (arith, at.stage, nat_tests) in
    let source : (word_at w o).source ≡ Some (side_node g (inner_of g o) B) =
    (law.words.each o).begun_source begun (omega (arith, at.stage)) in
    let used : is_unclaimed (g.owner o) ≡ false = used_by (g.owner o) ((law.bypasses o).old begun) in
    let claimed : nat_lt o w.claimed ≡ true = grind (arith, law.counts.unclaimed o, used, nat_tests) in
    rw (claimed, source) (ap (nat_eq from) (sym at.sender) ∙ nat_eq-itself from)
