-- Probe: the sender takes the slot of an empty mailbox, and the shown world stays.
use Rattle.std.specs.Prelude.{◌≡◌, ◌≢◌, ◌<◌, ◌+◌, ◌*◌, ℕ, Bool, true, false, nat_eq, ◌||◌, [], ◌∷◌, length, slice_index, Some, None, refl, MatchBool}
use Rattle.std.proofs.Common.{arith, ap, ◌∙◌, sym, inr, subst, set, length-set, get_or-set_same, get_or-set_other, eqb, eqb-true}
use Rattle.std.proofs.lemmas.Bool.Decides.{nat_tests}
use prog.Atomic.{either}
use mathlib.Core.Option.{some, none}
use mathlib.Core.Logic.{dite}
use native.Mathlib.Decide.{ℕ_discrete}
use lib.ListN.{get_elem?}
use Rattle.atomic_table.specs.Table.{Act as TableAct, Valid, stepped, carried_after, keeps, takes}
use Rattle.atomic_table.proofs.Lists.{set_else}
use Rattle.ipcz_world.specs.declared.mail.Mail.TheVariants as mails
use Rattle.ipcz_world.specs.World.{mail_at, way}
use Rattle.ipcz_rule.specs.declared.view.View.{View}
use Rattle.ipcz_rule.specs.declared.view.Part.{Part}
use Rattle.ipcz_rule.specs.Rule.{Slot, St, Mine, has_number, mailbox, MailAt, Spells, Rules, with_part, saw}
use Rattle.ipcz_rule.specs.Steps.{probe_part}
use Rattle.ipcz_rule.specs.Kinds.{Follows, IsKept, IsTurns, Probes}
use Rattle.ipcz_rule.proofs.KeptEnds.{turns_keep}
use Rattle.ipcz_rule.proofs.FromLaws.{hand_stands}
use Rattle.ipcz_rule.proofs.Joins.{joined_same}
use Rattle.ipcz_rule.proofs.Moved.{spelled}
use Rattle.ipcz_rule.proofs.Wording.{sees}
use Rattle.ipcz_rule.proofs.Mailing.{MailMoves, way_low, way_first, way_second, mail_rules}
use Rattle.ipcz_rule.proofs.Posting.{no_hand}

module _ (count size id i k to : ℕ) (m : Mine) (p : Part) (is : m.0.parts ≡ p ∷ []) (at_k : k ≡ p.node * count + to) (at_i : i ≡ size + 1 + count + k) (small_to : to < count)
    (s : St) (r : Rules count size s) (at : get_elem? s.views id ≡ some m.0) where
  abbrev n : ℕ
  n = slice_index s.words i

  abbrev Probed : Bool → Mine → Type 0
  Probed b m' = MatchBool b (m' ≡ (with_part (probe_part to p) (saw i n m.0), (k, None) ∷ m.1)) (m' ≡ (saw i n m.0, m.1))

  abbrev F : Bool → Type 0
  F b = (v : View) × (a : TableAct Slot) × Valid s.homes m.1 a × Follows count size s r [] (stepped s i (either b 3 n) id m.1 v a) × Probed b (v, carried_after m.1 a)

  probes_by : (b : Bool) → eqb n 0 ≡ b → F b
  probes_by true e =
      let w = r.world in
      let sp = spelled s r id m.0 p at is in
      let n_in = sp.inside in
      let c = r.nodes in
      let z = r.words in
      let wide = r.shows.wide in
      let to_in : to < w.count = omega (arith, c, small_to) in
      let kk : k ≡ way w p.node to = at_k ∙ ap (λ q. p.node * q + to) (sym c) in
      let index : i ≡ mailbox w k = omega (arith, at_i, c, z) in
      let inside : k < w.count * w.count = let h = way_low w.count p.node w.count to 0 to_in n_in in omega (arith, kk) in
      let long : i < length s.words = omega (arith, index, inside, wide) in
      let shown : MailAt 0 (get_elem? s.homes k) (mail_at w k) = subst (λ q. MailAt q (get_elem? s.homes k) (mail_at w k)) (ap (slice_index s.words) (sym index) ∙ eqb-true n 0 e) (r.shows.mail k inside) in
      let not_hand : (q : Part) → Spells s.words w q → (from : ℕ) → q.state.hand ≡ Some from → way w from q.node ≢ k =
      λ q sq from e same. no_hand (mail_at w (way w from q.node)) (ap (mail_at w) same ∙ shown.1) (hand_stands w r.books r.routes q.node from r.lawful sq.inside (ap (λ y. y.hand) sq.state ∙ e)) in
      let moves : MailMoves w w p.node p.state k mails.Empty = record { count = refl; size = refl; claimed = refl; words = λ j. refl; node = sp.state; nodes = λ j ne. refl; mail = shown.1; mails = λ j ne. refl } in
      let p' = probe_part to p in
      let v' = with_part p' (saw i n m.0) in (
        v',
        takes k None,
        shown.0,
        mail_rules count size s r id m.0 v' p p' w r.routes i k 3 (set s.homes k none) mails.Empty at is refl (refl, inr (i, refl), refl) moves index inside (length-set s.homes k none)
            (λ j ne. set_else s.homes k j none ne) refl refl refl r.books (joined_same s.views id m.0 v' p p' r.books at is refl refl refl refl r.joined) sp.message
            (λ t l. dite (ℕ_discrete t to)
            (λ h. let itself : nat_eq t to ≡ true = grind (arith, h, nat_tests) in ap (λ b. b || has_number p.probed t) itself ∙ sym (ap (λ q. nat_eq q 3)
            (ap (λ q. slice_index (set s.words i 3) (mailbox w (way w p.node q))) h ∙ (ap (slice_index (set s.words i 3)) (ap (mailbox w) (sym kk) ∙ sym index) ∙ get_or-set_same s.words i 3 0 long))))
            (λ ne. let apart : nat_eq t to ≡ false = grind (arith, ne, nat_tests) in ap (λ b. b || has_number p.probed t) apart ∙ (sp.probed t l ∙ ap (λ q. nat_eq q 3) (sym (get_or-set_other s.words i (mailbox w (way w p.node t)) 3 0
            (λ h. way_second w.count p.node p.node t to l to_in ne (omega (arith, h, index, kk))))))))
            (λ q sq ne from h. not_hand q sq from h)
            (λ q ne t l h. absurd (way_first w.count q.node p.node t to l to_in ne (h ∙ kk)))
            (λ e a b la lb same. absurd (omega (arith, e))) r.lawful [] (refl, refl, refl),
        refl,
      )
  probes_by false e = (saw i n m.0, keeps, tt, sees s r i id m.0 (saw i n m.0) p at is is (refl, inr (i, refl), refl), refl)

  pub probed_mail : F (eqb n 0)
  probed_mail = probes_by (eqb n 0) refl

pub probes_turns : Probes IsTurns
probes_turns count size slots id i k to m p is at_k at_i small_to s r deep at low = probed_mail count size id i k to m p is at_k at_i small_to s r at

pub probes : (all : Bool) → Probes (IsKept all)
probes all count size slots id i k to m p is at_k at_i small_to s r deep at small =
    let t = probes_turns count size slots id i k to m p is at_k at_i small_to s r deep at small in (t.0, t.1, t.2, turns_keep all count size s _ r [] (λ e j side g. g) t.3, t.4)
