-- The steps on inboxes, as a cell may take them.
use Rattle.std.specs.Prelude.{not, ◌≡◌, ◌≢◌, ◌<◌, ◌+◌, ◌^◌, ℕ, bit_and, bit_or, [], ◌∷◌, Some}
use Rattle.std.specs.Int.{bit_at}
use Rattle.std.proofs.Common.{sym, subst, ◌∙◌, ap}
use Rattle.std.proofs.lemmas.Nat.Bits.{bit_at-pow_same}
use Rattle.ipcz_rule.specs.Batches.{BatchMine, batch_from}
use Rattle.ipcz_rule.proofs.BatchPlainKinds.{announces, loads_for_post}
use Rattle.ipcz_rule.proofs.BatchMailKinds.{clears}
use Rattle.ipcz_cell.specs.CellStates.{part_in}
use Rattle.ipcz_cell.specs.Mails.{inbox_word}
use Rattle.ipcz_cell.specs.Outcomes.{Tells, IsPicked, peeked, announced, cleared}
use Rattle.ipcz_cell.specs.Seats.{Keeps}
use Rattle.ipcz_cell.specs.TableNames.{TableName}
use Rattle.ipcz_cell.proofs.Seating.{may_by}

-- a load before a post
pub peek_may : (t : TableName) (id word : ℕ) (m : BatchMine) (node to : ℕ) (told : Tells) → IsPicked told (peeked node to) → m.0.parts ≡ part_in m.0 ∷ [] → (part_in m.0).node ≡ node → to < t.count →
    inbox_word t to ≡ word → Keeps t.reuses t.count t.size t.id.slots id m word (λ n. n) (told m)
peek_may t id word m node to told picked whole is small at =
    may_by t.reuses t.count t.size t.id.slots id m word (λ n. n) told (peeked node to) picked
    (subst (λ (k : ℕ). Keeps t.reuses t.count t.size t.id.slots id m word (λ n. n) (peeked k to m)) is
    (loads_for_post (not t.reuses) t.reuses t.count t.size t.id.slots id word to m (part_in m.0) whole (sym at) small))

-- the own bit is set there
pub set_may : (t : TableName) (id word : ℕ) (m : BatchMine) (node to bits : ℕ) (told : Tells) → IsPicked told (announced to) → m.0.parts ≡ part_in m.0 ∷ [] → (part_in m.0).node ≡ node → to < t.count →
    bits ≡ 2 ^ node → inbox_word t to ≡ word → Keeps t.reuses t.count t.size t.id.slots id m word (λ n. bit_or n bits) (told m)
set_may t id word m node to bits told picked whole is small bit at =
    may_by t.reuses t.count t.size t.id.slots id m word (λ n. bit_or n bits) told (announced to) picked
    (announces (not t.reuses) t.reuses t.count t.size t.id.slots id word to bits m (part_in m.0) whole (sym at) small (ap (bit_at bits) is ∙ (ap (λ (k : ℕ). bit_at k node) bit ∙ bit_at-pow_same node)))

-- a sender's bit is cleared
pub clear_may : (t : TableName) (id word : ℕ) (m : BatchMine) (node from kept : ℕ) (told : Tells) → IsPicked told cleared → m.0.parts ≡ part_in m.0 ∷ [] → (part_in m.0).node ≡ node →
    (part_in m.0).state.hand ≡ Some from → batch_from (part_in m.0) from ≡ [] → ((j : ℕ) → j < 64 → j ≢ from → bit_at kept j ≡ 1) → inbox_word t node ≡ word → Keeps t.reuses t.count t.size t.id.slots id m word (λ n. bit_and n kept) (told m)
clear_may t id word m node sender kept told picked whole is hand spent others at =
    may_by t.reuses t.count t.size t.id.slots id m word (λ n. bit_and n kept) told cleared picked
    (clears (not t.reuses) t.reuses t.count t.size t.id.slots id word sender kept m (part_in m.0) whole (sym at ∙ ap (λ (k : ℕ). t.size + 1 + k) (sym is)) hand spent others)
