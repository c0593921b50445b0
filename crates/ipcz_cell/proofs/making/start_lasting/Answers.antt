use Rattle.std.proofs.Common.{◌≡◌, ◌+◌, ◌-◌, ◌*◌, ℕ, true, List, [], length, ap, sym, subst, ◌∙◌, arith}
use Rattle.atomic_table.specs.Table.{opening}
use Rattle.ipcz_node.specs.FirstPairs.{first_pairs}
use Rattle.ipcz_rule.specs.Start.{opening_view}
use Rattle.ipcz_rule.specs.Batches.{Batch}
use Rattle.ipcz_rule.specs.BatchLaws.{no_batches}
use Rattle.ipcz_rule.specs.Lasting.{LastingRules, own_of}
use Rattle.ipcz_rule.specs.LastingStart.{lasting_words}
use Rattle.ipcz_rule.proofs.LastsStart.{start_lasts}
use Rattle.ipcz_cell.proofs.making.start_lasting.Goals as goal

pub new-requires : goal.new-requires
new-requires c =
    let n = c.args.nodes in
    let size = c.args.numbers in
    let pairs = c.requires.pairs in
    let most = c.requires.slots.1 in
    let spare = c.args.slots - length (first_pairs n) in
    let all : length (first_pairs n) + spare ≡ c.args.slots = omega (arith, pairs) in
    let words : c.deref.result.now ≡ lasting_words n spare = c.deref.ensures.value ∙ c.in-Ok.ensures in
    let slots : c.from.result * c.from-2.result ≡ n * n = ap (λ (k : ℕ). k * c.from-2.result) c.from.ensures ∙ ap (λ (k : ℕ). n * k) c.from-2.ensures in
    subst (λ (bs : List Batch). LastingRules n size c.args.slots true (opening c.deref.result.now bs (own_of (opening_view n) [] [] []))) (sym c.in-Ok-empty_batches.ensures)
    (subst (λ (ws : List ℕ). LastingRules n size c.args.slots true (opening ws (no_batches (c.from.result * c.from-2.result)) (own_of (opening_view n) [] [] []))) (sym words)
    (subst (λ (k : ℕ). LastingRules n size c.args.slots true (opening (lasting_words n spare) (no_batches k) (own_of (opening_view n) [] [] []))) (sym slots)
    (subst (λ (k : ℕ). LastingRules n size k true (opening (lasting_words n spare) (no_batches (n * n)) (own_of (opening_view n) [] [] []))) all
    (start_lasts.0 n size spare c.requires.limits (omega (arith, pairs, most))).0)))
