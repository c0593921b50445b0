use Rattle.std.proofs.Common.{◌≡◌, ◌*◌, ℕ, false, List, [], ap, sym, subst, ◌∙◌}
use Rattle.atomic_table.specs.Table.{opening}
use Rattle.ipcz_rule.specs.Start.{opening_view}
use Rattle.ipcz_rule.specs.Batches.{Batch}
use Rattle.ipcz_rule.specs.BatchLaws.{no_batches}
use Rattle.ipcz_rule.specs.Lasting.{LastingRules, own_of}
use Rattle.ipcz_rule.specs.LastingStart.{whole_words}
use Rattle.ipcz_rule.proofs.LastsStart.{start_lasts}
use Rattle.ipcz_cell.proofs.making.start.Goals as goal

pub new-requires : goal.new-requires
new-requires c =
    let n = c.args.nodes in
    let size = c.args.words in
    let words : c.deref.result.now ≡ whole_words n size = c.deref.ensures.value ∙ c.in-Ok.ensures in
    let slots : c.from.result * c.from-2.result ≡ n * n = ap (λ (k : ℕ). k * c.from-2.result) c.from.ensures ∙ ap (λ (k : ℕ). n * k) c.from-2.ensures in
    subst (λ (bs : List Batch). LastingRules n size size false (opening c.deref.result.now bs (own_of (opening_view n) [] [] []))) (sym c.in-Ok-empty_batches.ensures)
    (subst (λ (ws : List ℕ). LastingRules n size size false (opening ws (no_batches (c.from.result * c.from-2.result)) (own_of (opening_view n) [] [] []))) (sym words)
    (subst (λ (k : ℕ). LastingRules n size size false (opening (whole_words n size) (no_batches k) (own_of (opening_view n) [] [] []))) (sym slots)
    (start_lasts.1 n size c.requires.limits).0))
