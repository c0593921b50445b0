use Rattle.std.proofs.Common.{◌≡◌, ℕ, List, [], ◌∷◌, ◌++◌, true, sym, ap, ◌∙◌, subst, append_assoc, append-nil, rules}
use Rattle.std.specs.List.{All, flat_map}
use Rattle.std.specs.Result.{is_ok}
use Rattle.std.proofs.lemmas.Grind.{flat_map-append}
use Rattle.std.proofs.lemmas.List.Elements.{All-push}
use Rattle.ipcz_lines.specs.declared.line.ReadLine.{ReadLine}
use Rattle.ipcz_lines.specs.Lines.{IsReadLine, with_line_feed}
use Rattle.ipcz_lines.proofs.line.reading.read_lines.Goals as goal

one_more : (lines : List ReadLine) (x : ReadLine) (rest behind input : List ℕ) → flat_map with_line_feed lines ++ rest ≡ input
    → rest ≡ with_line_feed x ++ behind → flat_map with_line_feed (lines ++ x ∷ []) ++ behind ≡ input
one_more lines x rest behind input h e =
    ap (λ (xs : List ℕ). xs ++ behind) (flat_map-append with_line_feed lines (x ∷ [])) ∙
    (append_assoc (flat_map with_line_feed lines) (with_line_feed x ++ []) behind ∙
    (ap (λ (xs : List ℕ). flat_map with_line_feed lines ++ (xs ++ behind)) (append-nil (with_line_feed x)) ∙
    (ap (λ (xs : List ℕ). flat_map with_line_feed lines ++ xs) (sym e) ∙ h)))

pub loop-rest-preserved : goal.loop-rest-preserved
loop-rest-preserved c =
    let ok : is_ok c.push.result ≡ true = search rules in
    let items : c.push.new.self.items ≡ c.loop-rest.lines.items ++ c.in-Some.line ∷ [] = rw ok at c.push.ensures.items in
    record {
      whole =
          rw items (one_more c.loop-rest.lines.items c.in-Some.line c.loop-rest.rest.now c.in-Some.behind.now c.args.input.now
          c.loop-rest.invariant.whole c.in-Some.ensures.read.1);
      each =
          let P : List ReadLine → Type 0 = All IsReadLine in subst P (sym items)
          (All-push IsReadLine c.loop-rest.lines.items c.in-Some.line c.loop-rest.invariant.each c.in-Some.ensures.read.0);
    }
