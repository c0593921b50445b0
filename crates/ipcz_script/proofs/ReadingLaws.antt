-- What reading some bytes may answer.
use Rattle.std.proofs.Common.{◌≡◌, ◌≤◌, ◌∙◌, List, ℕ, length, Option, Some, None, Result, Ok, Err, inl, inr, sym, ap, refl, arith}
use Rattle.std.specs.Prelude.{IsUtf8}
use Rattle.serde_json.specs.Data.{Data}
use Rattle.serde_json.specs.Read.{read}
use Rattle.ipcz_script.specs.declared.script.Script.{Script}
use Rattle.ipcz_script.specs.declared.script_fault.ScriptFault.{ScriptFault}
use Rattle.ipcz_script.specs.declared.script_fault.ScriptFault.TheVariants.{NotJson, BadShape, TooLong, OutOfMemory}
use Rattle.ipcz_script.specs.Faults.{Gives}
use Rattle.ipcz_script.specs.Reading.{IsAnswer, IsScript, IsJson, script_from, max_bytes}
use Rattle.ipcz_script.specs.Scripts.{script_of}

-- what is read of the bytes' JSON value is what the bytes are
pub answer-value : (bytes : List ℕ) (d : Data) (r : Result Script ScriptFault) → length bytes ≤ max_bytes → IsUtf8 bytes →
    read bytes ≡ Some d → Gives r (script_of d) → IsAnswer bytes r
answer-value bytes d (Ok s) few text is h = inr (few, Some d, (text, is), sym h)
answer-value bytes d (Err NotJson) few text is h = inr (few, Some d, (text, is), sym h)
answer-value bytes d (Err (BadShape n)) few text is h = inr (few, Some d, (text, is), sym h)
answer-value bytes d (Err TooLong) few text is h = inr (few, Some d, (text, is), sym h)
answer-value bytes d (Err OutOfMemory) few text is h = tt

-- the bytes are one JSON value, or none
same_json : (bytes : List ℕ) (j k : Option Data) → IsJson bytes j → IsJson bytes k → j ≡ k
same_json bytes (Some d) (Some e) h i = sym h.1 ∙ i.1
same_json bytes (Some d) None h i = sym h.1 ∙ i h.0
same_json bytes None (Some e) h i = sym (h i.0) ∙ i.1
same_json bytes None None h i = refl

-- the bytes are one script, or are refused for one reason
pub same_script : (bytes : List ℕ) (a b : Result Script ScriptFault) → IsScript bytes a → IsScript bytes b → a ≡ b
same_script bytes a b (inl x) (inl y) = x.1 ∙ sym y.1
same_script bytes a b (inl x) (inr y) = absurd (omega (arith, x.0, y.0))
same_script bytes a b (inr x) (inl y) = absurd (omega (arith, x.0, y.0))
same_script bytes a b (inr x) (inr y) = x.3 ∙ ap script_from (same_json bytes x.1 y.1 x.2 y.2) ∙ sym y.3
