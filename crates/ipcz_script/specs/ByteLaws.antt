-- What the bytes of a transcript say, as functions promise it.
use Rattle.std.specs.Prelude.{◌≡◌, ◌≤◌, ◌↔◌, ℕ, List, codes, Ok}
use Rattle.ipcz_script.specs.ScriptLimits.{HasScriptLimits}
use Rattle.ipcz_script.specs.declared.script.Script.{Script}
use Rattle.ipcz_script.specs.declared.outcome.Outcome.{Outcome}
use Rattle.ipcz_script.specs.declared.outcome.Outcome.TheVariants as outcomes
use Rattle.ipcz_script.specs.Reading.{IsScript}
use Rattle.ipcz_script.specs.Transcript.{IsRunOutput}
use Rattle.ipcz_script.specs.ReadBack.{AreLines, EndsWith, HasLine, HaveNames}

-- law: a script that is read is within the limits of worlds and has 4096 link words at most, and its commands have names
abbrev pub ScriptsHaveNames : Type 0
ScriptsHaveNames =
    (input : List ℕ) (script : Script) → IsScript input (Ok script) →
    HasScriptLimits script.nodes script.words × (script.words ≤ 4096) × HaveNames script.commands

-- what is said of the lines of each output of a script, by how its run ended
abbrev pub OfLines : (Outcome → List (List ℕ) → Type 0) → Type 0
OfLines Holds =
    (script : Script) (outcome : Outcome) (text : List ℕ) (lines : List (List ℕ)) → HasScriptLimits script.nodes script.words →
    HaveNames script.commands → IsRunOutput script outcome text → AreLines text lines → Holds outcome lines

-- law: the output has lines
abbrev pub OutputsHaveLines : Type 0
OutputsHaveLines =
    (script : Script) (outcome : Outcome) (text : List ℕ) → HasScriptLimits script.nodes script.words →
    HaveNames script.commands → IsRunOutput script outcome text → (lines : List (List ℕ)) × AreLines text lines

-- law: a run ends as unsettled exactly if a line is `unsettled`
abbrev pub UnsettledIsWritten : Type 0
UnsettledIsWritten = OfLines (λ outcome lines. (outcome ≡ outcomes.Unsettled) ↔ HasLine lines (codes "unsettled"))

-- law: no line ends with ` stray`
abbrev pub NoLineStrays : Type 0
NoLineStrays = OfLines (λ outcome lines. (line : List ℕ) → HasLine lines line → EndsWith line (codes " stray") → ⊥)
