-- Which script some bytes are.
use Rattle.std.specs.Prelude.{ℕ, ◌≡◌, ◌<◌, ◌≤◌, ◌⊎◌, List, length, Option, Some, None, Result, Ok, Err, IsUtf8}
use Rattle.serde_json.specs.Data.{Data}
use Rattle.serde_json.specs.Read.{read}
use Rattle.ipcz_script.specs.declared.script.Script.{Script}
use Rattle.ipcz_script.specs.declared.script_fault.ScriptFault.{ScriptFault}
use Rattle.ipcz_script.specs.declared.script_fault.ScriptFault.TheVariants.{NotJson, BadShape, TooLong, OutOfMemory}
use Rattle.ipcz_script.specs.Scripts.{script_of}

-- how many bytes a script may have
abbrev pub max_bytes : ℕ
max_bytes = 1048576

-- the JSON value that the bytes are, or that they are none
abbrev pub IsJson : List ℕ → Option Data → Type 0
IsJson bytes (Some d) = IsUtf8 bytes × (read bytes ≡ Some d)
IsJson bytes None = IsUtf8 bytes → read bytes ≡ None

-- the script that a JSON value is, or why there is none
abbrev pub script_from : Option Data → Result Script ScriptFault
script_from None = Err NotJson
script_from (Some d) = script_of d

-- the script that the bytes are, or why they are none: their length comes before all else
abbrev pub IsScript : List ℕ → Result Script ScriptFault → Type 0
IsScript bytes script = ((max_bytes < length bytes) × (script ≡ Err TooLong)) ⊎
    ((length bytes ≤ max_bytes) × (json : Option Data) × IsJson bytes json × (script ≡ script_from json))

-- what reading the bytes may answer: what they are, or that no memory was found
abbrev pub IsAnswer : List ℕ → Result Script ScriptFault → Type 0
IsAnswer bytes (Ok script) = IsScript bytes (Ok script)
IsAnswer bytes (Err NotJson) = IsScript bytes (Err NotJson)
IsAnswer bytes (Err (BadShape n)) = IsScript bytes (Err (BadShape n))
IsAnswer bytes (Err TooLong) = IsScript bytes (Err TooLong)
IsAnswer bytes (Err OutOfMemory) = Unit {0}
