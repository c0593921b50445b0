-- What a name of a script is, and which names are taken.
use Rattle.std.specs.Prelude.{ℕ, ◌&&◌, ◌||◌, ◌==◌, List, length, Bool, false, nat_le, bytes_eq}
use Rattle.std.specs.List.{list_all, list_any}
use Rattle.std.specs.Char.{is_ascii_alphanumeric}
use Rattle.ipcz_script.specs.declared.command.Command.{Command}
use Rattle.ipcz_script.specs.declared.command.Command.TheVariants.{Open}

-- an ASCII letter, a digit, `_` or `>`
abbrev pub is_name_byte : ℕ → Bool
is_name_byte b = is_ascii_alphanumeric b || b == 95 || b == 62

-- a name is 1 to 16 of these bytes
abbrev pub is_name : List ℕ → Bool
is_name name = nat_le 1 (length name) && nat_le (length name) 16 && list_all is_name_byte name

-- `>` stands only in the names of the first pairs
abbrev pub has_angle : List ℕ → Bool
has_angle name = list_any (λ b. b == 62) name

-- whether a command opens a pair under this name
abbrev pub opens : List ℕ → Command → Bool
opens name (Open node first second) = bytes_eq first name || bytes_eq second name
opens name other = false

-- a name is taken once an open command has it, also one that will be refused when it is run
abbrev pub is_taken : List Command → List ℕ → Bool
is_taken commands name = list_any (opens name) commands
