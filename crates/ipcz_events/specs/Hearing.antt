-- What a judge says of one line of a text.
use Rattle.std.specs.Prelude.{ℕ, List, Some, None}
use Rattle.ipcz_script.specs.Sessions.{Session}
use Rattle.ipcz_events.specs.declared.entry.Entry.{Entry}
use Rattle.ipcz_events.specs.declared.heard.Heard.{Heard}
use Rattle.ipcz_events.specs.declared.heard.Heard.TheVariants as heard
use Rattle.ipcz_events.specs.Judging.{AreToldActs, IsInstead}
use Rattle.ipcz_events.specs.Rules.{MayEntry}
use Rattle.ipcz_events.specs.Verdicts.{IsLine}

-- a line in a session: it is a log's, and allowed, and leads there; or it is one that isn't allowed, of which this is told; or it is none
abbrev pub Hears : Session → ℕ → List ℕ → Heard → Session → Type 0
Hears s nodes bytes heard.Allowed t = (entry : Entry) × IsLine nodes bytes (Some entry) × MayEntry s entry t
Hears s nodes bytes (heard.Refused told acts) t =
    (entry : Entry) × IsLine nodes bytes (Some entry) × ((u : Session) → MayEntry s entry u → ⊥) × IsInstead s entry told × AreToldActs s entry acts
Hears s nodes bytes heard.NoLine t = IsLine nodes bytes None
